-- The body of a flow file, found line by line.
use Rattle.sig_flow.proofs.Common.{ℕ, List, lines, Signal, Body, body_of, numbered}

abbrev pub body_from : List Signal → ℕ → List ℕ → Body
body_from inputs number rest = body_of inputs (numbered number (lines rest))
