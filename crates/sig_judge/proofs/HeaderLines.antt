-- The first line with words, found line by line.
use Rattle.sig_judge.proofs.Common.{ℕ, List, Option, lines, numbered, Body, body_of}

abbrev pub body_from : ℕ → List ℕ → Option Body
body_from number rest = body_of (numbered number (lines rest))
