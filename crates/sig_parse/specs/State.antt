-- Where the parser stands: the leaves that are still to be read, and the operators of the equation so far.
use Rattle.sig_parse.specs.Prelude.{ℕ, List, Leaf}

pub record State : Type 0 where
  pub leaves : List Leaf
  pub operators : ℕ
