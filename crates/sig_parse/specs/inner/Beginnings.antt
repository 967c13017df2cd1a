-- What the parser reads of a process up to its body.
use Rattle.sig_parse.specs.Prelude.{ℕ, List, codes, Name, Declared, Placement, Equations, word, mark, both_limits, IsBody, AreParams, IsInterface, ArePragmas, ContinuesOptional, ContinuesBody}
use Rattle.sig_parse.specs.Declarations.{IsTitle}
use Rattle.sig_parse.specs.State.{State}
use Rattle.sig_parse.specs.Reads.{Covers}
use Rattle.sig_parse.specs.Settling.{Settles}
use Rattle.sig_parse.specs.Parts.{InParams, InPragmas, InBody}

-- each part behind the one before it, and all that is read of it
pub record ReadsBeginning (depth : ℕ) (name : Name) (params inputs outputs : List Declared) (pragmas : List Placement) (body : Equations) (before after : State) : Type 0 where
  pub titled : State
  pub title : Covers (IsTitle name) before titled
  pub given : State
  pub params_are : Covers (AreParams params) titled given
  pub params_settled : Settles InParams (ContinuesOptional (mark (codes "{"))) titled.leaves given.leaves
  pub told : State
  pub interface : Covers (IsInterface inputs outputs) given told
  pub placed : State
  pub pragmas_are : Covers (ArePragmas pragmas) told placed
  pub pragmas_settled : Settles InPragmas (ContinuesOptional (word (codes "pragmas"))) told.leaves placed.leaves
  pub body_is : Covers (IsBody both_limits body depth) placed after
  pub body_settled : Settles (InBody depth) ContinuesBody placed.leaves after.leaves
