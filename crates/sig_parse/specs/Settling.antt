-- What a part of the parser has passed when it has read something.
use Rattle.std.specs.Prelude.{◌≡◌, ◌++◌}
use Rattle.sig_parse.specs.Prelude.{List, Terminal, Leaf, Limits, no_limits, StopsBefore, ContinuesNothing}
use Rattle.sig_parse.specs.Refusals.{Cause, Agrees, Refuses}
use Rattle.sig_parse.specs.Languages.{InLeaf}

-- What was passed is all that is read of the language, of whatever leaves go on with the same next leaf.
pub record Settles (Is : Limits → List Leaf → Type 0) (Continues : Terminal → Type 0) (before after : List Leaf) : Type 0 where
  pub passed : List Leaf
  pub split : before ≡ passed ++ after
  pub alone : (leaves front back : List Leaf) → Agrees passed after leaves → leaves ≡ front ++ back
      → Is no_limits front → StopsBefore Continues back → front ≡ passed

-- Where the terminal that ends the language is refused behind what was passed, so is the language.
abbrev pub Closes : (Is : Limits → List Leaf → Type 0) → (ending : Terminal) → (before after : List Leaf) → Type 0
Closes Is ending before after = (cause : Cause) (stopped : List Leaf) → Refuses (InLeaf ending) ContinuesNothing cause after stopped → Refuses Is ContinuesNothing cause before stopped
