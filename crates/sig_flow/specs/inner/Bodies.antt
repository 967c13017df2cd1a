-- The body of a flow file, as it is read.
use Rattle.std.specs.Prelude.{◌≡◌, ◌∷◌}
use Rattle.sig_flow.specs.Prelude.{true, false, List, [], lines, Signal}
use Rattle.sig_flow.specs.Flows.{Body, is_header}
use Rattle.sig_flow.specs.Lines.{numbered}
use Rattle.sig_flow.specs.Words.{Word}
use Rattle.sig_flow.specs.declared.body.Body.{Body as BodyBytes}
use Rattle.sig_flow.specs.declared.body.Start.{Start}
use Rattle.sig_flow.specs.declared.body.Start.TheVariants.{Blank, Header, Values}

-- the body that these bytes are
abbrev pub body_behind : BodyBytes → Body
body_behind body = record { version = body.version; lines = numbered body.number (lines body.lines.now) }

-- a first word, and others
pub record HasWord (words : List Word) : Type 0 where
  pub first : Word
  pub others : List Word
  pub are : words ≡ first ∷ others

-- how the words of a line begin a file
abbrev pub StartsAs : List Signal → List Word → Start → Type 0
StartsAs inputs words Blank = words ≡ []
StartsAs inputs words Header = HasWord words × (is_header inputs words ≡ true)
StartsAs inputs words Values = HasWord words × (is_header inputs words ≡ false)
