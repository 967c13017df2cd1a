-- Texts of small C.
use Rattle.std.specs.Prelude.{◌≡◌, ℕ, List, [], true, Some}
use Rattle.sig_c.specs.SmallC.{Name, Header, TranslationUnit}
use Rattle.sig_c.specs.Tokens.{Token, HasTokens}
use Rattle.sig_c.specs.Reader.{read_unit}
use Rattle.sig_c.specs.Names.{IsUnit, is_file_name}

-- A text is that of a unit, under a header in the file that it includes: its tokens are read as the unit and nothing is left, and the
-- unit is one that C takes.
pub record IsUnitText (include : Name) (header : Header) (text : List ℕ) (unit : TranslationUnit) : Type 0 where
  pub tokens : List Token
  pub has : HasTokens text tokens
  pub reads : read_unit include header tokens ≡ Some (unit, [])
  pub included : is_file_name include ≡ true
  pub is : IsUnit header unit
