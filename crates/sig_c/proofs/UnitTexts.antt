-- A text is that of one unit: its bytes make one list of tokens, and these are read in one way.
use Rattle.std.proofs.Common.{◌≡◌, true, ℕ, List, [], Option, None, Some, sym, ap, ◌∙◌}
use Rattle.sig_c.specs.SmallC.{Name, Header, TranslationUnit}
use Rattle.sig_c.specs.Tokens.{Token, HasTokens, Scanned}
use Rattle.sig_c.specs.Written.{unit_tokens}
use Rattle.sig_c.specs.Reader.{Read, read_unit}
use Rattle.sig_c.specs.Names.{IsUnit, is_file_name}
use Rattle.sig_c.specs.Written.{scope_of}
use Rattle.sig_c.specs.Layout.{AreLaid, lines_text}
use Rattle.sig_c.specs.File.{IsFile, blanks, file_text}
use Rattle.sig_c.proofs.Lines.{lines_whole}
use Rattle.sig_c.proofs.Files.{file_has}
use Rattle.sig_c.specs.Texts.{IsUnitText}
use Rattle.sig_c.proofs.Units.{unit_back}

pub text_is : (include : Name) (header : Header) (unit : TranslationUnit) (text : List ℕ) → is_file_name include ≡ true → IsUnit header unit → HasTokens text (unit_tokens include header unit)
    → IsUnitText include header text unit
text_is include header unit text included is has = record {
  tokens = unit_tokens include header unit;
  has = has;
  reads = unit_back include header unit is;
  included = included;
  is = is;
}

abbrev tokens_in : Option Scanned → List Token
tokens_in None = []
tokens_in (Some s) = s.tokens

-- what was read, or another unit where nothing was
abbrev unit_in : TranslationUnit → Read TranslationUnit → TranslationUnit
unit_in other None = other
unit_in other (Some read) = read.0

pub one_unit : (include : Name) (header : Header) (text : List ℕ) (one other : TranslationUnit) → IsUnitText include header text one → IsUnitText include header text other → one ≡ other
one_unit include header text one other first second =
    let tokens : first.tokens ≡ second.tokens = ap tokens_in (sym first.has ∙ second.has) in
    ap (unit_in one) (sym first.reads ∙ ap (read_unit include header) tokens ∙ second.reads)

pub file_is : (head : List (List ℕ)) (include : Name) (header : Header) (unit : TranslationUnit) → IsFile head include unit → IsUnit header unit → AreLaid unit.step
    → IsUnitText include header (file_text head include header unit (lines_text blanks (scope_of header unit.variables) unit.step)) unit
file_is head include header unit file is laid =
    text_is include header unit (file_text head include header unit (lines_text blanks (scope_of header unit.variables) unit.step)) file.include_name is
    (file_has head include header unit (lines_text blanks (scope_of header unit.variables) unit.step) file is (lines_whole (scope_of header unit.variables) is.names.names 3 unit.step laid is.step))
