-- The example is a unit that may be written, and its text is that of its unit.
use Rattle.std.proofs.Common.{◌≡◌, ◌<◌, ◌^◌, [], ◌∷◌, refl, subst, arith, decimal, List, ℕ}
use Rattle.std.specs.Prelude.{codes}
use Rattle.std.specs.Char.{digit_value}
use Rattle.std.specs.Str.Parse.{AllDigits, digits_value}
use Rattle.std.proofs.lemmas.Fmt.{decimal-digits_value}
use Rattle.std.proofs.lemmas.Str.Parse.{IsNumeralModel}
use Rattle.sig_c.specs.SmallC.{Add}
use Rattle.sig_c.specs.Example.{example_header, example_step, example_text, example_unit}
use Rattle.sig_c.specs.File.{IsFile, blanks, file_text}
use Rattle.sig_c.specs.Layout.{AreLaid, lines_text}
use Rattle.sig_c.specs.Names.{AreNames, HasNames, IsUnit}
use Rattle.sig_c.specs.Texts.{IsUnitText}
use Rattle.sig_c.specs.Written.{scope_of}
use Rattle.sig_c.proofs.HelperBodies.{helpers_laid, helpers_right}
use Rattle.sig_c.proofs.UnitTexts.{file_is}

names : AreNames (scope_of example_header example_unit.variables)
names = record {
  identifiers = (refl, (refl, (refl, (refl, (refl, tt)))));
  distinct = (refl, (refl, (refl, (refl, (refl, tt)))));
  fields = (refl, (refl, tt));
  fields_distinct = (refl, (refl, tt));
}

has_names : HasNames example_header example_unit.variables
has_names = record { prefix = refl; names = names; stdint = refl; program = refl; inputs = refl; outputs = refl }

is_unit : IsUnit example_header example_unit
is_unit = record {
  names = has_names;
  helpers = helpers_right (Add ∷ []) (refl, tt);
  rows = (record { line = omega arith; column = omega arith }, (record { line = omega arith; column = omega arith }, (record { line = omega arith; column = omega arith }, tt)));
  some_rows = omega arith;
  few_rows = omega arith;
  firsts = refl;
  bits = (refl, (refl, tt));
  held = (refl, (refl, tt));
  variables = (tt, (tt, (omega arith, tt)));
  step = (
    refl,
    (
      (omega arith, omega arith, omega arith),
      (
        (omega arith, refl, omega arith, omega arith),
        (
          ((omega arith, refl), ((omega arith, refl), tt)),
          ((omega arith, omega arith), ((omega arith, ((omega arith, omega arith), tt)), (omega arith, tt))),
        ),
      ),
    ),
  );
  types = (tt, (refl, ((refl, refl), ((tt, tt), (tt, ((refl, tt), (tt, tt)))))));
}

laid : AreLaid example_step
laid = (tt, (tt, ((tt, tt), (((tt, tt), (tt, tt)), (tt, ((tt, (tt, tt)), (tt, tt)))))))

is_file : IsFile (codes "An example." ∷ []) (codes "P.h") example_unit
is_file = record { comments = (refl, tt); include_name = refl; helpers = helpers_laid (Add ∷ []); printable = (refl, (refl, (refl, tt))) }

-- ---- its numbers

by_value : IsNumeralModel (AllDigits 10) (digits_value 10)
by_value = record { to = λ ds is. is; from = λ ds is. is; same = λ ds is. refl }

one_digit : (byte : ℕ) → digit_value byte < 10 → digits_value 10 (byte ∷ []) < 2 ^ 64 → decimal (digits_value 10 (byte ∷ [])) ≡ byte ∷ []
one_digit byte digit small = decimal-digits_value by_value (byte ∷ []) (digit, tt) (omega arith) (λ e. refl) small

zero_is : decimal 0 ≡ codes "0"
zero_is = one_digit 48 (omega arith) (omega arith)

one_is : decimal 1 ≡ codes "1"
one_is = one_digit 49 (omega arith) (omega arith)

two_is : decimal 2 ≡ codes "2"
two_is = one_digit 50 (omega arith) (omega arith)

three_is : decimal 3 ≡ codes "3"
three_is = one_digit 51 (omega arith) (omega arith)

four_is : decimal 4 ≡ codes "4"
four_is = one_digit 52 (omega arith) (omega arith)

five_is : decimal 5 ≡ codes "5"
five_is = one_digit 53 (omega arith) (omega arith)

large_is : decimal 3000000000 ≡ codes "3000000000"
large_is =
    let digits : AllDigits 10 (codes "3000000000") = (omega arith, (omega arith, (omega arith, (omega arith, (omega arith, (omega arith, (omega arith, (omega arith, (omega arith, (omega arith, tt)))))))))) in
    decimal-digits_value by_value (codes "3000000000") digits (omega arith) (λ e. absurd (omega (arith, e))) (omega arith)

-- ---- the text

laid_out : List ℕ
laid_out = file_text (codes "An example." ∷ []) (codes "P.h") example_header example_unit (lines_text blanks (scope_of example_header example_unit.variables) example_unit.step)

text_is : laid_out ≡ example_text
unfolding laid_out
text_is = rw (zero_is, one_is, two_is, three_is, four_is, five_is, large_is) refl

pub example_is : IsUnitText (codes "P.h") example_header example_text example_unit
unfolding laid_out
example_is = subst (λ (text : List ℕ). IsUnitText (codes "P.h") example_header text example_unit) text_is (file_is (codes "An example." ∷ []) (codes "P.h") example_header example_unit is_file is_unit laid)
