-- The statements of the five helpers may be written.
use Rattle.std.proofs.Common.{◌≡◌, ◌<◌, ◌^◌, List, [], ◌∷◌, false, refl, arith, map}
use Rattle.sig_c.specs.SmallC.{Helper, Add, Subtract, Multiply, Quotient, Remainder}
use Rattle.sig_c.specs.Helpers.{body_of, definition_of}
use Rattle.sig_c.specs.Written.{helper_scope}
use Rattle.sig_c.specs.Names.{AreNames, AreStatements, AreTyped, AreHelpers, has_helper, helper_types}
use Rattle.sig_c.specs.Layout.{AreLaid}
use Rattle.sig_c.specs.File.{AreHelpersLaid}

pub helper_names : AreNames helper_scope
helper_names = record { identifiers = (refl, (refl, tt)); distinct = (refl, (refl, tt)); fields = tt; fields_distinct = tt }

bodies_laid : (helper : Helper) → AreLaid (body_of helper)
bodies_laid Add = search
bodies_laid Subtract = search
bodies_laid Multiply = search
bodies_laid Quotient = search
bodies_laid Remainder = search

first_there : 0 < 2
first_there = omega arith

second_there : 1 < 2
second_there = omega arith

small_zero : 0 < 2 ^ 15
small_zero = omega arith

small_one : 1 < 2 ^ 15
small_one = omega arith

bodies_right : (helper : Helper) → AreStatements helper_scope (body_of helper)
bodies_right Add = search (first_there, second_there, small_zero, small_one)
bodies_right Subtract = search (first_there, second_there, small_zero, small_one)
bodies_right Multiply = search (first_there, second_there, small_zero, small_one)
bodies_right Quotient = search (first_there, second_there, small_zero, small_one)
bodies_right Remainder = search (first_there, second_there, small_zero)

bodies_typed : (helper : Helper) → AreTyped helper_types (body_of helper)
bodies_typed Add = search
bodies_typed Subtract = search
bodies_typed Multiply = search
bodies_typed Quotient = search
bodies_typed Remainder = search

pub helpers_laid : (helpers : List Helper) → AreHelpersLaid (map definition_of helpers)
helpers_laid [] = tt
helpers_laid (helper ∷ helpers) = (bodies_laid helper, helpers_laid helpers)

-- no helper stands twice
abbrev pub AreApart : List Helper → Type 0
AreApart [] = Unit {0}
AreApart (helper ∷ helpers) = (has_helper (map definition_of helpers) helper ≡ false) × AreApart helpers

pub helpers_right : (helpers : List Helper) → AreApart helpers → AreHelpers (map definition_of helpers)
helpers_right [] apart = tt
helpers_right (helper ∷ helpers) apart = (apart.0, bodies_right helper, bodies_typed helper, helpers_right helpers apart.1)
