-- Columns in which each class and each boolean is its own unknown: a variable.
use Rattle.std.specs.Prelude.{◌≡◌, ◌==◌, if◌then◌else◌}
use Rattle.sig_rel.specs.Prelude.{ℕ, Bool, List, length, take, Option, None, Some, is_some, slice_get, slice_index, slice_index_or, count_by, cond, range_with_len, IsRefOf, Node}
use Rattle.sig_rel.specs.inner.Elements.{signal_of}
use Rattle.sig_rel.specs.Relations.{truth_in}
use Rattle.sig_rel.specs.inner.Substitutions.{ref_at}
use Rattle.sig_rel.specs.declared.elements.Element.{Element}
use Rattle.sig_rel.specs.declared.elements.Element.TheVariants.{Presence, Truth}
use Rattle.sig_rel.specs.declared.numbering.Unknowns.{Unknowns}
use Rattle.sig_rel.specs.declared.substitution.Columns.{Columns}

abbrev pub is_own : List ℕ → ℕ → Bool
is_own least signal = slice_index least signal == signal

abbrev pub count_one : Bool → ℕ
count_one b = cond b 1 0

-- how many of the first signals are the least of their class
abbrev pub classes_below : List ℕ → ℕ → ℕ
classes_below least count = count_by (is_own least) (range_with_len 0 count)

-- how many of the first signals have an unknown of their truth
abbrev pub truths_below : List (Option ℕ) → ℕ → ℕ
truths_below unknowns count = count_by is_some (take count unknowns)

-- the unknown of an element, where it has one: of a class at its least signal, of the truth of a signal where it is a boolean
abbrev pub unknown_of : List ℕ → Unknowns → Element → Option ℕ
unknown_of least unknowns (Presence class) = if is_own least class then slice_get unknowns.present.items class else None
unknown_of least unknowns (Truth signal) = slice_index_or unknowns.truth.items signal None

-- the unknowns of the elements of some signals
abbrev pub IsUnknownWhere : (ℕ → Type 0) → List ℕ → Unknowns → Element → ℕ → Type 0
IsUnknownWhere IsSuch least unknowns element v = IsSuch (signal_of element) × (unknown_of least unknowns element ≡ Some v)

-- each class and each boolean is its own unknown, and all else is true
pub record AreOwnColumns (nodes : List Node) (least : List ℕ) (unknowns : Unknowns) (columns : Columns) : Type 0 where
  pub count : length columns.rows.items ≡ length unknowns.present.items
  pub all : (element : Element) → IsRefOf nodes (λ truths. truth_in truths (unknown_of least unknowns element)) (ref_at columns element)
