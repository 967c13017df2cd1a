-- What is left to be met of the equations, over the columns of a kernel.
use Rattle.std.specs.Prelude.{◌≡◌, ◌<◌, ◌≤◌, ◌↔◌, ◌∷◌}
use Rattle.sig_rel.specs.Prelude.{ℕ, Bool, true, List, [], length, Some, slice_index, IsTrue, Signal, kind_at, Form, Fun, Delay, When, WhenConst, Default, Sync, Event, constant_truth, has_truth, or_else, same_status, where_present, where_true, test, Node, Ref}
use Rattle.sig_rel.specs.inner.OwnColumns.{is_own}
use Rattle.sig_rel.specs.inner.Rules.{Values, operand_value, value_status}
use Rattle.sig_rel.specs.inner.Substitutions.{present_at, truth_at}
use Rattle.sig_rel.specs.inner.TruthFunctions.{truth_given}
use Rattle.sig_rel.specs.declared.general.Left.{Left}
use Rattle.sig_rel.specs.declared.statuses.Known.{Known}
use Rattle.sig_rel.specs.declared.substitution.Columns.{Columns}

-- Values meet an equation, where the signals of each class are present together.
abbrev pub is_met : List Signal → List ℕ → Values → Form → Bool
is_met signals least values (Fun y op operands) = has_truth (value_status least values y.0) (truth_given signals op operands (operand_value values))
is_met signals least values (Delay y x initial) = true
is_met signals least values (When y x b) = same_status (value_status least values y.0) (where_true (value_status least values b.0) (value_status least values x.0))
is_met signals least values (WhenConst y constant b) = same_status (value_status least values y.0) (where_true (value_status least values b.0) (Some (constant_truth (kind_at signals y) constant)))
is_met signals least values (Default y u v) = same_status (value_status least values y.0) (or_else (value_status least values u.0) (value_status least values v.0))
is_met signals least values (Sync x y) = true
is_met signals least values (Event y x) = same_status (value_status least values y.0) (where_present (value_status least values x.0) true)

-- what a signal is in the columns
abbrev pub IsOwnStatus : List ℕ → Columns → ℕ → Known → Type 0
IsOwnStatus least columns signal known = (known.present ≡ present_at columns (slice_index least signal)) × (known.truth ≡ truth_at columns signal)

-- a class of some signals is present at some truths
abbrev pub IsPresentFrom : List Node → List ℕ → Columns → List Bool → ℕ → Type 0
IsPresentFrom nodes least columns truths first = (class : ℕ) × (first ≤ class) × (class < length least) × (is_own least class ≡ true) × IsTrue (test nodes (present_at columns class) truths)

-- the reference is true where some class is present
abbrev pub IsSomePresent : List Node → List Node → List ℕ → Columns → ℕ → Ref → Type 0
IsSomePresent old new least columns first r = (truths : List Bool) → IsTrue (test new r truths) ↔ IsPresentFrom old least columns truths first

abbrev pub left_refs : Left → List Ref
left_refs left = left.residue ∷ left.speaks ∷ []
