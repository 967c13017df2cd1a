-- Columns of a triangular kernel as its system.
use Rattle.std.specs.Prelude.{◌≡◌, ◌+◌, ◌<◌, ◌≤◌, if◌then◌else◌}
use Rattle.sig_rel.specs.Prelude.{ℕ, Bool, true, List, length, map, Some, Result, IfErr, slice_get, slice_index, range_with_len, SigId, Kernel, IsRefOf, IsStore, Keeps, StoreView, IsRefused, DdAnswer, Node, Ref}
use Rattle.sig_rel.specs.Relations.{is_boolean}
use Rattle.sig_rel.specs.inner.Substitutions.{HoldColumns, SpanColumns, present_at, ref_at, truth_at, values_at}
use Rattle.sig_rel.specs.inner.Rules.{AreValues}
use Rattle.sig_rel.specs.Systems.{SystemView}
use Rattle.sig_rel.specs.Triangles.{IsTriangle}
use Rattle.sig_rel.specs.declared.elements.Element.{Element}
use Rattle.sig_rel.specs.declared.elements.Element.TheVariants.{Truth}
use Rattle.sig_rel.specs.declared.placing.Triangle.{Triangle}
use Rattle.sig_rel.specs.declared.rules.Rules.{Rules}
use Rattle.sig_rel.specs.declared.substitution.Columns.{Columns}

-- ---- the columns as a system

-- the truth of a signal: that of a boolean, and the presence of another signal
abbrev pub truth_ref : Kernel → Rules → Columns → ℕ → Ref
truth_ref kernel rules columns signal = if is_boolean kernel signal then truth_at columns signal else present_at columns (slice_index rules.least.items signal)

-- the system is what the columns are
pub record IsSystemOf (kernel : Kernel) (rules : Rules) (columns : Columns) (conditions : List SigId) (system : SystemView) : Type 0 where
  pub present : system.present ≡ map (λ signal. present_at columns (slice_index rules.least.items signal)) (range_with_len 0 (length kernel.signals))
  pub truth : system.truth ≡ map (truth_ref kernel rules columns) (range_with_len 0 (length kernel.signals))
  pub residue : system.residue ≡ columns.always
  pub speaks : system.speaks ≡ columns.always
  pub listed : system.conditions ≡ conditions
  pub proposals : system.proposals ≡ range_with_len 0 (length conditions)
  pub first : system.first ≡ 0
  pub variables : system.variables ≡ length conditions

-- columns that are true everywhere
pub record AreFresh (nodes : List Node) (count : ℕ) (columns : Columns) : Type 0 where
  pub always : IsRefOf nodes (λ truths. true) columns.always
  pub rows : length columns.rows.items ≡ count
  pub all : (element : Element) → ref_at columns element ≡ columns.always

-- calls that add at most so many nodes
pub record Adds (count : ℕ) (old new : StoreView) (result : Result (Unit {0}) DdAnswer) : Type 0 where
  pub store : IsStore new
  pub kept : Keeps old new
  pub added : length new.nodes ≤ length old.nodes + count
  pub refused : IfErr result (IsRefused old new count)

-- the variable of a condition is its place among these
abbrev pub IsProposal : List SigId → Element → ℕ → Type 0
IsProposal conditions element v = (condition : SigId) × (slice_get conditions v ≡ Some condition) × (element ≡ Truth condition.0)

abbrev pub IsProposalBelow : List SigId → ℕ → Element → ℕ → Type 0
IsProposalBelow conditions count element v = (v < count) × IsProposal conditions element v

-- The columns keep to the tables of a triangular kernel at each proposal of its conditions.
pub record AreFilled (kernel : Kernel) (triangle : Triangle) (conditions : List SigId) (nodes : List Node) (columns : Columns) : Type 0 where
  pub held : HoldColumns nodes columns
  pub span : SpanColumns nodes columns (range_with_len 0 (length conditions))
  pub always : IsRefOf nodes (λ truths. true) columns.always
  pub keeps : (is : IsTriangle kernel triangle.rules.least.items triangle.list.items) (truths : List Bool)
      → AreValues kernel triangle.rules.least.items triangle.rules.counted.items triangle.rules.defined.items conditions is.top truths (values_at nodes columns truths)
