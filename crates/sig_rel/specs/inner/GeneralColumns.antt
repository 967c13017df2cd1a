-- Columns that were written by a schedule as a system.
use Rattle.std.specs.Prelude.{◌≡◌, ◌-◌, ◌+◌, ◌*◌, ◌^◌}
use Rattle.sig_rel.specs.Prelude.{ℕ, Bool, List, length, map, slice_get, slice_index, range_with_len, SigId, Kernel, Node}
use Rattle.sig_rel.specs.inner.FreeColumns.{truth_ref}
use Rattle.sig_rel.specs.inner.Numberings.{number_of}
use Rattle.sig_rel.specs.inner.Substituted.{AreSubstituted}
use Rattle.sig_rel.specs.inner.Substitutions.{HoldColumns, SpanColumns, present_at, values_at}
use Rattle.sig_rel.specs.Systems.{SystemView}
use Rattle.sig_rel.specs.declared.general.Left.{Left}
use Rattle.sig_rel.specs.declared.numbering.Unknowns.{Unknowns}
use Rattle.sig_rel.specs.declared.rules.Rules.{Rules}
use Rattle.sig_rel.specs.declared.substitution.Columns.{Columns}

-- the numbers from the first unknown to the last
abbrev pub numbers_of : Unknowns → List ℕ
numbers_of unknowns = range_with_len unknowns.first (unknowns.end - unknowns.first)

-- what some columns are by a schedule: each is what its equation gives, where one is named for it, and its own unknown else
pub record AreSubstitutedColumns (kernel : Kernel) (rules : Rules) (unknowns : Unknowns) (nodes : List Node) (columns : Columns) : Type 0 where
  pub held : HoldColumns nodes columns
  pub span : SpanColumns nodes columns (numbers_of unknowns)
  pub are : (truths : List Bool) → AreSubstituted kernel rules unknowns truths (values_at nodes columns truths)

-- the system is what the columns are, and what is left of them
pub record IsSystemWith (kernel : Kernel) (rules : Rules) (columns : Columns) (unknowns : Unknowns) (conditions : List SigId) (left : Left) (system : SystemView) : Type 0 where
  pub present : system.present ≡ map (λ signal. present_at columns (slice_index rules.least.items signal)) (range_with_len 0 (length kernel.signals))
  pub truth : system.truth ≡ map (truth_ref kernel rules columns) (range_with_len 0 (length kernel.signals))
  pub residue : system.residue ≡ left.residue
  pub speaks : system.speaks ≡ left.speaks
  pub listed : system.conditions ≡ conditions
  pub proposals : system.proposals ≡ map (λ condition. number_of (slice_get unknowns.truth.items condition.0)) conditions
  pub first : system.first ≡ unknowns.first
  pub variables : system.variables ≡ unknowns.end - unknowns.first

-- how many nodes the writing of a kernel's columns may add, of so many unknowns
abbrev pub substituting : Kernel → ℕ → ℕ
substituting kernel unknowns = unknowns + 6 * length kernel.equations * 2 ^ unknowns
