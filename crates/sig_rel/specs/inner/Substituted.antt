-- The columns of a kernel that were written by a schedule, at some truths; and truths that fit a reaction.
use Rattle.std.specs.Prelude.{◌≡◌}
use Rattle.sig_rel.specs.Prelude.{ℕ, Bool, false, true, List, None, Some, slice_get, slice_index, slice_index_or, Reaction, is_present, status_at, truth_of, Form, Kernel}
use Rattle.sig_rel.specs.Relations.{is_boolean, truth_in}
use Rattle.sig_rel.specs.inner.Rules.{Values, presence_by, truth_by_form}
use Rattle.sig_rel.specs.inner.Elements.{IsGivenBy}
use Rattle.sig_rel.specs.Triangles.{IsClass}
use Rattle.sig_rel.specs.declared.elements.Element.TheVariants.{Presence, Truth}
use Rattle.sig_rel.specs.declared.numbering.Unknowns.{Unknowns}
use Rattle.sig_rel.specs.declared.rules.Rules.{Rules}

-- no equation is named for a class: it is a cut
abbrev pub IsCutClass : Kernel → Rules → ℕ → Type 0
IsCutClass kernel rules class = IsClass kernel rules.least.items class × (slice_get rules.counted.items class ≡ Some None)

-- no equation is named for a boolean: it is a condition or a cut
abbrev pub IsCutTruth : Kernel → Rules → ℕ → Type 0
IsCutTruth kernel rules signal = (is_boolean kernel signal ≡ true) × (slice_get rules.defined.items signal ≡ Some None)

-- what an equation is named for is what it gives; all else is its own unknown
pub record AreSubstituted (kernel : Kernel) (rules : Rules) (unknowns : Unknowns) (truths : List Bool) (values : Values) : Type 0 where
  pub classes : (class number : ℕ) (form : Form) → IsGivenBy kernel rules (Presence class) number form → values.present class ≡ presence_by rules.least.items values form
  pub truths_given : (signal number : ℕ) (form : Form) (b : Bool) → IsGivenBy kernel rules (Truth signal) number form
      → truth_by_form kernel.signals rules.least.items values form ≡ Some b → values.truth signal ≡ b
  pub cut_classes : (class : ℕ) → IsCutClass kernel rules class → values.present class ≡ truth_of truths (slice_index unknowns.present.items class)
  pub cut_truths : (signal : ℕ) → IsCutTruth kernel rules signal → values.truth signal ≡ truth_in truths (slice_index_or unknowns.truth.items signal None)
  pub plain : (signal : ℕ) → is_boolean kernel signal ≡ false → values.truth signal ≡ true

-- the unknowns of cuts and conditions are what a reaction has, where it has them
pub record Fits (kernel : Kernel) (rules : Rules) (unknowns : Unknowns) (reaction : Reaction) (truths : List Bool) : Type 0 where
  pub classes : (class : ℕ) → IsCutClass kernel rules class → truth_of truths (slice_index unknowns.present.items class) ≡ is_present reaction class
  pub truths_had : (signal : ℕ) (b : Bool) → IsCutTruth kernel rules signal → status_at reaction signal ≡ Some b
      → truth_in truths (slice_index_or unknowns.truth.items signal None) ≡ b
