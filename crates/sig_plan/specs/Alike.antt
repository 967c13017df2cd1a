-- Codes that differ in the references of their guards alone.
use Rattle.std.specs.Prelude.{◌≡◌}
use Rattle.sig_plan.specs.Prelude.{ℕ, List, length, slice_get, Some, Agree, test, Node}
use Rattle.sig_plan.specs.Codes.{CodeView}
use Rattle.sig_plan.specs.declared.code.Slot.{Slot}

-- Two codes, over two stores, have the same steps and as many slots, and each slot has the same parent and its guard the same
-- function.
pub record AreAlike (nodes others : List Node) (a b : CodeView) : Type 0 where
  pub steps : a.steps ≡ b.steps
  pub count : length a.slots ≡ length b.slots
  pub parents : (number : ℕ) (s t : Slot) → slice_get a.slots number ≡ Some s → slice_get b.slots number ≡ Some t → s.parent ≡ t.parent
  pub guards : (number : ℕ) (s t : Slot) → slice_get a.slots number ≡ Some s → slice_get b.slots number ≡ Some t
      → Agree (test nodes s.guard) (test others t.guard)
