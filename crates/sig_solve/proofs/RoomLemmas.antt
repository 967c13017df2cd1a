-- Lemmas on the room of a triangular kernel's systems.
use Rattle.sig_solve.proofs.Common.{◌≡◌, ◌≤◌, ◌+◌, ◌*◌, ◌^◌, inl, inr, ℕ, length, refl, sym, subst, arith, Result, Ok, Err, IfErr, IsErrAnd, Kernel, StoreView, DdAnswer, Budget as StoreBudget, OutOfMemory as NoMemory, conditions_of, IsRefusedFor, KeepsToShare, KeepsToTriangularShare, triangular_share_of as system_share_of, IsTriangular, RelAnswer, HasNoRoom, IsFromRelation, IsFromStore, IsSystemRoom, IsWithin, ClockAnswer}
use Rattle.sig_solve.specs.Refusals.{triangular_share_of}
use Rattle.sig_solve.specs.declared.answer.ClockAnswer.TheVariants.{Budget, OutOfMemory}
use Rattle.sig_solve.proofs.CountLemmas.{within_equal, within_relation}

module _ {T : Type 0} (kernel : Kernel) (room : ℕ) (is : IsSystemRoom kernel room) (triangular : IsTriangular kernel) (old new : StoreView) (result : Result T RelAnswer)
    (share : KeepsToShare kernel old new result) (own : KeepsToTriangularShare kernel old new result) where
  pub system_added : length new.nodes ≤ length old.nodes + room
  system_added = elim is [
    | inl at ↦ subst (λ n. length new.nodes ≤ length old.nodes + n) (sym at.2) (share.added at.0 at.1)
    | inr same ↦ subst (λ n. length new.nodes ≤ length old.nodes + n) (sym same) (own.added triangular)
  ]

  pub system_refused : IfErr result (IsRefusedFor old new room)
  system_refused = elim is [
    | inl at ↦ subst (λ n. IfErr result (IsRefusedFor old new n)) (sym at.2) (share.refused at.0 at.1)
    | inr same ↦ subst (λ n. IfErr result (IsRefusedFor old new n)) (sym same) (own.refused triangular)
  ]

pub within_system : {T : Type 0} (room : ℕ) (old new : StoreView) (result : Result T ClockAnswer) (e : RelAnswer) → length new.nodes ≤ length old.nodes + room → IsRefusedFor old new room e → IsErrAnd result (λ d. IsFromRelation e d) → IsWithin room old new result
within_system room old new result e added refused is = within_equal (room + 0) room old new result (omega arith) (within_relation room 0 old new result e added refused is)

pub within_memory : {T : Type 0} (room : ℕ) (old new : StoreView) (result : Result T ClockAnswer) → length new.nodes ≤ length old.nodes + room → IsErrAnd result (λ e. e ≡ OutOfMemory) → IsWithin room old new result
within_memory room old new (Ok x) added is = absurd is
within_memory room old new (Err e) added is = record { added = added; refused = subst (λ x. HasNoRoom old new room x) (sym is) tt }

-- a store that had no memory
pub within_store : {T : Type 0} (room : ℕ) (old new : StoreView) (result : Result T ClockAnswer) (e : DdAnswer) → length new.nodes ≤ length old.nodes + room → ((n : ℕ) → e ≡ StoreBudget n → ⊥)
    → IsErrAnd result (λ d. IsFromStore e d) → IsWithin room old new result
within_store room old new (Ok x) e added not from = absurd from
within_store room old new (Err d) (StoreBudget n) added not from = absurd (not n refl)
within_store room old new (Err d) NoMemory added not from = record { added = added; refused = subst (λ x. HasNoRoom old new room x) (sym from) tt }

-- a refusal that is passed on
pub within_passed : {T : Type 0} (room : ℕ) (old new : StoreView) (result : Result T ClockAnswer) (e : ClockAnswer) → IsErrAnd result (λ d. d ≡ e) → length new.nodes ≤ length old.nodes + room → HasNoRoom old new room e → IsWithin room old new result
within_passed room old new (Ok x) e is added refused = absurd is
within_passed room old new (Err d) e is added refused = record { added = added; refused = subst (λ x. HasNoRoom old new room x) (sym is) refused }

pub within_more : {T : Type 0} (a b : ℕ) (old new : StoreView) (result : Result T ClockAnswer) → a ≤ b → IsWithin a old new result → IsWithin b old new result
within_more {T} a b old new result le within = record { added = omega (arith, le, within.added); refused = by result within.refused } where
  by : (result : Result T ClockAnswer) → IfErr result (HasNoRoom old new a) → IfErr result (HasNoRoom old new b)
  by (Err (Budget k)) room = (room.0, let lt = room.1 in omega (arith, lt, le))
  by _ room = tt

-- two systems keep to the whole shares
pub two_systems : (kernel : Kernel) → system_share_of kernel + system_share_of kernel ≤ triangular_share_of kernel
two_systems kernel = fit (2 ^ length (conditions_of kernel)) (length kernel.equations + 1) where
  fit : (p x : ℕ) → p * 16 * x + p * 16 * x ≤ p * 36 * x
  fit p x = omega arith
