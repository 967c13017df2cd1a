-- A refusal of a store as one of its caller.
use Rattle.sig_rel.proofs.Common.{◌≤◌, ℕ, sym, subst, arith, StoreView, IsRefused, DdAnswer, Budget as StoreBudget, OutOfMemory as NoMemory, IsFromStore, IsRefusedFor, RelAnswer}

pub refused_as : (old new : StoreView) (a b : ℕ) → a ≤ b → (why : DdAnswer) (answer : RelAnswer) → IsFromStore why answer → IsRefused old new a why → IsRefusedFor old new b answer
refused_as old new a b le (StoreBudget n) answer is refused = let lt = refused.1 in subst (IsRefusedFor old new b) (sym is) (refused.0, omega arith)
refused_as old new a b le NoMemory answer is refused = subst (IsRefusedFor old new b) (sym is) tt
