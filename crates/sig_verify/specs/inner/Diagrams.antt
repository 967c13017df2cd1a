-- Diagrams over the conditions of an image, in a store beside which the calls are counted that made them.
use Rattle.std.specs.Prelude.{◌≡◌, ◌<◌, ◌≤◌, ◌+◌, ◌*◌, ◌^◌}
use Rattle.sig_verify.specs.Prelude.{ℕ, Bool, List, length, range_with_len, NODES, Holds, IsRefOf, IsStore, Keeps, Spans, Ref, DdAnswer, Budget, OutOfMemory}
use Rattle.sig_verify.specs.declared.diagrams.Diagrams.{Diagrams}

-- the variables of so many conditions
abbrev pub variables : ℕ → List ℕ
variables conditions = range_with_len 0 conditions

-- The store is one for the most nodes, and each call has added fewer than there are proposals.
pub record AreDiagrams (diagrams : Diagrams) : Type 0 where
  pub store : IsStore diagrams.store
  pub made_for : diagrams.store.made_for ≡ NODES
  pub nodes : length diagrams.store.nodes ≤ diagrams.calls * 2 ^ diagrams.conditions

-- a reference to a function of the conditions alone
pub record IsOf (diagrams : Diagrams) (r : Ref) : Type 0 where
  pub holds : Holds diagrams.store.nodes r
  pub spans : Spans diagrams.store.nodes r (variables diagrams.conditions)

-- a reference to this function, which is one of the conditions alone
pub record IsFor (diagrams : Diagrams) (f : List Bool → Bool) (r : Ref) : Type 0 where
  pub is : IsRefOf diagrams.store.nodes f r
  pub of : IsOf diagrams r

-- at most so many calls lead from the first to the second
pub record Follows (calls : ℕ) (old new : Diagrams) : Type 0 where
  pub right : AreDiagrams new
  pub kept : Keeps old.store new.store
  pub conditions : new.conditions ≡ old.conditions
  pub counted : new.calls ≤ old.calls + calls

-- why one of so many calls is refused: for want of memory, or where the nodes might not suffice
abbrev pub IsRefusal : Diagrams → ℕ → DdAnswer → Type 0
IsRefusal diagrams calls (Budget nodes) = (nodes ≡ NODES) × (NODES < (diagrams.calls + calls) * 2 ^ diagrams.conditions)
IsRefusal diagrams calls OutOfMemory = Unit {0}
