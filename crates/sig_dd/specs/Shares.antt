-- What calls may do to a store: how many nodes they add, and why they are refused.
use Rattle.std.specs.Prelude.{ℕ, ◌+◌, ◌*◌, ◌<◌, ◌≤◌, List, [], ◌∷◌, Option, None, Some, IfSome, Result, Ok, Err, length, Contains}
use Rattle.sig_dd.specs.Nodes.{StoreView, Holds, Keeps, Spans, IsFull, allowance}
use Rattle.sig_dd.specs.declared.answer.DdAnswer.{DdAnswer}
use Rattle.sig_dd.specs.declared.answer.DdAnswer.TheVariants.{Budget, OutOfMemory}
use Rattle.sig_dd.specs.declared.node.Ref.{Ref}
use Rattle.sig_dd.specs.declared.node.Node.{Node}

-- why a call was refused, if it was
abbrev pub refusal : {T : Type 0} → Result T DdAnswer → Option DdAnswer
refusal (Ok x) = None
refusal (Err e) = Some e

-- a refusal for the number of nodes comes where the store is full and, before the calls, would have had no room for their share
abbrev pub IsRefused : StoreView → StoreView → ℕ → DdAnswer → Type 0
IsRefused old new room (Budget n) = IsFull new n × (n < length old.nodes + room)
IsRefused old new room OutOfMemory = Unit {0}

-- calls in a row over the variables vs, the last of which was refused or none: they add at most an allowance each
pub record Share (calls : ℕ) (vs : List ℕ) (old new : StoreView) (why : Option DdAnswer) : Type 0 where
  pub added : length new.nodes ≤ length old.nodes + calls * allowance vs
  pub refused : IfSome why (IsRefused old new (calls * allowance vs))

-- vs has each variable on which one of the references depends
abbrev pub SpanAll : List Node → List Ref → List ℕ → Type 0
SpanAll nodes [] vs = Unit {0}
SpanAll nodes (f ∷ fs) vs = Spans nodes f vs × SpanAll nodes fs vs

-- vs has each of the variables us
abbrev pub HasAll : List ℕ → List ℕ → Type 0
HasAll vs [] = Unit {0}
HasAll vs (u ∷ us) = Contains vs u × HasAll vs us

-- calls of the operands fs and the variables us keep to their share, over every list that has the variables on which they depend
pub record Shares (calls : ℕ) (fs : List Ref) (us : List ℕ) (old new : StoreView) (why : Option DdAnswer) : Type 0 where
  pub over : (vs : List ℕ) → SpanAll old.nodes fs vs → HasAll vs us → Share calls vs old new why

-- the references are of the store
abbrev pub HoldAll : List Node → List Ref → Type 0
HoldAll nodes [] = Unit {0}
HoldAll nodes (f ∷ fs) = Holds nodes f × HoldAll nodes fs

-- so many calls over the variables vs, none of them refused, have led from one store to another, in which the references fs depend on these variables alone
pub record Trail (calls : ℕ) (vs : List ℕ) (old new : StoreView) (fs : List Ref) : Type 0 where
  pub kept : Keeps old new
  pub share : Share calls vs old new None
  pub held : HoldAll new.nodes fs
  pub spans : SpanAll new.nodes fs vs
