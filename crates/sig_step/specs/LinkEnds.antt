-- What the ends of links are asked, and what is told of them: what was sent and taken so far, or what each link holds.
use Rattle.std.specs.Prelude.{◌≡◌, ◌≢◌, ◌<◌, ◌≤◌, ◌∷◌, ◌++◌}
use Rattle.sig_step.specs.Prelude.{ℕ, ℤ, List, [], length, Option, None, Some, Result, Ok, Err, Full}

-- what was sent on a link and what was taken from it, as far as a party knows
pub record LinkPast : Type 0 where
  pub sent : List ℤ
  pub taken : List ℤ

-- what a link holds, and how much it can hold
pub record LinkQueue : Type 0 where
  pub items : List ℤ
  pub capacity : ℕ

-- by the numbers of links
abbrev pub Past : Type 0
Past = ℕ → LinkPast

abbrev pub Queues : Type 0
Queues = ℕ → LinkQueue

-- what the ends of links were asked, and what they answered
pub data Asked : Type 0 where
  Nothing : Asked
  -- the link took this item
  Pushed : ℕ → ℤ → Asked
  FoundFull : ℕ → Asked
  -- the link gave this item
  Popped : ℕ → ℤ → Asked
  FoundEmpty : ℕ → Asked

abbrev pub asked_to_push : {U : Type 0} → ℕ → ℤ → Result U Full → Asked
asked_to_push link item (Ok done) = Pushed link item
asked_to_push link item (Err full) = FoundFull link

abbrev pub asked_to_pop : ℕ → Option ℤ → Asked
asked_to_pop link (Some item) = Popped link item
asked_to_pop link None = FoundEmpty link

-- what is told before is told afterwards, and stands in a relation
abbrev pub BothTell : {A : Type 0} → (A → A → Type 0) → Option A → Option A → Type 0
BothTell R None None = Unit {0}
BothTell R None (Some after) = ⊥
BothTell R (Some before) None = ⊥
BothTell R (Some before) (Some after) = R before after

-- no link changed, or none but one
abbrev pub AllStay : {A : Type 0} → (ℕ → A) → (ℕ → A) → Type 0
AllStay before after = (link : ℕ) → after link ≡ before link

abbrev pub OthersStay : {A : Type 0} → ℕ → (ℕ → A) → (ℕ → A) → Type 0
OthersStay link before after = (other : ℕ) → other ≢ link → after other ≡ before other

-- what was sent and taken, before and after
abbrev pub PastGoesOn : Asked → Past → Past → Type 0
PastGoesOn (Pushed link item) before after =
    (after link ≡ record (before link) { sent = (before link).sent ++ item ∷ [] }) × OthersStay link before after
PastGoesOn (Popped link item) before after =
    (after link ≡ record (before link) { taken = (before link).taken ++ item ∷ [] }) × OthersStay link before after
PastGoesOn other before after = AllStay before after

-- what the links hold, before and after: an item is refused where there is no room, and given where there is one
abbrev pub QueuesGoOn : Asked → Queues → Queues → Type 0
QueuesGoOn Nothing before after = AllStay before after
QueuesGoOn (FoundFull link) before after = ((before link).capacity ≤ length (before link).items) × AllStay before after
QueuesGoOn (FoundEmpty link) before after = ((before link).items ≡ []) × AllStay before after
QueuesGoOn (Pushed link item) before after =
    (length (before link).items < (before link).capacity)
    × (after link ≡ record (before link) { items = (before link).items ++ item ∷ [] }) × OthersStay link before after
QueuesGoOn (Popped link item) before after =
    (before link ≡ record (after link) { items = item ∷ (after link).items }) × OthersStay link before after

-- Ends of links were asked this and changed accordingly, whichever of the two they tell.
pub record Asks {E : Type 0} (past : E → Option Past) (queues : E → Option Queues) (asked : Asked) (before after : E) : Type 0 where
  pub tells_past : BothTell (PastGoesOn asked) (past before) (past after)
  pub tells_queues : BothTell (QueuesGoOn asked) (queues before) (queues after)
