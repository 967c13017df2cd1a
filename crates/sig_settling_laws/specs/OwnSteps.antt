-- What one actor does by itself: its own steps, with the items that it takes and sends.
use Rattle.std.specs.Prelude.{◌≡◌, ◌≢◌, ◌∷◌, ◌++◌}
use Rattle.sig_settling_laws.specs.Prelude.{ℕ, zero, suc, ℤ, List, [], Option, None, Some, Place, Kernel, Actor, ended_at, opening_actor, Given, AtLimit, Commits, Fails, Goes, Puts, Reaction, Stopped, Takes, Turn, turn}

-- items by the numbers of links
abbrev pub Items : Type 0
Items = ℕ → List ℤ

-- an actor, with what it sent on each link and took from it so far, what it committed, and where it failed
pub record Own : Type 0 where
  pub actor : Actor
  pub sent : Items
  pub taken : Items
  pub committed : List Reaction
  pub failed : Option Place

abbrev pub opening_own : Kernel → Own
opening_own kernel = record { actor = opening_actor kernel; sent = λ link. []; taken = λ link. []; committed = []; failed = None }

-- an actor behind a step, items aside
pub record IsBehind (actor : Actor) (committed : List Reaction) (failed : Option Place) (after : Own) : Type 0 where
  pub is : after.actor ≡ actor
  pub commits : after.committed ≡ committed
  pub fails : after.failed ≡ failed

-- no link has another item, or one link has one more
abbrev pub Stay : Items → Items → Type 0
Stay before after = (link : ℕ) → after link ≡ before link

pub record Grow (link : ℕ) (item : ℤ) (before after : Items) : Type 0 where
  pub here : after link ≡ before link ++ item ∷ []
  pub others : (other : ℕ) → other ≢ link → after other ≡ before other

-- the items before and after a step that uses no link, one that sends, and one that takes
abbrev pub UsesNone : Own → Own → Type 0
UsesNone before after = Stay before.sent after.sent × Stay before.taken after.taken

abbrev pub HasSent : ℕ → ℤ → Own → Own → Type 0
HasSent link item before after = Grow link item before.sent after.sent × Stay before.taken after.taken

abbrev pub HasTaken : ℕ → ℤ → Own → Own → Type 0
HasTaken link item before after = Stay before.sent after.sent × Grow link item before.taken after.taken

-- An actor did this turn. An item that it took is any one.
abbrev pub HasTurned : Turn → Own → Own → Type 0
HasTurned Stopped own after = ⊥
HasTurned AtLimit own after = IsBehind (ended_at own.actor) own.committed own.failed after × UsesNone own after
HasTurned (Fails place) own after = IsBehind (ended_at own.actor) own.committed (Some place) after × UsesNone own after
HasTurned (Goes next) own after = IsBehind next own.committed own.failed after × UsesNone own after
HasTurned (Commits reaction next) own after = IsBehind next (own.committed ++ reaction ∷ []) own.failed after × UsesNone own after
HasTurned (Puts link item next) own after = IsBehind next own.committed own.failed after × HasSent link item own after
HasTurned (Takes link next) own after = (item : ℤ) × IsBehind (next item) own.committed own.failed after × HasTaken link item own after

-- an own step of the actor k
abbrev pub IsOwnStep : Given → ℕ → Own → Own → Type 0
IsOwnStep given k own after = HasTurned (turn given.plan given.flows given.limit k own.actor) own after

-- so many own steps, one after another
abbrev pub LeadBy : Given → ℕ → ℕ → Own → Own → Type 0
LeadBy given k zero own after = own ≡ after
LeadBy given k (suc n) own after = (next : Own) × IsOwnStep given k own next × LeadBy given k n next after

-- The actor k by its own steps alone, from the opening.
abbrev pub IsOwn : Given → ℕ → Own → Type 0
IsOwn given k own = (n : ℕ) × LeadBy given k n (opening_own given.plan.kernel) own
