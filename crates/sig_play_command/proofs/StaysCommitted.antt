-- An event takes back nothing of what is committed.
use Rattle.sig_play_command.proofs.Common.{◌≡◌, ◌∙◌, ◌++◌, ℕ, ℤ, List, [], ◌∷◌, Bool, true, false, refl, sym, ap, append_assoc, Option, None, Some, fold, length, nat_lt, slice_get, if◌then◌else◌, append-nil, IsPrefixOf, Actor, code_of, ended_at, next_place, Core, Given, acted, items_on, looked, stepped, take_first, turned, with_actor, with_items, word_before, AtLimit, Commits, Fails, Goes, Puts, Stopped, Takes, Turn, turn, Event, Act, Look, PlanView}

-- a state has committed what another one has, and maybe more
abbrev Grows : Core → Core → Type 0
Grows m n = IsPrefixOf m.committed n.committed

same : (m n : Core) → n.committed ≡ m.committed → Grows m n
same m n is = ([], is ∙ sym (append-nil m.committed))

either : (test : Bool) (m x y : Core) → Grows m x → Grows m y → Grows m (if test then x else y)
either true m x y one other = one
either false m x y one other = other

taken : (k j : ℕ) (next : ℤ → Actor) (m : Core) (items : List ℤ) → Grows m (take_first k j next m items)
taken k j next m [] = same m m refl
taken k j next m (item ∷ items) = same m (with_items j items (with_actor k (next item) m)) refl

by_turn : (given : Given) (k : ℕ) (actor : Actor) (t : Turn) (m : Core) → Grows m (turned given k actor t m)
by_turn given k actor Stopped m = same m m refl
by_turn given k actor AtLimit m = same m (with_actor k (ended_at actor) m) refl
by_turn given k actor (Fails place) m = same m (turned given k actor (Fails place) m) refl
by_turn given k actor (Goes next) m = same m (with_actor k next m) refl
by_turn given k actor (Commits reaction next) m = (reaction ∷ [], refl)
by_turn given k actor (Puts j item next) m =
    either (nat_lt (length (items_on m j)) given.capacity) m (with_items j (items_on m j ++ item ∷ []) (with_actor k next m)) m
    (same m (with_items j (items_on m j ++ item ∷ []) (with_actor k next m)) refl) (same m m refl)
by_turn given k actor (Takes j next) m = taken k j next m (items_on m j)

by_act : (given : Given) (k : ℕ) (m : Core) (o : Option Actor) → Grows m (acted given k m o)
by_act given k m None = same m m refl
by_act given k m (Some actor) = by_turn given k actor (turn given.plan given.flows given.limit k actor) m

by_look : (plan : PlanView) (k : ℕ) (m : Core) (o : Option Actor) → Grows m (looked plan k m o)
by_look plan k m None = same m m refl
by_look plan k m (Some actor) =
    either actor.ended m m (if word_before m.word (next_place (code_of plan k) actor) then with_actor k (ended_at actor) m else m)
    (same m m refl)
    (either (word_before m.word (next_place (code_of plan k) actor)) m (with_actor k (ended_at actor) m) m (same m (with_actor k (ended_at actor) m) refl) (same m m refl))

by_event : (given : Given) (m : Core) (event : Event) → Grows m (stepped given m event)
by_event given m (Act k) = by_act given k m (slice_get m.actors k)
by_event given m (Look k) = by_look given.plan k m (slice_get m.actors k)

-- nor do events, one after another
pub grows : (given : Given) (events : List Event) (m : Core) → IsPrefixOf m.committed (fold (stepped given) m events).committed
grows given [] m = same m m refl
grows given (event ∷ events) m =
    let first = by_event given m event in
    let rest = grows given events (stepped given m event) in
    (first.0 ++ rest.0, rest.1 ∙ ap (λ rs. rs ++ rest.0) first.1 ∙ append_assoc m.committed first.0 rest.0)
