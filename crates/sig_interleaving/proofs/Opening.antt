-- The opening of a core.
use Rattle.sig_interleaving.proofs.Common.{◌≡◌, ◌<◌, ◌≤◌, ◌+◌, ◌^◌, ◌++◌, ◌∙◌, inl, inr, ℕ, zero, suc, ℤ, List, [], ◌∷◌, length, map, replicate, refl, sym, ap, subst, arith, length-append, Global, None, Some, slice_get, slice_index_or, length-replicate, slice_get_past, deque_capacity, VecDeque, IsCore, Shows, AreEmpty, queue_in, queues_of, AreOpened, IsOpened, Lists, Core, no_place, AreFlowsFor, at_most_or, opening_actor, opening, outputs_of, longest_lines, PlanView, LinkQueue, actor_of, ClusterState, get_before, get_last, get_pushed}

pub opened_more : (plan : PlanView) (flows : List (List ℤ)) (limit n : ℕ) (states : List ClusterState) (s : ClusterState) → AreOpened plan flows limit n states → IsOpened plan flows limit n s
    → AreOpened plan flows limit (n + 1) (states ++ s ∷ [])
opened_more plan flows limit n states s are new = record {
  actors = let count = are.actors in let more = length-append states (s ∷ []) in omega (arith, count, more);
  each = λ k t at. elim (get_pushed states s k t at) [
    | inl before ↦ are.each k t before
    | inr last ↦ subst (IsOpened plan flows limit k) last.1 (subst (λ i. IsOpened plan flows limit i s) (let same = last.0 in let count = are.actors in (let e : n ≡ k = omega (arith, same, count) in e)) new)
  ];
}

-- one more link
pub empty_more : (n capacity : ℕ) (old new : Lists) (here : LinkQueue) → AreEmpty n capacity old → here ≡ record { items = []; capacity = capacity }
    → length new.queues.items ≡ n + 1 → queues_of new n ≡ here → ((j : ℕ) → j < n → queues_of new j ≡ queues_of old j) → AreEmpty (n + 1) capacity new
empty_more n capacity old new here are is count last before = record {
  count = count;
  each = λ j lt. elim (at_most_or n j) [
    | inl le ↦ let same : j ≡ n = omega (arith, le, lt) in ap (queues_of new) same ∙ last ∙ is
    | inr less ↦ before j less ∙ are.each j less
  ];
}

pub empty_pushed : (n capacity : ℕ) (old new : Lists) (queue : VecDeque ℤ Global) → AreEmpty n capacity old → new.queues.items ≡ old.queues.items ++ queue ∷ []
    → queue.items ≡ [] → deque_capacity queue ≡ capacity → AreEmpty (n + 1) capacity new
empty_pushed n capacity old new queue are is none room =
    empty_more n capacity old new (queue_in (Some queue)) are
    (ap (λ xs. let l : LinkQueue = record { items = xs; capacity = deque_capacity queue } in l) none ∙ ap (λ r. let l : LinkQueue = record { items = []; capacity = r } in l) room)
    (let count = ap length is in let more = length-append old.queues.items (queue ∷ []) in let before = are.count in omega (arith, count, more, before))
    (ap queue_in (ap (λ xs. slice_get xs n) is ∙ subst (λ i. slice_get (old.queues.items ++ queue ∷ []) i ≡ Some queue) are.count (get_last old.queues.items queue)))
    (λ j lt. ap queue_in (ap (λ xs. slice_get xs j) is ∙ get_before old.queues.items (queue ∷ []) j (let before = are.count in omega (arith, lt, before))))

-- all states alike
alike : {X Y : Type 0} (f : X → Y) (y : Y) (xs : List X) → ((k : ℕ) (x : X) → slice_get xs k ≡ Some x → f x ≡ y) → replicate (length xs) y ≡ map f xs
alike f y [] same = refl
alike f y (x ∷ xs) same = ap (λ ys. y ∷ ys) (alike f y xs (λ k z at. same (suc k) z at)) ∙ ap (λ z. z ∷ map f xs) (sym (same 0 x refl))

nothing_there : (n j : ℕ) → slice_index_or (replicate n (let none : List ℤ = [] in none)) j [] ≡ []
nothing_there zero j = refl
nothing_there (suc n) zero = refl
nothing_there (suc n) (suc j) = nothing_there n j

module _ (c : Core) (fits : AreFlowsFor c.plan.now.kernel c.inputs.now) (limit : c.limit + 1 < 2 ^ 32) (capacity : 1 ≤ c.capacity) (small : c.capacity < 2 ^ 32)
    (are : AreOpened c.plan.now c.inputs.now c.limit (length c.plan.now.codes) c.states.items) (few : length c.states.items < 2 ^ 32) (empty : AreEmpty (length c.plan.now.links) c.capacity c.lists) where
  pub opened_core : c.word ≡ no_place → longest_lines (outputs_of c.plan.now.kernel) ≤ c.lines.size → IsCore c
  opened_core none lines = record {
    fits = fits;
    limit = limit;
    capacity = capacity;
    small = small;
    actors = are.actors;
    few = few;
    states = λ k s at. let o = are.each k s at in record { state = o.state; number = o.number; limit = o.limit_is };
    links = empty.count;
    room = λ j lt. ap (λ (l : LinkQueue). l.capacity) (empty.each j lt);
    held = λ j lt. (let none : length (queues_of c.lists j).items ≡ 0 = ap (λ (l : LinkQueue). length l.items) (empty.each j lt) in omega (arith, none));
    word = (None, none);
    lines = lines;
  }

  items_none : (j : ℕ) → (queues_of c.lists j).items ≡ []
  items_none j = elim (at_most_or (length c.plan.now.links) j) [
    | inl past ↦ ap (λ q. (queue_in q).items) (slice_get_past c.lists.queues.items j (let count = empty.count in omega (arith, past, count)))
    | inr lt ↦ ap (λ (l : LinkQueue). l.items) (empty.each j lt)
  ]

  pub opened_shows : c.word ≡ no_place → Shows (opening c.plan.now) c
  opened_shows none = record {
    actors = ap (λ n. replicate n (opening_actor c.plan.now.kernel)) (sym are.actors) ∙ alike actor_of (opening_actor c.plan.now.kernel) c.states.items (λ k s at. (are.each k s at).opening);
    count = length-replicate (length c.plan.now.links) _ ∙ sym empty.count;
    links = λ j. nothing_there (length c.plan.now.links) j ∙ sym (items_none j);
    word = none;
  }
