-- What pushes and pops do to the queues of links.
use Rattle.sig_interleaving.proofs.Common.{◌≡◌, ◌≢◌, ◌<◌, ◌≤◌, ◌++◌, ◌∙◌, inl, inr, ℕ, suc, ℤ, List, [], ◌∷◌, length, set, drop, refl, sym, ap, subst, arith, Contains, Global, None, Option, Some, option_to_list, slice_get, slice_index_or, range_with_len, deque_capacity, VecDeque, queue_in, Lists, FoundEmpty, FoundFull, LinkQueue, Popped, Pushed, Queues, QueuesGoOn, asked_to_pop, get_set_other, set_here, within_range, slice_get-get_or, cases_eq}
use Rattle.sig_interleaving.proofs.WhatIsLeft.{set_there}

-- a list that is its own rest
drop_none : (items : List ℤ) → items ≡ drop 1 items → items ≡ []
drop_none [] same = refl
drop_none (x ∷ items) same = absurd (let e : suc (length items) ≡ length items = ap length same in omega (arith, e))

module _ {Z : Type 0} where
  -- what each link holds
  abbrev pub held : List (VecDeque ℤ Z) → Queues
  held xs j = queue_in (slice_get xs j)

  module _ (xs ys : List (VecDeque ℤ Z)) (link : ℕ) (queue next : VecDeque ℤ Z) (at : slice_get xs link ≡ Some queue) (is : ys ≡ set xs link next) where
    here : held ys link ≡ queue_in (Some next)
    here = ap queue_in (ap (λ zs. slice_get zs link) is ∙ set_here xs link next queue at)

    there : held xs link ≡ queue_in (Some queue)
    there = ap queue_in at

    elsewhere : (j : ℕ) → j ≢ link → held ys j ≡ held xs j
    elsewhere j apart = ap queue_in (ap (λ zs. slice_get zs j) is ∙ get_set_other xs link j next apart)

    pub pushed : (item : ℤ) → length queue.items < deque_capacity queue → next.items ≡ queue.items ++ item ∷ [] → deque_capacity next ≡ deque_capacity queue
        → QueuesGoOn (Pushed link item) (held xs) (held ys)
    pushed item room items capacity = (
      subst (λ (l : LinkQueue). length l.items < l.capacity) (sym there) room,
      here ∙ ap (λ zs. let l : LinkQueue = record { items = zs; capacity = deque_capacity next } in l) items
          ∙ ap (λ c. let l : LinkQueue = record { items = queue.items ++ item ∷ []; capacity = c } in l) capacity
          ∙ ap (λ (l : LinkQueue). record l { items = l.items ++ item ∷ [] }) (sym there),
      elsewhere,
    )

    pub popped : (item : ℤ) → queue.items ≡ item ∷ next.items → deque_capacity next ≡ deque_capacity queue → QueuesGoOn (Popped link item) (held xs) (held ys)
    popped item items capacity = (
      there ∙ ap (λ zs. let l : LinkQueue = record { items = zs; capacity = deque_capacity queue } in l) items
          ∙ ap (λ c. let l : LinkQueue = record { items = item ∷ next.items; capacity = c } in l) (sym capacity)
          ∙ ap (λ (l : LinkQueue). record l { items = item ∷ l.items }) (sym here),
      elsewhere,
    )

    pub found_empty : queue.items ≡ [] → next.items ≡ [] → deque_capacity next ≡ deque_capacity queue → QueuesGoOn (FoundEmpty link) (held xs) (held ys)
    found_empty none still capacity = (
      ap (λ (l : LinkQueue). l.items) there ∙ none,
      λ j. elim (cases_eq j link) [
        | inl same ↦ subst (λ i. held ys i ≡ held xs i) (sym same)
            (here ∙ ap (λ zs. let l : LinkQueue = record { items = zs; capacity = deque_capacity next } in l) (still ∙ sym none)
            ∙ ap (λ c. let l : LinkQueue = record { items = queue.items; capacity = c } in l) capacity ∙ sym there)
        | inr apart ↦ elsewhere j apart
      ],
    )

  -- a queue that is put back as it was
  pub found_full : (xs ys : List (VecDeque ℤ Z)) (link : ℕ) (queue : VecDeque ℤ Z) → slice_get xs link ≡ Some queue → ys ≡ set xs link queue → deque_capacity queue ≤ length queue.items
      → QueuesGoOn (FoundFull link) (held xs) (held ys)
  found_full xs ys link queue at is full = (
    subst (λ (l : LinkQueue). l.capacity ≤ length l.items) (sym (ap queue_in at)) full,
    λ j. ap (λ zs. held zs j) (is ∙ set_there xs link queue at),
  )

  pub popped_as : (xs ys : List (VecDeque ℤ Z)) (link : ℕ) (queue next : VecDeque ℤ Z) → slice_get xs link ≡ Some queue → ys ≡ set xs link next → (result : Option ℤ)
      → queue.items ≡ option_to_list result ++ next.items → next.items ≡ drop 1 queue.items → deque_capacity next ≡ deque_capacity queue
      → QueuesGoOn (asked_to_pop link result) (held xs) (held ys)
  popped_as xs ys link queue next at is (Some item) items rest capacity = popped xs ys link queue next at is item items capacity
  popped_as xs ys link queue next at is None items rest capacity =
      let none : queue.items ≡ [] = drop_none queue.items (items ∙ rest) in
      found_empty xs ys link queue next at is none (sym items ∙ none) capacity

-- the queue of a link to which one can push
pub queue_there : (lists : Lists) (link : ℕ) (queue : VecDeque ℤ Global) → Contains (range_with_len 0 (length lists.queues.items)) link → queue ≡ slice_index_or lists.queues.items link queue
    → slice_get lists.queues.items link ≡ Some queue
queue_there lists link queue there is = slice_get-get_or lists.queues.items link queue (within_range (length lists.queues.items) link there) ∙ ap (λ q. Some q) (sym is)
