-- What is told of links.
use Rattle.sig_interleaving.proofs.Common.{◌≡◌, ◌≤◌, ◌∙◌, ℕ, ℤ, List, [], length, sym, ap, arith, Global, None, Some, slice_get, slice_index_or, slice_get_past, VecDeque, Shows, queue_in, length_in, Core, ModelCore, slice_get-get_or, slice_get_within}

pub length_told : (c : Core) (m : ModelCore) → Shows m c → (j : ℕ) (queue : VecDeque ℤ Global) → slice_get c.lists.queues.items j ≡ Some queue
    → (n : ℕ) → n ≡ length queue.items → Some n ≡ length_in (slice_get m.links j)
length_told c m shows j queue at n is =
    let lt = slice_get_within c.lists.queues.items j queue at in
    let count = shows.count in
    let there = slice_get-get_or m.links j [] (omega (arith, lt, count)) in
    let items : slice_index_or m.links j [] ≡ queue.items = shows.links j ∙ ap (λ o. (queue_in o).items) at in
    ap (λ n. Some n) is ∙ sym (ap length_in there ∙ ap (λ (xs : List ℤ). Some (length xs)) items)

pub none_told : (c : Core) (m : ModelCore) → Shows m c → (j : ℕ) → length c.lists.queues.items ≤ j → None ≡ length_in (slice_get m.links j)
none_told c m shows j past = sym (ap length_in (slice_get_past m.links j (let count = shows.count in omega (arith, past, count))))
