use Rattle.sig_interleaving.proofs.{◌≡◌, ◌∙◌, arith, List, ℤ, Global, length, refl, ap, sym, Some, slice_get, ltb-false, slice_get_read, VecDeque, length_told, none_told, queue_in, queues_of, slice_get_within}
use Rattle.sig_interleaving.proofs.state.Core.link_len.Goals as goal

there : (c : goal.After-len) → slice_get c.args.self.now.lists.queues.items c.args.j ≡ Some c.in-Some.queue.now
there c =
    let found = c.in-Some.ensures.lookup in
    ap (λ (xs : List (VecDeque ℤ Global)). slice_get xs c.args.j) (sym c.deref.ensures.value)
    ∙ slice_get_read c.deref.result.now _ c.args.j c.in-Some.queue.now refl found.3.0 found.1

pub overflow_cast-result : goal.overflow_cast-result
overflow_cast-result c =
    let at = there c in
    let lt = slice_get_within c.args.self.now.lists.queues.items c.args.j c.in-Some.queue.now at in
    let count = c.requires.links in
    let held = c.requires.held c.args.j (omega (arith, lt, count)) in
    let items : length (queues_of c.args.self.now.lists c.args.j).items ≡ length c.in-Some.queue.now.items = ap (λ o. length (queue_in o).items) at in
    let small = c.requires.small in
    let whole = c.in-Some.queue.now.ok.0 in
    let len = c.len.ensures in
    omega (arith, held, items, small, whole, len)

pub returns-in-Some : goal.returns-in-Some
returns-in-Some c = λ m shows. length_told c.args.self.now m shows c.args.j c.in-Some.queue.now (there c) c.len.result (c.len.ensures ∙ c.in-Some.queue.now.ok.0)

pub returns-in-None : goal.returns-in-None
returns-in-None c = λ m shows.
    let past = ltb-false c.args.j (length c.deref.result.now) (sym c.in-None.ensures.lookup.0) in
    let same = ap length c.deref.ensures.value in
    none_told c.args.self.now m shows c.args.j (omega (arith, past, same))
