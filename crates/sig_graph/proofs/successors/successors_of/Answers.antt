use Rattle.sig_graph.proofs.{◌≡◌, ◌<◌, ◌+◌, ◌∙◌, ℕ, List, [], sym, ap, subst, length, get_or, take, All, Adds, AreSuccessors, successors_more, edges_below, written, read_or_empty}
use Rattle.sig_graph.proofs.successors.successors_of.Goals as goal

pub add_behind-requires : goal.add_behind-requires
add_behind-requires c =
    let count : length c.deref_mut.result.now ≡ length c.args.graph.now = ap length c.deref_mut.ensures.value ∙ c.loop-number.invariant.all in
    subst (λ (n : ℕ). All (λ (k : ℕ). k < n) c.as_slice.result.now) (sym count)
    (edges_below c.args.graph.now c.loop-number.number c.index-graph-number.result c.as_slice.result.now c.requires.within c.loop-number-test.true c.index-graph-number.is c.as_slice.ensures)

pub loop-number-preserved : goal.loop-number-preserved
loop-number-preserved c =
    let graph = c.args.graph.now in
    let i = c.loop-number.number in
    let old = c.loop-number.successors.items in
    let more = c.add_behind.new.successors in
    let value = c.deref_mut.ensures.value in
    let adds = c.in_ok-add_behind.ensures in
    let whole = written c.loop-number.successors.len c.add_behind.new.successors c.loop-number.successors.items (adds.count ∙ ap length value) (sym c.deref_mut.ensures.len ∙ ap length value) in
    let read : c.as_slice.result.now ≡ get_or c.args.graph.now c.loop-number.number [] = c.as_slice.ensures ∙ read_or_empty graph i c.index-graph-number.result c.loop-number-test.true c.index-graph-number.is in
    subst (λ (lists : List (List ℕ)). AreSuccessors (length graph) (take (i + 1) graph) lists) (sym whole)
    (successors_more (length graph) i graph old more c.loop-number-test.true c.loop-number.invariant
    (subst (λ (lists : List (List ℕ)). Adds i (get_or graph i []) lists more) value (subst (λ (before : List ℕ). Adds i before c.deref_mut.result.now more) read adds)))
