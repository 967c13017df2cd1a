use Rattle.sig_graph.proofs.{◌≡◌, ◌<◌, ◌∙◌, ℕ, Bool, List, sym, ap, subst, length, refl, false, Contains, rules, All, length-replicate, nil_from_length, Contains-push, Walks, edges_below, visits_as, waiting_below, walk_begins, walk_ends, walk_goes_on, written, read_or_empty}
use Rattle.sig_graph.proofs.cycles.reaching.Goals as goal

pub visit-requires : goal.visit-requires
visit-requires c =
    let count : length c.deref_mut.result.now ≡ length c.args.graph.now = ap length (c.deref_mut.ensures.value ∙ c.in_ok-marks.ensures) ∙ length-replicate (length c.args.graph.now) false in
    subst (λ (n : ℕ). All (λ (k : ℕ). k < n) c.as_slice.result.now) (sym count)
    (edges_below c.args.graph.now c.args.target c.index-graph-target.result c.as_slice.result.now c.requires.within c.requires.target c.index-graph-target.is c.as_slice.ensures)

pub loop-number-init : goal.loop-number-init
loop-number-init c =
    let graph = c.args.graph.now in
    let value = c.deref_mut.ensures.value in
    let visits = c.in_ok-visit.ensures in
    let whole = written c.in_ok-marks.marks.len c.visit.new.marks c.in_ok-marks.marks.items (visits.count ∙ ap length value) (sym c.deref_mut.ensures.len ∙ ap length value) in
    subst (λ (marks : List Bool). Walks graph c.args.target marks c.visit.new.waiting.items) (sym whole)
    (walk_begins graph c.args.target (length graph) c.visit.new.marks c.visit.new.waiting.items refl
    (visits_as _ _ _ _ c.visit.new.marks _ _ c.visit.new.waiting.items (c.as_slice.ensures ∙ read_or_empty graph c.args.target c.index-graph-target.result c.requires.target c.index-graph-target.is) (value ∙ c.in_ok-marks.ensures) c.new-waiting.ensures.items visits))

waits : (c : goal.In-Some) → Contains c.loop-number.waiting.items c.in-Some.number
waits c = subst (λ (xs : List ℕ). Contains xs c.in-Some.number) (sym c.in-Some.ensures.items) (Contains-push c.pop.new.self.items c.in-Some.number)

pub bounds-graph-number : goal.bounds-graph-number
bounds-graph-number c = waiting_below c.args.graph.now c.args.target c.loop-number.marks.items c.loop-number.waiting.items c.in-Some.number c.loop-number.invariant (waits c)

pub offset_bounds-graph-number : goal.offset_bounds-graph-number
offset_bounds-graph-number c =
    let lt : c.in-Some.number < length c.args.graph.now = waiting_below c.args.graph.now c.args.target c.loop-number.marks.items c.loop-number.waiting.items c.in-Some.number c.loop-number.invariant (waits c) in
    search rules

pub visit-requires-in-Some : goal.visit-requires-in-Some
visit-requires-in-Some c =
    let graph = c.args.graph.now in
    let lt = waiting_below graph c.args.target c.loop-number.marks.items c.loop-number.waiting.items c.in-Some.number c.loop-number.invariant (subst (λ (xs : List ℕ). Contains xs c.in-Some.number) (sym c.in-Some.ensures.items) (Contains-push c.pop.new.self.items c.in-Some.number)) in
    let count : length c.deref_mut-in-Some.result.now ≡ length graph = ap length c.deref_mut-in-Some.ensures.value ∙ c.loop-number.invariant.count in
    subst (λ (n : ℕ). All (λ (k : ℕ). k < n) c.as_slice-in-Some.result.now) (sym count)
    (edges_below graph c.in-Some.number c.index-graph-number.result c.as_slice-in-Some.result.now c.requires.within lt c.index-graph-number.is c.as_slice-in-Some.ensures)

pub loop-number-preserved : goal.loop-number-preserved
loop-number-preserved c =
    let graph = c.args.graph.now in
    let value = c.deref_mut-in-Some.ensures.value in
    let visits = c.in_ok-visit-2.ensures in
    let whole = written c.loop-number.marks.len c.visit-in-Some.new.marks c.loop-number.marks.items (visits.count ∙ ap length value) (sym c.deref_mut-in-Some.ensures.len ∙ ap length value) in
    let lt = waiting_below graph c.args.target c.loop-number.marks.items c.loop-number.waiting.items c.in-Some.number c.loop-number.invariant (subst (λ (xs : List ℕ). Contains xs c.in-Some.number) (sym c.in-Some.ensures.items) (Contains-push c.pop.new.self.items c.in-Some.number)) in
    subst (λ (marks : List Bool). Walks graph c.args.target marks c.visit-in-Some.new.waiting.items) (sym whole)
    (walk_goes_on graph c.args.target c.loop-number.marks.items c.visit-in-Some.new.marks c.loop-number.waiting.items c.pop.new.self.items c.visit-in-Some.new.waiting.items c.in-Some.number c.loop-number.invariant c.in-Some.ensures.items
    (visits_as _ _ _ _ c.visit-in-Some.new.marks _ _ c.visit-in-Some.new.waiting.items (c.as_slice-in-Some.ensures ∙ read_or_empty graph c.in-Some.number c.index-graph-number.result lt c.index-graph-number.is) value refl visits))

pub returns : goal.returns
returns c =
    let none = nil_from_length c.loop-number.waiting.items (sym c.loop-number.waiting.ok.0 ∙ c.in_default.ensures.cases.0) in
    walk_ends c.args.graph.now c.args.target c.loop-number.marks.items (subst (Walks c.args.graph.now c.args.target c.loop-number.marks.items) none c.loop-number.invariant)
