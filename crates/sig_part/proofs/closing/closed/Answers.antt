use Rattle.sig_part.proofs.{◌∙◌, [], Bool, List, sym, ap, subst, length, refl, Contains, get_or_read, nil_from_length, Contains-push, SigId, AreClosed, Walks, is_elsewhere, visits_as, waiting_below, walk_begins, walk_ends, walk_goes_on, written}
use Rattle.sig_part.proofs.closing.closed.Goals as goal

pub loop-x-init : goal.loop-x-init
loop-x-init c =
    let p = is_elsewhere c.args.signals.now c.args.actor in
    let needed = c.args.needed.now in
    let value = c.deref_mut.ensures.value in
    let visits = c.in_ok-visit.ensures in
    let whole = written c.in_ok-marks.marks.len c.visit.new.marks c.in_ok-marks.marks.items (visits.count ∙ ap length value) (sym c.deref_mut.ensures.len ∙ ap length value) in
    subst (λ (marks : List Bool). Walks p needed c.args.seeds.now marks c.visit.new.waiting.items) (sym whole)
    (walk_begins p needed c.args.seeds.now (length c.args.signals.now) c.visit.new.marks c.visit.new.waiting.items (sym c.requires)
    (visits_as p _ _ _ _ c.visit.new.marks _ _ c.visit.new.waiting.items refl (value ∙ c.in_ok-marks.ensures) c.new-waiting.ensures.items visits))

pub bounds-needed-x : goal.bounds-needed-x
bounds-needed-x c =
    let there : Contains c.loop-x.waiting.items c.in-Some.x = subst (λ (xs : List SigId). Contains xs c.in-Some.x) (sym c.in-Some.ensures.items) (Contains-push c.pop.new.self.items c.in-Some.x) in
    waiting_below (is_elsewhere c.args.signals.now c.args.actor) c.args.needed.now c.args.seeds.now c.loop-x.marks.items c.loop-x.waiting.items c.in-Some.x c.loop-x.invariant there

pub loop-x-preserved : goal.loop-x-preserved
loop-x-preserved c =
    let p = is_elsewhere c.args.signals.now c.args.actor in
    let needed = c.args.needed.now in
    let x = c.in-Some.x in
    let value = c.deref_mut-in-Some.ensures.value in
    let visits = c.in_ok-visit-2.ensures in
    let whole = written c.loop-x.marks.len c.visit-in-Some.new.marks c.loop-x.marks.items (visits.count ∙ ap length value) (sym c.deref_mut-in-Some.ensures.len ∙ ap length value) in
    let there : Contains c.loop-x.waiting.items x = subst (λ (xs : List SigId). Contains xs x) (sym c.in-Some.ensures.items) (Contains-push c.pop.new.self.items x) in
    let lt = waiting_below p needed c.args.seeds.now c.loop-x.marks.items c.loop-x.waiting.items x c.loop-x.invariant there in
    subst (λ (marks : List Bool). Walks p needed c.args.seeds.now marks c.visit-in-Some.new.waiting.items) (sym whole)
    (walk_goes_on p needed c.args.seeds.now c.loop-x.marks.items c.visit-in-Some.new.marks c.loop-x.waiting.items c.pop.new.self.items c.visit-in-Some.new.waiting.items x c.loop-x.invariant c.in-Some.ensures.items
    (visits_as p _ _ _ _ c.visit-in-Some.new.marks _ _ c.visit-in-Some.new.waiting.items (c.as_slice-conditions.ensures ∙ get_or_read needed x.0 c.index-needed-x.result lt c.index-needed-x.is []) value refl visits))

pub returns : goal.returns
returns c =
    let p = is_elsewhere c.args.signals.now c.args.actor in
    let none = nil_from_length c.loop-x.waiting.items (sym c.loop-x.waiting.ok.0 ∙ c.in_default.ensures.cases.0) in
    subst (AreClosed p c.args.needed.now c.args.seeds.now) (sym c.from.ensures) (walk_ends p c.args.needed.now c.args.seeds.now c.loop-x.marks.items (subst (Walks p c.args.needed.now c.args.seeds.now c.loop-x.marks.items) none c.loop-x.invariant))
