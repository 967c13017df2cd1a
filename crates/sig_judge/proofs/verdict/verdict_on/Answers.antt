use Rattle.sig_judge.proofs.{◌≡◌, ◌<◌, ◌≤◌, length, map, take, get_or, sym, ap, subst, ◌∙◌, arith, take_more, Instant, Trace, flat_equation_of, flat_body_of, BodySteps, Leads, BreaksAt, equation_of, without_prefix, within_body, broken_here, accepted_here}
use Rattle.sig_judge.proofs.verdict.verdict_on.Goals as goal

pub overflow_cast-result-in-Some : goal.overflow_cast-result-in-Some
overflow_cast-result-in-Some c =
    let within : c.in-Some.e < length c.args.flat.now.body.items =
    within_body flat_equation_of c.args.flat.now.body.items (take c.loop-i.i c.args.trace.now.rows.items) (map equation_of c.loop-i.body.items) c.row-item.result c.in-Some.e c.loop-i.invariant c.in-Some.ensures.some in
    let few = c.requires.equations in
    omega arith

pub overflow_add-result-in-Some : goal.overflow_add-result-in-Some
overflow_add-result-in-Some c =
    let within : c.in-Some.e < length c.args.flat.now.body.items =
    within_body flat_equation_of c.args.flat.now.body.items (take c.loop-i.i c.args.trace.now.rows.items) (map equation_of c.loop-i.body.items) c.row-item.result c.in-Some.e c.loop-i.invariant c.in-Some.ensures.some in
    let few = c.requires.equations in
    omega arith

pub returns-in-Some : goal.returns-in-Some
returns-in-Some c =
    let now : c.row-item.result ≡ get_or c.args.trace.now.rows.items c.loop-i.i c.row-item.result = c.row-item.is ∙ ap (λ (t : Trace). get_or t c.loop-i.i c.row-item.result) c.deref-row-items.ensures.value in
    let same : length c.deref-row-items.result.now ≡ length c.args.trace.now.rows.items = ap length c.deref-row-items.ensures.value in
    let lt : c.loop-i.i < length c.args.trace.now.rows.items = omega arith in
    broken_here c.traces_step.ensures.behind c.traces_step.ensures.hold c.equations_step.ensures.first c.equations_step.ensures.holds
    (flat_body_of c.args.flat.now) c.args.trace.now.rows.items c.loop-i.i c.row-item.result lt c.requires.kinds (map equation_of c.loop-i.body.items) c.loop-i.invariant c.in-Some.e
    (subst (λ (n : Instant). BreaksAt n (map equation_of c.loop-i.body.items) c.in-Some.e) now c.in-Some.ensures.some)

pub loop-i-preserved : goal.loop-i-preserved
loop-i-preserved c =
    let now : c.row-item.result ≡ get_or c.args.trace.now.rows.items c.loop-i.i c.row-item.result = c.row-item.is ∙ ap (λ (t : Trace). get_or t c.loop-i.i c.row-item.result) c.deref-row-items.ensures.value in
    let same : length c.deref-row-items.result.now ≡ length c.args.trace.now.rows.items = ap length c.deref-row-items.ensures.value in
    let lt : c.loop-i.i < length c.args.trace.now.rows.items = omega arith in
    let equations = map without_prefix (map flat_equation_of c.args.flat.now.body.items) in
    subst (λ (t : Trace). Leads equations t (map equation_of c.first_broken.new.body.items)) (sym (take_more c.args.trace.now.rows.items c.loop-i.i c.row-item.result lt))
    (c.traces_step.ensures.more equations (map equation_of c.loop-i.body.items) (map equation_of c.first_broken.new.body.items) (take c.loop-i.i c.args.trace.now.rows.items)
    (get_or c.args.trace.now.rows.items c.loop-i.i c.row-item.result) c.loop-i.invariant
    (subst (λ (n : Instant). BodySteps n (map equation_of c.loop-i.body.items) (map equation_of c.first_broken.new.body.items)) now c.in_default.ensures.none))

pub returns : goal.returns
returns c =
    let same : length c.deref-row-items.result.now ≡ length c.args.trace.now.rows.items = ap length c.deref-row-items.ensures.value in
    let le : length c.args.trace.now.rows.items ≤ c.loop-i.i = omega arith in
    accepted_here c.traces_step.ensures.hold (flat_body_of c.args.flat.now) c.args.trace.now.rows.items c.loop-i.i le c.requires.kinds (map equation_of c.loop-i.body.items) c.loop-i.invariant
