use Rattle.sig_solve.proofs.{◌≡◌, ◌≤◌, ◌+◌, ◌*◌, List, length, ap, ◌∙◌, subst, arith, None, mul-le-mul_left, SigId, conditions_of, FindsPinned, by_layer, variables_of, Frame, by_fewer, conditions_in_order, leaders_fewer, pinned_at, refused_from, more_calls}
use Rattle.sig_solve.proofs.general.free_conditions.Goals as goal
use Rattle.sig_solve.proofs.general.free_conditions.Goals.{In_ok-ordered}

pub overflow_cast-last : goal.overflow_cast-last
overflow_cast-last c =
    let few = leaders_fewer c.args.asked.now.frame c.requires.asked.parts in
    let signals = c.requires.asked.valid.parts.signals in
    record { fits = omega (arith, few, signals, c.len-last.ensures, c.args.asked.now.frame.leaders.ok.0) }

pub by_layer-requires : goal.by_layer-requires
by_layer-requires c =
    let few = leaders_fewer c.args.asked.now.frame c.requires.asked.parts in
    let signals = c.requires.asked.valid.parts.signals in
    omega (arith, few, signals, c.len-last.ensures, c.args.asked.now.frame.leaders.ok.0)

-- the conditions, layer after layer
listed : (frame : Frame) (layers : List _) (conditions ordered : List SigId) (n : _) → ordered ≡ by_layer frame layers conditions n → conditions ≡ conditions_of frame.kernel.now → n ≡ length frame.leaders.items → ordered ≡ by_layer frame layers (conditions_of frame.kernel.now) (length frame.leaders.items)
listed frame layers conditions ordered n is same count = is ∙ ap (λ xs. by_layer frame layers xs n) same ∙ ap (by_layer frame layers (conditions_of frame.kernel.now)) count

ordered_is : (c : In_ok-ordered) → c.in_ok-ordered.ordered.items ≡ by_layer c.args.asked.now.frame c.args.layers.now (conditions_of c.args.asked.now.frame.kernel.now) (length c.args.asked.now.frame.leaders.items)
ordered_is c = listed c.args.asked.now.frame c.args.layers.now c.args.conditions.now c.in_ok-ordered.ordered.items c.len-last.result c.in_ok-ordered.ensures c.requires.conditions (c.len-last.ensures ∙ c.args.asked.now.frame.leaders.ok.0)

ordered_few : (c : In_ok-ordered) → length c.in_ok-ordered.ordered.items ≤ length (conditions_of c.args.asked.now.frame.kernel.now)
ordered_few c = omega (arith, ap length (ordered_is c), by_fewer c.args.asked.now.frame c.args.layers.now (conditions_of c.args.asked.now.frame.kernel.now) (length c.args.asked.now.frame.leaders.items))

pub find_pinned-requires-clause-conditions : goal.find_pinned-requires-clause-conditions
find_pinned-requires-clause-conditions c =
    conditions_in_order c.args.asked.now.frame c.requires.asked.parts c.args.layers.now c.requires.settled c.as_slice.result.now (c.as_slice.ensures.value ∙ ordered_is (goal.at.find_pinned-requires-clause-conditions c).In_ok-ordered)

pub returns-in_err-condition-clause-share : goal.returns-in_err-condition-clause-share
returns-in_err-condition-clause-share c =
    let m = 5 + 2 * c.args.asked.now.system.variables in
    let k = length (conditions_of c.args.asked.now.frame.kernel.now) in
    let few : length c.as_slice.result.now ≤ k = omega (arith, ap length c.as_slice.ensures.value, ordered_few (goal.at.returns-in_err-condition-clause-share c).In_ok-ordered) in
    refused_from (m * k) (variables_of c.args.asked.now.system) c.args.store.now c.find_pinned.new.store c.from_residual-in_err-condition.result c.in_err-condition.field-0.0 c.from_residual-in_err-condition.ensures.1
    (more_calls (m * length c.as_slice.result.now) (m * k) (variables_of c.args.asked.now.system) c.args.store.now c.find_pinned.new.store _ (mul-le-mul_left m few) c.in_err-condition.ensures.share)

pub returns-in-Some-clause-refused : goal.returns-in-Some-clause-refused
returns-in-Some-clause-refused c = pinned_at c.args.asked.now.frame c.requires.asked.parts c.args.layers.now c.as_slice.result.now c.in-Some.condition c.requires.settled c.requires.root (subst (FindsPinned c.args.asked.now.frame.kernel.now c.as_slice.result.now) c.in-Some.is c.in_ok-condition.ensures.value)

pub returns-in-Some-clause-share : goal.returns-in-Some-clause-share
returns-in-Some-clause-share c =
    let m = 5 + 2 * c.args.asked.now.system.variables in
    let k = length (conditions_of c.args.asked.now.frame.kernel.now) in
    let few : length c.as_slice.result.now ≤ k = omega (arith, ap length c.as_slice.ensures.value, ordered_few (goal.at.returns-in-Some-clause-share c).In_ok-ordered) in
    more_calls (m * length c.as_slice.result.now) (m * k) (variables_of c.args.asked.now.system) c.args.store.now c.find_pinned.new.store None (mul-le-mul_left m few) c.in_ok-condition.ensures.share

pub returns-in-None-clause-value : goal.returns-in-None-clause-value
returns-in-None-clause-value c =
    let is = (goal.at.returns-in-None-clause-value c).In_ok-ordered in
    (conditions_in_order c.args.asked.now.frame c.requires.asked.parts c.args.layers.now c.requires.settled c.in_ok-ordered.ordered.items (ordered_is is), ordered_few is, subst (FindsPinned c.args.asked.now.frame.kernel.now c.as_slice.result.now) c.in-None.is c.in_ok-condition.ensures.value)

pub returns-in-None-clause-share : goal.returns-in-None-clause-share
returns-in-None-clause-share c =
    let m = 5 + 2 * c.args.asked.now.system.variables in
    let k = length (conditions_of c.args.asked.now.frame.kernel.now) in
    let few : length c.as_slice.result.now ≤ k = omega (arith, ap length c.as_slice.ensures.value, ordered_few (goal.at.returns-in-None-clause-share c).In_ok-ordered) in
    more_calls (m * length c.as_slice.result.now) (m * k) (variables_of c.args.asked.now.system) c.args.store.now c.find_pinned.new.store None (mul-le-mul_left m few) c.in_ok-condition.ensures.share
