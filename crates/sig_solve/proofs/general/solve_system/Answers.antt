use Rattle.sig_solve.proofs.{◌≡◌, ◌+◌, length, sym, ap, ◌∙◌, subst, arith, IfOk, IfErr, None, HasClocks, AreClocks, conditions_of, Share, Share-then, IsUnknownCount, AreConditions, SystemView, variables_of, IsRefusalOf, IsWithin, calls_of, rest_of_share, store_refusal, Frame, conditions_by_number, refused_from, rest_within, more_calls, variables_count}
use Rattle.sig_solve.proofs.general.solve_system.Goals as goal
use Rattle.sig_solve.proofs.general.solve_system.Goals.{In_ok-asked}

pub asked_of-requires-clause-conditions : goal.asked_of-requires-clause-conditions
asked_of-requires-clause-conditions c =
    subst (λ k. AreConditions k c.args.system.conditions) (sym c.in_ok-frame.ensures.0)
    (subst (AreConditions c.args.kernel.now) (sym (c.requires.same ∙ c.requires.conditions)) (conditions_by_number c.args.kernel.now))

same_kernel : (c : In_ok-asked) → c.in_ok-asked.asked.frame.kernel.now ≡ c.args.kernel.now
same_kernel c = ap (λ (f : Frame). f.kernel.now) c.in_ok-asked.ensures.asked.0 ∙ c.in_ok-frame.ensures.0

pub returns-in_err-asked-clause-share : goal.returns-in_err-asked-clause-share
returns-in_err-asked-clause-share c u count =
    let vs = variables_of c.args.system in
    let calls = 1 + calls_of (length c.in_ok-frame.frame.leaders.items) (length (conditions_of c.in_ok-frame.frame.kernel.now)) c.args.system.variables in
    subst (λ k. IsWithin (rest_of_share k u) c.args.store.now c.asked_of.new.store c.from_residual-in_err-asked.result) c.in_ok-frame.ensures.0
    (rest_within c.in_ok-frame.frame c.in_ok-frame.ensures.1 u c.args.system.variables vs c.args.store.now c.asked_of.new.store c.from_residual-in_err-asked.result
    (subst (λ k. IsUnknownCount k u) (sym c.in_ok-frame.ensures.0) count) (variables_count c.args.system) (c.requires.system.few u count)
    (more_calls 1 calls vs c.args.store.now c.asked_of.new.store (store_refusal c.from_residual-in_err-asked.result) (omega arith)
    (refused_from 1 vs c.args.store.now c.asked_of.new.store c.from_residual-in_err-asked.result c.in_err-asked.field-0.0 c.from_residual-in_err-asked.ensures.1 c.in_err-asked.ensures.share)))

pub solve_asked-requires-clause-conditions : goal.solve_asked-requires-clause-conditions
solve_asked-requires-clause-conditions c = c.requires.conditions ∙ ap conditions_of (sym (same_kernel (goal.at.solve_asked-requires-clause-conditions c).In_ok-asked))

pub returns-clause-clocks : goal.returns-clause-clocks
returns-clause-clocks c = subst (λ k. IfOk c.solve_asked.result (λ clocks. HasClocks k × AreClocks k c.solve_asked.new.store.nodes clocks)) (same_kernel (goal.at.returns-clause-clocks c).In_ok-asked) c.solve_asked.ensures.clocks

pub returns-clause-refused : goal.returns-clause-refused
returns-clause-refused c = subst (λ k. IfErr c.solve_asked.result (IsRefusalOf k)) (same_kernel (goal.at.returns-clause-refused c).In_ok-asked) c.solve_asked.ensures.refused

pub returns-clause-share : goal.returns-clause-share
returns-clause-share c u count =
    let here = (goal.at.returns-clause-share c).In_ok-asked in
    let asked = c.in_ok-asked.asked in
    let is = c.in_ok-asked.ensures.asked.2 in
    let vs = variables_of asked.system in
    let own = subst (λ k. IsUnknownCount k u) (sym (same_kernel here)) count in
    let first : Share 1 vs c.args.store.now c.asked_of.new.store None = subst (λ (s : SystemView). Share 1 (variables_of s) c.args.store.now c.asked_of.new.store None) (sym c.in_ok-asked.ensures.asked.1) c.in_ok-asked.ensures.share in
    subst (λ k. IsWithin (rest_of_share k u) c.args.store.now c.solve_asked.new.store c.solve_asked.result) (same_kernel here)
    (rest_within asked.frame is.parts u asked.system.variables vs c.args.store.now c.solve_asked.new.store c.solve_asked.result own (variables_count asked.system) (is.is_system.few u own)
    (Share-then c.args.store.now c.asked_of.new.store c.solve_asked.new.store 1 (calls_of (length asked.frame.leaders.items) (length (conditions_of asked.frame.kernel.now)) asked.system.variables) vs (store_refusal c.solve_asked.result) first c.solve_asked.ensures.share))
