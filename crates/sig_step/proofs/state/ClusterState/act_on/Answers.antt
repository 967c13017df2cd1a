use Rattle.sig_step.proofs.{◌∙◌, ℕ, suc, ap, arith, code_of, sym, subst, refl, runs_on, same_actor_then, steps_behind, the_last, ◌≤◌, Acted, DoesStep, instant_of}
use Rattle.sig_step.proofs.state.ClusterState.act_on.Goals as goal

pub returns-then-not-runs-clause-steps : goal.returns-then-not-runs-clause-steps
returns-then-not-runs-clause-steps g c =
    the_last g.E.Ends.past g.E.Ends.queues g.E.Ends.found_full g.E.Ends.found_empty g.E.Ends.same c.args.plan.now c.args.inputs.now c.args.more c.args.self.now c.args.self.now c.act_once.new.self c.args.ends.now c.args.ends.now c.act_once.new.ends
    c.args.steps.now c.args.steps.now c.act_once.new.steps c.act_once.result refl 0 (omega arith) (refl, refl, refl) c.act_once.ensures.does

pub go_on-left-requires-clause-code : goal.go_on-left-requires-clause-code
go_on-left-requires-clause-code g c =
    c.code-code.ensures ∙ ap (λ (k : ℕ). (code_of c.args.plan.now k).steps) (sym c.loop-left.invariant.same.actor)

pub take_step-acted-requires-clause-code : goal.take_step-acted-requires-clause-code
take_step-acted-requires-clause-code g c =
    c.code-code.ensures ∙ ap (λ (k : ℕ). (code_of c.args.plan.now k).steps) (sym (c.go_on-left.ensures.over.0.actor.actor ∙ c.loop-left.invariant.same.actor))

pub take_step-acted-requires-clause-runs : goal.take_step-acted-requires-clause-runs
take_step-acted-requires-clause-runs g c = c.go_on-left.ensures.over.0.ended ∙ c.loop-left.invariant.runs

pub take_step-acted-requires-clause-within : goal.take_step-acted-requires-clause-within
take_step-acted-requires-clause-within g c =
    let stays = c.go_on-left.ensures.over.0.instant in
    let limit = c.go_on-left.ensures.over.0.actor.limit in
    let within = c.loop-left.invariant.within in
    omega (arith, stays, limit, within)

pub returns-then-not-is_amid-clause-steps : goal.returns-then-not-is_amid-clause-steps
returns-then-not-is_amid-clause-steps g c =
    let (over, counted) = c.go_on-left.ensures.over in
    let few = c.go_on-left.ensures.few in
    let some = c.loop-left-test.true in
    let (n, is, done) = c.loop-left.invariant.done in
    let (m, sum, so_far) = steps_behind c.args.plan.now c.args.inputs.now g.E.Ends.past g.E.Ends.queues g.E.Ends.found_full g.E.Ends.found_empty g.E.Ends.same c.args.self.now c.loop-left.self c.args.ends.now c.loop-left.ends c.args.steps.now c.loop-left.steps
    (g.E.Ends.same_itself c.loop-left.ends) n done over.count c.go_on-left.new.self over.turns in
    the_last g.E.Ends.past g.E.Ends.queues g.E.Ends.found_full g.E.Ends.found_empty g.E.Ends.same c.args.plan.now c.args.inputs.now c.args.more c.args.self.now c.go_on-left.new.self c.take_step-acted.new.self c.args.ends.now c.loop-left.ends c.take_step-acted.new.ends
    c.args.steps.now c.loop-left.steps c.take_step-acted.new.steps c.take_step-acted.result (over.instant ∙ c.loop-left.invariant.here) m (omega (arith, sum, is, counted, few, some)) so_far c.take_step-acted.ensures.does

pub loop-left-preserved : goal.loop-left-preserved
loop-left-preserved g c =
    let (over, counted) = c.go_on-left.ensures.over in
    let few = c.go_on-left.ensures.few in
    let some = c.loop-left-test.true in
    let (n, sum_before, done) = c.loop-left.invariant.done in
    let (m, sum, so_far) = steps_behind c.args.plan.now c.args.inputs.now g.E.Ends.past g.E.Ends.queues g.E.Ends.found_full g.E.Ends.found_empty g.E.Ends.same c.args.self.now c.loop-left.self c.args.ends.now c.loop-left.ends c.args.steps.now c.loop-left.steps
    (g.E.Ends.same_itself c.loop-left.ends) n done over.count c.go_on-left.new.self over.turns in
    let does = c.take_step-acted.ensures.does in
    let is = c.is_amid.ensures.done c.if-not-is_amid.false in
    let stays = over.instant in
    let as_far = over.actor.limit in
    let inside = c.loop-left.invariant.within in
    let early : instant_of c.go_on-left.new.self.values ≤ c.go_on-left.new.self.limit = omega (arith, stays, as_far, inside) in
    let on = runs_on c.args.plan.now c.args.inputs.now c.go_on-left.new.self (over.ended ∙ c.loop-left.invariant.runs) early g.E.Ends.past g.E.Ends.queues c.take_step-acted.result is c.take_step-acted.new.self c.loop-left.ends c.take_step-acted.new.ends
    does.takes (c.is_amid.ensures.amid c.if-not-is_amid.false) in
    let instant = on.1 in
    let limit = does.actor.limit in
    record {
      done = (
        suc m,
        omega (arith, sum, sum_before, counted, few, some),
        (c.go_on-left.new.self, c.loop-left.ends, c.loop-left.steps, so_far, subst (λ (a : Acted). DoesStep g.E.Ends.past g.E.Ends.queues g.E.Ends.found_full g.E.Ends.found_empty g.E.Ends.same c.args.plan.now c.args.inputs.now a c.go_on-left.new.self c.take_step-acted.new.self c.loop-left.ends c.take_step-acted.new.ends c.loop-left.steps c.take_step-acted.new.steps) is does),
      );
      here = instant ∙ over.instant ∙ c.loop-left.invariant.here;
      state = does.state;
      same = same_actor_then c.args.self.now c.go_on-left.new.self c.take_step-acted.new.self (same_actor_then c.args.self.now c.loop-left.self c.go_on-left.new.self c.loop-left.invariant.same over.actor) does.actor;
      runs = on.0;
      within = omega (arith, instant, limit, early);
      pushes = c.take_step-acted.ensures.pushes ∙ c.loop-left.invariant.pushes;
      pops = c.take_step-acted.ensures.pops ∙ c.loop-left.invariant.pops;
    }

pub returns-clause-steps : goal.returns-clause-steps
returns-clause-steps g c =
    let (n, is, done) = c.loop-left.invariant.done in
    the_last g.E.Ends.past g.E.Ends.queues g.E.Ends.found_full g.E.Ends.found_empty g.E.Ends.same c.args.plan.now c.args.inputs.now c.args.more c.args.self.now c.loop-left.self c.act_once-2.new.self c.args.ends.now c.loop-left.ends c.act_once-2.new.ends
    c.args.steps.now c.loop-left.steps c.act_once-2.new.steps c.act_once-2.result c.loop-left.invariant.here n (omega (arith, is)) done c.act_once-2.ensures.does
