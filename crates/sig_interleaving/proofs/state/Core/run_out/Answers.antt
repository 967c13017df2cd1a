use Rattle.sig_interleaving.proofs.{◌∙◌, arith, err_from_is_err_and, took_part, took_whole, leads_reached, leads_then, leads_within, accepted_on, all_rest, end_of_run, join_part, IsSameRun, HasEnded, TookPrefix}
use Rattle.sig_interleaving.proofs.state.Core.run_out.Given.{Over}
use Rattle.sig_interleaving.proofs.state.Core.run_out.Goals as goal

pub returns-in_err-k-clause-reached : goal.returns-in_err-k-clause-reached
returns-in_err-k-clause-reached g c =
    leads_reached (TookPrefix g.S.Sink.took) c.events.self c.serve.new.self c.events.sink c.serve.new.sink c.in_err-k.ensures.run c.in_err-k.ensures.part c.events.invariant.reached

pub returns-in_err-k-clause-part : goal.returns-in_err-k-clause-part
returns-in_err-k-clause-part g c =
    let p = err_from_is_err_and c.from_residual.result c.from_residual.ensures.1 in
    let same : IsSameRun c.args.self.now c.serve.new.self = c.in_err-k.ensures.run ∙ c.events.invariant.run in
    rw p.1 (took_part g.S.Sink.took c.args.self.now c.serve.new.self same c.args.sink.now c.serve.new.sink c.in_err-k.ensures.core (accepted_on c.args.self.now c.serve.new.self same c.plans_are_accepted.ensures)
    (leads_then g.S.Sink.took (TookPrefix g.S.Sink.took) (join_part g.S.Sink.took g.met.S.Sink.took_both) c.args.self.now c.events.self c.serve.new.self c.args.sink.now c.events.sink c.serve.new.sink
    c.events.invariant.run c.events.invariant.leads c.in_err-k.ensures.part))

pub returns-in_err-k-clause-led : goal.returns-in_err-k-clause-led
returns-in_err-k-clause-led g c =
    let p = err_from_is_err_and c.from_residual.result c.from_residual.ensures.1 in
    rw p.1 (leads_within (TookPrefix g.S.Sink.took) c.args.self.now c.serve.new.self c.args.sink.now c.serve.new.sink c.plans_are_accepted.ensures c.requires.reached
    (leads_then g.S.Sink.took (TookPrefix g.S.Sink.took) (join_part g.S.Sink.took g.met.S.Sink.took_both) c.args.self.now c.events.self c.serve.new.self c.args.sink.now c.events.sink c.serve.new.sink
    c.events.invariant.run c.events.invariant.leads c.in_err-k.ensures.part))

pub events-preserved : goal.events-preserved
events-preserved g c = record {
  core = c.in_ok-k.ensures.core;
  run = c.in_ok-k.ensures.run ∙ c.events.invariant.run;
  reached = leads_reached g.S.Sink.took c.events.self c.serve.new.self c.events.sink c.serve.new.sink c.in_ok-k.ensures.run c.in_ok-k.ensures.leads c.events.invariant.reached;
  leads = leads_then g.S.Sink.took g.S.Sink.took g.met.S.Sink.took_both c.args.self.now c.events.self c.serve.new.self c.args.sink.now c.events.sink c.serve.new.sink
      c.events.invariant.run c.events.invariant.leads c.in_ok-k.ensures.leads;
  within = c.in_ok-k.ensures.serves.within;
  rest = c.in_ok-k.ensures.serves.rest;
  faults = omega (arith, c.events.invariant.faults, c.in_ok-k.ensures.faults_stay);
}

module _ (g : Over) (c : goal.After-ended g) where
  pub ends : HasEnded c.events.self
  ends = all_rest c.events.self c.events.invariant.core (accepted_on c.args.self.now c.events.self c.events.invariant.run c.plans_are_accepted.ensures) c.events.invariant.reached c.events.k c.events.invariant.rest
      (let past = c.events-test.false in let len = c.len.ensures in let whole = c.events.self.states.ok.0 in omega (arith, past, len, whole))

pub returns-clause-ended : goal.returns-clause-ended
returns-clause-ended g c = ends g c

pub returns-clause-answer : goal.returns-clause-answer
returns-clause-answer g c =
    end_of_run c.args.self.now c.events.self c.events.invariant.run c.events.invariant.core (accepted_on c.args.self.now c.events.self c.events.invariant.run c.plans_are_accepted.ensures) c.events.invariant.reached
    (ends g c) c.ended.result c.ended.ensures.instants c.ended.ensures.cause

pub returns-clause-rest : goal.returns-clause-rest
returns-clause-rest g c =
    took_whole g.S.Sink.took c.args.self.now c.events.self c.events.invariant.run c.args.sink.now c.events.sink c.events.invariant.core
    (accepted_on c.args.self.now c.events.self c.events.invariant.run c.plans_are_accepted.ensures) (ends g c) c.events.invariant.leads

pub returns-clause-leads : goal.returns-clause-leads
returns-clause-leads g c =
    leads_within g.S.Sink.took c.args.self.now c.events.self c.args.sink.now c.events.sink c.plans_are_accepted.ensures c.requires.reached c.events.invariant.leads
