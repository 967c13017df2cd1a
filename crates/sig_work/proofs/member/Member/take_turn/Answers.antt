use Rattle.sig_work.proofs.{◌≡◌, ◌∙◌, ◌<◌, ◌^◌, arith, ap, rules, err_from_is_err_and, TookPrefix, keeps_then, acted_keeps, commits, ends_at_limit, fails, goes_on, place_below, refused, rests, run_of, Member}
use Rattle.sig_work.proofs.member.Member.take_turn.Goals as goal

-- the step noted nothing
noted : (old new : Member) → new ≡ record old { state = new.state; ends = new.ends } → new.ending ≡ old.ending
noted old new is = ap (λ (m : Member). m.ending) is

pub returns-in_err-put_reaction-in-Commit-clause-part : goal.returns-in_err-put_reaction-in-Commit-clause-part
returns-in_err-put_reaction-in-Commit-clause-part g c =
    let p = err_from_is_err_and c.from_residual.result c.from_residual.ensures.1 in
    rw p.1 (commits (TookPrefix g.S.Sink.took) c.args.plan.now c.args.inputs.now c.args.halt.now c.args.self.now c.act.new.self c.args.seat.now c.requires.runs (noted c.args.self.now c.act.new.self c.act.ensures.rest)
    c.put_reaction.new.self c.put_reaction.ensures.lines c.args.sink.now c.put_reaction.new.sink c.in_err-put_reaction-in-Commit.ensures.prefix c.in-Commit.ensures.done)

pub fail-requires-clause-place : goal.fail-requires-clause-place
fail-requires-clause-place g c =
    let fits : c.in-Failed.place.pos < 2 ^ 32 = search rules in
    let below = place_below g.S.Sink.took c.args.plan.now c.args.inputs.now c.args.halt.now c.args.self.now c.act.new.self c.args.seat.now c.requires.runs (noted c.args.self.now c.act.new.self c.act.ensures.rest) c.in-Failed.place fits
    c.in-Failed.ensures.done c.requires.run.0 c.requires.run.1 c.requires.run.2 c.requires.run.3 c.requires.run.4 in
    λ e. omega (arith, below, e)

pub returns-in-Done-clause-serves : goal.returns-in-Done-clause-serves
returns-in-Done-clause-serves g c =
    goes_on g.S.Sink.took c.args.plan.now c.args.inputs.now c.args.halt.now c.args.self.now c.act.new.self c.args.seat.now c.requires.runs (noted c.args.self.now c.act.new.self c.act.ensures.rest)
    c.args.sink.now (g.met.S.Sink.took_nothing c.args.sink.now) c.in-Done.ensures.done

pub returns-in_ok-put_reaction-in-Commit-clause-serves : goal.returns-in_ok-put_reaction-in-Commit-clause-serves
returns-in_ok-put_reaction-in-Commit-clause-serves g c =
    commits g.S.Sink.took c.args.plan.now c.args.inputs.now c.args.halt.now c.args.self.now c.act.new.self c.args.seat.now c.requires.runs (noted c.args.self.now c.act.new.self c.act.ensures.rest)
    c.put_reaction.new.self c.put_reaction.ensures.lines c.args.sink.now c.put_reaction.new.sink c.in_ok-put_reaction-in-Commit.ensures.all c.in-Commit.ensures.done

pub returns-in-Empty-clause-keeps : goal.returns-in-Empty-clause-keeps
returns-in-Empty-clause-keeps g c =
    keeps_then c.args.self.now c.act.new.self c.rest.new.self (acted_keeps c.args.self.now c.act.new.self c.requires.runs c.act.ensures.same (noted c.args.self.now c.act.new.self c.act.ensures.rest)) c.rest.ensures.keeps

pub returns-in-Empty-clause-serves : goal.returns-in-Empty-clause-serves
returns-in-Empty-clause-serves g c =
    rests g.S.Sink.took c.args.plan.now c.args.inputs.now c.args.halt.now c.args.self.now c.act.new.self c.args.seat.now c.requires.runs (noted c.args.self.now c.act.new.self c.act.ensures.rest)
    c.args.sink.now (g.met.S.Sink.took_nothing c.args.sink.now) (λ capacity limit committed is.
    refused (run_of c.args.plan.now c.args.inputs.now capacity limit) committed c.act.result c.act.new.self c.in-Empty.is (c.act.ensures.done capacity limit committed is)) c.rest.new.self c.rest.new.seat c.rest.ensures.served

pub returns-in-Failed-clause-ended : goal.returns-in-Failed-clause-ended
returns-in-Failed-clause-ended g c = λ answer.
    let done = c.in-Failed.ensures.done c.requires.run.0 c.requires.run.1 c.requires.run.3 c.requires.run.4.done in
    ap (λ (m : Member). m.state.ended) c.fail.ensures.member ∙ done.0.member.ending

pub returns-in-Failed-clause-serves : goal.returns-in-Failed-clause-serves
returns-in-Failed-clause-serves g c =
    let fits : c.in-Failed.place.pos < 2 ^ 32 = search rules in
    fails g.S.Sink.took c.args.plan.now c.args.inputs.now c.args.halt.now c.args.self.now c.act.new.self c.args.seat.now c.requires.runs (noted c.args.self.now c.act.new.self c.act.ensures.rest) c.in-Failed.place fits
    c.in-Failed.ensures.done c.args.sink.now (g.met.S.Sink.took_nothing c.args.sink.now) c.fail.new.self c.fail.new.seat c.fail.ensures.member c.fail.ensures.seat c.fail.ensures.least

pub returns-in-AtLimit-clause-ended : goal.returns-in-AtLimit-clause-ended
returns-in-AtLimit-clause-ended g c = λ answer.
    (c.in-AtLimit.ensures.done c.requires.run.0 c.requires.run.1 c.requires.run.3 c.requires.run.4.done).member.ending

pub returns-in-AtLimit-clause-serves : goal.returns-in-AtLimit-clause-serves
returns-in-AtLimit-clause-serves g c =
    ends_at_limit g.S.Sink.took c.args.plan.now c.args.inputs.now c.args.halt.now c.args.self.now c.act.new.self c.args.seat.now c.requires.runs (noted c.args.self.now c.act.new.self c.act.ensures.rest)
    c.args.sink.now (g.met.S.Sink.took_nothing c.args.sink.now) c.in-AtLimit.ensures.done

pub returns-in-Stopped-clause-ended : goal.returns-in-Stopped-clause-ended
returns-in-Stopped-clause-ended g c = λ answer.
    (c.in-Stopped.ensures.done c.requires.run.0 c.requires.run.1 c.requires.run.3 c.requires.run.4.done).1

pub returns-in-Stopped-clause-serves : goal.returns-in-Stopped-clause-serves
returns-in-Stopped-clause-serves g c =
    goes_on g.S.Sink.took c.args.plan.now c.args.inputs.now c.args.halt.now c.args.self.now c.act.new.self c.args.seat.now c.requires.runs (noted c.args.self.now c.act.new.self c.act.ensures.rest)
    c.args.sink.now (g.met.S.Sink.took_nothing c.args.sink.now) (λ capacity limit committed is. (c.in-Stopped.ensures.done capacity limit committed is).0)
