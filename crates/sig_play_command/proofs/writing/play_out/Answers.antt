use Rattle.sig_play_command.proofs.{◌∙◌, ap, map, Given, err_from_is_err_and, happens, end_of_play, part_events, part_flush, part_rest, part_state, whole_play}
use Rattle.sig_play_command.proofs.writing.play_out.Goals as goal

pub returns-in_err-play_events-clause-prefix : goal.returns-in_err-play_events-clause-prefix
returns-in_err-play_events-clause-prefix g c =
    let p = err_from_is_err_and c.from_residual.result c.from_residual.ensures.1 in
    rw p.1 (part_events g.S.Sink.took g.met.S.Sink.took_both c.args.play.now.core c.requires.opening (map happens c.args.events.now) c.args.out.now c.play_events.new.out c.in_err-play_events.ensures.part)

pub returns-in_err-put_state-clause-prefix : goal.returns-in_err-put_state-clause-prefix
returns-in_err-put_state-clause-prefix g c =
    let p = err_from_is_err_and c.from_residual-in_err-put_state.result c.from_residual-in_err-put_state.ensures.1 in
    rw p.1 (part_state g.S.Sink.took g.met.S.Sink.took_both c.args.play.now.core c.requires.opening (map happens c.args.events.now) c.play_events.new.core c.in_ok-play_events.ensures.run
    c.args.out.now c.play_events.new.out c.in_ok-play_events.ensures.happened c.put_state.new.out c.in_err-put_state.ensures.prefix)

pub write_rest-requires : goal.write_rest-requires
write_rest-requires g c =
    let same = c.in_ok-play_events.ensures.run in
    record {
      core = c.in_ok-play_events.ensures.core;
      plan = ap (λ (given : Given). given.plan) same ∙ c.requires.play.plan;
      flows = ap (λ (given : Given). given.flows) same ∙ c.requires.play.flows;
      limit = ap (λ (given : Given). given.limit) same ∙ c.requires.play.limit;
      ready = c.requires.play.ready;
    }

pub returns-in_err-end-clause-prefix : goal.returns-in_err-end-clause-prefix
returns-in_err-end-clause-prefix g c =
    let p = err_from_is_err_and c.from_residual-in_err-end.result c.from_residual-in_err-end.ensures.1 in
    rw p.1 (part_rest g.S.Sink.took g.met.S.Sink.took_both c.args.play.now.core c.requires.opening (map happens c.args.events.now) c.play_events.new.core c.in_ok-play_events.ensures.run
    c.args.out.now c.play_events.new.out c.in_ok-play_events.ensures.happened c.put_state.new.out c.in_ok-put_state.ensures.whole c.write_rest.new.out c.in_err-end.ensures.part)

pub returns-in_err-flush-clause-prefix : goal.returns-in_err-flush-clause-prefix
returns-in_err-flush-clause-prefix g c =
    let p = err_from_is_err_and c.from_residual-in_err-flush.result c.from_residual-in_err-flush.ensures.1 in
    rw p.1 (part_flush g.S.Sink.took g.met.S.Sink.took_both c.args.play.now.core c.requires.opening (map happens c.args.events.now) c.play_events.new.core c.in_ok-play_events.ensures.run
    c.args.out.now c.play_events.new.out c.in_ok-play_events.ensures.happened c.put_state.new.out c.in_ok-put_state.ensures.whole c.write_rest.new.out c.flush.new.self c.in_ok-end.ensures.rest c.flush.ensures.bytes)

pub returns-clause-whole : goal.returns-clause-whole
returns-clause-whole g c =
    whole_play g.S.Sink.took g.met.S.Sink.took_both c.args.play.now.core c.requires.opening (map happens c.args.events.now) c.play_events.new.core c.in_ok-play_events.ensures.run
    c.args.out.now c.play_events.new.out c.in_ok-play_events.ensures.happened c.put_state.new.out c.in_ok-put_state.ensures.whole c.write_rest.new.out c.flush.new.self c.in_ok-end.ensures.rest c.flush.ensures.bytes

pub returns-clause-end : goal.returns-clause-end
returns-clause-end g c =
    end_of_play g.S.Sink.took g.met.S.Sink.took_both c.args.play.now.core c.requires.opening (map happens c.args.events.now) c.play_events.new.core c.in_ok-play_events.ensures.run
    c.args.out.now c.play_events.new.out c.in_ok-play_events.ensures.happened c.in_ok-end.end c.in_ok-end.ensures.answer
