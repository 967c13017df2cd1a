use Rattle.sig_play_command.proofs.{err_from_is_err_and, part_actors, part_begin, part_end, part_links, part_word, whole_state, IfErr-weaker, IfOk-weaker}
use Rattle.sig_play_command.proofs.state.put_state.Goals as goal

pub returns-in_err-put_all-clause-prefix : goal.returns-in_err-put_all-clause-prefix
returns-in_err-put_all-clause-prefix g c =
    let p = err_from_is_err_and c.from_residual.result c.from_residual.ensures.1 in
    rw p.1 (part_begin g.S.Sink.took g.met.S.Sink.took_both c.args.core.now c.args.out.now c.put_all.new.sink c.in_err-put_all.ensures.prefix)

pub returns-in_err-put_actors-clause-prefix : goal.returns-in_err-put_actors-clause-prefix
returns-in_err-put_actors-clause-prefix g c =
    let p = err_from_is_err_and c.from_residual-in_err-put_actors.result c.from_residual-in_err-put_actors.ensures.1 in
    rw p.1 (part_actors g.S.Sink.took g.met.S.Sink.took_both c.args.core.now c.args.out.now c.put_all.new.sink c.in_ok-put_all.ensures.all c.put_actors.new.out c.in_err-put_actors.ensures.prefix)

pub returns-in_err-put_links-clause-prefix : goal.returns-in_err-put_links-clause-prefix
returns-in_err-put_links-clause-prefix g c =
    let p = err_from_is_err_and c.from_residual-in_err-put_links.result c.from_residual-in_err-put_links.ensures.1 in
    rw p.1 (part_links g.S.Sink.took g.met.S.Sink.took_both c.args.core.now c.args.out.now c.put_all.new.sink c.in_ok-put_all.ensures.all c.put_actors.new.out c.in_ok-put_actors.ensures.whole
    c.put_links.new.out c.in_err-put_links.ensures.prefix)

pub returns-in_err-put_word-clause-prefix : goal.returns-in_err-put_word-clause-prefix
returns-in_err-put_word-clause-prefix g c =
    let p = err_from_is_err_and c.from_residual-in_err-put_word.result c.from_residual-in_err-put_word.ensures.1 in
    rw p.1 (part_word g.S.Sink.took g.met.S.Sink.took_both c.args.core.now c.args.out.now c.put_all.new.sink c.in_ok-put_all.ensures.all c.put_actors.new.out c.in_ok-put_actors.ensures.whole
    c.put_links.new.out c.in_ok-put_links.ensures.whole c.word.result c.word.ensures c.put_word.new.out c.in_err-put_word.ensures.prefix)

pub returns-clause-whole : goal.returns-clause-whole
returns-clause-whole g c =
    IfOk-weaker c.put_all-2.result _ _
    (λ _ end. whole_state g.S.Sink.took g.met.S.Sink.took_both c.args.core.now c.args.out.now c.put_all.new.sink c.in_ok-put_all.ensures.all c.put_actors.new.out c.in_ok-put_actors.ensures.whole
    c.put_links.new.out c.in_ok-put_links.ensures.whole c.word.result c.word.ensures c.put_word.new.out c.in_ok-put_word.ensures.whole c.put_all-2.new.sink end)
    c.put_all-2.ensures.all

pub returns-clause-prefix : goal.returns-clause-prefix
returns-clause-prefix g c =
    IfErr-weaker c.put_all-2.result _ _
    (λ _ end. part_end g.S.Sink.took g.met.S.Sink.took_both c.args.core.now c.args.out.now c.put_all.new.sink c.in_ok-put_all.ensures.all c.put_actors.new.out c.in_ok-put_actors.ensures.whole
    c.put_links.new.out c.in_ok-put_links.ensures.whole c.word.result c.word.ensures c.put_word.new.out c.in_ok-put_word.ensures.whole c.put_all-2.new.sink end)
    c.put_all-2.ensures.prefix
