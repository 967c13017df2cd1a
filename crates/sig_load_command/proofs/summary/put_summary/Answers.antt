use Rattle.sig_load_command.proofs.{flat_map, TookPrefix-whole, flushed, summary_pieces}
use Rattle.sig_load_command.proofs.summary.put_summary.Goals as goal

pub returns-in_err-flush-clause-prefix : goal.returns-in_err-flush-clause-prefix
returns-in_err-flush-clause-prefix g c =
    TookPrefix-whole g.S.Sink.took c.args.out.now c.flush.new.self (flat_map (λ piece. piece) (summary_pieces c.args.stages c.args.instants c.args.bytes c.args.sum))
    (flushed g.S.Sink.took g.met.S.Sink.took_both (flat_map (λ piece. piece) (summary_pieces c.args.stages c.args.instants c.args.bytes c.args.sum)) c.args.out.now c.put_lines.new.out c.flush.new.self c.in_ok-put_lines.ensures.whole c.flush.ensures.bytes)

pub returns-clause-whole : goal.returns-clause-whole
returns-clause-whole g c =
    flushed g.S.Sink.took g.met.S.Sink.took_both (flat_map (λ piece. piece) (summary_pieces c.args.stages c.args.instants c.args.bytes c.args.sum)) c.args.out.now c.put_lines.new.out c.flush.new.self c.in_ok-put_lines.ensures.whole c.flush.ensures.bytes

pub returns-clause-prefix : goal.returns-clause-prefix
returns-clause-prefix g c =
    TookPrefix-whole g.S.Sink.took c.args.out.now c.flush.new.self (flat_map (λ piece. piece) (summary_pieces c.args.stages c.args.instants c.args.bytes c.args.sum))
    (flushed g.S.Sink.took g.met.S.Sink.took_both (flat_map (λ piece. piece) (summary_pieces c.args.stages c.args.instants c.args.bytes c.args.sum)) c.args.out.now c.put_lines.new.out c.flush.new.self c.in_ok-put_lines.ensures.whole c.flush.ensures.bytes)
