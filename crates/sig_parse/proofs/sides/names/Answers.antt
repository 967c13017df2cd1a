use Rattle.sig_parse.proofs.{IfOk-weaker, ok_since, since_refused, names_read, names_refused, names_stop}
use Rattle.sig_parse.proofs.sides.names.Goals as goal

pub returns-clause-reads : goal.returns-clause-reads
returns-clause-reads c = IfOk-weaker c.separated.result _ _ (λ all r. names_read all.items c.args.parser.now c.separated.new.parser r) c.separated.ensures.reads

pub returns-clause-stops : goal.returns-clause-stops
returns-clause-stops c = ok_since _ c.separated.result c.separated.ensures.reads (λ all r. names_stop _ r.1)

pub returns-clause-refuses : goal.returns-clause-refuses
returns-clause-refuses c = since_refused _ _ c.separated.result c.separated.ensures.refuses (λ why r. names_refused why c.args.parser.now c.separated.new.parser r)
