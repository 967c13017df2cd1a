use Rattle.sig_parse.proofs.{codes, IfOk-weaker, mark, InConstantList, closes_next, ok_since, since_refused, constants_read, constants_refused, constants_end}
use Rattle.sig_parse.proofs.sides.constant_list.Goals as goal

pub returns-then-is-clause-closes : goal.returns-then-is-clause-closes
returns-then-is-clause-closes c = closes_next InConstantList (mark (codes "}")) c.if-is.ensures

pub returns-clause-reads : goal.returns-clause-reads
returns-clause-reads c = IfOk-weaker c.separated.result _ _ (λ all r. constants_read all.items c.args.parser.now c.separated.new.parser r) c.separated.ensures.reads

pub returns-clause-closes : goal.returns-clause-closes
returns-clause-closes c = ok_since _ c.separated.result c.separated.ensures.reads (λ all r. constants_end all.items c.args.parser.now c.separated.new.parser c.if-is.ensures r)

pub returns-clause-refuses : goal.returns-clause-refuses
returns-clause-refuses c = since_refused _ _ c.separated.result c.separated.ensures.refuses (λ why r. constants_refused why c.args.parser.now c.separated.new.parser c.if-is.ensures r)
