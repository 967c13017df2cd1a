use Rattle.sig_parse.proofs.{codes, expression_of, IfOk-weaker, mark, InArgumentList, closes_next, ok_since, since_refused, arguments_read, arguments_refused, arguments_end}
use Rattle.sig_parse.proofs.sides.argument_list.Goals as goal

pub returns-then-is-clause-closes : goal.returns-then-is-clause-closes
returns-then-is-clause-closes c = λ few. closes_next (InArgumentList c.args.depth c.args.parser.now.operators) (mark (codes ")")) c.if-is.ensures

pub returns-clause-reads : goal.returns-clause-reads
returns-clause-reads c = IfOk-weaker c.separated.result _ _ (λ all r. arguments_read c.args.depth expression_of all.items c.args.parser.now c.separated.new.parser r) c.separated.ensures.reads

pub returns-clause-closes : goal.returns-clause-closes
returns-clause-closes c = ok_since _ c.separated.result c.separated.ensures.reads (λ all r few. arguments_end c.args.depth expression_of all.items c.args.parser.now c.separated.new.parser few c.if-is.ensures r)

pub returns-clause-refuses : goal.returns-clause-refuses
returns-clause-refuses c = since_refused _ _ c.separated.result c.separated.ensures.refuses (λ why r few. arguments_refused c.args.depth expression_of why c.args.parser.now c.separated.new.parser few c.if-is.ensures r)
