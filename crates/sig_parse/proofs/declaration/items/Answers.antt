use Rattle.sig_parse.proofs.{IfOk-weaker, ok_since, since_refused, items_read, items_settled, items_refused}
use Rattle.sig_parse.proofs.declaration.items.Goals as goal

pub returns-clause-reads : goal.returns-clause-reads
returns-clause-reads c = IfOk-weaker c.separated.result _ _ (λ all r. items_read c.args.declares all.items c.args.parser.now c.separated.new.parser r) c.separated.ensures.reads

pub returns-clause-settles : goal.returns-clause-settles
returns-clause-settles c = ok_since _ c.separated.result c.separated.ensures.reads (λ all r. items_settled c.args.declares all.items c.args.parser.now c.separated.new.parser r)

pub returns-clause-refuses : goal.returns-clause-refuses
returns-clause-refuses c = since_refused _ _ c.separated.result c.separated.ensures.refuses (λ why r. items_refused c.args.declares why c.args.parser.now c.separated.new.parser r)
