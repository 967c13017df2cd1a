use Rattle.sig_parse.proofs.{group_of, handed, covered, group_from_kind, group_from_items, group_settled}
use Rattle.sig_parse.proofs.declaration.group.Goals as goal

pub returns-clause-reads : goal.returns-clause-reads
returns-clause-reads c = group_of c.args.declares c.in_ok-kind.kind c.in_ok-items.items.items c.in_ok-kind._at c.in_ok-kind.ensures.no_event c.in_ok-kind.ensures.reads c.in_ok-items.ensures.reads

pub returns-in_err-kind-clause-refuses : goal.returns-in_err-kind-clause-refuses
returns-in_err-kind-clause-refuses c = handed _ _ _ c.from_residual.ensures (λ text. group_from_kind c.args.declares (c.in_err-kind.ensures.refuses text))

pub returns-in_err-items-clause-refuses : goal.returns-in_err-items-clause-refuses
returns-in_err-items-clause-refuses c = handed _ _ _ c.from_residual-in_err-items.ensures (λ text. group_from_items c.args.declares c.in_ok-kind.kind c.in_ok-kind._at c.in_ok-kind.ensures.no_event (covered c.in_ok-kind.ensures.reads) (c.in_err-items.ensures.refuses text))

pub returns-clause-settles : goal.returns-clause-settles
returns-clause-settles c = group_settled c.args.declares c.in_ok-kind.kind c.in_ok-kind._at c.in_ok-kind.ensures.no_event (covered c.in_ok-kind.ensures.reads) c.in_ok-items.ensures.settles
