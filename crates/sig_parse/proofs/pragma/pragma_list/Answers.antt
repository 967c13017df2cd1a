use Rattle.sig_parse.proofs.{placement_of, IsPlacement, reads_each_more, reads_none, handed, covered, leads_on, leads_refuses, leads_nowhere, pragma_list_more, pragma_list_ends, pragma_list_item, InPragmaList, ContinuesNothing}
use Rattle.sig_parse.proofs.pragma.pragma_list.Goals as goal

pub loop-alloc-preserved : goal.loop-alloc-preserved
loop-alloc-preserved c = (
  reads_each_more placement_of IsPlacement c.loop-alloc.all.items _ c.in_ok-pragma.field-0 c.in_ok-push.ensures.items c.loop-alloc.invariant.0 c.in_ok-pragma.ensures.reads,
  leads_on c.loop-alloc.invariant.1 (pragma_list_more (placement_of c.in_ok-pragma.field-0) c.if-is.ensures (covered c.in_ok-pragma.ensures.reads)),
)

pub returns-then-is-clause-closes : goal.returns-then-is-clause-closes
returns-then-is-clause-closes c = λ cause stopped r. leads_refuses c.loop-alloc.invariant.1 (pragma_list_ends c.if-is.ensures cause stopped r)

pub returns-in_err-pragma-clause-refuses : goal.returns-in_err-pragma-clause-refuses
returns-in_err-pragma-clause-refuses c = handed _ _ _ c.from_residual.ensures (λ text. leads_refuses c.loop-alloc.invariant.1 (pragma_list_item c.if-is.ensures (c.in_err-pragma.ensures.refuses text)))

pub loop-alloc-init : goal.loop-alloc-init
loop-alloc-init c = (reads_none placement_of IsPlacement _ c.args.parser.now c.new-all.ensures.items, leads_nowhere InPragmaList ContinuesNothing c.args.parser.now.leaves)
