use Rattle.sig_hier.proofs.{arith, none_more, parent_found}
use Rattle.sig_hier.proofs.making.parent_of.Goals as goal

pub returns-then-branch : goal.returns-then-branch
returns-then-branch c =
    parent_found c.args.store.now.nodes c.args.guards.now c.args.class c.loop-other.other (omega arith) (omega arith) c.requires.class c.loop-other.invariant
    (c.in_ok-within.ensures.value.0 c.if-branch.true)

pub loop-other-preserved : goal.loop-other-preserved
loop-other-preserved c =
    none_more c.args.store.now.nodes c.args.guards.now c.args.class c.loop-other.other (omega arith) c.loop-other.invariant
    (λ implies. let holds = c.in_ok-within.ensures.value.1 implies in let fails = c.if-branch.false in cc)
