use Rattle.sig_code.proofs.{arith, none_more, parent_found}
use Rattle.sig_code.proofs.slots.parent_of.Goals as goal

pub returns-then-branch : goal.returns-then-branch
returns-then-branch c =
    parent_found c.args.store.now.nodes c.args.slots.now c.args.guard c.loop-number.number (omega arith) (omega arith) c.loop-number.invariant (c.in_ok-within.ensures.value.0 c.if-branch.true)

pub loop-number-preserved : goal.loop-number-preserved
loop-number-preserved c =
    none_more c.args.store.now.nodes c.args.slots.now c.args.guard c.loop-number.number (omega arith) c.loop-number.invariant
    (λ implies. let holds = c.in_ok-within.ensures.value.1 implies in let fails = c.if-branch.false in cc)

pub returns : goal.returns
returns c k lt within = c.loop-number.invariant k (omega arith) lt within
