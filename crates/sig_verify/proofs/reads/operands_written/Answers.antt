use Rattle.sig_verify.proofs.{◌*◌, ◌^◌, length, arith, IsTired, all_of_few, one_more_few, one_more_tired, pass_on}
use Rattle.sig_verify.proofs.reads.operands_written.Goals as goal

pub returns-in_err-operand_written-clause-counted : goal.returns-in_err-operand_written-clause-counted
returns-in_err-operand_written-clause-counted c =
    one_more_few c.loop-operand.operand-index (length c.args.operands.now) (2 ^ c.args.diagrams.now.conditions) (omega arith) c.args.work.now.pairs c.loop-operand.work.pairs c.operand_written.new.work.pairs
    c.loop-operand.invariant.counted c.operand_written.ensures.counted

pub returns-in_err-operand_written-clause-refused : goal.returns-in_err-operand_written-clause-refused
returns-in_err-operand_written-clause-refused c =
    pass_on (IsTired c.args.work.now (length c.args.operands.now * 2 ^ c.args.diagrams.now.conditions)) c.from_residual.result c.in_err-operand_written.field-0.0 c.from_residual.ensures.1
    (one_more_tired c.loop-operand.operand-index (length c.args.operands.now) (2 ^ c.args.diagrams.now.conditions) (omega arith) c.args.work.now c.loop-operand.work
    c.loop-operand.invariant.counted c.in_err-operand_written.field-0.0 c.in_err-operand_written.ensures.refused)

pub returns-then-not-branch-clause-counted : goal.returns-then-not-branch-clause-counted
returns-then-not-branch-clause-counted c =
    one_more_few c.loop-operand.operand-index (length c.args.operands.now) (2 ^ c.args.diagrams.now.conditions) (omega arith) c.args.work.now.pairs c.loop-operand.work.pairs c.operand_written.new.work.pairs
    c.loop-operand.invariant.counted c.operand_written.ensures.counted

pub returns-clause-counted : goal.returns-clause-counted
returns-clause-counted c =
    all_of_few c.loop-operand.operand-index (length c.args.operands.now) (2 ^ c.args.diagrams.now.conditions) (omega arith) c.args.work.now.pairs c.loop-operand.work.pairs c.loop-operand.invariant.counted
