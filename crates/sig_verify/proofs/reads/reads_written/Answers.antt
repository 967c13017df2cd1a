use Rattle.sig_verify.proofs.{IsWrittenWhere, fun_reads}
use Rattle.sig_verify.proofs.reads.reads_written.Goals as goal

pub returns-in-Fun-clause-value : goal.returns-in-Fun-clause-value
returns-in-Fun-clause-value c =
    fun_reads c.args.kind.now c.in-Fun.field-0 c.in-Fun.field-1 c.in-Fun.operands c.as_slice.result.now c.in-Fun.is c.as_slice.ensures
    (λ x. IsWrittenWhere c.args.diagrams.now.store.nodes c.args.written.now c.args.guard x) c.operands_written.result c.operands_written.ensures.value
