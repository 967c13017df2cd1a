use Rattle.sig_judge.proofs.{given, refused}
use Rattle.sig_judge.proofs.read.read_trace.Goals as goal

pub returns-clause-given : goal.returns-clause-given
returns-clause-given c = given (λ v. v.rows.items) c.args.flat.now.signals.items c.args.bytes.now c.trace_of.result (rw c.deref.ensures.value at c.trace_of.ensures.trace) (rw c.deref.ensures.value at c.trace_of.ensures.fault)

pub returns-clause-refused : goal.returns-clause-refused
returns-clause-refused c = refused (λ v. v.rows.items) c.args.flat.now.signals.items c.args.bytes.now c.trace_of.result (rw c.deref.ensures.value at c.trace_of.ensures.trace) (rw c.deref.ensures.value at c.trace_of.ensures.fault)
