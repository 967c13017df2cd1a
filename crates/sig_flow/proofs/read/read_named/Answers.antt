use Rattle.sig_flow.proofs.{given, refused}
use Rattle.sig_flow.proofs.read.read_named.Goals as goal

pub returns-clause-given : goal.returns-clause-given
returns-clause-given c = given (λ v. v) c.args.inputs.now c.args.bytes.now c.flows_of_file.result c.flows_of_file.ensures.flows c.flows_of_file.ensures.fault

pub returns-clause-refused : goal.returns-clause-refused
returns-clause-refused c = refused (λ v. v) c.args.inputs.now c.args.bytes.now c.flows_of_file.result c.flows_of_file.ensures.flows c.flows_of_file.ensures.fault
