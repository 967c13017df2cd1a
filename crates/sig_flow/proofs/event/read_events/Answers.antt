use Rattle.sig_flow.proofs.EventLemmas.{given, refused}
use Rattle.sig_flow.proofs.event.read_events.Goals as goal

pub returns-clause-given : goal.returns-clause-given
returns-clause-given c = given (λ v. v.items) c.args.bytes.now c.events_by_line.result c.events_by_line.ensures.events c.events_by_line.ensures.fault

pub returns-clause-refused : goal.returns-clause-refused
returns-clause-refused c = refused (λ v. v.items) c.args.bytes.now c.events_by_line.result c.events_by_line.ensures.events c.events_by_line.ensures.fault
