use Rattle.sig_flow.proofs.{refl, sym, ◌∙◌, event_judge, lines_of, events_or_fault, not_both, one_first}
use Rattle.sig_flow.proofs.laws.one_event_reading.Goals as goal

pub returns-clause-some : goal.returns-clause-some
returns-clause-some c = λ bytes. events_or_fault bytes _ refl

pub returns-clause-events : goal.returns-clause-events
returns-clause-events c = λ bytes a b here there. here.each ∙ sym there.each

pub returns-clause-fault : goal.returns-clause-fault
returns-clause-fault c = λ bytes a b here there. one_first event_judge 0 (lines_of bytes) a b here there

pub returns-clause-apart : goal.returns-clause-apart
returns-clause-apart c = λ bytes events fault are first. not_both event_judge 0 (lines_of bytes) fault are.good first
