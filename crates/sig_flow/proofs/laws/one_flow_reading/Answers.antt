use Rattle.sig_flow.proofs.{refl, sym, ◌∙◌, flows_or_fault, flows_and_fault, one_place}
use Rattle.sig_flow.proofs.laws.one_flow_reading.Goals as goal

pub returns-clause-some : goal.returns-clause-some
returns-clause-some c = λ inputs bytes. flows_or_fault inputs bytes _ refl

pub returns-clause-flows : goal.returns-clause-flows
returns-clause-flows c = λ inputs bytes a b here there. here.each ∙ sym there.each

pub returns-clause-fault : goal.returns-clause-fault
returns-clause-fault c = one_place

pub returns-clause-apart : goal.returns-clause-apart
returns-clause-apart c = flows_and_fault
