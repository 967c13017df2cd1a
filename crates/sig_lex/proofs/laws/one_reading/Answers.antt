use Rattle.sig_lex.proofs.{one_list, one_first_fault, list_or_fault}
use Rattle.sig_lex.proofs.laws.one_reading.Goals as goal

pub returns-clause-tokens : goal.returns-clause-tokens
returns-clause-tokens c = one_list

pub returns-clause-fault : goal.returns-clause-fault
returns-clause-fault c = one_first_fault

pub returns-clause-apart : goal.returns-clause-apart
returns-clause-apart c = list_or_fault
