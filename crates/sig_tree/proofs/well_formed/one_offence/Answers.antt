use Rattle.sig_tree.proofs.{all_processes, rules_of, one_first, none_first}
use Rattle.sig_tree.proofs.well_formed.one_offence.Goals as goal

-- src/well_formed.rt:9:1
pub returns-clause-one : goal.returns-clause-one
returns-clause-one c program a b = one_first (rules_of (all_processes program)) a b

-- src/well_formed.rt:9:1
pub returns-clause-apart : goal.returns-clause-apart
returns-clause-apart c program a = none_first (rules_of (all_processes program)) a
