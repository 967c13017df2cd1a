use Rattle.sig_tree.proofs.{all_processes, decided_rules, none_or_first, rules_of}
use Rattle.sig_tree.proofs.well_formed.some_offence.Goals as goal

-- src/well_formed.rt:15:1
pub returns : goal.returns
returns c program = none_or_first (rules_of (all_processes program)) (decided_rules (all_processes program))
