use Rattle.sig_tree.proofs.{spine_of, of_spine, operand_once}
use Rattle.sig_tree.proofs.laws.spine.Goals as goal

pub returns-clause-reads : goal.returns-clause-reads
returns-clause-reads c = spine_of

pub returns-clause-stands : goal.returns-clause-stands
returns-clause-stands c = of_spine

pub returns-clause-operand : goal.returns-clause-operand
returns-clause-operand c = operand_once
