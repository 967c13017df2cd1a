use Rattle.sig_tree.proofs.{Signal, operand_up_to, holds_up_to}
use Rattle.sig_tree.proofs.meaning.meaning_up_to_an_instant.Goals as goal

pub returns-clause-means : goal.returns-clause-means
returns-clause-means c = λ e t u i v same a. operand_up_to t u e i same (Signal v) a

pub returns-clause-holds : goal.returns-clause-holds
returns-clause-holds c = λ equation t u i same a. holds_up_to t u equation i same a
