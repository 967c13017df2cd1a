use Rattle.sig_flow.proofs.{value_judge, first_from_some, good_from_none, none_from_good, some_from_first}
use Rattle.sig_flow.proofs.laws.first_wrong_word.Goals as goal

pub returns-clause-fault : goal.returns-clause-fault
returns-clause-fault c = λ version kind number before words fault. (
  first_from_some (value_judge version kind number) before words fault,
  some_from_first (value_judge version kind number) before words fault,
)

pub returns-clause-good : goal.returns-clause-good
returns-clause-good c = λ version kind number before words. (
  good_from_none (value_judge version kind number) before words,
  none_from_good (value_judge version kind number) before words,
)
