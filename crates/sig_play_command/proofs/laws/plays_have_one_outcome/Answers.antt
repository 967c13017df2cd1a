use Rattle.sig_play_command.proofs.{any_outcome, one_play_outcome, some_outcome}
use Rattle.sig_play_command.proofs.laws.plays_have_one_outcome.Goals as goal

pub returns-clause-every : goal.returns-clause-every
returns-clause-every c = any_outcome c.programs_have_a_verdict.ensures

pub returns-clause-some : goal.returns-clause-some
returns-clause-some c = some_outcome

pub returns-clause-one : goal.returns-clause-one
returns-clause-one c = λ held program flows events settings. one_play_outcome program flows events settings held
