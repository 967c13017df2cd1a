use Rattle.sig_clock.proofs.{add-one, enters_stays, one_layer}
use Rattle.sig_clock.proofs.laws.signals_have_one_layer.Goals as goal

pub returns-clause-stays : goal.returns-clause-stays
returns-clause-stays c = λ kernel signal round enters. rw add-one (enters_stays kernel signal round enters)

pub returns-clause-one : goal.returns-clause-one
returns-clause-one c = one_layer
