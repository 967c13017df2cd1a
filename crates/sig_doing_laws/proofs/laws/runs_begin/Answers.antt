use Rattle.sig_doing_laws.proofs.{[], amid_alike, none_committed, opening_amid, opening_actor}
use Rattle.sig_doing_laws.proofs.laws.runs_begin.Goals as goal

pub returns-clause-committed : goal.returns-clause-committed
returns-clause-committed c = λ plan accepted flows fit. none_committed plan.kernel flows

pub returns-clause-amid : goal.returns-clause-amid
returns-clause-amid c = λ plan accepted flows fit instant reference actor alike.
    amid_alike plan flows [] instant actor (opening_actor plan.kernel) alike (opening_amid plan accepted flows instant reference)
