use Rattle.sig_doing_laws.proofs.{instant_behind, ◌++◌, ◌∷◌, [], amid_alike, committed_more, lines_are, next_amid, text_is}
use Rattle.sig_doing_laws.proofs.laws.instants_are_committed.Goals as goal

pub returns-clause-committed : goal.returns-clause-committed
returns-clause-committed c = committed_more

pub returns-clause-lines : goal.returns-clause-lines
returns-clause-lines c = lines_are

pub returns-clause-text : goal.returns-clause-text
returns-clause-text c = text_is

pub returns-clause-amid : goal.returns-clause-amid
returns-clause-amid c = λ plan accepted flows fit trace instant actor amid last other further next alike.
    amid_alike plan flows (trace ++ instant ∷ []) other next (instant_behind actor) alike (next_amid plan accepted flows fit trace instant actor amid last other further)
