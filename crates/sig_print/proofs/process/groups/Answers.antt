use Rattle.sig_print.proofs.{declared_of, group_words, then_words}
use Rattle.sig_print.proofs.process.groups.Goals as goal

pub returns-in_ok-group-in-Some : goal.returns-in_ok-group-in-Some
returns-in_ok-group-in-Some c = rw c.in-Some.ensures.cases.0 (then_words _ c.group.new.words _ _ (group_words (declared_of c.in-Some.first.now)) _
    c.in_ok-group-in-Some.ensures c.further_groups.ensures)
