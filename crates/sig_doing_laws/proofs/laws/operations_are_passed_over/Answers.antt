use Rattle.sig_doing_laws.proofs.{stepped, amid_alike, passed_over}
use Rattle.sig_doing_laws.proofs.laws.operations_are_passed_over.Goals as goal

pub returns : goal.returns
returns c = λ plan accepted flows fit trace instant actor amid op stands passed next alike.
    amid_alike plan flows trace instant next (stepped actor) alike (passed_over plan accepted flows fit trace instant actor amid op stands passed)
