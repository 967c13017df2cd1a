use Rattle.sig_doing_laws.proofs.{stepped, amid_alike, done_behind, operated}
use Rattle.sig_doing_laws.proofs.laws.operations_are_done.Goals as goal

pub returns : goal.returns
returns c = λ plan accepted flows fit trace instant actor amid op stands ready v gives next alike.
    amid_alike plan flows trace instant next (stepped (operated plan.kernel op v actor)) alike (done_behind plan accepted flows fit trace instant actor amid op stands ready v gives)
