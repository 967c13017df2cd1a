use Rattle.sig_exec.proofs.{chosen_by}
use Rattle.sig_exec.proofs.functions.choice.Goals as goal

pub returns-clause-value : goal.returns-clause-value
returns-clause-value c =
    chosen_by c.args.store.now c.variable.new.self c.in_ok-condition.ensures.kept c.in_ok-condition.condition c.args.high c.args.low c.requires.high c.requires.low c.args.variable c.in_ok-condition.ensures.value
    c.ite.new.self c.ite.result c.ite.ensures.value
