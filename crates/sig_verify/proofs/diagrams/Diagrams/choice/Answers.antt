use Rattle.sig_verify.proofs.{chosen, of_kept}
use Rattle.sig_verify.proofs.diagrams.Diagrams.choice.Goals as goal

pub ite-requires-clause-g : goal.ite-requires-clause-g
ite-requires-clause-g c = of_kept 1 c.args.self.now c.variable.new.self c.in_ok-condition.ensures.next c.args.high c.requires.high

pub ite-requires-clause-h : goal.ite-requires-clause-h
ite-requires-clause-h c = of_kept 1 c.args.self.now c.variable.new.self c.in_ok-condition.ensures.next c.args.low c.requires.low

pub returns-clause-value : goal.returns-clause-value
returns-clause-value c =
    chosen 1 c.args.self.now c.variable.new.self c.ite.new.self c.in_ok-condition.ensures.next c.args.v c.in_ok-condition.condition c.args.low c.args.high
    c.in_ok-condition.ensures.value c.requires.low c.requires.high c.ite.result c.ite.ensures.value
