use Rattle.sig_type.proofs.{DefinedTwice, texts, Name, repeats, texts_more, finds_as, repeated, names_in, ap, Bor, ◌∙◌, take_all}
use Rattle.sig_type.proofs.signals.defined_twice.Goals as goal

pub loop-name-preserved : goal.loop-name-preserved
loop-name-preserved c = (
  texts_more (λ (n : Bor Name). n.now) c.args.left_sides.now c.loop-name.name-index c.name-item.result c.loop-name.earlier c.add.new.self c.name-item.is c.loop-name-test.true c.loop-name.invariant.0 (rw c.as_bytes.ensures at c.in_ok-again.ensures.added),
  repeats DefinedTwice (λ (n : Bor Name). n.now) c.args.left_sides.now c.loop-name.name-index c.name-item.result c.in_ok-again.again c.loop-name.earlier c.name-item.is c.loop-name-test.true c.loop-name.invariant.0 (rw c.as_bytes.ensures at c.in_ok-again.ensures.before) c.loop-name.invariant.1 c.ask.ensures,
)

pub returns-clause-texts : goal.returns-clause-texts
returns-clause-texts c = c.loop-name.invariant.0 ∙ ap (λ l. texts (names_in l)) (take_all _ c.args.left_sides.now c.loop-name-test.false)

pub returns-clause-twice : goal.returns-clause-twice
returns-clause-twice c = finds_as (ap (λ l. repeated DefinedTwice (names_in l)) (take_all _ c.args.left_sides.now c.loop-name-test.false)) c.loop-name.invariant.1
