use Rattle.sig_type.proofs.{DeclaredTwice, Declaration, repeats, texts_more, finds_as, repeated, declaration_in, declarations_in, Declared, map, ap, sym, take, ◌≡◌, ◌∙◌, take_all, map-map}
use Rattle.sig_type.proofs.signals.declared_twice.Goals as goal

pub loop-one-preserved : goal.loop-one-preserved
loop-one-preserved c = (
  texts_more (λ (d : Declared). d.name.now) c.args.declared.now c.loop-one.one-index c.one-item.result c.loop-one.earlier c.add.new.self c.one-item.is c.loop-one-test.true c.loop-one.invariant.0 (rw c.as_bytes.ensures at c.in_ok-again.ensures.added),
  repeats DeclaredTwice (λ (d : Declared). d.name.now) c.args.declared.now c.loop-one.one-index c.one-item.result c.in_ok-again.again c.loop-one.earlier c.one-item.is c.loop-one-test.true c.loop-one.invariant.0 (rw c.as_bytes.ensures at c.in_ok-again.ensures.before) c.loop-one.invariant.1 c.ask.ensures,
)

pub returns : goal.returns
returns c =
    let names : map (λ (d : Declared). d.name.now) (take c.loop-one.one-index c.args.declared.now) ≡ map (λ (d : Declaration). d.name) (declarations_in c.args.declared.now) = ap (map (λ (d : Declared). d.name.now)) (take_all _ c.args.declared.now c.loop-one-test.false) ∙ sym (map-map (λ (d : Declaration). d.name) declaration_in c.args.declared.now) in
    finds_as (ap (repeated DeclaredTwice) names) c.loop-one.invariant.1
