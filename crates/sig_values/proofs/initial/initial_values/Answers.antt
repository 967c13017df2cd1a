use Rattle.sig_values.proofs.{◌≡◌, ◌∙◌, ◌-◌, ap, arith, refl, drop, length, [], pos, drop-length, length-replicate, initial_in, memories_in, none_met, one_met, target_is_within}
use Rattle.sig_values.proofs.initial.initial_values.Goals as goal

pub put_initial-requires : goal.put_initial-requires
put_initial-requires c =
    target_is_within c.args.signals (length c.loop-done.values.items) _ c.args.equations.now c.index-equations-equations.result c.requires (omega arith)
    c.loop-done.invariant.count

pub loop-done-init : goal.loop-done-init
loop-done-init c = record {
  count = ap length c.in_ok-values.ensures ∙ length-replicate c.args.signals (pos 0);
  initial =
      let all : length c.args.equations.now - 0 ≡ length c.args.equations.now = omega arith in
      let none : drop (length c.args.equations.now - 0) c.args.equations.now ≡ [] = ap (λ n. drop n c.args.equations.now) all ∙ drop-length c.args.equations.now in
      ap memories_in c.in_ok-values.ensures ∙ none_met c.args.signals (drop (length c.args.equations.now - 0) c.args.equations.now) none;
}

pub loop-done-preserved : goal.loop-done-preserved
loop-done-preserved c = record {
  count = c.put_initial.ensures.length ∙ c.loop-done.invariant.count;
  initial = one_met c.args.equations.now c.loop-done.done _ c.index-equations-equations.result c.loop-done.values.items c.put_initial.new.values.items c.loop-done-test.true refl
      c.loop-done.invariant.initial c.put_initial.ensures.initial;
}

pub returns : goal.returns
returns c = record {
  length = c.loop-done.invariant.count;
  initial =
      let none : length c.args.equations.now - c.loop-done.done ≡ 0 = omega (arith, c.loop-done-test.false) in
      c.loop-done.invariant.initial ∙ ap (λ n. initial_in (drop n c.args.equations.now)) none;
}
