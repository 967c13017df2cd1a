use Rattle.sig_solve.proofs.{◌+◌, length, sym, ap, ◌∙◌, subst, arith, length_push, Some, IsPlace, classes_more}
use Rattle.sig_solve.proofs.classes.classes_of.Goals as goal

pub unreachable-requires : goal.unreachable-requires
unreachable-requires c =
    let found = c.requires.all c.loop-signal.signal (omega (arith, c.loop-signal-test.true, c.len-signal-end.ensures, c.args.frame.now.least.ok.0)) in
    c.in_default.ensures found.0 found.1 found.2 found.3

pub loop-signal-preserved : goal.loop-signal-preserved
loop-signal-preserved c = record {
  count = ap length c.in_ok-push.ensures.items ∙ length_push c.loop-signal.classes.items c.in-Some.place ∙ ap (λ n. n + 1) c.loop-signal.invariant.count;
  classes = classes_more c.args.frame.now c.args.guards.now c.args.firsts.now c.loop-signal.classes.items c.push.new.self.items c.in-Some.place c.in_ok-push.ensures.items c.loop-signal.invariant.classes
      (subst (λ k. IsPlace c.args.frame.now c.args.guards.now c.args.firsts.now k (Some c.in-Some.place)) (sym c.loop-signal.invariant.count) c.in-Some.ensures);
}
