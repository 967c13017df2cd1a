use Rattle.sig_plan.proofs.{◌≡◌, ◌+◌, ◌*◌, ◌≤◌, ℕ, length, Ok, Err, subst, arith, writes_of, equation_more, extends_then, presence_stays, SpendsSoFar, spends_err, spends_then, spends_wider}
use Rattle.sig_plan.proofs.making.add_writes.Goals as goal

pub returns-in_err-add_writes_of-clause-spends : goal.returns-in_err-add_writes_of-clause-spends
returns-in_err-add_writes_of-clause-spends c =
    let clocks = c.args.source.now.clocks.now in
    let n = c.loop-number.number in
    let more : 2 * n + 2 ≤ 2 * length c.args.equations.now = omega arith in
    spends_wider clocks (2 * n + 2) (2 * length c.args.equations.now) c.args.store.now c.add_writes_of.new.store c.from_residual.result more
    (spends_err clocks (2 * n + 2) c.args.store.now c.add_writes_of.new.store c.in_err-add_writes_of.field-0.0 c.from_residual.result
    (spends_then clocks (2 * n) 2 c.args.store.now c.loop-number.store c.add_writes_of.new.store tt (Err c.in_err-add_writes_of.field-0.0) c.requires.held c.loop-number.invariant.spends c.in_err-add_writes_of.ensures.spends) c.from_residual.ensures.1)

pub loop-number-preserved : goal.loop-number-preserved
loop-number-preserved c =
    let clocks = c.args.source.now.clocks.now in
    let signals = c.args.source.now.signals.now in
    let n = c.loop-number.number in
    let s = c.args.store.now in
    let t = c.loop-number.store in
    let next : 2 * n + 2 ≡ 2 * (n + 1) = omega arith in
    record {
      spends = subst (λ (calls : ℕ). SpendsSoFar calls clocks s c.add_writes_of.new.store) next
          (spends_then clocks (2 * n) 2 s t c.add_writes_of.new.store tt (Ok tt) c.requires.held c.loop-number.invariant.spends c.in_ok-add_writes_of.ensures.spends);
      adds = extends_then s.nodes t.nodes c.add_writes_of.new.store.nodes clocks _ _ _ c.args.ops.now.items c.loop-number.ops.items c.add_writes_of.new.ops.items
          (presence_stays s t c.loop-number.invariant.spends.kept clocks c.requires.held) c.loop-number.invariant.adds c.in_ok-add_writes_of.ensures.adds
          (λ presence. equation_more (writes_of signals presence) c.args.equations.now n c.index-equations-number.result c.loop-number-test.true c.index-equations-number.is);
    }
