use Rattle.sig_clock.proofs.{◌≡◌, sym, ◌∙◌, ap, length, arith, is_condition, added_conditions, chosen_is}
use Rattle.sig_clock.proofs.conditions.condition_set.Goals as goal

pub loop-number-preserved : goal.loop-number-preserved
loop-number-preserved c =
    let count : length c.as_slice-signals.result.now ≡ length c.args.kernel.now.signals = ap length c.as_slice-signals.ensures in
    added_conditions (is_condition c.args.kernel.now) c.loop-number.number c.is_chosen-chosen.result c.loop-number.conditions.items c.add.new.conditions.items
    (chosen_is c.args.kernel.now c.as_slice-signals.result.now c.in_ok-free.free.items c.as_slice.result.now c.loop-number.number c.is_chosen-chosen.result
    c.in_ok-free.ensures (omega arith) c.as_slice-signals.ensures c.as_slice.ensures.value c.is_chosen-chosen.ensures) c.loop-number.invariant c.in_ok-add.ensures
