use Rattle.sig_rel.proofs.{◌<◌, length, sym, ap, subst, arith, ◌∙◌, IsScheduling, Presence, planned_cut, scheduling_more}
use Rattle.sig_rel.proofs.schedules.Scheduling.cut_tops.Goals.{then-is_waiting+then-is_none+in_ok-take, else-is_waiting}
use Rattle.sig_rel.proofs.schedules.Scheduling.cut_tops.Goals as goal

pub loop-class-preserved : goal.loop-class-preserved
loop-class-preserved c =
    let kernel = c.args.kernel.now in
    let lt : c.loop-class.class < length kernel.signals = let e = ap length c.as_slice-class-end.ensures in let t = c.loop-class-test.true in omega (arith, e, t) in
    elim c.if-is_waiting.branch [
      | then-is_waiting+then-is_none+in_ok-take w ↦
          let planned = planned_cut kernel c.requires.valid c.loop-class.self c.loop-class.invariant w.cut.result (Presence c.loop-class.class) w.cut.ensures.element w.cut.ensures.equation lt (sym c.is_waiting.ensures ∙ w.if-is_waiting.true) in
          subst (IsScheduling kernel) (sym w.self-is) (scheduling_more kernel c.loop-class.self w.take.new.self w.cut.result c.loop-class.invariant planned w.in_ok-take.ensures)
      | else-is_waiting w ↦ subst (IsScheduling kernel) (sym w.self-is) c.loop-class.invariant
    ]
