use Rattle.sig_pace.proofs.{◌∙◌, sym, subst, None, AreConditions, conditions_by_number, AreLeaders, calls_added, keeps_refused, keeps_system}
use Rattle.sig_pace.proofs.maximal.maximal_clocks.Goals as goal

pub system-requires-clause-conditions : goal.system-requires-clause-conditions
system-requires-clause-conditions c = subst (AreConditions c.args.kernel.now) (sym (c.as_slice-conditions.ensures.value ∙ c.in_ok-conditions.ensures)) (conditions_by_number c.args.kernel.now)

pub returns-in_err-system-clause-share : goal.returns-in_err-system-clause-share
returns-in_err-system-clause-share c =
    keeps_system c.args.kernel.now c.args.store.now c.system.new.store c.in_err-system.field-0.0 c.in_err-system.ensures.share c.from_residual-in_err-system.result c.from_residual-in_err-system.ensures.1

pub returns-in_err-maxima-clause-share : goal.returns-in_err-maxima-clause-share
returns-in_err-maxima-clause-share c =
    keeps_refused c.args.kernel.now c.as_slice-leaders.result.now (subst (AreLeaders c.args.kernel.now) (sym c.as_slice-leaders.ensures.value) c.in_ok-leaders.ensures)
    c.in_ok-system.system c.in_ok-system.ensures.system.few c.args.store.now c.system.new.store c.maxima_of.new.store c.in_ok-system.ensures.share.added
    c.in_err-maxima.field-0.0 c.in_err-maxima.ensures.share c.from_residual-in_err-maxima.result c.from_residual-in_err-maxima.ensures.1

pub returns-clause-share : goal.returns-clause-share
returns-clause-share c = record {
  added = calls_added c.args.kernel.now c.as_slice-leaders.result.now (subst (AreLeaders c.args.kernel.now) (sym c.as_slice-leaders.ensures.value) c.in_ok-leaders.ensures)
      c.in_ok-system.system c.in_ok-system.ensures.system.few c.args.store.now c.system.new.store c.maxima_of.new.store c.in_ok-system.ensures.share.added None c.in_ok-maxima.ensures.share;
  refused = λ u count. tt;
}
