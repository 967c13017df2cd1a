use Rattle.sig_pace.proofs.{sym, subst, AreMaximalClocks, AreMaxima, few_need_none, many_need_paces, keeps_maximal}
use Rattle.sig_pace.proofs.needing.paced_where_needed.Goals as goal

pub returns-in_err-maxima-clause-share : goal.returns-in_err-maxima-clause-share
returns-in_err-maxima-clause-share c =
    keeps_maximal c.args.kernel.now c.args.store.now c.maximal_clocks.new.store c.in_err-maxima.field-0.0 c.in_err-maxima.ensures.share c.from_residual-in_err-maxima.result c.from_residual-in_err-maxima.ensures.1

pub returns-then-least-lt2-clause-paced : goal.returns-then-least-lt2-clause-paced
returns-then-least-lt2-clause-paced c =
    few_need_none c.args.kernel.now c.as_slice-least.result.now (subst (AreMaxima c.args.kernel.now) (sym c.as_slice-least.ensures.value) c.in_ok-maxima.ensures.value) c.if-least-lt2.true

pub with_paces-requires-clause-needs : goal.with_paces-requires-clause-needs
with_paces-requires-clause-needs c =
    many_need_paces c.args.kernel.now c.as_slice-least.result.now (subst (AreMaximalClocks c.args.kernel.now) (sym c.as_slice-least.ensures.value) c.in_ok-maxima.ensures.value.clocks) c.if-least-lt2.false
