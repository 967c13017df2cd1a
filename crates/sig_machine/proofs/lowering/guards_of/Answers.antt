use Rattle.sig_machine.proofs.{◌+◌, ◌∷◌, [], ◌∙◌, ap, sym, subst, length, length-append, ℕ, StandsAt, AreFirstGuards, one_more_guard}
use Rattle.sig_machine.proofs.lowering.guards_of.Goals as goal

pub loop-place-preserved : goal.loop-place-preserved
loop-place-preserved c =
    let plan = c.args.plan.now in
    let guards = c.loop-place.guards.items in
    let op = c.op_at.result.now in
    let stands = subst (λ (n : ℕ). StandsAt plan n op) (sym c.loop-place.invariant.count) c.op_at.ensures.op in
    record {
      count = ap length c.in_ok-push.ensures.items ∙ length-append guards (op.guard ∷ []) ∙ ap (λ (n : ℕ). n + 1) c.loop-place.invariant.count;
      each = subst (AreFirstGuards plan) (sym c.in_ok-push.ensures.items) (one_more_guard plan guards op c.loop-place.invariant.each stands);
    }
