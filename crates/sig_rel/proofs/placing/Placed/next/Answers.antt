use Rattle.std.proofs.Common.{below_more}
use Rattle.sig_rel.proofs.{◌≡◌, ◌∙◌, ◌<◌, ◌*◌, ℕ, List, false, length, sym, ap, arith, Signal, numbered_element, is_stuck, may_take, step_by}
use Rattle.sig_rel.proofs.placing.Placed.next.Goals as goal

pub loop-place-preserved : goal.loop-place-preserved
loop-place-preserved c =
    let kernel = c.args.kernel.now in
    let rules = c.args.rules.now in
    let placed = c.args.self.now in
    let least = rules.least.items in
    let step = c.tabled_step-step.ensures ∙ ap (λ (signals : List Signal). step_by rules (numbered_element (length signals) c.loop-place.place)) c.as_slice-count.ensures in
    let none = sym (ap (λ (ls : List ℕ). may_take kernel ls placed c.tabled_step-step.result) c.as_slice.ensures.value ∙ ap (may_take kernel least placed) step) ∙ sym c.may_take.ensures ∙ c.if-may_take.false in
    below_more (λ place. may_take kernel least placed (step_by rules (numbered_element (length kernel.signals) place)) ≡ false) c.loop-place.place c.loop-place.invariant none

pub returns : goal.returns
returns c =
    is_stuck c.args.kernel.now c.args.rules.now c.args.self.now (λ place lt.
    c.loop-place.invariant place (let all = c.loop-place-test.false in let long = ap length c.as_slice-count.ensures in let l : place < 2 * length c.args.kernel.now.signals = lt in omega (arith, all, long, l)))
