-- Accepted plans are compiled.
use Rattle.sig_meaning_laws.proofs.Common.{◌≡◌, ℕ, List, [], ◌∷◌, refl, sym, subst, ◌∙◌, get_or, Some, slice_get, zero, suc, Depends, Holds, test, Node, depends_agree, plan_operations, Operation, operation_in, operations_in, IsAccepted, PlanView, numbers_of, Op, slice_get-get_or, slice_get_within}
use Rattle.sig_meaning_laws.proofs.Agreement.{Compiled}

made_of : (nodes : List Node) (ops : List Op) (number : ℕ) (p : Operation) → slice_get (operations_in nodes ops) number ≡ Some p
    → (op : Op) × (slice_get ops number ≡ Some op) × (p ≡ operation_in nodes op)
made_of nodes [] number p is = absurd (let e = is in cc)
made_of nodes (op ∷ ops) zero p is = (op, refl, let e : Some (operation_in nodes op) ≡ Some p = is in cc)
made_of nodes (op ∷ ops) (suc number) p is = made_of nodes ops number p is

pub compiled : (plan : PlanView) → IsAccepted plan → Compiled plan.kernel plan.clocks.conditions (operations_in plan.store.nodes plan.ops) (numbers_of plan.order)
compiled plan accepted = record {
  valid = accepted.valid;
  has = plan_operations plan accepted;
  ordered = accepted.order;
  agree = λ number p is truths others same.
      let from = made_of plan.store.nodes plan.ops number p is in
      let lt = slice_get_within plan.ops number from.0 from.1 in
      let at : get_or plan.ops number from.0 ≡ from.0 = (let e : Some (get_or plan.ops number from.0) ≡ Some from.0 = sym (slice_get-get_or plan.ops number from.0 lt) ∙ from.1 in cc) in
      let held : Holds plan.store.nodes from.0.guard = subst (λ (op : Op). Holds plan.store.nodes op.guard) at (accepted.operations.held number from.0 lt) in
      let agree : test plan.store.nodes from.0.guard truths ≡ test plan.store.nodes from.0.guard others =
      depends_agree plan.store accepted.store from.0.guard held truths others
      (λ v depends. same v (subst (λ (q : Operation). Depends q.guard v) (sym from.2) depends)) in
      subst (λ (q : Operation). q.guard truths ≡ q.guard others) (sym from.2) agree;
}
