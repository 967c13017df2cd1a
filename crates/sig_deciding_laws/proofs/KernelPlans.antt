-- An accepted kernel has a plan: a list of nodes holds its guards.
use Rattle.sig_deciding_laws.proofs.Common.{◌≡◌, ◌<◌, inl, inr, ℕ, List, [], ◌∷◌, ◌++◌, length, map, get_or, refl, sym, ◌∙◌, subst, arith, Contains, All, Some, All-contains, All-cons, All-nil, Contains-append_cases, Contains-append_left, Contains-append_right, SigId, IsClockFunction, HasClocks, AreClocks, AreInOrder, ClocksView, guard_of, signal_id, IsSignal, Holds, IsRefOf, StoreView, Node, Ref, IsValid, Kernel, HasOperations, IsAcceptedKernel, AreOperations, Guard, Operation, operation_in, operations_in, operations_of, presence_in, IsAccepted, PlanView, Op, guard_is, operations_once, at_contained, contains_at, contains_head, contains_later, contains_mapped, mapped_from, slice_get-get_or}
use Rattle.sig_deciding_laws.proofs.AcceptedOrRefused.{has_operations}
use Rattle.sig_deciding_laws.proofs.BuiltNodes.{HoldsEach, nodes_exist}
use Rattle.sig_deciding_laws.proofs.ClassGuards.{are_clocks, clocks}
use Rattle.sig_deciding_laws.proofs.ClockFunctionsOfKernel.{IsSound, Sees, all_sound, presence_of, presence_sees}
use Rattle.sig_deciding_laws.proofs.PlansOverStores.{plan_exists}
use Rattle.sig_deciding_laws.proofs.Tables.{table, table_get, table_is}

-- ---- operations whose guards are held

op_of : Operation → Ref → Op
op_of p r = record { kind = p.kind; guard = r; writes = p.writes; reads = p.reads; eq = p.equation; actor = p.cluster }

op_is : (nodes : List Node) (p : Operation) (r : Ref) → IsRefOf nodes p.guard r → operation_in nodes (op_of p r) ≡ p
unfolding op_of
op_is nodes p r is = λ j. record { kind = p.kind; guard = λ truths. is.function truths j; writes = p.writes; reads = p.reads; equation = p.equation; cluster = p.cluster }

abbrev AreMade : List Node → List Operation → List Op → Type 0
AreMade nodes operations ops = All (λ (op : Op). Holds nodes op.guard) ops × (operations_in nodes ops ≡ operations)

ops_exist : (nodes : List Node) (operations : List Operation) → ((p : Operation) → Contains operations p → (r : Ref) × IsRefOf nodes p.guard r) → (ops : List Op) × AreMade nodes operations ops
unfolding op_of
ops_exist nodes [] held = ([], (All-nil (λ (op : Op). Holds nodes op.guard), refl))
ops_exist nodes (p ∷ operations) held = at (held p (contains_head p operations)) (ops_exist nodes operations (λ q there. held q (contains_later p q operations there))) where
  at : ((r : Ref) × IsRefOf nodes p.guard r) → ((ops : List Op) × AreMade nodes operations ops) → (ops : List Op) × AreMade nodes (p ∷ operations) ops
  at r rest = (
    op_of p r.0 ∷ rest.0,
    (
      All-cons (λ (op : Op). Holds nodes op.guard) (op_of p r.0) rest.0 r.1.holds rest.1.0,
      (let first = op_is nodes p r.0 r.1 in let others = rest.1.1 in λ j. first j ∷ others j),
    ),
  )

-- ---- guards of a kernel

module _ (kernel : Kernel) (valid : IsValid kernel) (has : HasClocks kernel) (conditions : List SigId) (order : AreInOrder kernel conditions) where
  abbrev presence : ℕ → Guard
  presence s = presence_of kernel has conditions order (signal_id s)

  abbrev known : List Operation
  known = operations_of kernel (presence_of kernel has conditions order)

  abbrev of_signals : List Guard
  of_signals = table presence (length kernel.signals)

  abbrev of_operations : List Guard
  of_operations = map (λ (p : Operation). p.guard) known

  guards_see : (f : Guard) → Contains (of_signals ++ of_operations) f → Sees (length conditions) f
  guards_see f there = elim (Contains-append_cases of_signals of_operations f there) [
    | inl first ↦ subst (Sees (length conditions)) (table_is presence (length kernel.signals) first.0 f (at_contained of_signals f first)).1 (presence_sees kernel has conditions order (signal_id first.0))
    | inr second ↦ of_operation (mapped_from (λ (p : Operation). p.guard) known f second)
  ] where
    of_operation : ((p : Operation) × Contains known p × (f ≡ p.guard)) → Sees (length conditions) f
    of_operation (p, is, same) = subst (Sees (length conditions)) (sym same) (All-contains (IsSound (length conditions)) known p (all_sound kernel has conditions order) is).sees

  signal_guard : (s : ℕ) → s < length kernel.signals → Contains (of_signals ++ of_operations) (presence s)
  signal_guard s within = Contains-append_left of_signals of_operations (presence s) (contains_at of_signals s (presence s) (table_get presence (length kernel.signals) s within))

  operation_guard : (p : Operation) → Contains known p → Contains (of_signals ++ of_operations) p.guard
  operation_guard p there = Contains-append_right of_signals of_operations p.guard (contains_mapped (λ (q : Operation). q.guard) known p there)

  -- the guards of clocks give the operations
  functions_in : (nodes : List Node) (view : ClocksView) → AreClocks kernel nodes view → HasOperations kernel view.conditions (operations_of kernel (presence_in nodes view))
  functions_in nodes view are = record {
    clocks = has;
    order = are.conditions;
    presence = presence_in nodes view;
    functions = λ signal within.
        let class = get_or view.class_of signal 0 in
        let guard = get_or view.guard class (record { number = 0 }) in
        let there : guard_of view signal ≡ Some guard = slice_get-get_or view.guard class (record { number = 0 }) (are.classes signal within) in
        subst (IsClockFunction kernel view.conditions signal) (guard_is view (signal_id signal) guard there nodes) (are.functions signal guard within there);
    are = refl;
  }

  module _ (nodes : List Node) (each : HoldsEach (of_signals ++ of_operations) nodes) where
    signals_held : (s : ℕ) → IsSignal kernel s → (r : Ref) × IsRefOf nodes (presence s) r
    signals_held s within = each.held (presence s) (signal_guard s within)

    abbrev view : ClocksView
    view = clocks kernel has conditions order nodes each.reduced signals_held

    are_view : AreClocks kernel nodes view
    are_view = are_clocks kernel has conditions order nodes each.reduced signals_held

    made : (ops : List Op) × AreOperations kernel nodes view ops
    made =
        let ops = ops_exist nodes known (λ p there. each.held p.guard (operation_guard p there)) in
        let same = (operations_once kernel valid conditions conditions known (operations_of kernel (presence_in nodes view)) (has_operations kernel has conditions order) (functions_in nodes view are_view)).1 in
        (ops.0, record { held = ops.1.0; are = ops.1.1 ∙ same })

    fitting : IsAcceptedKernel kernel → (plan : PlanView) × IsAccepted plan × (plan.kernel ≡ kernel)
    fitting accepted =
        let store : StoreView = record { nodes = nodes; made_for = length nodes } in
        let plan = plan_exists kernel store view made.0 valid accepted (record { reduced = each.reduced; within = omega arith }) are_view made.1 in
        (plan.0, plan.1, plan.2)

pub accepted_plan : (kernel : Kernel) → IsValid kernel → IsAcceptedKernel kernel → (plan : PlanView) × IsAccepted plan × (plan.kernel ≡ kernel)
accepted_plan kernel valid accepted =
    let has = accepted.has.clocks in
    let order = accepted.has.order in
    let nodes = nodes_exist (length accepted.conditions) (of_signals kernel valid has accepted.conditions order ++ of_operations kernel valid has accepted.conditions order)
    (guards_see kernel valid has accepted.conditions order) in
    fitting kernel valid has accepted.conditions order nodes.0 nodes.1 accepted
