-- An accepted kernel has a plan over each store that holds the guards of its operations.
use Rattle.sig_deciding_laws.proofs.Common.{◌≡◌, ℕ, List, [], ◌∷◌, length, map, refl, sym, ap, subst, All, Some, slice_get, All-contains, SigId, AreClocks, ClocksView, Holds, IsRefOf, IsStore, StoreView, Node, Ref, IsValid, Kernel, HasOperations, IsAcceptedKernel, op_id, AreOperations, Operation, operation_in, operations_in, operations_of, HasNoCycle, IsCompiledOrder, Precedes, AreParts, IsAccepted, PlanView, numbers_of, Op, operations_made_are, operations_once, contains_at, map_get}
use Rattle.sig_deciding_laws.proofs.AcceptedOrRefused.{has_operations}
use Rattle.sig_deciding_laws.proofs.ActorCodes.{codes_exist}
use Rattle.sig_deciding_laws.proofs.CyclesOrNone.{dec_precedes, dec_reaches, precedes_within}
use Rattle.sig_deciding_laws.proofs.ClockFunctionsOfKernel.{IsSound, all_sound, presence_of}
use Rattle.sig_deciding_laws.proofs.OrderOfNumbers.{order_exists}

numbers_are : (order : List ℕ) → numbers_of (map op_id order) ≡ order
numbers_are [] = refl
numbers_are (number ∷ order) = ap (λ (rest : List ℕ). number ∷ rest) (numbers_are order)

-- the guards of held operations are references of the store
pub held_guards : (nodes : List Node) (ops : List Op) → All (λ (op : Op). Holds nodes op.guard) ops → (number : ℕ) (p : Operation) → slice_get (operations_in nodes ops) number ≡ Some p → (r : Ref) × IsRefOf nodes p.guard r
held_guards nodes ops held number p is =
    let op = map_get (operation_in nodes) ops number p is in (
      op.0.guard,
      record {
        holds = All-contains (λ (o : Op). Holds nodes o.guard) ops op.0 held (contains_at ops number op.0 op.1);
        function = λ truths. ap (λ (q : Operation). q.guard truths) op.2;
      },
    )

module _ (kernel : Kernel) (store : StoreView) (clocks : ClocksView) (ops : List Op) (valid : IsValid kernel) (accepted : IsAcceptedKernel kernel) (is_store : IsStore store)
    (are : AreClocks kernel store.nodes clocks) (made : AreOperations kernel store.nodes clocks ops) where
  abbrev operations : List Operation
  operations = operations_in store.nodes ops

  own : HasOperations kernel clocks.conditions operations
  own = operations_made_are kernel store.nodes clocks ops accepted.has.clocks are made

  same : (accepted.conditions ≡ clocks.conditions) × (accepted.operations ≡ operations)
  same = operations_once kernel valid accepted.conditions clocks.conditions accepted.operations operations accepted.has own

  acyclic : HasNoCycle clocks.conditions operations
  acyclic = subst (λ (cs : List SigId). HasNoCycle cs operations) same.0 (subst (HasNoCycle accepted.conditions) same.1 accepted.acyclic)

  split : AreParts kernel clocks.conditions operations accepted.parts
  split =
      subst (λ (cs : List SigId). AreParts kernel cs operations accepted.parts) same.0
      (subst (λ (ps : List Operation). AreParts kernel accepted.conditions ps accepted.parts) same.1 accepted.split)

  sound : All (IsSound (length clocks.conditions)) operations
  sound =
      let has = accepted.has.clocks in
      let known = operations_of kernel (presence_of kernel has clocks.conditions are.conditions) in
      subst (All (IsSound (length clocks.conditions)))
      (operations_once kernel valid clocks.conditions clocks.conditions known operations (has_operations kernel has clocks.conditions are.conditions) own).1
      (all_sound kernel has clocks.conditions are.conditions)

  order : (order : List ℕ) × IsCompiledOrder clocks.conditions operations order
  order =
      order_exists (Precedes clocks.conditions operations) (length operations) (precedes_within clocks.conditions operations sound) (dec_precedes clocks.conditions operations sound)
      (dec_reaches clocks.conditions operations sound) acyclic

  pub plan_exists : (plan : PlanView) × IsAccepted plan × (plan.kernel ≡ kernel) × (plan.store ≡ store) × (plan.clocks ≡ clocks) × (plan.ops ≡ ops)
  plan_exists =
      let compiled = map op_id order.0 in
      let codes = codes_exist store.nodes operations (numbers_of compiled) accepted.parts (held_guards store.nodes ops made.held) in (
        record { kernel = kernel; clocks = clocks; store = store; ops = ops; order = compiled; links = accepted.parts.links; codes = codes.0 },
        record {
          valid = valid;
          store = is_store;
          has_clocks = accepted.has.clocks;
          clocks = are;
          operations = made;
          no_cycle = acyclic;
          order = subst (IsCompiledOrder clocks.conditions operations) (sym (numbers_are order.0)) order.1;
          parts = accepted.parts;
          split = split;
          links = refl;
          codes = codes.1;
        },
        refl,
        refl,
        refl,
        refl,
      )
