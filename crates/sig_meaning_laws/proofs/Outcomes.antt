-- What an operation of an accepted plan comes to is what the instant by which the reference goes on has.
use Rattle.sig_meaning_laws.proofs.Common.{◌≡◌, ◌<◌, ◌≤◌, ◌+◌, ◌++◌, ℕ, zero, suc, ℤ, Bool, true, false, cond, List, [], ◌∷◌, length, map, get_or, refl, ap, sym, subst, ◌∙◌, arith, Contains, All, Option, None, Some, is_some, slice_get, option_to_list, length-append, All-cons, All-contains, All-nil, Instant, Trace, Unbounded, flow_of, has_64_bits, seen_at, EqId, SigId, abstraction_of, signal_id, HaveValues, IsFunction, Memory, Meets, function_of, remembered, Equation, Form, Fun, Delay, When, WhenConst, Default, Sync, Event, FunOp, Operand, Kernel, IsAt, IsOutcome, IsNext, Actor, truths_of, Computes, Faults, bounded, computed, computed_at, computed_by, computed_for, first_in, memory_of, next_of, operand_in, outcome, outcome_by, IsReference, divides_by_zero, result_of, Operation, Presence, operation_in, operations_of, signals_of, store_of, stores_of, without, writes_of, writing, Writes, Overflow, ZeroDivisor, Op, OpKind, Read, Compute, Left, Right, DelayRead, Store, each_operation, only, Node, contains_at, at_element, got}
use Rattle.sig_meaning_laws.proofs.Agreement.{Compiled, own_keeps, own_present, own_seen, own_speaks, value_by_reads}
use Rattle.sig_meaning_laws.proofs.FirstFaults.{one_either}
use Rattle.sig_meaning_laws.proofs.Flows.{flow_more, last_value, next_in}
use Rattle.sig_meaning_laws.proofs.Longest.{IsClean}
use Rattle.sig_meaning_laws.proofs.References.{Fitting, reference_last}
use Rattle.sig_meaning_laws.proofs.Values.{computed as computed_value, form_for, form_in, has_form, have_map, kept_in, same_operands, value, value_by, where_some}
use Rattle.sig_model.specs.Operating.{Gives}

-- ---- stores, and reads of delays

module _ (kernel : Kernel) (presence : Presence) where
  abbrev WritesNone : Operation → Type 0
  WritesNone p = (e : EqId) → p.kind ≡ Store e → p.writes ≡ None

  abbrev ReadsDelay : Operation → Type 0
  ReadsDelay p = p.kind ≡ DelayRead → (number : EqId) × (y : SigId) × (x : SigId) × (initial : ℤ) × (p.equation ≡ Some number) × (form_for kernel (Some number) ≡ Some (Delay y x initial)) × (p.writes ≡ Some y)

  abbrev IsKept : Operation → Type 0
  IsKept p = WritesNone p × ReadsDelay p

  abbrev HasForm : EqId → Form → Type 0
  HasForm number form = form_for kernel (Some number) ≡ Some form

  computing : (p : Operation) → p.kind ≡ Compute → IsKept p
  computing p kind = ((λ e is. absurd (let f : Compute ≡ Store e = sym kind ∙ is in cc)), (λ is. absurd (let f : Compute ≡ DelayRead = sym kind ∙ is in cc)))

  writes_kept : (number : EqId) (form : Form) → HasForm number form → All IsKept (writes_of kernel.signals presence number form)
  writes_kept number (Fun y op operands) has = only IsKept _ (computing (writing kernel.signals number Compute (presence y) y (signals_of operands)) refl)
  writes_kept number (When y x b) has = only IsKept _ (computing (writing kernel.signals number Compute (presence y) y (x ∷ [])) refl)
  writes_kept number (WhenConst y k b) has = only IsKept _ (computing (writing kernel.signals number Compute (presence y) y []) refl)
  writes_kept number (Event y x) has = only IsKept _ (computing (writing kernel.signals number Compute (presence y) y []) refl)
  writes_kept number (Delay y x initial) has = only IsKept (writing kernel.signals number DelayRead (presence y) y [])
      ((λ e is. absurd (let f : DelayRead ≡ Store e = is in cc)), (λ is. (number, y, x, initial, refl, has, refl)))
  writes_kept number (Sync x y) has = All-nil IsKept
  writes_kept number (Default y u v) has =
      All-cons IsKept (writing kernel.signals number Left (presence u) y (u ∷ [])) (writing kernel.signals number Right (without (presence v) (presence u)) y (v ∷ []) ∷ [])
      ((λ e is. absurd (let f : Left ≡ Store e = is in cc)), (λ is. absurd (let f : Left ≡ DelayRead = is in cc)))
      (only IsKept (writing kernel.signals number Right (without (presence v) (presence u)) y (v ∷ []))
      ((λ e is. absurd (let f : Right ≡ Store e = is in cc)), (λ is. absurd (let f : Right ≡ DelayRead = is in cc))))

  stores_kept : (number : EqId) (form : Form) → HasForm number form → All IsKept (stores_of kernel.signals presence number form)
  stores_kept number (Delay y x initial) has = only IsKept (store_of kernel.signals presence number y x) ((λ e is. refl), (λ is. absurd (let f : Store number ≡ DelayRead = is in cc)))
  stores_kept number _ has = All-nil IsKept

  one_kept : (p : Operation) → Contains (operations_of kernel presence) p → IsKept p
  one_kept p among = All-contains IsKept (operations_of kernel presence) p
      (each_operation IsKept kernel presence HasForm (has_form kernel)
      (λ number lt. ((λ e is. absurd (let f : Read (signal_id number) ≡ Store e = is in cc)), (λ is. absurd (let f : Read (signal_id number) ≡ DelayRead = is in cc)))) writes_kept stores_kept) among

-- ---- outcomes

module _ (kernel : Kernel) (conditions : List SigId) (operations : List Operation) (order : List ℕ) (c : Compiled kernel conditions operations order) (flows : List (List ℤ)) (f : Fitting kernel flows)
    (trace : Trace) (instant : Instant) (reference : IsReference kernel flows (suc (length trace)) (trace ++ instant ∷ []))
    (nodes : List Node) (number : ℕ) (op : Op) (at : slice_get operations number ≡ Some (operation_in nodes op)) (actor : Actor) (stands : IsAt kernel trace instant op actor)
    (done : (operation_in nodes op).guard (truths_of conditions (seen_at instant)) ≡ true) where
  abbrev p : Operation
  p = operation_in nodes op

  abbrev memory : Memory
  memory = remembered trace

  abbrev next : ℕ → ℤ
  next = next_in kernel flows trace

  is : IsNext kernel memory next instant
  is = reference_last f (suc (length trace)) trace instant reference

  presence_there : (x : SigId) → x.0 < length kernel.signals → is_some (seen_at instant x.0) ≡ c.has.presence x (truths_of conditions (seen_at instant))
  presence_there x lt = sym (own_present kernel conditions operations order c memory next instant is x.0)
      ∙ c.has.functions x.0 lt (truths_of conditions (seen_at instant)) (abstraction_of kernel.signals instant) (own_speaks kernel conditions operations order c memory next instant is) (own_keeps kernel conditions operations order c memory next instant is)

  among : Contains (operations_of kernel c.has.presence) p
  among = subst (λ (ps : List Operation). Contains ps p) c.has.are (contains_at operations number p at)

  -- what is seen, by the registers
  seen_value : (x : SigId) → Writes p x → seen_at instant x.0 ≡ Some (value kernel memory next actor.registers p)
  seen_value x writes = own_seen kernel conditions operations order c memory next instant is number p x at writes done
      ∙ ap Some (value_by_reads kernel conditions operations c.has memory next number p at (seen_at instant) actor.registers (λ y there. sym (stands.reads y there)))

  -- by the kind of the operation
  of_kind : (k : OpKind) → op.kind ≡ k → (x : SigId) → Writes p x → seen_at instant x.0 ≡ Some (value_by memory next actor.registers op.reads (form_for kernel op.eq) k)
  of_kind k kind x writes = seen_value x writes ∙ ap (λ z. Some (value_by memory next actor.registers op.reads (form_for kernel op.eq) z)) kind

  read_outcome : (x : SigId) → op.kind ≡ Read x → (found : Option ℤ) → slice_get (get_or flows x.0 []) (actor.taken x.0) ≡ found → IsOutcome kernel flows trace instant p (next_of x found)
  read_outcome x kind None none =
      let either = (one_either kernel c.has.presence p among).0 x kind in
      let below : x.0 < length kernel.signals = omega (arith, either.1, c.valid.parts.interface, c.valid.parts.declared) in
      let there = where_some (seen_at instant x.0) (presence_there x below
      ∙ ap (λ g. g (truths_of conditions (seen_at instant))) (sym either.2) ∙ done) in
      let longer : length (flow_of x.0 (trace ++ instant ∷ [])) ≡ length (flow_of x.0 trace) + 1 =
      ap length (flow_more x.0 trace instant ∙ ap (λ s. flow_of x.0 trace ++ option_to_list s) there.1) ∙ length-append (flow_of x.0 trace) (there.0 ∷ []) in
      (kind, omega (arith, longer, beyond (get_or flows x.0 []) (actor.taken x.0) none, stands.taken x kind)) where
        beyond : (xs : List ℤ) (k : ℕ) → slice_get xs k ≡ None → length xs ≤ k
        beyond [] k e = omega arith
        beyond (y ∷ xs) zero e = absurd (let g = e in cc)
        beyond (y ∷ xs) (suc k) e = omega (arith, beyond xs k e)
  read_outcome x kind (Some v) some = λ y writes.
      let there = got (get_or flows x.0 []) (actor.taken x.0) (last_value kernel x.0) v some in
      of_kind (Read x) kind y writes ∙ ap Some (ap (λ k. get_or (get_or flows x.0 []) k (last_value kernel x.0)) (sym (stands.taken x kind)) ∙ there.1)

  -- a function
  function_outcome : (e : EqId) (equation : Equation) (y : SigId) (function : FunOp) (operands : List Operand) → op.kind ≡ Compute → op.eq ≡ Some e → slice_get kernel.equations e.0 ≡ Some equation
      → equation.form ≡ Fun y function operands → IsOutcome kernel flows trace instant p (computed e (function_of function) (map (operand_in actor.registers) operands))
  function_outcome e equation y function operands kind is_e there form =
      by (divides_by_zero (function_of function) (map (operand_in actor.registers) operands)) (has_64_bits (result_of (function_of function) (map (operand_in actor.registers) operands))) refl refl where
        shape : form_for kernel (Some e) ≡ Some (Fun y function operands)
        shape = ap form_in there ∙ ap Some form

        either : Writes p y × (p.guard ≡ c.has.presence y) × (p.reads ≡ signals_of operands)
        either = (one_either kernel c.has.presence p among).1 e y function operands kind is_e shape

        result : (x : SigId) → Writes p x → seen_at instant x.0 ≡ Some (result_of (function_of function) (map (operand_in actor.registers) operands))
        result x writes = of_kind Compute kind x writes ∙ ap (λ q. Some (computed_value actor.registers (form_for kernel q))) is_e ∙ ap (λ form. Some (computed_value actor.registers form)) shape

        values : (vs : List ℤ) → HaveValues instant operands vs → vs ≡ map (operand_in actor.registers) operands
        values vs have = have_map instant operands vs have ∙ same_operands (seen_at instant) actor.registers operands (λ x inside. sym (stands.reads x (subst (λ (xs : List SigId). Contains xs x) (sym either.2) inside)))

        computes : (c : Computes kernel instant e) × (c.result ≡ result_of (function_of function) (map (operand_in actor.registers) operands)) × (function_of c.function ≡ function_of function) × (c.values ≡ map (operand_in actor.registers) operands)
        computes =
            let met : Meets Unbounded memory instant equation.form =
            at_element (λ (q : Equation). Meets Unbounded memory instant q.form) kernel.equations equation (contains_at kernel.equations e.0 equation there) is.is.equations in
            let of_form : Meets Unbounded memory instant (Fun y function operands) = subst (λ (shape : Form). Meets Unbounded memory instant shape) form met in
            let given : IsFunction Unbounded (function_of function) instant operands (Some (result_of (function_of function) (map (operand_in actor.registers) operands))) =
            subst (λ s. IsFunction Unbounded (function_of function) instant operands s) (result y either.0) of_form in (
              record { equation = equation; is = there; target = y; function = function; operands = operands; form = form; values = given.0; have = given.1; result = result_of (function_of function) (map (operand_in actor.registers) operands); gives = result y either.0 },
              refl,
              refl,
              values given.0 given.1,
            )

        by : (zeroed small : Bool) → divides_by_zero (function_of function) (map (operand_in actor.registers) operands) ≡ zeroed
            → has_64_bits (result_of (function_of function) (map (operand_in actor.registers) operands)) ≡ small → IsOutcome kernel flows trace instant p (computed e (function_of function) (map (operand_in actor.registers) operands))
        by true small by_zero fits = subst (IsOutcome kernel flows trace instant p)
            (sym (ap (λ b. cond b (Faults (ZeroDivisor e)) (bounded e (result_of (function_of function) (map (operand_in actor.registers) operands)))) by_zero))
            ((kind, is_e), (computes.0, ap (λ o. divides_by_zero o computes.0.values) computes.2 ∙ ap (divides_by_zero (function_of function)) computes.3 ∙ by_zero))
        by false true by_zero fits = subst (IsOutcome kernel flows trace instant p)
            (sym (ap (λ b. cond b (Faults (ZeroDivisor e)) (bounded e (result_of (function_of function) (map (operand_in actor.registers) operands)))) by_zero
            ∙ ap (λ b. cond b (Gives (result_of (function_of function) (map (operand_in actor.registers) operands))) (Faults (Overflow e))) fits)) result
        by false false by_zero fits = subst (IsOutcome kernel flows trace instant p)
            (sym (ap (λ b. cond b (Faults (ZeroDivisor e)) (bounded e (result_of (function_of function) (map (operand_in actor.registers) operands)))) by_zero
            ∙ ap (λ b. cond b (Gives (result_of (function_of function) (map (operand_in actor.registers) operands))) (Faults (Overflow e))) fits))
            ((kind, is_e), (computes.0, ap has_64_bits computes.1 ∙ fits))

  -- a computation
  handed_outcome : (found : Option Form) (e : EqId) → op.kind ≡ Compute → op.eq ≡ Some e → form_for kernel (Some e) ≡ found → (x : SigId) → Writes p x → seen_at instant x.0 ≡ Some (computed_value actor.registers found)
  handed_outcome found e kind is_e has x writes = of_kind Compute kind x writes ∙ ap (λ q. Some (computed_value actor.registers (form_for kernel q))) is_e ∙ ap (λ form. Some (computed_value actor.registers form)) has

  form_outcome : (e : EqId) (equation : Equation) (form : Form) → op.kind ≡ Compute → op.eq ≡ Some e → slice_get kernel.equations e.0 ≡ Some equation → equation.form ≡ form
      → IsOutcome kernel flows trace instant p (computed_by actor.registers e form)
  form_outcome e equation (Fun y function operands) kind is_e there form = function_outcome e equation y function operands kind is_e there form
  form_outcome e equation (When y x b) kind is_e there form = handed_outcome (Some (When y x b)) e kind is_e (ap form_in there ∙ ap Some form)
  form_outcome e equation (WhenConst y k b) kind is_e there form = handed_outcome (Some (WhenConst y k b)) e kind is_e (ap form_in there ∙ ap Some form)
  form_outcome e equation (Event y x) kind is_e there form = handed_outcome (Some (Event y x)) e kind is_e (ap form_in there ∙ ap Some form)
  form_outcome e equation (Default y u v) kind is_e there form = handed_outcome (Some (Default y u v)) e kind is_e (ap form_in there ∙ ap Some form)
  form_outcome e equation (Delay y x initial) kind is_e there form = handed_outcome (Some (Delay y x initial)) e kind is_e (ap form_in there ∙ ap Some form)
  form_outcome e equation (Sync x y) kind is_e there form = handed_outcome (Some (Sync x y)) e kind is_e (ap form_in there ∙ ap Some form)

  equation_outcome : (e : EqId) (found : Option Equation) → op.kind ≡ Compute → op.eq ≡ Some e → slice_get kernel.equations e.0 ≡ found → IsOutcome kernel flows trace instant p (computed_at actor.registers e found)
  equation_outcome e None kind is_e none = handed_outcome None e kind is_e (ap form_in none)
  equation_outcome e (Some equation) kind is_e there = form_outcome e equation equation.form kind is_e there refl

  compute_outcome : (found : Option EqId) → op.kind ≡ Compute → op.eq ≡ found → IsOutcome kernel flows trace instant p (computed_for kernel actor.registers found)
  compute_outcome None kind none = λ x writes. of_kind Compute kind x writes ∙ ap (λ q. Some (computed_value actor.registers (form_for kernel q))) none
  compute_outcome (Some e) kind is_e = equation_outcome e (slice_get kernel.equations e.0) kind is_e refl

  delay_outcome : op.kind ≡ DelayRead → IsOutcome kernel flows trace instant p (Gives (memory_of actor op.writes))
  delay_outcome kind x writes =
      let d = (one_kept kernel c.has.presence p among).1 kind in
      let there = some_equation d.0.0 (Delay d.1 d.2 d.3) (slice_get kernel.equations d.0.0) refl d.5 in
      of_kind DelayRead kind x writes ∙ ap (λ q. Some (kept_in memory (form_for kernel q))) d.4 ∙ ap (λ form. Some (kept_in memory form)) d.5
      ∙ ap Some (sym (stands.memories d.0.0 d.1 d.2 d.3 there.0 there.1 there.2 d.6)) ∙ sym (ap (λ w. Some (memory_of actor w)) d.6) where
        some_equation : (n : ℕ) (form : Form) (found : Option Equation) → slice_get kernel.equations n ≡ found → form_in (slice_get kernel.equations n) ≡ Some form
            → (q : Equation) × (slice_get kernel.equations n ≡ Some q) × (q.form ≡ form)
        some_equation n form None none is_form = absurd (let g : None ≡ Some form = sym (ap form_in none) ∙ is_form in cc)
        some_equation n form (Some q) some is_form = (q, some, (let g : Some q.form ≡ Some form = sym (ap form_in some) ∙ is_form in cc))

  store_outcome : (e : EqId) → op.kind ≡ Store e → (v : ℤ) → IsOutcome kernel flows trace instant p (Gives v)
  store_outcome e kind v x writes = absurd (let g : None ≡ Some x = sym ((one_kept kernel c.has.presence p among).0 e kind) ∙ writes in cc)

  pub reference_outcome : IsOutcome kernel flows trace instant p (outcome kernel flows actor op)
  reference_outcome = by op.kind refl where
    by : (k : OpKind) → op.kind ≡ k → IsOutcome kernel flows trace instant p (outcome_by kernel flows actor op k)
    by (Read x) kind = read_outcome x kind (slice_get (get_or flows x.0 []) (actor.taken x.0)) refl
    by Compute kind = compute_outcome op.eq kind refl
    by DelayRead kind = delay_outcome kind
    by (Store e) kind = store_outcome e kind (first_in actor.registers op.reads)
    by k kind = of_kind k kind

-- the same behind a trace that is within bounds
pub is_outcome : (kernel : Kernel) (conditions : List SigId) (operations : List Operation) (order : List ℕ) → Compiled kernel conditions operations order → (flows : List (List ℤ)) → Fitting kernel flows
    → (trace : Trace) → IsClean kernel flows (length trace) trace → (instant : Instant) → IsReference kernel flows (suc (length trace)) (trace ++ instant ∷ [])
    → (nodes : List Node) (number : ℕ) (op : Op) → slice_get operations number ≡ Some (operation_in nodes op) → (actor : Actor) → IsAt kernel trace instant op actor
    → (operation_in nodes op).guard (truths_of conditions (seen_at instant)) ≡ true → IsOutcome kernel flows trace instant (operation_in nodes op) (outcome kernel flows actor op)
is_outcome kernel conditions operations order c flows f trace clean instant reference nodes number op at actor stands done =
    reference_outcome kernel conditions operations order c flows f trace instant reference nodes number op at actor stands done
