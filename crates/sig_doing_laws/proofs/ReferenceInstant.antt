-- What the operations of an accepted plan have to do with the instant by which the reference goes on.
use Rattle.sig_doing_laws.proofs.Common.{compiled_operations, compiled_order, ◌≡◌, ◌<◌, ◌+◌, ◌++◌, ℕ, suc, ℤ, Bool, true, List, [], ◌∷◌, length, refl, ap, sym, subst, ◌∙◌, arith, Contains, All, None, Some, is_some, slice_get, slice_index, option_to_list, append-nil, All-cons, All-contains, All-nil, Instant, Trace, flow_of, seen_at, EqId, SigId, abstraction_of, KeepsTo, signal_id, Reaction, Speaks, test, IsCommitted, IsWrittenBefore, StandsAt, last_of, remembered, AreFlowsFor, IsValid, form_within, Equation, Form, Fun, Delay, When, WhenConst, Default, Sync, Event, Kernel, IsNext, compiled, Compiled, own_keeps, own_present, own_speaks, own_written, follows, own_presence, place_of, fitting, one_either, flow_more, next_in, IsClean, Fitting, form_for, form_in, has_form, truths_of, Computes, IsReference, Operation, Presence, operation_in, operations_of, signals_of, store_of, stores_of, without, writes_of, writing, Writes, IsAccepted, PlanView, Op, Compute, DelayRead, Left, Read, Right, Store, written_present, each_operation, first_below, only, operands_below, written_below, contains_at, got}
use Rattle.sig_doing_laws.proofs.Committed.{committed_clean}
use Rattle.sig_doing_laws.proofs.Places.{at_place, to_place}

-- ---- what is remembered behind one instant more

last_more : (initial : ℤ) (values : List ℤ) (v : ℤ) → last_of initial (values ++ v ∷ []) ≡ v
last_more initial [] v = refl
last_more initial (w ∷ values) v = last_more w values v

pub remembered_absent : (trace : Trace) (instant : Instant) (y x : SigId) (initial : ℤ) → seen_at instant x.0 ≡ None → remembered (trace ++ instant ∷ []) y.0 x.0 initial ≡ remembered trace y.0 x.0 initial
remembered_absent trace instant y x initial none =
    ap (last_of initial) (flow_more x.0 trace instant ∙ ap (λ s. flow_of x.0 trace ++ option_to_list s) none ∙ append-nil (flow_of x.0 trace))

pub remembered_present : (trace : Trace) (instant : Instant) (y x : SigId) (initial v : ℤ) → seen_at instant x.0 ≡ Some v → remembered (trace ++ instant ∷ []) y.0 x.0 initial ≡ v
remembered_present trace instant y x initial v some =
    ap (last_of initial) (flow_more x.0 trace instant ∙ ap (λ s. flow_of x.0 trace ++ option_to_list s) some) ∙ last_more initial (flow_of x.0 trace) v

-- ---- stores

module _ (kernel : Kernel) (presence : Presence) where
  -- a store is done where the delayed signal is there
  abbrev IsStoring : Operation → Type 0
  IsStoring p = (e : EqId) (y x : SigId) (initial : ℤ) → p.kind ≡ Store e → form_for kernel (Some e) ≡ Some (Delay y x initial) → p.guard ≡ presence x

  abbrev HasForm : EqId → Form → Type 0
  HasForm number form = form_for kernel (Some number) ≡ Some form

  writes_storing : (number : EqId) (form : Form) → HasForm number form → All IsStoring (writes_of kernel.signals presence number form)
  writes_storing number (Fun y op operands) has = only IsStoring (writing kernel.signals number Compute (presence y) y (signals_of operands)) (λ e z x initial kind is. absurd (let f : Compute ≡ Store e = kind in cc))
  writes_storing number (When y u b) has = only IsStoring (writing kernel.signals number Compute (presence y) y (u ∷ [])) (λ e z x initial kind is. absurd (let f : Compute ≡ Store e = kind in cc))
  writes_storing number (WhenConst y k b) has = only IsStoring (writing kernel.signals number Compute (presence y) y []) (λ e z x initial kind is. absurd (let f : Compute ≡ Store e = kind in cc))
  writes_storing number (Event y u) has = only IsStoring (writing kernel.signals number Compute (presence y) y []) (λ e z x initial kind is. absurd (let f : Compute ≡ Store e = kind in cc))
  writes_storing number (Delay y u i) has = only IsStoring (writing kernel.signals number DelayRead (presence y) y []) (λ e z x initial kind is. absurd (let f : DelayRead ≡ Store e = kind in cc))
  writes_storing number (Sync u y) has = All-nil IsStoring
  writes_storing number (Default y u v) has =
      All-cons IsStoring (writing kernel.signals number Left (presence u) y (u ∷ [])) (writing kernel.signals number Right (without (presence v) (presence u)) y (v ∷ []) ∷ [])
      (λ e z x initial kind is. absurd (let f : Left ≡ Store e = kind in cc))
      (only IsStoring (writing kernel.signals number Right (without (presence v) (presence u)) y (v ∷ [])) (λ e z x initial kind is. absurd (let f : Right ≡ Store e = kind in cc)))

  stores_storing : (number : EqId) (form : Form) → HasForm number form → All IsStoring (stores_of kernel.signals presence number form)
  stores_storing number (Delay y u i) has = only IsStoring (store_of kernel.signals presence number y u) (λ e z x initial kind is.
      let f : Store number ≡ Store e = kind in
      let one : number ≡ e = cc in
      let g : Some (Delay y u i) ≡ Some (Delay z x initial) = sym has ∙ ap (λ (n : EqId). form_for kernel (Some n)) one ∙ is in
      let same : u ≡ x = cc in
      ap presence same)
  stores_storing number _ has = All-nil IsStoring

  pub one_storing : (p : Operation) → Contains (operations_of kernel presence) p → IsStoring p
  one_storing p among = All-contains IsStoring (operations_of kernel presence) p
      (each_operation IsStoring kernel presence HasForm (has_form kernel) (λ number lt e z x initial kind is. absurd (let f : Read (signal_id number) ≡ Store e = kind in cc)) writes_storing stores_storing) among

-- a delayed signal is there
pub delayed_below : (kernel : Kernel) → IsValid kernel → (k : ℕ) (q : Equation) (y x : SigId) (initial : ℤ) → slice_get kernel.equations k ≡ Some q → q.form ≡ Delay y x initial → x.0 < length kernel.signals
delayed_below kernel valid k q y x initial at form =
    let there = got kernel.equations k q q at in
    let within : form_within (length kernel.signals) q.form ≡ true = subst (λ (d : Equation). form_within (length kernel.signals) d.form ≡ true) there.1 (valid.equations.within k q there.0) in
    first_below (length kernel.signals) x _ (operands_below (length kernel.signals) (Delay y x initial) (subst (λ shape. form_within (length kernel.signals) shape ≡ true) form within))

-- ---- the instant by which the reference goes on

module _ (plan : PlanView) (accepted : IsAccepted plan) (flows : List (List ℤ)) (fit : AreFlowsFor plan.kernel flows) (trace : Trace) (instant : Instant)
    (behind : IsCommitted plan.kernel flows trace) (reference : IsReference plan.kernel flows (length trace + 1) (trace ++ instant ∷ [])) where
  abbrev c : Compiled plan.kernel plan.clocks.conditions (compiled_operations plan) (compiled_order plan)
  c = compiled plan accepted

  abbrev f : Fitting plan.kernel flows
  f = fitting plan accepted flows fit

  abbrev next : ℕ → ℤ
  next = next_in plan.kernel flows trace

  abbrev own : List Bool
  own = truths_of plan.clocks.conditions (seen_at instant)

  abbrev left : Reaction
  left = abstraction_of plan.kernel.signals instant

  abbrev clean : IsClean plan.kernel flows (length trace) trace
  clean = committed_clean plan accepted flows fit trace behind

  pub goes_on : IsReference plan.kernel flows (suc (length trace)) (trace ++ instant ∷ [])
  goes_on = subst (λ n. IsReference plan.kernel flows n (trace ++ instant ∷ [])) (omega arith) reference

  pub is_next : IsNext plan.kernel (remembered trace) next instant
  is_next = follows plan.kernel plan.clocks.conditions (compiled_operations plan) (compiled_order plan) c flows f trace clean instant goes_on

  pub speaks : Speaks plan.kernel left
  speaks = own_speaks plan.kernel plan.clocks.conditions (compiled_operations plan) (compiled_order plan) c (remembered trace) next instant is_next

  pub keeps : KeepsTo plan.clocks.conditions own left
  keeps = own_keeps plan.kernel plan.clocks.conditions (compiled_operations plan) (compiled_order plan) c (remembered trace) next instant is_next

  pub presence_is : (x : SigId) → x.0 < length plan.kernel.signals → is_some (seen_at instant x.0) ≡ c.has.presence x own
  presence_is x lt = own_presence plan.kernel plan.clocks.conditions (compiled_operations plan) (compiled_order plan) c flows f trace clean instant goes_on x lt

  -- the operation at a place, among the kernel's
  pub among : (k : ℕ) (op : Op) → StandsAt plan k op → Contains (operations_of plan.kernel c.has.presence) (operation_in plan.store.nodes op)
  among k op stands =
      let p = operation_in plan.store.nodes op in
      subst (λ (ps : List Operation). Contains ps p) c.has.are (contains_at (compiled_operations plan) (slice_index (compiled_order plan) k) p (at_place plan k op stands).1)

  -- a place with an operation that writes a signal that is there, and is done
  pub written_at : (i : ℕ) (p : Operation) (x : SigId) (k : ℕ) → i < length (compiled_order plan) → i < k → slice_get (compiled_operations plan) (slice_index (compiled_order plan) i) ≡ Some p → Writes p x → p.guard own ≡ true → IsWrittenBefore plan instant k x
  written_at i p x k lt earlier at writes done =
      let there = to_place plan i p lt at in
      record {
        at = i;
        earlier = earlier;
        op = there.0;
        stands = there.1;
        writes = subst (λ (q : Operation). q.writes ≡ Some x) (sym there.2) writes;
        done = subst (λ (q : Operation). q.guard own ≡ true) (sym there.2) done;
      }

  pub written_somewhere : (x : SigId) → x.0 < length plan.kernel.signals → is_some (seen_at instant x.0) ≡ true → IsWrittenBefore plan instant (length (compiled_order plan)) x
  written_somewhere x lt some =
      let w = own_written plan.kernel plan.clocks.conditions (compiled_operations plan) (compiled_order plan) c (remembered trace) next instant is_next x lt some in
      let place = place_of plan.kernel plan.clocks.conditions (compiled_operations plan) (compiled_order plan) (remembered trace) next c w.0 w.1 w.2 in
      let full : length (compiled_order plan) ≡ length (compiled_operations plan) = c.ordered.all in
      written_at place.0 w.1 x (length (compiled_order plan)) (omega (arith, place.1, full)) (omega (arith, place.1, full)) place.2 w.3 w.4

  -- what is written is there
  pub written_is_there : (k : ℕ) (x : SigId) → IsWrittenBefore plan instant k x → is_some (seen_at instant x.0) ≡ true
  written_is_there k x w =
      let at = at_place plan w.at w.op w.stands in
      sym (own_present plan.kernel plan.clocks.conditions (compiled_operations plan) (compiled_order plan) c (remembered trace) next instant is_next x.0)
      ∙ written_present plan.kernel c.valid plan.clocks.conditions (compiled_operations plan) c.has own left speaks keeps (slice_index (compiled_order plan) w.at) (operation_in plan.store.nodes w.op) x at.1 w.writes w.done

  -- ---- an operation is done where its signal is there

  pub read_is : (k : ℕ) (op : Op) → StandsAt plan k op → (x : SigId) → op.kind ≡ Read x
      → (op.writes ≡ Some x) × (x.0 < plan.kernel.inputs) × (test plan.store.nodes op.guard own ≡ is_some (seen_at instant x.0))
  read_is k op stands x kind =
      let either = (one_either plan.kernel c.has.presence (operation_in plan.store.nodes op) (among k op stands)).0 x kind in
      let lt : x.0 < length plan.kernel.signals = omega (arith, either.1, c.valid.parts.interface, c.valid.parts.declared) in
      (either.0, either.1, ap (λ g. g own) either.2 ∙ sym (presence_is x lt))

  pub compute_is : (k : ℕ) (op : Op) → StandsAt plan k op → op.kind ≡ Compute → (e : EqId) → op.eq ≡ Some e → (d : Computes plan.kernel instant e)
      → (op.writes ≡ Some d.target) × (op.reads ≡ signals_of d.operands) × (test plan.store.nodes op.guard own ≡ true)
  compute_is k op stands kind e is_e d =
      let form : form_for plan.kernel (Some e) ≡ Some (Fun d.target d.function d.operands) = ap form_in d.is ∙ ap Some d.form in
      let either = (one_either plan.kernel c.has.presence (operation_in plan.store.nodes op) (among k op stands)).1 e d.target d.function d.operands kind is_e form in
      let lt = written_below plan.kernel c.valid plan.clocks.conditions (compiled_operations plan) c.has (slice_index (compiled_order plan) k) (operation_in plan.store.nodes op) (at_place plan k op stands).1 d.target either.0 in
      (either.0, either.2, ap (λ g. g own) either.1 ∙ sym (presence_is d.target lt) ∙ ap is_some d.gives)

  pub store_is : (k : ℕ) (op : Op) → StandsAt plan k op → (e : EqId) → op.kind ≡ Store e → (equation : Equation) (y x : SigId) (initial : ℤ) → slice_get plan.kernel.equations e.0 ≡ Some equation
      → equation.form ≡ Delay y x initial → x.0 < length plan.kernel.signals → test plan.store.nodes op.guard own ≡ is_some (seen_at instant x.0)
  store_is k op stands e kind equation y x initial at form lt =
      let shape : form_for plan.kernel (Some e) ≡ Some (Delay y x initial) = ap form_in at ∙ ap Some form in
      ap (λ g. g own) (one_storing plan.kernel c.has.presence (operation_in plan.store.nodes op) (among k op stands) e y x initial kind shape) ∙ sym (presence_is x lt)
