-- The first fault of the instant by which the reference goes on.
use Rattle.sig_meaning_laws.proofs.Common.{◌≡◌, ◌<◌, ◌≤◌, ◌++◌, ◌⊎◌, inl, inr, ℤ, Bool, true, false, List, [], ◌∷◌, length, get_or, refl, ap, sym, subst, ◌∙◌, arith, Contains, All, Option, None, Some, slice_get, All-cons, All-contains, All-nil, Instant, Seen, Trace, Unbounded, flow_of, has_64_bits, seen_at, EqId, SigId, signal_id, HaveValues, IsFunction, IsReaction, Meets, Memory, function_of, Equation, Form, Fun, Delay, When, WhenConst, Default, Sync, Event, FunOp, Operand, Kernel, Computes, HasFault, IsPastEnd, MeetsFault, divides_by_zero, Operation, Presence, operations_of, signals_of, stores_of, without, writes_of, writing, Writes, Cause, Exhausted, Overflow, ZeroDivisor, Limit, OpKind, Read, Compute, Left, Right, DelayRead, Store, each_operation, only, contains_at, at_element}
use Rattle.sig_meaning_laws.proofs.Numbers.{at_most_or}
use Rattle.sig_meaning_laws.proofs.Longest.{Decided, same_values}
use Rattle.sig_meaning_laws.proofs.Values.{form_for, has_form}

-- ---- operations by their kinds

module _ (kernel : Kernel) (presence : Presence) where
  abbrev pub IsReadOp : Operation → Type 0
  IsReadOp p = (x : SigId) → p.kind ≡ Read x → Writes p x × (x.0 < kernel.inputs) × (p.guard ≡ presence x)

  abbrev pub IsComputeOp : Operation → Type 0
  IsComputeOp p = (e : EqId) (y : SigId) (op : FunOp) (operands : List Operand) → p.kind ≡ Compute → p.equation ≡ Some e → form_for kernel (Some e) ≡ Some (Fun y op operands)
      → Writes p y × (p.guard ≡ presence y) × (p.reads ≡ signals_of operands)

  abbrev pub IsEither : Operation → Type 0
  IsEither p = IsReadOp p × IsComputeOp p

  abbrev HasForm : EqId → Form → Type 0
  HasForm number form = form_for kernel (Some number) ≡ Some form

  not_read : (x : SigId) (k : OpKind) → (k ≡ Compute) ⊎ ((k ≡ Left) ⊎ ((k ≡ Right) ⊎ (k ≡ DelayRead))) → k ≡ Read x → ⊥
  not_read x k (inl is) e = let f : Compute ≡ Read x = sym is ∙ e in cc
  not_read x k (inr (inl is)) e = let f : Left ≡ Read x = sym is ∙ e in cc
  not_read x k (inr (inr (inl is))) e = let f : Right ≡ Read x = sym is ∙ e in cc
  not_read x k (inr (inr (inr is))) e = let f : DelayRead ≡ Read x = sym is ∙ e in cc

  other_form : (number e : EqId) (form : Form) (y : SigId) (op : FunOp) (operands : List Operand) → HasForm number form → Some number ≡ Some e → form_for kernel (Some e) ≡ Some (Fun y op operands) → form ≡ Fun y op operands
  other_form number e form y op operands has same is =
      let one : number ≡ e = cc in
      let f : Some form ≡ Some (Fun y op operands) = sym has ∙ ap (λ (n : EqId). form_for kernel (Some n)) one ∙ is in cc

  writes_either : (number : EqId) (form : Form) → HasForm number form → All IsEither (writes_of kernel.signals presence number form)
  writes_either number (Fun y op operands) has = only IsEither (writing kernel.signals number Compute (presence y) y (signals_of operands)) (
    (λ x e. absurd (not_read x Compute (inl refl) e)),
    (λ e z o ps kind same is.
        let f = other_form number e (Fun y op operands) z o ps has same is in
        let to_y : y ≡ z = cc in
        let to_ps : operands ≡ ps = cc in
        (ap Some to_y, ap presence to_y, ap signals_of to_ps)),
  )
  writes_either number (When y x b) has = only IsEither _ ((λ x e. absurd (not_read x Compute (inl refl) e)), (λ e z o ps kind same is. absurd (let f = other_form number e (When y x b) z o ps has same is in cc)))
  writes_either number (WhenConst y k b) has = only IsEither _ ((λ x e. absurd (not_read x Compute (inl refl) e)), (λ e z o ps kind same is. absurd (let f = other_form number e (WhenConst y k b) z o ps has same is in cc)))
  writes_either number (Event y x) has = only IsEither _ ((λ x e. absurd (not_read x Compute (inl refl) e)), (λ e z o ps kind same is. absurd (let f = other_form number e (Event y x) z o ps has same is in cc)))
  writes_either number (Delay y x initial) has = only IsEither _ ((λ x e. absurd (not_read x DelayRead (inr (inr (inr refl))) e)), (λ e z o ps kind same is. absurd (let f : DelayRead ≡ Compute = kind in cc)))
  writes_either number (Sync x y) has = All-nil IsEither
  writes_either number (Default y u v) has =
      All-cons IsEither (writing kernel.signals number Left (presence u) y (u ∷ [])) (writing kernel.signals number Right (without (presence v) (presence u)) y (v ∷ []) ∷ [])
      ((λ x e. absurd (not_read x Left (inr (inl refl)) e)), (λ e z o ps kind same is. absurd (let f : Left ≡ Compute = kind in cc)))
      (only IsEither _ ((λ x e. absurd (not_read x Right (inr (inr (inl refl))) e)), (λ e z o ps kind same is. absurd (let f : Right ≡ Compute = kind in cc))))

  stores_either : (number : EqId) (form : Form) → HasForm number form → All IsEither (stores_of kernel.signals presence number form)
  stores_either number (Delay y x initial) has = only IsEither _ ((λ z e. absurd (let f : Store number ≡ Read z = e in cc)), (λ e z o ps kind same is. absurd (let f : Store number ≡ Compute = kind in cc)))
  stores_either number _ has = All-nil IsEither

  all_either : All IsEither (operations_of kernel presence)
  all_either = each_operation IsEither kernel presence HasForm (has_form kernel)
      (λ number lt. (
        (λ x e.
            let f : Read (signal_id number) ≡ Read x = e in
            let one : signal_id number ≡ x = cc in
            (ap Some one, subst (λ (z : SigId). z.0 < kernel.inputs) one lt, ap presence one)),
        (λ e z o ps kind same is. absurd (let f : Read (signal_id number) ≡ Compute = kind in cc)),
      ))
      writes_either stores_either

  pub one_either : (p : Operation) → Contains (operations_of kernel presence) p → IsEither p
  one_either p among = All-contains IsEither (operations_of kernel presence) p all_either among

-- ---- results

-- an equation computes one result of one function of values
pub one_computes : (kernel : Kernel) (instant : Instant) (e : EqId) (a b : Computes kernel instant e)
    → (a.result ≡ b.result) × (a.target ≡ b.target) × (a.function ≡ b.function) × (a.operands ≡ b.operands) × (a.values ≡ b.values)
one_computes kernel instant e a b =
    let equations : Some a.equation ≡ Some b.equation = sym a.is ∙ b.is in
    let one : a.equation ≡ b.equation = cc in
    let forms : Fun a.target a.function a.operands ≡ Fun b.target b.function b.operands = sym a.form ∙ ap (λ (q : Equation). q.form) one ∙ b.form in
    let targets : a.target ≡ b.target = cc in
    let functions : a.function ≡ b.function = cc in
    let operands : a.operands ≡ b.operands = cc in
    let results : Some a.result ≡ Some b.result = sym a.gives ∙ ap (λ (x : SigId). seen_at instant x.0) targets ∙ b.gives in
    let result : a.result ≡ b.result = cc in
    (result, targets, functions, operands, same_values instant a.operands a.values b.values a.have (subst (λ (ps : List Operand). HaveValues instant ps b.values) (sym operands) b.have))

module _ (kernel : Kernel) (memory : Memory) (instant : Instant) (is : IsReaction Unbounded kernel memory instant) where
  decide_computes : (e : EqId) → Decided (Computes kernel instant e)
  decide_computes e = by (slice_get kernel.equations e.0) refl where
    seen_by : (equation : Equation) → slice_get kernel.equations e.0 ≡ Some equation → (y : SigId) (op : FunOp) (operands : List Operand) → equation.form ≡ Fun y op operands
        → (s : Seen) → seen_at instant y.0 ≡ s → IsFunction Unbounded (function_of op) instant operands s → Decided (Computes kernel instant e)
    seen_by equation at y op operands form None none met = inr (λ c.
        let equations : Some c.equation ≡ Some equation = sym c.is ∙ at in
        let one : c.equation ≡ equation = cc in
        let forms : Fun c.target c.function c.operands ≡ Fun y op operands = sym c.form ∙ ap (λ (q : Equation). q.form) one ∙ form in
        let targets : c.target ≡ y = cc in
        let clash : Some c.result ≡ None = sym c.gives ∙ ap (λ (x : SigId). seen_at instant x.0) targets ∙ none in cc)
    seen_by equation at y op operands form (Some v) some met = inl (record { equation = equation; is = at; target = y; function = op; operands = operands; form = form; values = met.0; have = met.1; result = v; gives = some })

    no_form : (equation : Equation) (form : Form) → slice_get kernel.equations e.0 ≡ Some equation → equation.form ≡ form → ((y : SigId) (op : FunOp) (operands : List Operand) → form ≡ Fun y op operands → ⊥)
        → Decided (Computes kernel instant e)
    no_form equation form at is_form never = inr (λ c.
        let equations : Some c.equation ≡ Some equation = sym c.is ∙ at in
        let one : c.equation ≡ equation = cc in
        never c.target c.function c.operands (sym is_form ∙ ap (λ (q : Equation). q.form) (sym one) ∙ c.form))

    of_form : (equation : Equation) → slice_get kernel.equations e.0 ≡ Some equation → (form : Form) → equation.form ≡ form → Meets Unbounded memory instant form → Decided (Computes kernel instant e)
    of_form equation at (Fun y op operands) form met = seen_by equation at y op operands form (seen_at instant y.0) refl met
    of_form equation at (Delay y x initial) form met = no_form equation (Delay y x initial) at form (λ z op operands f. cc)
    of_form equation at (When y x b) form met = no_form equation (When y x b) at form (λ z op operands f. cc)
    of_form equation at (WhenConst y k b) form met = no_form equation (WhenConst y k b) at form (λ z op operands f. cc)
    of_form equation at (Default y u v) form met = no_form equation (Default y u v) at form (λ z op operands f. cc)
    of_form equation at (Sync x y) form met = no_form equation (Sync x y) at form (λ z op operands f. cc)
    of_form equation at (Event y x) form met = no_form equation (Event y x) at form (λ z op operands f. cc)

    by : (found : Option Equation) → slice_get kernel.equations e.0 ≡ found → Decided (Computes kernel instant e)
    by None none = inr (λ c. let f : Some c.equation ≡ None = sym c.is ∙ none in cc)
    by (Some equation) at = of_form equation at equation.form refl
        (at_element (λ (q : Equation). Meets Unbounded memory instant q.form) kernel.equations equation (contains_at kernel.equations e.0 equation at) is.equations)

  abbrev FoundIn : List (List ℤ) → Trace → Operation → Type 0
  FoundIn flows trace q = (cause : Cause) × MeetsFault q cause × HasFault kernel flows trace instant cause

  -- an operation meets a fault, or none
  pub decide_fault : (flows : List (List ℤ)) (trace : Trace) (q : Operation) → Decided ((cause : Cause) × MeetsFault q cause × HasFault kernel flows trace instant cause)
  decide_fault flows trace q = of_kind q.kind refl where
    never : ((x : SigId) → q.kind ≡ Read x → ⊥) → (q.kind ≡ Compute → ⊥) → FoundIn flows trace q → ⊥
    never not_reading not_computing (Exhausted x, meets, fault) = not_reading x meets
    never not_reading not_computing (Overflow e, meets, fault) = not_computing meets.0
    never not_reading not_computing (ZeroDivisor e, meets, fault) = not_computing meets.0
    never not_reading not_computing (Limit, meets, fault) = meets

    within_end : (x : SigId) → q.kind ≡ Read x → (IsPastEnd flows trace instant x → ⊥) → FoundIn flows trace q → ⊥
    within_end x kind fine (Exhausted y, meets, fault) = let f : Read x ≡ Read y = sym kind ∙ meets in let one : x ≡ y = cc in fine (subst (λ (z : SigId). IsPastEnd flows trace instant z) (sym one) fault)
    within_end x kind fine (Overflow e, meets, fault) = let f : Read x ≡ Compute = sym kind ∙ meets.0 in cc
    within_end x kind fine (ZeroDivisor e, meets, fault) = let f : Read x ≡ Compute = sym kind ∙ meets.0 in cc
    within_end x kind fine (Limit, meets, fault) = meets

    no_equation : q.kind ≡ Compute → q.equation ≡ None → FoundIn flows trace q → ⊥
    no_equation kind none (Exhausted x, meets, fault) = let f : Compute ≡ Read x = sym kind ∙ meets in cc
    no_equation kind none (Overflow e, meets, fault) = let f : None ≡ Some e = sym none ∙ meets.1 in cc
    no_equation kind none (ZeroDivisor e, meets, fault) = let f : None ≡ Some e = sym none ∙ meets.1 in cc
    no_equation kind none (Limit, meets, fault) = meets

    no_result : (e : EqId) → q.kind ≡ Compute → q.equation ≡ Some e → ((c : Computes kernel instant e) → (has_64_bits c.result ≡ true) × (divides_by_zero (function_of c.function) c.values ≡ false)) → FoundIn flows trace q → ⊥
    no_result e kind is_e fine (Exhausted x, meets, fault) = let f : Compute ≡ Read x = sym kind ∙ meets in cc
    no_result e kind is_e fine (Overflow d, meets, fault) =
        let f : Some d ≡ Some e = sym meets.1 ∙ is_e in
        let one : d ≡ e = cc in
        let here = subst (λ (n : EqId). HasFault kernel flows trace instant (Overflow n)) one fault in
        let clash : true ≡ false = sym (fine here.0).0 ∙ here.1 in cc
    no_result e kind is_e fine (ZeroDivisor d, meets, fault) =
        let f : Some d ≡ Some e = sym meets.1 ∙ is_e in
        let one : d ≡ e = cc in
        let here = subst (λ (n : EqId). HasFault kernel flows trace instant (ZeroDivisor n)) one fault in
        let clash : false ≡ true = sym (fine here.0).1 ∙ here.1 in cc
    no_result e kind is_e fine (Limit, meets, fault) = meets

    of_result : (e : EqId) → q.kind ≡ Compute → q.equation ≡ Some e → (c : Computes kernel instant e) → (small zeroed : Bool) → has_64_bits c.result ≡ small → divides_by_zero (function_of c.function) c.values ≡ zeroed → Decided (FoundIn flows trace q)
    of_result e kind is_e c false zeroed large by_zero = inl (Overflow e, (kind, is_e), (c, large))
    of_result e kind is_e c true true small by_zero = inl (ZeroDivisor e, (kind, is_e), (c, by_zero))
    of_result e kind is_e c true false small by_zero = inr (no_result e kind is_e (λ d.
        let same = one_computes kernel instant e d c in
        (ap has_64_bits same.0 ∙ small, ap (λ (o : FunOp). divides_by_zero (function_of o) d.values) same.2 ∙ ap (divides_by_zero (function_of c.function)) same.4 ∙ by_zero)))

    of_computes : (e : EqId) → q.kind ≡ Compute → q.equation ≡ Some e → Decided (Computes kernel instant e) → Decided (FoundIn flows trace q)
    of_computes e kind is_e (inl c) = of_result e kind is_e c (has_64_bits c.result) (divides_by_zero (function_of c.function) c.values) refl refl
    of_computes e kind is_e (inr none) = inr (no_result e kind is_e (λ c. absurd (none c)))

    of_equation : (found : Option EqId) → q.kind ≡ Compute → q.equation ≡ found → Decided (FoundIn flows trace q)
    of_equation None kind none = inr (no_equation kind none)
    of_equation (Some e) kind is_e = of_computes e kind is_e (decide_computes e)

    of_end : (x : SigId) → q.kind ≡ Read x → ((length (flow_of x.0 (trace ++ instant ∷ [])) ≤ length (get_or flows x.0 [])) ⊎ (length (get_or flows x.0 []) < length (flow_of x.0 (trace ++ instant ∷ [])))) → Decided (FoundIn flows trace q)
    of_end x kind (inl le) = inr (within_end x kind (λ past. omega (arith, le, past)))
    of_end x kind (inr past) = inl (Exhausted x, kind, past)

    of_kind : (kind : OpKind) → q.kind ≡ kind → Decided (FoundIn flows trace q)
    of_kind (Read x) kind = of_end x kind (at_most_or (length (flow_of x.0 (trace ++ instant ∷ []))) (length (get_or flows x.0 [])))
    of_kind Compute kind = of_equation q.equation kind refl
    of_kind Left kind = inr (never (λ x e. let f : Left ≡ Read x = sym kind ∙ e in cc) (λ e. let f : Left ≡ Compute = sym kind ∙ e in cc))
    of_kind Right kind = inr (never (λ x e. let f : Right ≡ Read x = sym kind ∙ e in cc) (λ e. let f : Right ≡ Compute = sym kind ∙ e in cc))
    of_kind DelayRead kind = inr (never (λ x e. let f : DelayRead ≡ Read x = sym kind ∙ e in cc) (λ e. let f : DelayRead ≡ Compute = sym kind ∙ e in cc))
    of_kind (Store d) kind = inr (never (λ x e. let f : Store d ≡ Read x = sym kind ∙ e in cc) (λ e. let f : Store d ≡ Compute = sym kind ∙ e in cc))
