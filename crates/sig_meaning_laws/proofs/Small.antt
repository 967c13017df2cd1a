-- Where no operation of an instant has a fault, its values have 64 bits and nothing is divided by 0.
use Rattle.sig_meaning_laws.proofs.Common.{◌≡◌, ◌<◌, inl, inr, ℕ, suc, ℤ, pos, Bool, true, false, not, List, [], ◌∷◌, length, map, get_or, refl, ap, sym, subst, ◌∙◌, Contains, All, Option, None, Some, is_some, slice_get, and_parts, All-cons, All-contains, All-nil, AreOfKinds, Bounded, Instant, IsOfKind, IsValue, Seen, Trace, Unbounded, has_64_bits, seen_at, EqId, Kind, Integer, Boolean, AnEvent, SigId, Signal, Span, fits_by_test, signal_id, IsFunction, IsReaction, IsTraceIn, Meets, function_of, or_else, remembered, form_fits, kind_of, target_fits, IsValid, form_within, Equation, Form, Fun, Delay, When, WhenConst, Default, Sync, Event, FunOp, Sig, Const, Operand, Kernel, few_constants, remembered_value, Computes, HasFault, IsPastEnd, MeetsFault, divides_by_zero, Operation, Presence, equation_id, operations_of, signals_of, stores_of, without, writes_of, writing, Writes, Cause, Exhausted, Overflow, Compute, Left, Right, each_operation, first_below, only, operands_below, contains_at, contains_head, slice_get-get_or, at_element, not_true}
use Rattle.sig_meaning_laws.proofs.Equations.{from_index}
use Rattle.sig_meaning_laws.proofs.Results.{bounded_gives}
use Rattle.sig_meaning_laws.proofs.Values.{none_where, where_present_some, where_some, where_true_some}

pub small_value : (kind : Kind) (v : ℤ) → IsValue Bounded kind v → has_64_bits v ≡ true
small_value Integer v is = (fits_by_test v).1 is
small_value Boolean v (inl e) = ap has_64_bits e
small_value Boolean v (inr e) = ap has_64_bits e
small_value AnEvent v is = ap has_64_bits is

or_else_left : (u v : Seen) (w : ℤ) → u ≡ Some w → or_else u v ≡ u
or_else_left u v w e = ap (λ s. or_else s v) e ∙ sym e

module _ (kernel : Kernel) (valid : IsValid kernel) (flows : List (List ℤ)) (trace : Trace) (is_trace : IsTraceIn Bounded kernel trace) (instant : Instant)
    (is : IsReaction Unbounded kernel (remembered trace) instant) (presence : Presence) (proposal : List Bool)
    (there_at : (x : SigId) → x.0 < length kernel.signals → is_some (seen_at instant x.0) ≡ presence x proposal)
    (read_small : (input : ℕ) (v : ℤ) → input < kernel.inputs → seen_at instant input ≡ Some v → (IsPastEnd flows trace instant (signal_id input) → ⊥) → has_64_bits v ≡ true) where
  -- no fault is met by an operation
  abbrev NoFaultOf : Operation → Type 0
  NoFaultOf p = (cause : Cause) → MeetsFault p cause → HasFault kernel flows trace instant cause → ⊥

  abbrev SmallSeen : SigId → Type 0
  SmallSeen x = (w : ℤ) → seen_at instant x.0 ≡ Some w → has_64_bits w ≡ true

  abbrev IsSmall : Operation → Type 0
  IsSmall p = (z : SigId) → Writes p z → p.guard proposal ≡ true → ((x : SigId) → Contains p.reads x → SmallSeen x) → NoFaultOf p → SmallSeen z

  record IsEquation (number : EqId) (form : Form) : Type 0 where
    equation : Equation
    at : slice_get kernel.equations number.0 ≡ Some equation
    has : equation.form ≡ form
    met : Meets Unbounded (remembered trace) instant form
    within : form_within (length kernel.signals) form ≡ true
    fits : form_fits kernel.signals form ≡ true
    span : Span
    there : Contains kernel.equations (record { form = form; at = span })

  moved : (y z : SigId) → Some y ≡ Some z → SmallSeen y → SmallSeen z
  moved y z target small = let one : y ≡ z = cc in subst SmallSeen one small

  -- what is seen of a result
  computes : (number : EqId) (y : SigId) (op : FunOp) (operands : List Operand) (v : ℤ) → IsEquation number (Fun y op operands) → seen_at instant y.0 ≡ Some v
      → (c : Computes kernel instant number) × (c.result ≡ v)
  computes number y op operands v e seen =
      let given : IsFunction Unbounded (function_of op) instant operands (Some v) = subst (λ s. IsFunction Unbounded (function_of op) instant operands s) seen e.met in
      (record { equation = e.equation; is = e.at; target = y; function = op; operands = operands; form = e.has; values = given.0; have = given.1; result = v; gives = seen }, refl)

  delay_small : (number : EqId) (y x : SigId) (initial : ℤ) → IsEquation number (Delay y x initial) → SmallSeen y
  delay_small number y x initial e w seen = by (slice_get kernel.signals y.0) refl where
    held : remembered trace y.0 x.0 initial ≡ w
    held = where_present_some (seen_at instant x.0) (remembered trace y.0 x.0 initial) w (sym e.met ∙ seen)

    by : (owner : Option Signal) → slice_get kernel.signals y.0 ≡ owner → has_64_bits w ≡ true
    by None none = absurd (let f : false ≡ true = sym (ap (λ o. target_fits kernel.signals (kind_of o) (Delay y x initial)) none) ∙ e.fits in cc)
    by (Some signal) own =
        subst (λ v. has_64_bits v ≡ true) held (small_value signal.kind (remembered trace y.0 x.0 initial)
        (remembered_value Bounded kernel trace y x initial e.span signal.kind valid.equations is_trace e.there (ap kind_of own)))

  constant_small : (number : EqId) (y b : SigId) (constant : ℤ) → IsEquation number (WhenConst y constant b) → SmallSeen y
  constant_small number y b constant e w seen =
      let same : constant ≡ w = (let f : Some constant ≡ Some w = where_true_some (seen_at instant b.0) (Some constant) w (sym e.met ∙ seen) in cc) in
      subst (λ v. has_64_bits v ≡ true) same ((fits_by_test constant).1 (few_constants kernel (record { form = WhenConst y constant b; at = e.span }) constant valid.equations e.there (contains_head (Const constant) (Sig b ∷ []))))

  writes_small : (number : EqId) (form : Form) → IsEquation number form → All IsSmall (writes_of kernel.signals presence number form)
  writes_small number (Fun y op operands) e = only IsSmall _ (λ z target done reads none. moved y z target (λ w seen. by w seen none (has_64_bits w) refl)) where
    by : (w : ℤ) → seen_at instant y.0 ≡ Some w → NoFaultOf (writing kernel.signals number Compute (presence y) y (signals_of operands)) → (b : Bool) → has_64_bits w ≡ b → has_64_bits w ≡ true
    by w seen none true small = small
    by w seen none false large =
        let c = computes number y op operands w e seen in
        absurd (none (Overflow number) (refl, refl) (c.0, ap has_64_bits c.1 ∙ large))
  writes_small number (When y x b) e = only IsSmall _ (λ z target done reads none. moved y z target (λ w seen.
      reads x (contains_head x []) w (where_true_some (seen_at instant b.0) (seen_at instant x.0) w (sym e.met ∙ seen))))
  writes_small number (WhenConst y constant b) e = only IsSmall _ (λ z target done reads none. moved y z target (constant_small number y b constant e))
  writes_small number (Event y x) e = only IsSmall _ (λ z target done reads none. moved y z target (λ w seen.
      ap has_64_bits (sym (where_present_some (seen_at instant x.0) (pos 1) w (sym e.met ∙ seen)))))
  writes_small number (Delay y x initial) e = only IsSmall _ (λ z target done reads none. moved y z target (delay_small number y x initial e))
  writes_small number (Sync x y) e = All-nil IsSmall
  writes_small number (Default y u v) e =
      let operands = operands_below (length kernel.signals) (Default y u v) e.within in
      All-cons IsSmall (writing kernel.signals number Left (presence u) y (u ∷ [])) (writing kernel.signals number Right (without (presence v) (presence u)) y (v ∷ []) ∷ [])
      (λ z target done reads none. moved y z target (λ w seen.
      let there = where_some (seen_at instant u.0) (there_at u (first_below (length kernel.signals) u _ operands) ∙ done) in
      reads u (contains_head u []) w (sym (or_else_left (seen_at instant u.0) (seen_at instant v.0) there.0 there.1) ∙ sym e.met ∙ seen)))
      (only IsSmall _ (λ z target done reads none. moved y z target (λ w seen.
      let parts = and_parts (presence v proposal) (not (presence u proposal)) done in
      let absent = none_where (seen_at instant u.0) (there_at u (first_below (length kernel.signals) u _ operands) ∙ not_true (presence u proposal) parts.1) in
      reads v (contains_head v []) w (sym (ap (λ s. or_else s (seen_at instant v.0)) absent) ∙ sym e.met ∙ seen))))

  stores_small : (number : EqId) (form : Form) → IsEquation number form → All IsSmall (stores_of kernel.signals presence number form)
  stores_small number (Delay y x initial) e = only IsSmall _ (λ z target done reads none. absurd (let f : None ≡ Some z = target in cc))
  stores_small number _ e = All-nil IsSmall

  is_equation : (k : ℕ) (d : Equation) → k < length kernel.equations → IsEquation (equation_id k) (get_or kernel.equations k d).form
  is_equation k d lt = record {
    equation = get_or kernel.equations k d;
    at = slice_get-get_or kernel.equations k d lt;
    has = refl;
    met = at_element (λ (equation : Equation). Meets Unbounded (remembered trace) instant equation.form) kernel.equations (get_or kernel.equations k d)
        (contains_at kernel.equations k (get_or kernel.equations k d) (slice_get-get_or kernel.equations k d lt)) is.equations;
    within = valid.equations.within k d lt;
    fits = valid.equations.fit k d lt;
    span = (get_or kernel.equations k d).at;
    there = contains_at kernel.equations k (get_or kernel.equations k d) (slice_get-get_or kernel.equations k d lt);
  }

  all_small : All IsSmall (operations_of kernel presence)
  all_small = each_operation IsSmall kernel presence IsEquation is_equation
      (λ number lt z target done reads none.
      let e : Some (signal_id number) ≡ Some z = target in
      moved (signal_id number) z e (λ w seen. read_small number w lt seen (λ past. none (Exhausted (signal_id number)) refl past)))
      writes_small stores_small

  -- what an operation writes has 64 bits, where what it reads has and it meets no fault
  pub one_small : (p : Operation) → Contains (operations_of kernel presence) p → (z : SigId) → Writes p z → p.guard proposal ≡ true
      → ((x : SigId) → Contains p.reads x → (w : ℤ) → seen_at instant x.0 ≡ Some w → has_64_bits w ≡ true)
      → ((cause : Cause) → MeetsFault p cause → HasFault kernel flows trace instant cause → ⊥) → (w : ℤ) → seen_at instant z.0 ≡ Some w → has_64_bits w ≡ true
  one_small p among = All-contains IsSmall (operations_of kernel presence) p all_small among

  -- an instant whose values have 64 bits and where nothing is divided by 0 is within bounds
  module _ (small : (x : ℕ) (w : ℤ) → seen_at instant x ≡ Some w → has_64_bits w ≡ true)
      (apart : (k : ℕ) (c : Computes kernel instant (equation_id k)) → k < length kernel.equations → divides_by_zero (function_of c.function) c.values ≡ false) where
    small_kind : (kind : Kind) (s : Seen) → ((w : ℤ) → s ≡ Some w → has_64_bits w ≡ true) → IsOfKind Unbounded kind s → IsOfKind Bounded kind s
    small_kind kind None few of = tt
    small_kind Integer (Some v) few of = (fits_by_test v).0 (few v refl)
    small_kind _ (Some v) few of = of

    small_kinds : (kinds : List Kind) (t : Instant) → ((x : ℕ) (w : ℤ) → seen_at t x ≡ Some w → has_64_bits w ≡ true) → AreOfKinds Unbounded kinds t → AreOfKinds Bounded kinds t
    small_kinds [] [] few are = tt
    small_kinds (kind ∷ kinds) (s ∷ t) few are = (small_kind kind s (λ w e. few 0 w e) are.0, small_kinds kinds t (λ x w e. few (suc x) w e) are.1)
    small_kinds _ _ few are = absurd are

    function_bounded : (number : EqId) (y : SigId) (op : FunOp) (operands : List Operand) → IsEquation number (Fun y op operands)
        → ((c : Computes kernel instant number) → divides_by_zero (function_of c.function) c.values ≡ false) → (s : Seen) → seen_at instant y.0 ≡ s
        → IsFunction Unbounded (function_of op) instant operands s → IsFunction Bounded (function_of op) instant operands s
    function_bounded number y op operands e no_zero None seen met = met
    function_bounded number y op operands e no_zero (Some v) seen met = (
      met.0,
      met.1,
      bounded_gives (function_of op) met.0 v
          (no_zero (record { equation = e.equation; is = e.at; target = y; function = op; operands = operands; form = e.has; values = met.0; have = met.1; result = v; gives = seen })) met.2,
    )

    form_bounded : (number : EqId) (form : Form) → IsEquation number form → ((c : Computes kernel instant number) → divides_by_zero (function_of c.function) c.values ≡ false)
        → Meets Bounded (remembered trace) instant form
    form_bounded number (Fun y op operands) e no_zero = function_bounded number y op operands e no_zero (seen_at instant y.0) refl e.met
    form_bounded number _ e no_zero = e.met

    pub bounded_reaction : IsReaction Bounded kernel (remembered trace) instant
    bounded_reaction = record {
      kinds = small_kinds (map (λ (signal : Signal). signal.kind) kernel.signals) instant small is.kinds;
      equations = from_index (λ (equation : Equation). Meets Bounded (remembered trace) instant equation.form) kernel.equations
          (λ k d lt. form_bounded (equation_id k) (get_or kernel.equations k d).form (is_equation k d lt) (λ c. apart k c lt));
    }
