-- An operation that is done and comes to a value meets no fault, and leaves an actor amid the instant.
use Rattle.sig_doing_laws.proofs.Common.{compiled_operations, compiled_order, ◌≡◌, ◌<◌, ◌≤◌, ◌+◌, ◌++◌, ◌⊎◌, inl, inr, ℕ, ℤ, Bool, true, false, cond, List, [], ◌∷◌, length, map, get_or, refl, ap, sym, subst, ◌∙◌, arith, Contains, Option, None, Some, slice_get, slice_index, option_to_list, ◌==◌, eq-eqb, eqb-true, length-append, Function, Instant, Seen, Trace, flow_of, seen_at, EqId, SigId, abstraction_of, test, IsAmid, stepped, IsDone, IsWrittenBefore, StandsAt, StandsBefore, function_of, remembered, target_of, AreFlowsFor, Equation, Delay, IsAt, IsOutcome, compiled, Compiled, fitting, flow_more, next_in, is_outcome, Fitting, stored, form_in, have_map, same_operands, Actor, truths_of, with_at, with_signal, Computes, HasFault, Meets, Faults, Gives, bounded, computed, computed_at, computed_by, computed_for, defined_by, first_in, next_of, operand_in, operated, outcome, outcome_by, remembers, taken_by, divides_by_zero, has_64_bits, result_of, Operation, operation_in, Keeps, Precedes, IsAccepted, PlanView, Cause, Exhausted, Limit, Overflow, ZeroDivisor, Op, OpKind, Compute, DelayRead, Read, Store, written_by_one, kept_order, stands_once, cases_eq, got, signal_same}
use Rattle.sig_doing_laws.proofs.Amid.{guard_known, here, place_within, reads_known, sound_next}
use Rattle.sig_doing_laws.proofs.Committed.{committed_clean}
use Rattle.sig_doing_laws.proofs.DefinedOnce.{defined_once, one_memory, same_equation}
use Rattle.sig_doing_laws.proofs.ReferenceInstant.{among, compute_is, goes_on, is_next, keeps, read_is, remembered_present, speaks}
use Rattle.sig_doing_laws.proofs.Places.{at_place, places, stands_before_or_here, stands_here, stands_later, written_before_or_here, written_here, written_later}

-- ---- functions with another value at one number

at_same : {A : Type 0} (y : SigId) (v : A) (g : ℕ → A) (x : ℕ) → y.0 ≡ x → with_at y.0 v g x ≡ v
at_same {A} y v g x same = ap (λ b. cond b v (g x)) (eq-eqb x y.0 (sym same))

at_other : {A : Type 0} (y : SigId) (v : A) (g : ℕ → A) (x : ℕ) → (y.0 ≡ x → ⊥) → with_at y.0 v g x ≡ g x
at_other {A} y v g x apart = by (x == y.0) refl where
  by : (b : Bool) → (x == y.0) ≡ b → with_at y.0 v g x ≡ g x
  by true e = absurd (apart (sym (eqb-true x y.0 e)))
  by false e = ap (λ b. cond b v (g x)) e

-- with a value at a signal, if there is one: the value at that signal, and elsewhere what was there
signal_cases : {A : Type 0} (P : A → Type 0) (o : Option SigId) (v : A) (g : ℕ → A) (x : SigId) → (o ≡ Some x → P v) → ((o ≡ Some x → ⊥) → P (g x.0)) → P (with_signal o v g x.0)
signal_cases {A} P None v g x same other = other (λ e. let f : None ≡ Some x = e in cc)
signal_cases {A} P (Some z) v g x same other = elim (cases_eq z.0 x.0) [
  | inl e ↦ subst P (sym (at_same z v g x.0 e)) (same (ap Some (signal_same z x e)))
  | inr apart ↦ subst P (sym (at_other z v g x.0 apart)) (other (λ e. apart (let f : Some z ≡ Some x = e in let one : z ≡ x = cc in ap (λ (y : SigId). y.0) one)))
]

-- ---- outcomes that are values

gives_value : (a b : ℤ) → Gives a ≡ Gives b → a ≡ b
gives_value a b e = cc

by_fault : (cause : Cause) (w : ℤ) → Faults cause ≡ Gives w → ⊥
by_fault cause w f = cc

pub gives_bounded : (e : EqId) (function : Function) (values : List ℤ) (v : ℤ) → computed e function values ≡ Gives v → (divides_by_zero function values ≡ false) × (has_64_bits v ≡ true)
gives_bounded e function values v is = by (divides_by_zero function values) (has_64_bits (result_of function values)) refl refl where
  by : (zeroed small : Bool) → divides_by_zero function values ≡ zeroed → has_64_bits (result_of function values) ≡ small → (divides_by_zero function values ≡ false) × (has_64_bits v ≡ true)
  by true small by_zero fits =
      let f : Faults (ZeroDivisor e) ≡ Gives v = sym (ap (λ b. cond b (Faults (ZeroDivisor e)) (bounded e (result_of function values))) by_zero) ∙ is in absurd (by_fault (ZeroDivisor e) v f)
  by false small by_zero fits = (by_zero, small_value small fits (sym (ap (λ b. cond b (Faults (ZeroDivisor e)) (bounded e (result_of function values))) by_zero) ∙ is)) where
    small_value : (b : Bool) → has_64_bits (result_of function values) ≡ b → bounded e (result_of function values) ≡ Gives v → has_64_bits v ≡ true
    small_value true fits gives = ap has_64_bits (sym (gives_value (result_of function values) v (sym (ap (λ b. cond b (Gives (result_of function values)) (Faults (Overflow e))) fits) ∙ gives))) ∙ fits
    small_value false fits gives =
        let f : Faults (Overflow e) ≡ Gives v = sym (ap (λ b. cond b (Gives (result_of function values)) (Faults (Overflow e))) fits) ∙ gives in absurd (by_fault (Overflow e) v f)

abbrev target_in : Option Equation → Option SigId
target_in None = None
target_in (Some p) = target_of p.form

-- an instant has one value of a signal at most
pub one_longer : (trace : Trace) (instant : Instant) (x : ℕ) → length (flow_of x (trace ++ instant ∷ [])) ≤ length (flow_of x trace) + 1
one_longer trace instant x =
    let joined = ap length (flow_more x trace instant) ∙ length-append (flow_of x trace) (option_to_list (seen_at instant x)) in
    let one = at_most (seen_at instant x) in
    omega (arith, joined, one) where
      at_most : (seen : Seen) → length (option_to_list seen) ≤ 1
      at_most None = omega arith
      at_most (Some v) = omega arith

module _ (plan : PlanView) (accepted : IsAccepted plan) (flows : List (List ℤ)) (fit : AreFlowsFor plan.kernel flows) (trace : Trace) (instant : Instant)
    (actor : Actor) (amid : IsAmid plan flows trace instant actor) (op : Op) (stands : StandsAt plan actor.step op)
    (ready : test plan.store.nodes op.guard (truths_of plan.clocks.conditions actor.registers) ≡ true) where
  abbrev c : Compiled plan.kernel plan.clocks.conditions (compiled_operations plan) (compiled_order plan)
  c = compiled plan accepted

  abbrev f : Fitting plan.kernel flows
  f = fitting plan accepted flows fit

  abbrev next : ℕ → ℤ
  next = next_in plan.kernel flows trace

  abbrev own : List Bool
  own = truths_of plan.clocks.conditions (seen_at instant)

  abbrev q : Operation
  q = operation_in plan.store.nodes op

  abbrev at : slice_get (compiled_operations plan) (slice_index (compiled_order plan) actor.step) ≡ Some q
  at = (here plan accepted flows fit trace instant actor amid op stands).1

  pub done : IsDone plan instant op
  done = sym (guard_known plan accepted flows fit trace instant actor amid op stands) ∙ ready

  -- the read of an input stands once in the order
  read_first : (x : SigId) → op.kind ≡ Read x → StandsBefore plan actor.step (Read x) → ⊥
  read_first x kind b =
      let is = read_is plan accepted flows fit trace instant amid.behind amid.next actor.step op stands x kind in
      let too = read_is plan accepted flows fit trace instant amid.behind amid.next b.at b.op b.stands x b.does in
      let there = at_place plan b.at b.op b.stands in
      let one = written_by_one plan.kernel c.valid plan.clocks.conditions (compiled_operations plan) c.has own (abstraction_of plan.kernel.signals instant) (speaks plan accepted flows fit trace instant amid.behind amid.next)
      (keeps plan accepted flows fit trace instant amid.behind amid.next) (slice_index (compiled_order plan) b.at) (slice_index (compiled_order plan) actor.step) (operation_in plan.store.nodes b.op) q x there.1 at too.0 is.0
      (too.2 ∙ sym is.2 ∙ done) done in
      let same = stands_once (Precedes plan.clocks.conditions (compiled_operations plan)) (length (compiled_operations plan)) (compiled_order plan) c.ordered b.at actor.step (omega (arith, b.earlier, within)) within one in
      omega (arith, same, b.earlier) where
        within : actor.step < length (compiled_operations plan)
        within = place_within plan accepted flows fit trace instant actor amid op stands

  -- the read of a delay stands before its store
  memory_first : (e : EqId) → op.kind ≡ DelayRead → op.eq ≡ Some e → StandsBefore plan actor.step (Store e) → ⊥
  memory_first e kind is_e b =
      let there = at_place plan b.at b.op b.stands in
      let keeping : Keeps q (operation_in plan.store.nodes b.op) = record { delay = e; read = kind; of = is_e; store = b.does } in
      let precedes : Precedes plan.clocks.conditions (compiled_operations plan) (slice_index (compiled_order plan) actor.step) (slice_index (compiled_order plan) b.at) = record { p = q; q = operation_in plan.store.nodes b.op; is = at; other = there.1; before = inr (inr keeping) } in
      let earlier = kept_order (Precedes plan.clocks.conditions (compiled_operations plan)) (length (compiled_operations plan)) (compiled_order plan) c.ordered b.at (omega (arith, b.earlier, within)) (slice_index (compiled_order plan) actor.step) precedes in
      let same = stands_once (Precedes plan.clocks.conditions (compiled_operations plan)) (length (compiled_operations plan)) (compiled_order plan) c.ordered earlier.0 actor.step (omega (arith, earlier.1, b.earlier, within)) within earlier.2 in
      omega (arith, same, earlier.1, b.earlier) where
        within : actor.step < length (compiled_operations plan)
        within = place_within plan accepted flows fit trace instant actor amid op stands

  pub is_at : IsAt plan.kernel trace instant op actor
  is_at = record {
    reads = reads_known plan accepted flows fit trace instant actor amid op stands done;
    memories = λ number y x initial equation there form writes.
        let e : EqId = record { 0 = number } in
        let reading = one_memory plan.kernel c.valid c.has.presence e y x initial equation there form q (among plan accepted flows fit trace instant amid.behind amid.next actor.step op stands) writes in
        amid.kept e equation y x initial there form (memory_first e reading.0 reading.1);
    taken = λ x kind. amid.unread x (read_is plan accepted flows fit trace instant amid.behind amid.next actor.step op stands x kind).1 (read_first x kind);
  }

  pub outcome_is : IsOutcome plan.kernel flows trace instant q (outcome plan.kernel flows actor op)
  outcome_is = is_outcome plan.kernel plan.clocks.conditions (compiled_operations plan) (compiled_order plan) c flows f trace (committed_clean plan accepted flows fit trace amid.behind) instant (goes_on plan accepted flows fit trace instant amid.behind amid.next)
      plan.store.nodes (slice_index (compiled_order plan) actor.step) op at actor is_at done

  module _ (v : ℤ) (gives : outcome plan.kernel flows actor op ≡ Gives v) where
    pub given : (x : SigId) → op.writes ≡ Some x → seen_at instant x.0 ≡ Some v
    given = subst (IsOutcome plan.kernel flows trace instant q) gives outcome_is

    by_kind : (kind : OpKind) → op.kind ≡ kind → outcome_by plan.kernel flows actor op kind ≡ Gives v
    by_kind kind is = ap (outcome_by plan.kernel flows actor op) (sym is) ∙ gives

    -- ---- no fault is met

    within_flow : (x : SigId) → op.kind ≡ Read x → actor.taken x.0 < length (get_or flows x.0 [])
    within_flow x kind = by (slice_get (get_or flows x.0 []) (actor.taken x.0)) refl where
      by : (found : Option ℤ) → slice_get (get_or flows x.0 []) (actor.taken x.0) ≡ found → actor.taken x.0 < length (get_or flows x.0 [])
      by None none = absurd (let g : Faults (Exhausted x) ≡ Gives v = sym (ap (next_of x) none) ∙ by_kind (Read x) kind in cc)
      by (Some w) some = (got (get_or flows x.0 []) (actor.taken x.0) w w some).0

    fine : (e : EqId) → op.kind ≡ Compute → op.eq ≡ Some e → (d : Computes plan.kernel instant e) → (has_64_bits d.result ≡ true) × (divides_by_zero (function_of d.function) d.values ≡ false)
    fine e kind is_e d =
        let is = compute_is plan accepted flows fit trace instant amid.behind amid.next actor.step op stands kind e is_e d in
        let values : d.values ≡ map (operand_in actor.registers) d.operands =
        have_map instant d.operands d.values d.have ∙ same_operands (seen_at instant) actor.registers d.operands (λ x inside. sym (is_at.reads x (subst (λ (xs : List SigId). Contains xs x) (sym is.1) inside))) in
        let result : computed e (function_of d.function) (map (operand_in actor.registers) d.operands) ≡ Gives v =
        ap (computed_by actor.registers e) (sym d.form) ∙ ap (computed_at actor.registers e) (sym d.is) ∙ ap (computed_for plan.kernel actor.registers) (sym is_e) ∙ by_kind Compute kind in
        let parts = gives_bounded e (function_of d.function) (map (operand_in actor.registers) d.operands) v result in
        let both : Some d.result ≡ Some v = sym d.gives ∙ given d.target is.0 in
        let same : d.result ≡ v = cc in
        (ap has_64_bits same ∙ parts.1, ap (divides_by_zero (function_of d.function)) values ∙ parts.0)

    no_fault : (cause : Cause) → Meets q cause → HasFault plan.kernel flows trace instant cause → ⊥
    no_fault (Exhausted x) kind past = omega (arith, past, within_flow x kind, is_at.taken x kind, one_longer trace instant x.0)
    no_fault (Overflow e) meets fault = let clash : true ≡ false = sym (fine e meets.0 meets.1 fault.0).0 ∙ fault.1 in cc
    no_fault (ZeroDivisor e) meets fault = let clash : true ≡ false = sym fault.1 ∙ (fine e meets.0 meets.1 fault.0).1 in cc
    no_fault Limit meets fault = meets

    -- ---- what is stored

    remembers_by : (kind : OpKind) (y : SigId) → remembers plan.kernel kind ≡ Some y → (d : EqId) × (kind ≡ Store d) × (defined_by plan.kernel d ≡ Some y)
    remembers_by (Store d) y is = (d, refl, is)
    remembers_by _ y is = absurd (let g : None ≡ Some y = is in cc)

    defining_equation : (d : EqId) (y : SigId) → defined_by plan.kernel d ≡ Some y → (p : Equation) × (slice_get plan.kernel.equations d.0 ≡ Some p) × (target_of p.form ≡ Some y)
    defining_equation d y is = by (slice_get plan.kernel.equations d.0) refl where
      by : (found : Option Equation) → slice_get plan.kernel.equations d.0 ≡ found → (p : Equation) × (slice_get plan.kernel.equations d.0 ≡ Some p) × (target_of p.form ≡ Some y)
      by None none = absurd (let g : None ≡ Some y = sym (ap target_in none) ∙ is in cc)
      by (Some p) some = (p, some, sym (ap target_in some) ∙ is)

    -- the operation into whose memory goes the delay of a signal is the delay's store
    is_store : (e : EqId) (equation : Equation) (y x : SigId) (initial : ℤ) → slice_get plan.kernel.equations e.0 ≡ Some equation → equation.form ≡ Delay y x initial
        → remembers plan.kernel op.kind ≡ Some y → op.kind ≡ Store e
    is_store e equation y x initial there form is =
        let found = remembers_by op.kind y is in
        let p = defining_equation found.0 y found.2 in
        found.1 ∙ ap Store (same_equation found.0 e (defined_once plan.kernel c.valid found.0.0 e.0 p.0 equation y p.1 there p.2 (ap target_of form)))

    store_remembers : (e : EqId) (equation : Equation) (y x : SigId) (initial : ℤ) → slice_get plan.kernel.equations e.0 ≡ Some equation → equation.form ≡ Delay y x initial
        → op.kind ≡ Store e → remembers plan.kernel op.kind ≡ Some y
    store_remembers e equation y x initial there form kind = ap (remembers plan.kernel) kind ∙ ap target_in there ∙ ap target_of form

    now_stored : (e : EqId) (equation : Equation) (y x : SigId) (initial : ℤ) → slice_get plan.kernel.equations e.0 ≡ Some equation → equation.form ≡ Delay y x initial
        → op.kind ≡ Store e → v ≡ remembered (trace ++ instant ∷ []) y.0 x.0 initial
    now_stored e equation y x initial there form kind =
        let kept = stored plan.kernel plan.clocks.conditions (compiled_operations plan) (compiled_order plan) c (remembered trace) next instant (is_next plan accepted flows fit trace instant amid.behind amid.next) (slice_index (compiled_order plan) actor.step) q at done e y x initial kind
        (ap form_in there ∙ ap Some form) actor.registers is_at.reads in
        let same : first_in actor.registers op.reads ≡ v = gives_value (first_in actor.registers op.reads) v (by_kind (Store e) kind) in
        sym (remembered_present trace instant y x initial v (kept ∙ ap Some same))

    -- ---- what is read

    now_read : (x : SigId) → op.kind ≡ Read x → actor.taken x.0 + 1 ≡ length (flow_of x.0 (trace ++ instant ∷ []))
    now_read x kind =
        let is = read_is plan accepted flows fit trace instant amid.behind amid.next actor.step op stands x kind in
        let longer = ap length (flow_more x.0 trace instant ∙ ap (λ s. flow_of x.0 trace ++ option_to_list s) (given x is.0)) ∙ length-append (flow_of x.0 trace) (v ∷ []) in
        omega (arith, longer, is_at.taken x kind)

    taken_cases : (P : ℕ → Type 0) (kind : OpKind) (x : SigId) → (kind ≡ Read x → P (actor.taken x.0 + 1)) → ((kind ≡ Read x → ⊥) → P (actor.taken x.0)) → P (taken_by kind actor.taken x.0)
    taken_cases P (Read z) x same other = elim (cases_eq z.0 x.0) [
      | inl e ↦
          let one : z ≡ x = signal_same z x e in
          subst P (sym (at_same z (actor.taken z.0 + 1) actor.taken x.0 e ∙ ap (λ (y : SigId). actor.taken y.0 + 1) one)) (same (ap Read one))
      | inr apart ↦ subst P (sym (at_other z (actor.taken z.0 + 1) actor.taken x.0 apart)) (other (λ e. apart (let g : Read z ≡ Read x = e in let one : z ≡ x = cc in ap (λ (y : SigId). y.0) one)))
    ]
    taken_cases P (Store e) x same other = other (λ is. let g : Store e ≡ Read x = is in cc)
    taken_cases P kind x same other = other (λ is. let g : kind ≡ Read x = is in cc)

    -- ---- behind the operation

    pub done_behind : IsAmid plan flows trace instant (stepped (operated plan.kernel op v actor))
    done_behind = record {
      behind = amid.behind;
      next = amid.next;
      number = amid.number;
      within = omega (arith, (here plan accepted flows fit trace instant actor amid op stands).0, places plan);
      written = λ x w. signal_cases (λ s. s ≡ seen_at instant x.0) op.writes (Some v) actor.registers x (λ writes. sym (given x writes))
          (λ apart. written x apart (written_before_or_here plan instant actor.step op stands x w));
      unwritten = λ x none. signal_cases (λ s. s ≡ None) op.writes (Some v) actor.registers x (λ writes. absurd (none (written_here plan instant actor.step op stands done x writes)))
          (λ apart. amid.unwritten x (λ w. none (written_later plan instant actor.step x w)));
      stored = λ e equation y x initial there form before. signal_cases (λ m. m ≡ remembered (trace ++ instant ∷ []) y.0 x.0 initial) (remembers plan.kernel op.kind) v actor.memories y
          (λ is. now_stored e equation y x initial there form (is_store e equation y x initial there form is))
          (λ apart. stored_before e equation y x initial there form apart (stands_before_or_here plan actor.step op stands (Store e) before));
      kept = λ e equation y x initial there form none. signal_cases (λ m. m ≡ remembered trace y.0 x.0 initial) (remembers plan.kernel op.kind) v actor.memories y
          (λ is. absurd (none (stands_here plan actor.step op stands (Store e) (is_store e equation y x initial there form is))))
          (λ apart. amid.kept e equation y x initial there form (λ before. none (stands_later plan actor.step (Store e) before)));
      read = λ x lt before. taken_cases (λ n. n ≡ length (flow_of x.0 (trace ++ instant ∷ []))) op.kind x (now_read x) (λ apart. read x lt apart (stands_before_or_here plan actor.step op stands (Read x) before));
      unread = λ x lt none. taken_cases (λ n. n ≡ length (flow_of x.0 trace)) op.kind x (λ kind. absurd (none (stands_here plan actor.step op stands (Read x) kind)))
          (λ apart. amid.unread x lt (λ before. none (stands_later plan actor.step (Read x) before)));
      sound = sound_next plan accepted flows fit trace instant actor amid op stands no_fault;
    } where
      written : (x : SigId) → (op.writes ≡ Some x → ⊥) → IsWrittenBefore plan instant actor.step x ⊎ ((op.writes ≡ Some x) × IsDone plan instant op) → actor.registers x.0 ≡ seen_at instant x.0
      written x apart (inl before) = amid.written x before
      written x apart (inr now) = absurd (apart now.0)

      stored_before : (e : EqId) (equation : Equation) (y x : SigId) (initial : ℤ) → slice_get plan.kernel.equations e.0 ≡ Some equation → equation.form ≡ Delay y x initial
          → (remembers plan.kernel op.kind ≡ Some y → ⊥) → StandsBefore plan actor.step (Store e) ⊎ (op.kind ≡ Store e) → actor.memories y.0 ≡ remembered (trace ++ instant ∷ []) y.0 x.0 initial
      stored_before e equation y x initial there form apart (inl before) = amid.stored e equation y x initial there form before
      stored_before e equation y x initial there form apart (inr kind) = absurd (apart (store_remembers e equation y x initial there form kind))

      read : (x : SigId) → x.0 < plan.kernel.inputs → (op.kind ≡ Read x → ⊥) → StandsBefore plan actor.step (Read x) ⊎ (op.kind ≡ Read x) → actor.taken x.0 ≡ length (flow_of x.0 (trace ++ instant ∷ []))
      read x lt apart (inl before) = amid.read x lt before
      read x lt apart (inr kind) = absurd (apart kind)
