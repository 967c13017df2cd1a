-- What an actor on the reference makes of its next step: it stays on the reference, or has a fault there.
use Rattle.sig_schedule_laws.proofs.Common.{compiled_operations, compiled_order, ◌≡◌, ◌≤◌, ◌-◌, ◌+◌, ◌*◌, ◌++◌, inl, inr, ℕ, suc, ℤ, pos, Bool, true, false, cond, List, [], ◌∷◌, length, take, refl, ap, sym, subst, ◌∙◌, arith, Contains, None, Option, Some, option_to_list, slice_get, unwrap_or, ◌&&◌, and_from, and_left, and_right, eq-eqb, ne_eqb, append-nil, length-append, Instant, Seen, Trace, seen_at, OpId, SigId, test, defined_once, initial_is, last_of, target_of, AreFlowsFor, IsAt, IsOutcome, compiled, Compiled, fitting, one_either, reference_outcome, Actor, Registers, guard_holds, initial_in, next_place, position_of, truths_of, with_at, with_signal, HasFault, Meets, Faults, Gives, first_in, operated, outcome, outcome_by, remembers, taken_by, IsActorOn, IsFaulty, Yield, fills, input_of, instant_at, names, read_at, read_by, register_before, stored_at, stored_by, target_of_op, yielded_before, IsReference, carried, received, CodeView, Operation, operation_in, IsAccepted, PlanView, Step, Do, Receive, Cause, Op, OpKind, Read, contains_head, cases_eq, get_map}
use Rattle.sig_schedule_laws.proofs.Amid.{guard_known, reads_known}
use Rattle.sig_schedule_laws.proofs.Inputs.{done_by, in_kernel, read_before, stored_before, stores_delay}
use Rattle.sig_schedule_laws.proofs.Instants.{reference_to}
use Rattle.sig_schedule_laws.proofs.Moved.{IsBehind, chosen_of, not_filled, now_filled, yields_next}
use Rattle.sig_schedule_laws.proofs.Steps.{op_done}

-- ---- functions with another value at one number

at_same : {A : Type 0} (m : ℕ) (v : A) (g : ℕ → A) (n : ℕ) → m ≡ n → with_at m v g n ≡ v
at_same {A} m v g n same = ap (λ b. cond b v (g n)) (eq-eqb n m (sym same))

at_other : {A : Type 0} (m : ℕ) (v : A) (g : ℕ → A) (n : ℕ) → (m ≡ n → ⊥) → with_at m v g n ≡ g n
at_other {A} m v g n apart = ap (λ b. cond b v (g n)) (ne_eqb n m (λ e. apart (sym e)))

last_more : (initial : ℤ) (values : List ℤ) (v : ℤ) → last_of initial (values ++ v ∷ []) ≡ v
last_more initial [] v = refl
last_more initial (w ∷ values) v = last_more w values v

first_same : (r s : Registers) (xs : List SigId) → ((x : SigId) → Contains xs x → r x.0 ≡ s x.0) → first_in r xs ≡ first_in s xs
first_same r s [] same = refl
first_same r s (x ∷ xs) same = ap (λ (o : Seen). unwrap_or o (pos 0)) (same x (contains_head x xs))

no_choice : (b : Bool) → (let chosen : Option ℤ = cond b None None in chosen) ≡ None
no_choice true = refl
no_choice false = refl

gives_value : (a b : ℤ) → Gives a ≡ Gives b → a ≡ b
gives_value a b e = cc

module _ (plan : PlanView) (accepted : IsAccepted plan) (flows : List (List ℤ)) (fit : AreFlowsFor plan.kernel flows) (reference : Trace) (is : IsReference plan.kernel flows (length reference) reference)
    (k : ℕ) (code : CodeView) (coded : slice_get plan.codes k ≡ Some code) (actor : Actor) (on : IsActorOn plan reference code actor) (step : Step) (at_s : slice_get code.steps actor.step ≡ Some step) where
  abbrev c : Compiled plan.kernel plan.clocks.conditions (compiled_operations plan) (compiled_order plan)
  c = compiled plan accepted

  abbrev now : Instant
  now = instant_at reference actor.instant

  abbrev past : Trace
  past = take (actor.instant - 1) reference

  abbrev before : Yield → List ℤ
  before yield = yielded_before plan code yield reference actor.instant actor.step

  abbrev behind : Yield → List ℤ
  behind yield = yielded_before plan code yield reference actor.instant (suc actor.step)

  abbrev chosen : Yield → Option ℤ
  chosen yield = chosen_of plan code reference yield now step

  -- what the step gives, once it is known
  pub behind_is : (yield : Yield) (o : Option ℤ) → chosen yield ≡ o → behind yield ≡ before yield ++ option_to_list o
  behind_is yield o given = yields_next plan code reference yield actor.instant actor.step step at_s ∙ ap (λ z. before yield ++ option_to_list z) given

  pub behind_same : (yield : Yield) → chosen yield ≡ None → behind yield ≡ before yield
  behind_same yield none = behind_is yield None none ∙ append-nil (before yield)

  abbrev holds_now : Bool
  holds_now = guard_holds plan code (seen_at now) step

  -- nothing is chosen where the guard does not hold
  pub passed_chosen : guard_holds plan code actor.registers step ≡ false → (yield : Yield) → chosen yield ≡ None
  passed_chosen passed yield = ap (λ b. cond b (yield now step.kind) None) (sym (guard_known plan accepted flows fit reference is k code coded actor on step at_s) ∙ passed)

  pub done_chosen : holds_now ≡ true → (yield : Yield) (o : Option ℤ) → yield now step.kind ≡ o → chosen yield ≡ o
  done_chosen holds yield o given = ap (λ b. cond b (yield now step.kind) None) holds ∙ given

  pub kind_chosen : (yield : Yield) → yield now step.kind ≡ None → chosen yield ≡ None
  kind_chosen yield none = ap (λ o. cond holds_now o None) none ∙ no_choice holds_now

  module _ (long : actor.instant + 1 ≤ length reference) where
    -- a step that leaves registers, memories and inputs as they are
    quiet : ((n : ℕ) → (holds_now && names n (fills plan step.kind)) ≡ false) → ((n : ℕ) → chosen (stored_at plan n) ≡ None) → ((n : ℕ) → chosen (read_at plan n) ≡ None) → IsBehind plan code reference actor
    quiet fill store read = record {
      from = on.from;
      within = long;
      step = on.step;
      registers = λ n. on.registers n ∙ sym (not_filled plan code reference now actor.step step at_s n (fill n));
      memories = λ n. on.memories n ∙ ap (last_of (initial_in plan.kernel.equations n)) (sym (behind_same (stored_at plan n) (store n)));
      taken = λ n. on.taken n ∙ ap (λ (items : List ℤ). length items) (sym (behind_same (read_at plan n) (read n)));
    }

    -- a step that is passed over
    pub passed_behind : guard_holds plan code actor.registers step ≡ false → IsBehind plan code reference actor
    passed_behind passed = quiet
        (λ n. and_left holds_now (names n (fills plan step.kind)) (sym (guard_known plan accepted flows fit reference is k code coded actor on step at_s) ∙ passed))
        (λ n. passed_chosen passed (stored_at plan n)) (λ n. passed_chosen passed (read_at plan n))

    -- a step that does no operation and receives nothing
    pub quiet_behind : fills plan step.kind ≡ None → ((n : ℕ) → stored_at plan n now step.kind ≡ None) → ((n : ℕ) → read_at plan n now step.kind ≡ None) → IsBehind plan code reference actor
    quiet_behind fill store read = quiet (λ n. and_right holds_now (names n (fills plan step.kind)) (ap (names n) fill)) (λ n. kind_chosen (stored_at plan n) (store n)) (λ n. kind_chosen (read_at plan n) (read n))

    module _ (holds : holds_now ≡ true) where
      -- the registers, with a value of the signal that the step fills
      filled_registers : (v : ℤ) (n : ℕ) (o : Option SigId) → fills plan step.kind ≡ o → ((x : SigId) → o ≡ Some x → seen_at now x.0 ≡ Some v)
          → with_signal o (Some v) actor.registers n ≡ register_before plan code now (suc actor.step) n
      filled_registers v n None fill given = on.registers n ∙ sym (not_filled plan code reference now actor.step step at_s n (and_right holds_now (names n (fills plan step.kind)) (ap (names n) fill)))
      filled_registers v n (Some x) fill given = elim (cases_eq x.0 n) [
        | inl same ↦
            at_same x.0 (Some v) actor.registers n same ∙ sym (given x refl) ∙ ap (seen_at now) same
            ∙ sym (now_filled plan code reference now actor.step step at_s n (and_from holds_now (names n (fills plan step.kind)) holds (ap (names n) fill ∙ eq-eqb x.0 n same)))
        | inr apart ↦
            at_other x.0 (Some v) actor.registers n apart ∙ on.registers n
            ∙ sym (not_filled plan code reference now actor.step step at_s n (and_right holds_now (names n (fills plan step.kind)) (ap (names n) fill ∙ ne_eqb x.0 n apart)))
      ]

      -- an item that was received
      pub received_behind : (j : ℕ) (item : ℤ) → step.kind ≡ Receive j → ((x : SigId) → carried plan.links j ≡ Some x → seen_at now x.0 ≡ Some item) → IsBehind plan code reference (received (carried plan.links j) item actor)
      received_behind j item kind given = record {
        from = on.from;
        within = long;
        step = on.step;
        registers = λ n. filled_registers item n (carried plan.links j) (ap (fills plan) kind) given;
        memories = λ n. on.memories n ∙ ap (last_of (initial_in plan.kernel.equations n)) (sym (behind_same (stored_at plan n) (kind_chosen (stored_at plan n) (ap (stored_at plan n now) kind))));
        taken = λ n. on.taken n ∙ ap (λ (items : List ℤ). length items) (sym (behind_same (read_at plan n) (kind_chosen (read_at plan n) (ap (read_at plan n now) kind))));
      }

  -- ---- an operation that is done

  module _ (holds : holds_now ≡ true) (o : OpId) (op : Op) (kind : step.kind ≡ Do o) (at : slice_get plan.ops o.0 ≡ Some op) where
    abbrev p : Operation
    p = operation_in plan.store.nodes op

    at_p : slice_get (compiled_operations plan) o.0 ≡ Some p
    at_p = get_map (operation_in plan.store.nodes) plan.ops o.0 op at

    done : test plan.store.nodes op.guard (truths_of plan.clocks.conditions (seen_at now)) ≡ true
    done = sym (done_by plan accepted k code coded actor.step step o op at_s kind at now) ∙ holds

    pub reads : (x : SigId) → Contains op.reads x → actor.registers x.0 ≡ seen_at now x.0
    reads = reads_known plan accepted flows fit reference is k code coded actor on step at_s holds o op kind at

    pub is_at : IsAt plan.kernel past now op actor
    is_at = record {
      reads = reads;
      memories = λ number y x initial equation there form writes.
          on.memories y.0
          ∙ ap (λ first. last_of first (before (stored_at plan y.0))) (initial_is plan.kernel.equations number equation y x initial there form (λ i q at_i target. defined_once plan.kernel accepted.valid i number q equation y at_i there target (ap target_of form)))
          ∙ ap (last_of initial) (stored_before plan accepted k code coded actor.step step o op at_s kind at flows fit reference is actor.instant on.from on.within (record { 0 = number }) equation y x initial there form writes);
      taken = λ x of. on.taken x.0 ∙ ap (λ (items : List ℤ). length items) (read_before plan accepted k code coded actor.step step o op at_s kind at flows fit reference is actor.instant on.from on.within x of);
    }

    pub outcome_is : IsOutcome plan.kernel flows past now p (outcome plan.kernel flows actor op)
    outcome_is = reference_outcome plan.kernel plan.clocks.conditions (compiled_operations plan) (compiled_order plan) c flows (fitting plan accepted flows fit) past now (reference_to plan accepted flows fit reference is actor.instant on.from on.within)
        plan.store.nodes o.0 op at_p actor is_at done

    -- a fault of the operation is one of the reference
    pub faulty : (cause : Cause) → outcome plan.kernel flows actor op ≡ Faults cause → IsFaulty plan flows reference (next_place code actor)
    faulty cause fails =
        let found = op_done plan accepted k code coded actor.step step o op at_s kind at in
        let met : Meets p cause × HasFault plan.kernel flows past now cause = subst (IsOutcome plan.kernel flows past now p) fails outcome_is in
        let position : position_of (slice_get code.steps actor.step) ≡ 2 * found.1.j = ap position_of at_s ∙ found.0.position ∙ found.1.position in
        record {
          from = on.from;
          within = on.within;
          cause = cause;
          at = found.1.j;
          meets = record { number = o.0; ordered = found.1.stands.place; operation = p; is = at_p; meets = met.0 };
          is = λ t. record { instant = actor.instant; pos = position t };
          fault = met.1;
        }

    module _ (long : actor.instant + 1 ≤ length reference) (v : ℤ) (gives : outcome plan.kernel flows actor op ≡ Gives v) where
      given : (x : SigId) → op.writes ≡ Some x → seen_at now x.0 ≡ Some v
      given = subst (IsOutcome plan.kernel flows past now p) gives outcome_is

      stored_value : (y : SigId) → remembers plan.kernel op.kind ≡ Some y → v ≡ first_in (seen_at now) op.reads
      stored_value y remembered =
          let found = stores_delay plan.kernel op.kind y remembered in
          let e : Gives (first_in actor.registers op.reads) ≡ Gives v = ap (outcome_by plan.kernel flows actor op) (sym found.1) ∙ gives in
          sym (gives_value (first_in actor.registers op.reads) v e) ∙ first_same actor.registers (seen_at now) op.reads reads

      memory_of : (n : ℕ) (target : Option SigId) → remembers plan.kernel op.kind ≡ target
          → with_signal target v actor.memories n ≡ last_of (initial_in plan.kernel.equations n) (before (stored_at plan n) ++ option_to_list (cond (names n target) (Some (first_in (seen_at now) op.reads)) None))
      memory_of n None remembered = on.memories n ∙ ap (last_of (initial_in plan.kernel.equations n)) (sym (append-nil (before (stored_at plan n))))
      memory_of n (Some y) remembered = elim (cases_eq y.0 n) [
        | inl same ↦
            at_same y.0 v actor.memories n same ∙ stored_value y remembered ∙ sym (last_more (initial_in plan.kernel.equations n) (before (stored_at plan n)) (first_in (seen_at now) op.reads))
            ∙ ap (λ b. last_of (initial_in plan.kernel.equations n) (before (stored_at plan n) ++ option_to_list (cond b (Some (first_in (seen_at now) op.reads)) None))) (sym (eq-eqb y.0 n same))
        | inr apart ↦
            at_other y.0 v actor.memories n apart ∙ on.memories n ∙ ap (last_of (initial_in plan.kernel.equations n)) (sym (append-nil (before (stored_at plan n))))
            ∙ ap (λ b. last_of (initial_in plan.kernel.equations n) (before (stored_at plan n) ++ option_to_list (cond b (Some (first_in (seen_at now) op.reads)) None))) (sym (ne_eqb y.0 n apart))
      ]

      taken_same : (n : ℕ) → actor.taken n ≡ length (before (read_at plan n) ++ [])
      taken_same n = on.taken n ∙ ap (λ (items : List ℤ). length items) (sym (append-nil (before (read_at plan n))))

      taken_of : (n : ℕ) (kd : OpKind) → op.kind ≡ kd → taken_by kd actor.taken n ≡ length (before (read_at plan n) ++ option_to_list (cond (names n (input_of kd)) (seen_at now n) None))
      taken_of n (Read x) of = elim (cases_eq x.0 n) [
        | inl same ↦
            let writes : op.writes ≡ Some x = ((one_either plan.kernel c.has.presence p (in_kernel plan accepted o.0 p at_p)).0 x of).0 in
            let seen : seen_at now n ≡ Some v = ap (seen_at now) (sym same) ∙ given x writes in
            let longer : length (before (read_at plan n) ++ v ∷ []) ≡ length (before (read_at plan n)) + 1 = length-append (before (read_at plan n)) (v ∷ []) in
            let here : actor.taken x.0 ≡ length (before (read_at plan n)) = ap actor.taken same ∙ on.taken n in
            let counted : actor.taken x.0 + 1 ≡ length (before (read_at plan n) ++ v ∷ []) = omega (arith, longer, here) in
            at_same x.0 (actor.taken x.0 + 1) actor.taken n same ∙ counted
            ∙ ap (λ s. length (before (read_at plan n) ++ option_to_list s)) (sym seen ∙ ap (λ b. cond b (seen_at now n) None) (sym (eq-eqb x.0 n same)))
        | inr apart ↦
            at_other x.0 (actor.taken x.0 + 1) actor.taken n apart ∙ taken_same n
            ∙ ap (λ b. length (before (read_at plan n) ++ option_to_list (cond b (seen_at now n) None))) (sym (ne_eqb x.0 n apart))
      ]
      taken_of n _ of = taken_same n

      pub done_behind : IsBehind plan code reference (operated plan.kernel op v actor)
      done_behind = record {
        from = on.from;
        within = long;
        step = on.step;
        registers = λ n. filled_registers long holds v n op.writes (ap (fills plan) kind ∙ ap target_of_op at) given;
        memories = λ n. memory_of n (remembers plan.kernel op.kind) refl
            ∙ ap (last_of (initial_in plan.kernel.equations n)) (sym (behind_is (stored_at plan n) (stored_by plan.kernel n now (Some op)) (done_chosen holds (stored_at plan n) (stored_by plan.kernel n now (Some op)) (ap (stored_at plan n now) kind ∙ ap (stored_by plan.kernel n now) at))));
        taken = λ n. taken_of n op.kind refl
            ∙ ap (λ (items : List ℤ). length items) (sym (behind_is (read_at plan n) (read_by n now (Some op)) (done_chosen holds (read_at plan n) (read_by n now (Some op)) (ap (read_at plan n now) kind ∙ ap (read_by n now) at))));
      }
