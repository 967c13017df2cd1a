-- The plans of a kernel have the same states behind the same events: they differ in the references of guards alone.
use Rattle.sig_play_command.proofs.Common.{◌≡◌, ◌∙◌, ℕ, ℤ, List, [], ◌∷◌, Bool, length, replicate, refl, sym, ap, arith, Option, None, Some, fold, nat_lt, pos, slice_get, unwrap_or, if◌then◌else◌, SigId, run_of, Ref, Kernel, Actor, code_of, ended_at, guard_holds, moved_on, no_code, opening_actor, position_of, slot_holds, truths_of, Core, Given, acted, after, looked, opening, stepped, turned, with_actor, word_before, Faults, Gives, operated, outcome, outcome_by, AtLimit, Commits, Fails, Goes, Puts, Stopped, Takes, Turn, carried, item_of, reaction_in, received, turn, turn_at, turn_by, turn_of_op, turn_with, Event, Act, Look, AreAlike, CodeView, Operation, operation_in, operations_in, IsAccepted, PlanView, Slot, Step, StepKind, Do, Send, Receive, Report, Collect, Commit, Op, OpKind, Read, same_Some, codes_alike, same_actors, same_conditions, same_links, same_operations, none-some, slice_get_within, get_map, map_get, some_at}
use Rattle.sig_model.specs.Operating.{Outcome}

-- ---- the reference of an operation's guard is not looked at

module _ (plan : PlanView) (flows : List (List ℤ)) (code : CodeView) (actor : Actor) (op : Op) (guard : Ref) where
  abbrev other : Op
  other = record op { guard = guard }

  outcome_kept : (kind : OpKind) → outcome_by plan.kernel flows actor other kind ≡ outcome_by plan.kernel flows actor op kind
  outcome_kept (Read x) = refl
  outcome_kept other = refl

  turn_kept : (o : Outcome) → turn_with plan code actor other o ≡ turn_with plan code actor op o
  turn_kept (Gives v) = refl
  turn_kept (Faults cause) = refl

  guard_unseen : turn_of_op plan flows code actor (Some other) ≡ turn_of_op plan flows code actor (Some op)
  guard_unseen = ap (turn_with plan code actor other) (outcome_kept op.kind) ∙ turn_kept (outcome plan.kernel flows actor op)

-- ---- guards of codes that are alike

module _ (p q : PlanView) (a b : CodeView) (alike : AreAlike p.store.nodes q.store.nodes a b) where
  slots_alike : (number : ℕ) (truths : List Bool) → slot_holds p.store.nodes truths (slice_get a.slots number) ≡ slot_holds q.store.nodes truths (slice_get b.slots number)
  slots_alike number truths = by (slice_get a.slots number) (slice_get b.slots number) refl refl where
    by : (x y : Option Slot) → slice_get a.slots number ≡ x → slice_get b.slots number ≡ y → slot_holds p.store.nodes truths x ≡ slot_holds q.store.nodes truths y
    by None None at_a at_b = refl
    by None (Some y) at_a at_b =
        let lt = slice_get_within b.slots number y at_b in
        let count = alike.count in
        let there = some_at a.slots number (omega (arith, lt, count)) in
        absurd (none-some there.0 (sym at_a ∙ there.1))
    by (Some x) None at_a at_b =
        let lt = slice_get_within a.slots number x at_a in
        let count = alike.count in
        let there = some_at b.slots number (omega (arith, lt, count)) in
        absurd (none-some there.0 (sym at_b ∙ there.1))
    by (Some x) (Some y) at_a at_b = alike.guards number x y at_a at_b truths

-- ---- two plans of a kernel

module _ (p q : PlanView) (one : IsAccepted p) (other : IsAccepted q) (kernels : p.kernel ≡ q.kernel) where
  links : p.links ≡ q.links
  links = same_links p q one other kernels

  conditions : p.clocks.conditions ≡ q.clocks.conditions
  conditions = same_conditions p q one other kernels

  operations : operations_in p.store.nodes p.ops ≡ operations_in q.store.nodes q.ops
  operations = same_operations p q one other kernels

  codes_same : (k : ℕ) → AreAlike p.store.nodes q.store.nodes (code_of p k) (code_of q k)
  codes_same k = by (slice_get p.codes k) (slice_get q.codes k) refl refl where
    by : (x y : Option CodeView) → slice_get p.codes k ≡ x → slice_get q.codes k ≡ y → AreAlike p.store.nodes q.store.nodes (unwrap_or x no_code) (unwrap_or y no_code)
    by None None at_p at_q = record {
      steps = refl;
      count = refl;
      parents = λ number s t at_s at_t. absurd (none-some s at_s);
      guards = λ number s t at_s at_t. absurd (none-some s at_s);
    }
    by None (Some y) at_p at_q =
        let lt = slice_get_within q.codes k y at_q in
        let count = same_actors p q one other kernels in
        let there = some_at p.codes k (omega (arith, lt, count)) in
        absurd (none-some there.0 (sym at_p ∙ there.1))
    by (Some x) None at_p at_q =
        let lt = slice_get_within p.codes k x at_p in
        let count = same_actors p q one other kernels in
        let there = some_at q.codes k (omega (arith, lt, count)) in
        absurd (none-some there.0 (sym at_q ∙ there.1))
    by (Some x) (Some y) at_p at_q = codes_alike p q one other kernels k x y at_p at_q

  -- the operations of a number differ in their guards alone
  module _ (flows : List (List ℤ)) (k : ℕ) (actor : Actor) where
    abbrev a : CodeView
    a = code_of p k

    abbrev b : CodeView
    b = code_of q k

    steps : a.steps ≡ b.steps
    steps = (codes_same k).steps

    guard_same : (step : Step) → guard_holds p a actor.registers step ≡ guard_holds q b actor.registers step
    guard_same step =
        ap (λ (cs : List SigId). slot_holds p.store.nodes (truths_of cs actor.registers) (slice_get a.slots step.slot)) conditions
        ∙ slots_alike p q a b (codes_same k) step.slot (truths_of q.clocks.conditions actor.registers)

    -- the turn with one operation in two codes
    with_same : (x : Op) (o : Outcome) → turn_with p a actor x o ≡ turn_with q b actor x o
    with_same x (Gives v) = λ i. Goes (moved_on (length (steps i)) (operated (kernels i) x v actor))
    with_same x (Faults cause) = λ i. Fails (record { instant = actor.instant; pos = position_of (slice_get (steps i) actor.step) })

    -- and with two that differ in their guards alone
    op_same : (x y : Op) → operation_in p.store.nodes x ≡ operation_in q.store.nodes y → turn_of_op p flows a actor (Some x) ≡ turn_of_op q flows b actor (Some y)
    op_same x y same =
        with_same x (outcome p.kernel flows actor x)
        ∙ ap (λ (kernel : Kernel). turn_with q b actor x (outcome kernel flows actor x)) kernels
        ∙ ap (λ (op : Op). turn_of_op q flows b actor (Some op)) alike
        ∙ guard_unseen q flows b actor y x.guard where
          alike : x ≡ record y { guard = x.guard }
          alike = λ i. record {
            kind = (same i).kind;
            guard = x.guard;
            writes = (same i).writes;
            reads = (same i).reads;
            eq = (same i).equation;
            actor = (same i).cluster;
          }

    ops_same : (number : ℕ) → turn_of_op p flows a actor (slice_get p.ops number) ≡ turn_of_op q flows b actor (slice_get q.ops number)
    ops_same number = by (slice_get p.ops number) (slice_get q.ops number) refl refl where
      by : (x y : Option Op) → slice_get p.ops number ≡ x → slice_get q.ops number ≡ y → turn_of_op p flows a actor x ≡ turn_of_op q flows b actor y
      by None None at_p at_q = refl
      by None (Some y) at_p at_q =
          let there = get_map (operation_in q.store.nodes) q.ops number y at_q in
          let back = map_get (operation_in p.store.nodes) p.ops number (operation_in q.store.nodes y) (ap (λ (os : List Operation). slice_get os number) operations ∙ there) in
          absurd (none-some back.0 (sym at_p ∙ back.1))
      by (Some x) None at_p at_q =
          let there = get_map (operation_in p.store.nodes) p.ops number x at_p in
          let back = map_get (operation_in q.store.nodes) q.ops number (operation_in p.store.nodes x) (ap (λ (os : List Operation). slice_get os number) (sym operations) ∙ there) in
          absurd (none-some back.0 (sym at_q ∙ back.1))
      by (Some x) (Some y) at_p at_q =
          let left = get_map (operation_in p.store.nodes) p.ops number x at_p in
          let right = get_map (operation_in q.store.nodes) q.ops number y at_q in
          let both : Some (operation_in p.store.nodes x) ≡ Some (operation_in q.store.nodes y) = sym left ∙ (ap (λ (os : List Operation). slice_get os number) operations ∙ right) in
          op_same x y (same_Some (operation_in p.store.nodes x) (operation_in q.store.nodes y) both)

    by_same : (kind : StepKind) → turn_by p flows a actor kind ≡ turn_by q flows b actor kind
    by_same (Do o) = ops_same o.0
    by_same (Send j) = λ i. Puts j (item_of actor.registers (carried (links i) j)) (moved_on (length (steps i)) actor)
    by_same (Report j) = λ i. Puts j (pos 0) (moved_on (length (steps i)) actor)
    by_same (Receive j) = λ i. Takes j (λ item. moved_on (length (steps i)) (received (carried (links i) j) item actor))
    by_same (Collect j) = λ i. Takes j (λ item. moved_on (length (steps i)) actor)
    by_same Commit = λ i. Commits (reaction_in (kernels i) actor.registers) (moved_on (length (steps i)) actor)

    at_same : (o : Option Step) → turn_at p flows a actor o ≡ turn_at q flows b actor o
    at_same None = refl
    at_same (Some step) = λ i. if guard_same step i then by_same step.kind i else Goes (moved_on (length (steps i)) actor)

    turn_same : (limit : ℕ) → turn p flows limit k actor ≡ turn q flows limit k actor
    turn_same limit =
        ap (λ (t : Turn). if actor.ended then Stopped else if nat_lt limit actor.instant then AtLimit else t)
        (at_same (slice_get a.steps actor.step) ∙ ap (λ (ss : List Step). turn_at q flows b actor (slice_get ss actor.step)) steps)

  -- ---- the states behind events

  module _ (flows : List (List ℤ)) (capacity limit : ℕ) where
    abbrev given : Given
    given = run_of p flows capacity limit

    abbrev given_other : Given
    given_other = run_of q flows capacity limit

    turned_same : (k : ℕ) (actor : Actor) (t : Turn) (m : Core) → turned given k actor t m ≡ turned given_other k actor t m
    turned_same k actor Stopped m = refl
    turned_same k actor other m = refl

    acted_same : (k : ℕ) (m : Core) (o : Option Actor) → acted given k m o ≡ acted given_other k m o
    acted_same k m None = refl
    acted_same k m (Some actor) = turned_same k actor (turn p flows limit k actor) m ∙ ap (λ (t : Turn). turned given_other k actor t m) (turn_same flows k actor limit)

    looked_same : (k : ℕ) (m : Core) (o : Option Actor) → looked p k m o ≡ looked q k m o
    looked_same k m None = refl
    looked_same k m (Some actor) = λ i.
        if actor.ended then m
        else if word_before m.word (record { instant = actor.instant; pos = position_of (slice_get (steps flows k actor i) actor.step) }) then with_actor k (ended_at actor) m else m

    stepped_same : (m : Core) (event : Event) → stepped given m event ≡ stepped given_other m event
    stepped_same m (Act k) = acted_same k m (slice_get m.actors k)
    stepped_same m (Look k) = looked_same k m (slice_get m.actors k)

    folded_same : (events : List Event) (m : Core) → fold (stepped given) m events ≡ fold (stepped given_other) m events
    folded_same [] m = refl
    folded_same (event ∷ events) m =
        folded_same events (stepped given m event) ∙ ap (λ (n : Core). fold (stepped given_other) n events) (stepped_same m event)

    opening_same : opening p ≡ opening q
    opening_same = λ i. record {
      actors = replicate (same_actors p q one other kernels i) (opening_actor (kernels i));
      links = replicate (length (links i)) [];
      word = None;
      committed = [];
    }

    pub same_after : (events : List Event) → after given events ≡ after given_other events
    same_after events = folded_same events (opening p) ∙ ap (λ (n : Core). fold (stepped given_other) n events) opening_same
