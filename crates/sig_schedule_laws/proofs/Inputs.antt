-- What the steps of an actor read of an input, and store for a delay, are the values of its signal.
use Rattle.sig_schedule_laws.proofs.Common.{compiled_operations, compiled_order, ◌≡◌, ◌<◌, ◌≤◌, ◌-◌, ◌*◌, ◌++◌, inr, ℕ, ℤ, Bool, true, false, cond, List, [], length, take, refl, ap, sym, subst, ◌∙◌, arith, Contains, None, Option, Some, is_some, option_to_list, slice_get, slice_index, eq-eqb, eqb-true, append-nil, Instant, Seen, Trace, flow_of, seen_at, EqId, OpId, SigId, test, store_stands, defined_once, one_memory, same_equation, delayed_below, one_storing, Memory, target_of, AreFlowsFor, Equation, Delay, Kernel, IsNext, compiled, Compiled, one_either, stored, form_for, form_in, guard_holds, truths_of, defined_by, first_in, remembers, Yield, input_of, names, read_at, read_by, stored_at, stored_by, yielded_before, yielded_in, instant_at, IsReference, CodeView, Instruction, op_id, under, Operation, cluster_of, operation_in, operations_of, Keeps, Precedes, IsAccepted, PlanView, Step, StepKind, Do, Op, OpKind, Read, Store, does_there, kept_order, stands_once, operations_written, contains_at, get_map, got, taken_get, signal_same}
use Rattle.sig_schedule_laws.proofs.Done.{clock_is, done_once}
use Rattle.sig_schedule_laws.proofs.Ends.{nothing_from}
use Rattle.sig_schedule_laws.proofs.Instants.{next_at, next_some}
use Rattle.sig_schedule_laws.proofs.Lists.{joined_same, none_chosen, one_chosen}
use Rattle.sig_schedule_laws.proofs.Steps.{before_by_position, does_once, instruction_step, op_done}
use Rattle.sig_schedule_laws.proofs.StoredOnce.{store_cluster, stores_once}

named_is : (y : SigId) (o : Option SigId) → names y.0 o ≡ true → o ≡ Some y
named_is y None is = absurd (let e : false ≡ true = is in cc)
named_is y (Some z) is = ap Some (signal_same z y (eqb-true z.0 y.0 is))

when_named : (b : Bool) (o : Option ℤ) (w : ℤ) → (let chosen : Option ℤ = cond b o None in chosen) ≡ Some w → (b ≡ true) × (o ≡ Some w)
when_named true o w is = (refl, is)
when_named false o w is = absurd (let e : None ≡ Some w = is in cc)

reads_input : (kind : OpKind) (x : SigId) → input_of kind ≡ Some x → kind ≡ Read x
reads_input (Read z) x is = let e : Some z ≡ Some x = is in let same : z ≡ x = cc in ap Read same
reads_input _ x is = absurd (let f : None ≡ Some x = is in cc)

pub stores_delay : (kernel : Kernel) (kind : OpKind) (y : SigId) → remembers kernel kind ≡ Some y → (d : EqId) × (kind ≡ Store d) × (defined_by kernel d ≡ Some y)
stores_delay kernel (Store d) y is = (d, refl, is)
stores_delay kernel _ y is = absurd (let f : None ≡ Some y = is in cc)

abbrev target_in : Option Equation → Option SigId
target_in None = None
target_in (Some q) = target_of q.form

defining : (kernel : Kernel) (d : EqId) (y : SigId) → defined_by kernel d ≡ Some y → (q : Equation) × (slice_get kernel.equations d.0 ≡ Some q) × (target_of q.form ≡ Some y)
defining kernel d y is = by (slice_get kernel.equations d.0) refl where
  by : (found : Option Equation) → slice_get kernel.equations d.0 ≡ found → (q : Equation) × (slice_get kernel.equations d.0 ≡ Some q) × (target_of q.form ≡ Some y)
  by None none = absurd (let f : None ≡ Some y = sym (ap target_in none) ∙ is in cc)
  by (Some q) some = (q, some, sym (ap target_in some) ∙ is)

module _ (plan : PlanView) (accepted : IsAccepted plan) where
  abbrev c : Compiled plan.kernel plan.clocks.conditions (compiled_operations plan) (compiled_order plan)
  c = compiled plan accepted

  pub in_kernel : (number : ℕ) (p : Operation) → slice_get (compiled_operations plan) number ≡ Some p → Contains (operations_of plan.kernel c.has.presence) p
  in_kernel number p at = subst (λ (ps : List Operation). Contains ps p) c.has.are (contains_at (compiled_operations plan) number p at)

  at_kernel : (number : ℕ) (op : Op) → slice_get plan.ops number ≡ Some op → slice_get (operations_of plan.kernel c.has.presence) number ≡ Some (operation_in plan.store.nodes op)
  at_kernel number op at = subst (λ (ps : List Operation). slice_get ps number ≡ Some (operation_in plan.store.nodes op)) c.has.are (get_map (operation_in plan.store.nodes) plan.ops number op at)

  -- ---- steps that read an input, or store for a delay

  pub record ReadsAt (x : SigId) (instant : Instant) (kind : StepKind) (w : ℤ) : Type 0 where
    pub o : OpId
    pub op : Op
    pub is : kind ≡ Do o
    pub at : slice_get plan.ops o.0 ≡ Some op
    pub reads : op.kind ≡ Read x
    pub seen : seen_at instant x.0 ≡ Some w

  read_op : (x : SigId) (instant : Instant) (o : OpId) (w : ℤ) (found : Option Op) → slice_get plan.ops o.0 ≡ found → read_by x.0 instant found ≡ Some w → ReadsAt x instant (Do o) w
  read_op x instant o w None at is = absurd (let f : None ≡ Some w = is in cc)
  read_op x instant o w (Some op) at is =
      let both = when_named (names x.0 (input_of op.kind)) (seen_at instant x.0) w is in
      record { o = o; op = op; is = refl; at = at; reads = reads_input op.kind x (named_is x (input_of op.kind) both.0); seen = both.1 }

  pub reads_at : (x : SigId) (instant : Instant) (kind : StepKind) (w : ℤ) → read_at plan x.0 instant kind ≡ Some w → ReadsAt x instant kind w
  reads_at x instant (Do o) w is = read_op x instant o w (slice_get plan.ops o.0) refl is
  reads_at x instant _ w is = absurd (let f : None ≡ Some w = is in cc)

  pub record StoresAt (y : SigId) (instant : Instant) (kind : StepKind) (w : ℤ) : Type 0 where
    pub o : OpId
    pub op : Op
    pub is : kind ≡ Do o
    pub at : slice_get plan.ops o.0 ≡ Some op
    pub d : EqId
    pub stores : op.kind ≡ Store d
    pub defines : defined_by plan.kernel d ≡ Some y

  store_op : (y : SigId) (instant : Instant) (o : OpId) (w : ℤ) (found : Option Op) → slice_get plan.ops o.0 ≡ found → stored_by plan.kernel y.0 instant found ≡ Some w → StoresAt y instant (Do o) w
  store_op y instant o w None at is = absurd (let f : None ≡ Some w = is in cc)
  store_op y instant o w (Some op) at is =
      let both = when_named (names y.0 (remembers plan.kernel op.kind)) (Some (first_in (seen_at instant) op.reads)) w is in
      let found = stores_delay plan.kernel op.kind y (named_is y (remembers plan.kernel op.kind) both.0) in
      record { o = o; op = op; is = refl; at = at; d = found.0; stores = found.1; defines = found.2 }

  pub stores_at : (y : SigId) (instant : Instant) (kind : StepKind) (w : ℤ) → stored_at plan y.0 instant kind ≡ Some w → StoresAt y instant kind w
  stores_at y instant (Do o) w is = store_op y instant o w (slice_get plan.ops o.0) refl is
  stores_at y instant _ w is = absurd (let f : None ≡ Some w = is in cc)

  module _ (k : ℕ) (code : CodeView) (coded : slice_get plan.codes k ≡ Some code) where
    -- an operation that a step does, and its guard at an instant
    pub done_by : (m : ℕ) (b : Step) (o : OpId) (op : Op) → slice_get code.steps m ≡ Some b → b.kind ≡ Do o → slice_get plan.ops o.0 ≡ Some op → (instant : Instant)
        → guard_holds plan code (seen_at instant) b ≡ test plan.store.nodes op.guard (truths_of plan.clocks.conditions (seen_at instant))
    done_by m b o op at_m kind at instant =
        let found = op_done plan accepted k code coded m b o op at_m kind at in
        found.0.guard (seen_at instant) ∙ ap (λ (g : List Bool → Bool). g (truths_of plan.clocks.conditions (seen_at instant))) (found.1.guard ∙ ap (λ (q : Operation). q.guard) found.2)

    module _ (s : ℕ) (step : Step) (o : OpId) (op : Op) (at_s : slice_get code.steps s ≡ Some step) (kind : step.kind ≡ Do o) (at : slice_get plan.ops o.0 ≡ Some op) where
      abbrev p : Operation
      p = operation_in plan.store.nodes op

      at_p : slice_get (compiled_operations plan) o.0 ≡ Some p
      at_p = get_map (operation_in plan.store.nodes) plan.ops o.0 op at

      module _ (x : SigId) (reads : op.kind ≡ Read x) where
        module _ (memory : Memory) (next : ℕ → ℤ) (instant : Instant) (is : IsNext plan.kernel memory next instant) where
          abbrev own : List Bool
          own = truths_of plan.clocks.conditions (seen_at instant)

          -- the operation of an input is done where the input is there
          done_as : (n : ℕ) (q : Op) → slice_get plan.ops n ≡ Some q → q.kind ≡ Read x → (q.writes ≡ Some x) × (test plan.store.nodes q.guard own ≡ is_some (seen_at instant x.0))
          done_as n q at_n of =
              let at_q = get_map (operation_in plan.store.nodes) plan.ops n q at_n in
              let either = (one_either plan.kernel c.has.presence (operation_in plan.store.nodes q) (in_kernel n (operation_in plan.store.nodes q) at_q)).0 x of in
              let lt : x.0 < length plan.kernel.signals = omega (arith, either.1, c.valid.parts.interface, c.valid.parts.declared) in
              (either.0, ap (λ g. g own) either.2 ∙ sym (clock_is plan accepted memory next instant is x lt))

          read_once : (m : ℕ) (b : Step) (w : ℤ) → slice_get code.steps m ≡ Some b → guard_holds plan code (seen_at instant) b ≡ true → read_at plan x.0 instant b.kind ≡ Some w → m ≡ s
          read_once m b w at_m g y =
              let r = reads_at x instant b.kind w y in
              let other = done_as r.o.0 r.op r.at r.reads in
              let this = done_as o.0 op at reads in
              let here : test plan.store.nodes op.guard own ≡ true = this.1 ∙ ap (λ (z : Seen). is_some z) r.seen in
              let there : test plan.store.nodes r.op.guard own ≡ true = sym (done_by m b r.o r.op at_m r.is r.at instant) ∙ g in
              let numbers = done_once plan accepted memory next instant is r.o.0 o.0 (operation_in plan.store.nodes r.op) p x (get_map (operation_in plan.store.nodes) plan.ops r.o.0 r.op r.at) at_p other.0 this.0 there here in
              does_once plan accepted k code coded m s b step r.o o at_m at_s r.is kind numbers

          pub none_read_before : yielded_in plan code (read_at plan x.0) instant (take s code.steps) ≡ []
          none_read_before = none_chosen (λ b. cond (guard_holds plan code (seen_at instant) b) (read_at plan x.0 instant b.kind) None) (take s code.steps) (λ m b at_m.
              let there = taken_get s code.steps m b at_m in
              nothing_from (guard_holds plan code (seen_at instant) b) (read_at plan x.0 instant b.kind) (λ w g y. let same = read_once m b w there.1 g y in omega (arith, same, there.0)))

          pub read_in : yielded_in plan code (read_at plan x.0) instant code.steps ≡ option_to_list (seen_at instant x.0)
          read_in = by (seen_at instant x.0) refl where
            by : (z : Seen) → seen_at instant x.0 ≡ z → yielded_in plan code (read_at plan x.0) instant code.steps ≡ option_to_list z
            by None none = none_chosen (λ b. cond (guard_holds plan code (seen_at instant) b) (read_at plan x.0 instant b.kind) None) code.steps (λ m b at_m.
                nothing_from (guard_holds plan code (seen_at instant) b) (read_at plan x.0 instant b.kind) (λ w g y.
                let clash : None ≡ Some w = sym none ∙ (reads_at x instant b.kind w y).seen in cc))
            by (Some v) some =
                let this = done_as o.0 op at reads in
                let holds : guard_holds plan code (seen_at instant) step ≡ true = done_by s step o op at_s kind at instant ∙ this.1 ∙ ap (λ (z : Seen). is_some z) some in
                let gives : read_at plan x.0 instant step.kind ≡ Some v =
                ap (read_at plan x.0 instant) kind ∙ ap (read_by x.0 instant) at ∙ ap (λ (kd : OpKind). cond (names x.0 (input_of kd)) (seen_at instant x.0) None) reads
                ∙ ap (λ b. cond b (seen_at instant x.0) None) (eq-eqb x.0 x.0 refl) ∙ some in
                one_chosen (λ b. cond (guard_holds plan code (seen_at instant) b) (read_at plan x.0 instant b.kind) None) code.steps s step v at_s
                (ap (λ b. cond b (read_at plan x.0 instant step.kind) None) holds ∙ gives) (λ m b at_m apart.
                nothing_from (guard_holds plan code (seen_at instant) b) (read_at plan x.0 instant b.kind) (λ w g y. apart (read_once m b w at_m g y)))

      -- ---- the read of a delay

      module _ (e : EqId) (equation : Equation) (y x : SigId) (initial : ℤ) (at_e : slice_get plan.kernel.equations e.0 ≡ Some equation) (form : equation.form ≡ Delay y x initial) (writes : op.writes ≡ Some y) where
        shape : form_for plan.kernel (Some e) ≡ Some (Delay y x initial)
        shape = ap form_in at_e ∙ ap Some form

        lt : x.0 < length plan.kernel.signals
        lt = delayed_below plan.kernel accepted.valid e.0 equation y x initial at_e form

        pub record IsStoreStep : Type 0 where
          pub n : ℕ
          pub a : Step
          pub q : OpId
          pub store : Op
          pub at_n : slice_get code.steps n ≡ Some a
          pub does : a.kind ≡ Do q
          pub at_q : slice_get plan.ops q.0 ≡ Some store
          pub stores : store.kind ≡ Store e
          pub later : s < n

        pub store_step : IsStoreStep
        store_step =
            let before = store_stands plan accepted e equation y x initial at_e form in
            let store : Operation = operation_in plan.store.nodes before.op in
            let at_store = get_map (operation_in plan.store.nodes) plan.ops before.stands.number.0 before.op before.stands.is in
            let placed = get_map (λ (z : OpId). z.0) plan.order before.at before.stands.number before.stands.ordered in
            let own = store_cluster plan.kernel c.has.presence store (in_kernel before.stands.number.0 store at_store) e y x initial before.does shape in
            let owner = (operations_written plan.kernel c.has.presence (compiled_operations plan) c.valid c.has.are).owner p y (o.0, at_p) writes in
            let here = op_done plan accepted k code coded s step o op at_s kind at in
            let cluster : store.cluster ≡ k = own ∙ ap cluster_of owner.1 ∙ sym owner.2 ∙ ap (λ (z : Operation). z.cluster) (sym here.2) ∙ here.1.own in
            let reading = one_memory plan.kernel c.valid c.has.presence e y x initial equation at_e form p (in_kernel o.0 p at_p) writes in
            let keeping : Keeps here.1.p store = record {
              delay = e;
              read = ap (λ (z : Operation). z.kind) here.2 ∙ reading.0;
              of = ap (λ (z : Operation). z.equation) here.2 ∙ reading.1;
              store = before.does;
            } in
            let full = accepted.order.all in
            let there = got (compiled_order plan) before.at 0 before.stands.number.0 placed in
            let precedes : Precedes plan.clocks.conditions (compiled_operations plan) o.0 (slice_index (compiled_order plan) before.at) =
            record { p = here.1.p; q = store; is = here.1.stands.is; other = ap (slice_get (compiled_operations plan)) there.1 ∙ at_store; before = inr (inr keeping) } in
            let earlier = kept_order (Precedes plan.clocks.conditions (compiled_operations plan)) (length (compiled_operations plan)) (compiled_order plan) accepted.order before.at (omega (arith, there.0, full)) o.0 precedes in
            let mine = got (compiled_order plan) here.1.j 0 o.0 here.1.stands.place in
            let first = stands_once (Precedes plan.clocks.conditions (compiled_operations plan)) (length (compiled_operations plan)) (compiled_order plan) accepted.order earlier.0 here.1.j (omega (arith, earlier.1, there.0, full)) (omega (arith, mine.0, full)) (earlier.2 ∙ sym mine.1) in
            let i : Instruction = under store (Do (op_id before.stands.number.0)) (2 * before.at) in
            let found = instruction_step plan accepted k code coded i (does_there (compiled_operations plan) (compiled_order plan) accepted.parts k before.at before.stands.number.0 store (record { place = placed; is = at_store }) cluster) in
            let position : found.3.i.position ≡ 2 * before.at = ap (λ (z : Instruction). z.position) found.4 in
            let mine_at : here.0.i.position ≡ 2 * here.1.j = here.1.position in
            record {
              n = found.0;
              a = found.1;
              q = op_id before.stands.number.0;
              store = before.op;
              at_n = found.2;
              does = found.3.kind ∙ ap (λ (z : Instruction). z.kind) found.4;
              at_q = before.stands.is;
              stores = before.does;
              later = before_by_position plan accepted k code coded s found.0 step found.1 here.0 found.3 (omega (arith, position, mine_at, first, earlier.1));
            }

        module _ (memory : Memory) (next : ℕ → ℤ) (instant : Instant) (is : IsNext plan.kernel memory next instant) where
          abbrev truths : List Bool
          truths = truths_of plan.clocks.conditions (seen_at instant)

          -- the store is done where the delayed signal is there
          stored_as : (m : ℕ) (q : Op) → slice_get plan.ops m ≡ Some q → q.kind ≡ Store e → test plan.store.nodes q.guard truths ≡ is_some (seen_at instant x.0)
          stored_as m q at_m of =
              let at_q = get_map (operation_in plan.store.nodes) plan.ops m q at_m in
              ap (λ g. g truths) (one_storing plan.kernel c.has.presence (operation_in plan.store.nodes q) (in_kernel m (operation_in plan.store.nodes q) at_q) e y x initial of shape) ∙ sym (clock_is plan accepted memory next instant is x lt)

          it_stores : (kd : StepKind) (w : ℤ) → (r : StoresAt y instant kd w) → r.op.kind ≡ Store e
          it_stores kd w r =
              let found = defining plan.kernel r.d y r.defines in
              r.stores ∙ ap Store (same_equation r.d e (defined_once plan.kernel accepted.valid r.d.0 e.0 found.0 equation y found.1 at_e found.2 (ap target_of form)))

          stored_once : (m : ℕ) (b : Step) (w : ℤ) → slice_get code.steps m ≡ Some b → stored_at plan y.0 instant b.kind ≡ Some w → m ≡ store_step.n
          stored_once m b w at_m given =
              let r = stores_at y instant b.kind w given in
              let number = stores_once plan.kernel c.has.presence e r.o.0 store_step.q.0 (operation_in plan.store.nodes r.op) (operation_in plan.store.nodes store_step.store)
              (at_kernel r.o.0 r.op r.at) (at_kernel store_step.q.0 store_step.store store_step.at_q) (it_stores b.kind w r) store_step.stores in
              does_once plan accepted k code coded m store_step.n b store_step.a r.o store_step.q at_m store_step.at_n r.is store_step.does number

          pub none_stored_before : yielded_in plan code (stored_at plan y.0) instant (take s code.steps) ≡ []
          none_stored_before = none_chosen (λ b. cond (guard_holds plan code (seen_at instant) b) (stored_at plan y.0 instant b.kind) None) (take s code.steps) (λ m b at_m.
              let there = taken_get s code.steps m b at_m in
              nothing_from (guard_holds plan code (seen_at instant) b) (stored_at plan y.0 instant b.kind) (λ w g given. let same = stored_once m b w there.1 given in let later = store_step.later in omega (arith, same, there.0, later)))

          pub stored_in : yielded_in plan code (stored_at plan y.0) instant code.steps ≡ option_to_list (seen_at instant x.0)
          stored_in = by (seen_at instant x.0) refl where
            remembered_here : remembers plan.kernel store_step.store.kind ≡ Some y
            remembered_here = ap (remembers plan.kernel) store_step.stores ∙ ap target_in at_e ∙ ap target_of form

            by : (z : Seen) → seen_at instant x.0 ≡ z → yielded_in plan code (stored_at plan y.0) instant code.steps ≡ option_to_list z
            by None none = none_chosen (λ b. cond (guard_holds plan code (seen_at instant) b) (stored_at plan y.0 instant b.kind) None) code.steps (λ m b at_m.
                nothing_from (guard_holds plan code (seen_at instant) b) (stored_at plan y.0 instant b.kind) (λ w g given.
                let r = stores_at y instant b.kind w given in
                let clash : true ≡ false = sym g ∙ done_by m b r.o r.op at_m r.is r.at instant ∙ stored_as r.o.0 r.op r.at (it_stores b.kind w r) ∙ ap (λ (z : Seen). is_some z) none in
                cc))
            by (Some v) some =
                let done : test plan.store.nodes store_step.store.guard truths ≡ true = stored_as store_step.q.0 store_step.store store_step.at_q store_step.stores ∙ ap (λ (z : Seen). is_some z) some in
                let holds : guard_holds plan code (seen_at instant) store_step.a ≡ true = done_by store_step.n store_step.a store_step.q store_step.store store_step.at_n store_step.does store_step.at_q instant ∙ done in
                let kept = stored plan.kernel plan.clocks.conditions (compiled_operations plan) (compiled_order plan) c memory next instant is store_step.q.0 (operation_in plan.store.nodes store_step.store)
                (get_map (operation_in plan.store.nodes) plan.ops store_step.q.0 store_step.store store_step.at_q) done e y x initial store_step.stores shape (seen_at instant) (λ z there. refl) in
                let gives : stored_at plan y.0 instant store_step.a.kind ≡ Some v =
                ap (stored_at plan y.0 instant) store_step.does ∙ ap (stored_by plan.kernel y.0 instant) store_step.at_q
                ∙ ap (λ target. cond (names y.0 target) (Some (first_in (seen_at instant) store_step.store.reads)) None) remembered_here
                ∙ ap (λ b. cond b (Some (first_in (seen_at instant) store_step.store.reads)) None) (eq-eqb y.0 y.0 refl) ∙ sym kept ∙ some in
                one_chosen (λ b. cond (guard_holds plan code (seen_at instant) b) (stored_at plan y.0 instant b.kind) None) code.steps store_step.n store_step.a v store_step.at_n
                (ap (λ b. cond b (stored_at plan y.0 instant store_step.a.kind) None) holds ∙ gives) (λ m b at_m apart.
                nothing_from (guard_holds plan code (seen_at instant) b) (stored_at plan y.0 instant b.kind) (λ w g given. apart (stored_once m b w at_m given)))

      -- ---- over the reference

      module _ (flows : List (List ℤ)) (fit : AreFlowsFor plan.kernel flows) (reference : Trace) (is : IsReference plan.kernel flows (length reference) reference) (i : ℕ) (from : 1 ≤ i) (within : i ≤ length reference) where
        abbrev past : Trace
        past = take (i - 1) reference

        whole_before : (yield : Yield) (x : SigId)
            → ((memory : Memory) (next : ℕ → ℤ) (instant : Instant) → IsNext plan.kernel memory next instant → (yielded_in plan code yield instant (take s code.steps) ≡ []) × (yielded_in plan code yield instant code.steps ≡ option_to_list (seen_at instant x.0)))
            → yielded_before plan code yield reference i s ≡ flow_of x.0 past
        whole_before yield x each =
            let now = instant_at reference i in
            ap (λ items. items ++ yielded_in plan code yield now (take s code.steps)) (joined_same (λ instant. yielded_in plan code yield instant code.steps) (λ instant. option_to_list (seen_at instant x.0)) past (λ m instant there.
            let n = next_some plan accepted flows fit reference is m instant (taken_get (i - 1) reference m instant there).1 in
            (each n.0 n.1 instant n.2).1))
            ∙ ap (λ items. flow_of x.0 past ++ items) (each _ _ now (next_at plan accepted flows fit reference is i from within)).0
            ∙ append-nil (flow_of x.0 past)

        pub read_before : (x : SigId) → op.kind ≡ Read x → yielded_before plan code (read_at plan x.0) reference i s ≡ flow_of x.0 past
        read_before x reads = whole_before (read_at plan x.0) x (λ memory next instant is_next. (none_read_before x reads memory next instant is_next, read_in x reads memory next instant is_next))

        pub stored_before : (e : EqId) (equation : Equation) (y x : SigId) (initial : ℤ) → slice_get plan.kernel.equations e.0 ≡ Some equation → equation.form ≡ Delay y x initial → op.writes ≡ Some y
            → yielded_before plan code (stored_at plan y.0) reference i s ≡ flow_of x.0 past
        stored_before e equation y x initial at_e form writes = whole_before (stored_at plan y.0) x (λ memory next instant is_next.
            (none_stored_before e equation y x initial at_e form writes memory next instant is_next, stored_in e equation y x initial at_e form writes memory next instant is_next))
