-- What the steps of an actor put out of a signal, at an instant of the reference: its value, where the actor is the one that writes it, and
-- else nothing.
use Rattle.sig_output_laws.proofs.Common.{compiled_operations, compiled_order, ◌≡◌, ◌*◌, ◌⊎◌, inl, inr, ℕ, ℤ, Bool, true, false, cond, List, [], ◌∷◌, refl, ap, sym, ◌∙◌, None, Option, Some, is_some, option_to_list, slice_get, eq-eqb, eqb-true, cases_eq, if◌then◌else◌, Instant, Seen, seen_at, OpId, SigId, Signal, test, Memory, IsNext, compiled, Compiled, guard_holds, truths_of, Yield, names, op_of, yielded_in, CodeView, Instruction, op_id, under, Operation, operation_in, operations_written, does_there, IsAccepted, PlanView, Step, StepKind, Do, Op, get_map, map_get, slice_get_within, nothing_from, none_chosen, one_chosen, done_by, done_once, stands_of, there_done, does_once, instruction_step, op_done, signal_same}

-- the value of a signal, where an operation writes it
abbrev pub written_by : ℕ → Instant → Option Op → Option ℤ
written_by signal instant None = None
written_by signal instant (Some op) = if names signal op.writes then seen_at instant signal else None

abbrev pub written_at : PlanView → ℕ → Yield
written_at plan signal instant kind = written_by signal instant (op_of plan.ops kind)

pub named_is : (y : SigId) (o : Option SigId) → names y.0 o ≡ true → o ≡ Some y
named_is y None is = absurd (let e : false ≡ true = is in cc)
named_is y (Some z) is = ap Some (signal_same z y (eqb-true z.0 y.0 is))

when_named : (b : Bool) (o : Option ℤ) (w : ℤ) → (let chosen : Option ℤ = cond b o None in chosen) ≡ Some w → (b ≡ true) × (o ≡ Some w)
when_named true o w is = (refl, is)
when_named false o w is = absurd (let e : None ≡ Some w = is in cc)

module _ (plan : PlanView) (accepted : IsAccepted plan) (x : SigId) where
  abbrev c : Compiled plan.kernel plan.clocks.conditions (compiled_operations plan) (compiled_order plan)
  c = compiled plan accepted

  -- a step that does an operation which writes the signal
  pub record WritesAt (kind : StepKind) : Type 0 where
    pub o : OpId
    pub op : Op
    pub is : kind ≡ Do o
    pub at : slice_get plan.ops o.0 ≡ Some op
    pub writes : op.writes ≡ Some x

  written_op : (instant : Instant) (o : OpId) (w : ℤ) (found : Option Op) → slice_get plan.ops o.0 ≡ found → written_by x.0 instant found ≡ Some w → WritesAt (Do o) × (seen_at instant x.0 ≡ Some w)
  written_op instant o w None at is = absurd (let f : None ≡ Some w = is in cc)
  written_op instant o w (Some op) at is =
      let both = when_named (names x.0 op.writes) (seen_at instant x.0) w is in
      (record { o = o; op = op; is = refl; at = at; writes = named_is x op.writes both.0 }, both.1)

  writes_at : (instant : Instant) (kind : StepKind) (w : ℤ) → written_at plan x.0 instant kind ≡ Some w → WritesAt kind × (seen_at instant x.0 ≡ Some w)
  writes_at instant (Do o) w is = written_op instant o w (slice_get plan.ops o.0) refl is
  writes_at instant _ w is = absurd (let f : None ≡ Some w = is in cc)

  -- the cluster of the signal does the operations that write it
  owned : (number : ℕ) (p : Operation) → slice_get (compiled_operations plan) number ≡ Some p → p.writes ≡ Some x → (owner : Signal) × (slice_get plan.kernel.signals x.0 ≡ Some owner) × (p.cluster ≡ owner.cluster)
  owned number p at writes = (operations_written plan.kernel c.has.presence (compiled_operations plan) c.valid c.has.are).owner p x (number, at) writes

  module _ (k : ℕ) (code : CodeView) (coded : slice_get plan.codes k ≡ Some code) where
    abbrev pub NeverWrites : List Step → Type 0
    NeverWrites steps = (m : ℕ) (b : Step) → slice_get steps m ≡ Some b → WritesAt b.kind → ⊥

    -- steps that do not write the signal put out nothing of it
    pub nothing_in : (instant : Instant) (steps : List Step) → NeverWrites steps → yielded_in plan code (written_at plan x.0) instant steps ≡ []
    nothing_in instant steps never = none_chosen (λ b. cond (guard_holds plan code (seen_at instant) b) (written_at plan x.0 instant b.kind) None) steps (λ m b at_m.
        nothing_from (guard_holds plan code (seen_at instant) b) (written_at plan x.0 instant b.kind) (λ w g y. never m b at_m (writes_at instant b.kind w y).0))

    -- an actor that writes it is the one of its cluster
    cluster_is : (m : ℕ) (b : Step) → slice_get code.steps m ≡ Some b → WritesAt b.kind → (owner : Signal) × (slice_get plan.kernel.signals x.0 ≡ Some owner) × (owner.cluster ≡ k)
    cluster_is m b at_m w =
        let found = op_done plan accepted k code coded m b w.o w.op at_m w.is w.at in
        let own = owned w.o.0 (operation_in plan.store.nodes w.op) (get_map (operation_in plan.store.nodes) plan.ops w.o.0 w.op w.at) w.writes in
        (own.0, own.1, sym own.2 ∙ ap (λ (z : Operation). z.cluster) (sym found.2) ∙ found.1.own)

    module _ (owner : Signal) (at_x : slice_get plan.kernel.signals x.0 ≡ Some owner) (mine : owner.cluster ≡ k) (memory : Memory) (next : ℕ → ℤ) (instant : Instant) (is : IsNext plan.kernel memory next instant) where
      abbrev own : List Bool
      own = truths_of plan.clocks.conditions (seen_at instant)

      abbrev chosen : Step → Option ℤ
      chosen b = cond (guard_holds plan code (seen_at instant) b) (written_at plan x.0 instant b.kind) None

      present : (v : ℤ) → seen_at instant x.0 ≡ Some v → yielded_in plan code (written_at plan x.0) instant code.steps ≡ v ∷ []
      present v some =
          let w = there_done plan accepted memory next instant is x (slice_get_within plan.kernel.signals x.0 owner at_x) (ap (λ (s : Seen). is_some s) some) in
          let stands = stands_of plan accepted w.0 w.1 w.2 in
          let o : OpId = op_id w.0 in
          let own_it = owned w.0 w.1 w.2 w.3 in
          let same_owner : own_it.0 ≡ owner = (let e : Some own_it.0 ≡ Some owner = sym own_it.1 ∙ at_x in cc) in
          let cluster : w.1.cluster ≡ k = own_it.2 ∙ ap (λ (s : Signal). s.cluster) same_owner ∙ mine in
          let there = instruction_step plan accepted k code coded (under w.1 (Do o) (2 * stands.0)) (does_there (compiled_operations plan) (compiled_order plan) accepted.parts k stands.0 w.0 w.1 stands.1 cluster) in
          let kind : there.1.kind ≡ Do o = there.3.kind ∙ ap (λ (i : Instruction). i.kind) there.4 in
          let holds : guard_holds plan code (seen_at instant) there.1 ≡ true = there.3.guard (seen_at instant) ∙ ap (λ (i : Instruction). i.guard own) there.4 ∙ w.4 in
          let made = map_get (operation_in plan.store.nodes) plan.ops w.0 w.1 w.2 in
          let writes : made.0.writes ≡ Some x = ap (λ (q : Operation). q.writes) made.2 ∙ w.3 in
          let gives : written_at plan x.0 instant there.1.kind ≡ Some v =
          ap (written_at plan x.0 instant) kind ∙ ap (written_by x.0 instant) made.1 ∙ ap (λ target. cond (names x.0 target) (seen_at instant x.0) None) writes
          ∙ ap (λ b. cond b (seen_at instant x.0) None) (eq-eqb x.0 x.0 refl) ∙ some in
          one_chosen chosen code.steps there.0 there.1 v there.2 (ap (λ b. cond b (written_at plan x.0 instant there.1.kind) None) holds ∙ gives) (λ m b at_m apart.
          nothing_from (guard_holds plan code (seen_at instant) b) (written_at plan x.0 instant b.kind) (λ u g y.
          let r = (writes_at instant b.kind u y).0 in
          let done : test plan.store.nodes r.op.guard own ≡ true = sym (done_by plan accepted k code coded m b r.o r.op at_m r.is r.at instant) ∙ g in
          let numbers : r.o.0 ≡ w.0 = done_once plan accepted memory next instant is r.o.0 w.0 (operation_in plan.store.nodes r.op) w.1 x
          (get_map (operation_in plan.store.nodes) plan.ops r.o.0 r.op r.at) w.2 r.writes w.3 done w.4 in
          apart (does_once plan accepted k code coded m there.0 b there.1 r.o o at_m there.2 r.is kind numbers)))

      pub whole_in : yielded_in plan code (written_at plan x.0) instant code.steps ≡ option_to_list (seen_at instant x.0)
      whole_in = by (seen_at instant x.0) refl where
        by : (s : Seen) → seen_at instant x.0 ≡ s → yielded_in plan code (written_at plan x.0) instant code.steps ≡ option_to_list s
        by (Some v) some = present v some
        by None none = none_chosen chosen code.steps (λ m b at_m. nothing_from (guard_holds plan code (seen_at instant) b) (written_at plan x.0 instant b.kind) (λ w g y.
            let clash : None ≡ Some w = sym none ∙ (writes_at instant b.kind w y).1 in cc))

    -- an actor puts out all values of a signal, or none
    abbrev pub AllOrNothing : Type 0
    AllOrNothing = ((memory : Memory) (next : ℕ → ℤ) (instant : Instant) → IsNext plan.kernel memory next instant → yielded_in plan code (written_at plan x.0) instant code.steps ≡ option_to_list (seen_at instant x.0)) ⊎ NeverWrites code.steps

    pub all_or_nothing : AllOrNothing
    all_or_nothing = by (slice_get plan.kernel.signals x.0) refl where
      by : (found : Option Signal) → slice_get plan.kernel.signals x.0 ≡ found → AllOrNothing
      by None none = inr (λ m b at_m w. let own = cluster_is m b at_m w in let e : Some own.0 ≡ None = sym own.1 ∙ none in cc)
      by (Some owner) some = elim (cases_eq owner.cluster k) [
        | inl mine ↦ inl (whole_in owner some mine)
        | inr other ↦ inr (λ m b at_m w.
            let own = cluster_is m b at_m w in
            let e : Some own.0 ≡ Some owner = sym own.1 ∙ some in
            let same : own.0 ≡ owner = cc in
            other (sym (ap (λ (s : Signal). s.cluster) same) ∙ own.2))
      ]
