-- An actor behind the last place: its instant is committed, and it goes on with the next one.
use Rattle.sig_doing_laws.proofs.Common.{compiled_operations, compiled_order, ◌≡◌, ◌<◌, ◌+◌, ◌++◌, suc, ℤ, pos, Bool, true, false, List, [], ◌∷◌, length, map, get_or, drop, refl, ap, sym, subst, ◌∙◌, arith, Contains, Some, is_some, slice_get, range_with_len, length-append, length-drop, length-take, Contains-append_left, Contains-append_right, get_or-map-range_with_len, length-map-range_with_len, Bounded, Instant, Trace, seen_at, EqId, SigId, signal_id, IsCommitted, IsAmid, instant_behind, IsWrittenBefore, StandsBefore, instant_text, output_text, outputs_of, seen_lines, target_of, AreFlowsFor, Equation, Form, Delay, Kernel, no_instants, IsWithinBounds, compiled, Compiled, without_faults, place_of, fitting, among_each, IsClean, clean_more, none_where, Actor, opening_actor, IsReference, reaction_in, Operation, equation_id, of_each, operations_in, operations_of, read_of, store_of, stores_of, writes_of, IsAccepted, PlanView, numbers_of, OpKind, Read, Store, at_contained, contains_head, got}
use Rattle.sig_doing_laws.proofs.Committed.{committed_clean}
use Rattle.sig_doing_laws.proofs.DefinedOnce.{defined_once, initial_is}
use Rattle.sig_doing_laws.proofs.ReferenceInstant.{goes_on, written_is_there, written_somewhere}
use Rattle.sig_doing_laws.proofs.Lines.{dropped_at, same_lines, text_more}
use Rattle.sig_doing_laws.proofs.Places.{places, to_place}

-- ---- the operations of inputs and delays stand in the order

module _ (plan : PlanView) (accepted : IsAccepted plan) where
  abbrev c : Compiled plan.kernel plan.clocks.conditions (compiled_operations plan) (compiled_order plan)
  c = compiled plan accepted

  abbrev reads : List Operation
  reads = map (λ number. read_of plan.kernel.signals c.has.presence (signal_id number)) (range_with_len 0 plan.kernel.inputs)

  abbrev writes : List Operation
  writes = of_each (writes_of plan.kernel.signals c.has.presence) 0 plan.kernel.equations

  abbrev stores : List Operation
  stores = of_each (stores_of plan.kernel.signals c.has.presence) 0 plan.kernel.equations

  stands_in_order : (p : Operation) → Contains (operations_of plan.kernel c.has.presence) p → StandsBefore plan (length (compiled_order plan)) p.kind
  stands_in_order p among =
      let contained : Contains (compiled_operations plan) p = subst (λ (ps : List Operation). Contains ps p) (sym c.has.are) among in
      let place = place_of plan.kernel plan.clocks.conditions (compiled_operations plan) (compiled_order plan) (λ y x initial. initial) (λ input. pos 0) c contained.0 p (at_contained (compiled_operations plan) p contained) in
      let full : length (compiled_order plan) ≡ length (compiled_operations plan) = c.ordered.all in
      let there = to_place plan place.0 p (omega (arith, place.1, full)) place.2 in
      record { at = place.0; earlier = omega (arith, place.1, full); op = there.0; stands = there.1; does = ap (λ (q : Operation). q.kind) there.2 }

  pub read_stands : (x : SigId) → x.0 < plan.kernel.inputs → StandsBefore plan (length (compiled_order plan)) (Read x)
  read_stands x lt = stands_in_order (read_of plan.kernel.signals c.has.presence x)
      (Contains-append_left (reads ++ writes) stores (read_of plan.kernel.signals c.has.presence x)
      (Contains-append_left reads writes (read_of plan.kernel.signals c.has.presence x) (
        x.0,
        omega (arith, lt, length-map-range_with_len (λ number. read_of plan.kernel.signals c.has.presence (signal_id number)) 0 plan.kernel.inputs),
        get_or-map-range_with_len (λ number. read_of plan.kernel.signals c.has.presence (signal_id number)) 0 plan.kernel.inputs x.0 x.0 (read_of plan.kernel.signals c.has.presence x) lt (omega arith),
      )))

  pub store_stands : (e : EqId) (equation : Equation) (y x : SigId) (initial : ℤ) → slice_get plan.kernel.equations e.0 ≡ Some equation → equation.form ≡ Delay y x initial → StandsBefore plan (length (compiled_order plan)) (Store e)
  store_stands e equation y x initial at form =
      let there = got plan.kernel.equations e.0 equation equation at in
      let p : Operation = store_of plan.kernel.signals c.has.presence e y x in
      let shape : (get_or plan.kernel.equations e.0 equation).form ≡ Delay y x initial = ap (λ (q : Equation). q.form) there.1 ∙ form in
      let made : Contains (stores_of plan.kernel.signals c.has.presence e (get_or plan.kernel.equations e.0 equation).form) p =
      subst (λ (f : Form). Contains (stores_of plan.kernel.signals c.has.presence e f) p) (sym shape) (contains_head p []) in
      let same : e.0 ≡ 0 + e.0 = omega arith in
      stands_in_order p (Contains-append_right (reads ++ writes) stores p
      (among_each (stores_of plan.kernel.signals c.has.presence) 0 plan.kernel.equations e.0 equation p there.0
      (subst (λ m. Contains (stores_of plan.kernel.signals c.has.presence (equation_id m) (get_or plan.kernel.equations e.0 equation).form) p) same made)))

-- ---- the beginning

pub none_committed : (kernel : Kernel) (flows : List (List ℤ)) → IsCommitted kernel flows []
none_committed kernel flows = record { is = no_instants Bounded kernel; fits = λ input lt. (get_or flows input [], refl); speaks = tt }

pub opening_amid : (plan : PlanView) → IsAccepted plan → (flows : List (List ℤ)) (instant : Instant) → IsReference plan.kernel flows 1 (instant ∷ []) → IsAmid plan flows [] instant (opening_actor plan.kernel)
opening_amid plan accepted flows instant reference = record {
  behind = none_committed plan.kernel flows;
  next = reference;
  number = refl;
  within = omega arith;
  written = λ x w. absurd (omega (arith, w.earlier));
  unwritten = λ x none. refl;
  stored = λ e equation y x initial at form before. absurd (omega (arith, before.earlier));
  kept = λ e equation y x initial at form none.
      initial_is plan.kernel.equations e.0 equation y x initial at form (λ i p at_i target. defined_once plan.kernel accepted.valid i e.0 p equation y at_i at target (ap target_of form));
  read = λ x lt before. absurd (omega (arith, before.earlier));
  unread = λ x lt none. refl;
  sound = λ place cause lt fault. omega (arith, lt);
}

-- ---- the end of an instant

module _ (plan : PlanView) (accepted : IsAccepted plan) (flows : List (List ℤ)) (fit : AreFlowsFor plan.kernel flows) (trace : Trace) (instant : Instant)
    (actor : Actor) (amid : IsAmid plan flows trace instant actor) (last : actor.step ≡ length plan.order) where
  abbrev clean : IsClean plan.kernel flows (length trace) trace
  clean = committed_clean plan accepted flows fit trace amid.behind

  abbrev reference : IsReference plan.kernel flows (suc (length trace)) (trace ++ instant ∷ [])
  reference = goes_on plan accepted flows fit trace instant amid.behind amid.next

  step_is : actor.step ≡ length (numbers_of plan.order)
  step_is = last ∙ sym (places plan)

  within : IsWithinBounds plan.kernel flows trace instant
  within =
      let full : length (numbers_of plan.order) ≡ length (operations_in plan.store.nodes plan.ops) = accepted.order.all in
      without_faults plan.kernel plan.clocks.conditions (operations_in plan.store.nodes plan.ops) (numbers_of plan.order) (compiled plan accepted) flows (fitting plan accepted flows fit) trace clean instant reference
      (λ place cause lt fault. amid.sound place cause (omega (arith, lt, step_is, full)) fault)

  pub committed_more : IsCommitted plan.kernel flows (trace ++ instant ∷ [])
  committed_more =
      let longer = clean_more (fitting plan accepted flows fit) (length trace) trace instant clean reference within in
      record { is = longer.is; fits = longer.fits; speaks = longer.reference.speaks }

  registers_are : (x : SigId) → x.0 < length plan.kernel.signals → actor.registers x.0 ≡ seen_at instant x.0
  registers_are x lt = by (is_some (seen_at instant x.0)) refl where
    by : (b : Bool) → is_some (seen_at instant x.0) ≡ b → actor.registers x.0 ≡ seen_at instant x.0
    by true some = amid.written x (subst (λ n. IsWrittenBefore plan instant n x) (sym step_is) (written_somewhere plan accepted flows fit trace instant amid.behind amid.next x lt some))
    by false none =
        amid.unwritten x (λ w. let clash : true ≡ false = sym (written_is_there plan accepted flows fit trace instant amid.behind amid.next actor.step x w) ∙ none in cc)
        ∙ sym (none_where (seen_at instant x.0) none)

  pub lines_are : seen_lines (outputs_of plan.kernel) (reaction_in plan.kernel actor.registers) ≡ instant_text plan.kernel instant
  lines_are =
      let interface = accepted.valid.parts.interface in
      let declared = accepted.valid.parts.declared in
      let count : length (outputs_of plan.kernel) ≡ plan.kernel.outputs =
      omega (arith, length-take plan.kernel.outputs (drop plan.kernel.inputs plan.kernel.signals), length-drop plan.kernel.inputs plan.kernel.signals, interface, declared) in
      ap (λ n. seen_lines (outputs_of plan.kernel) (map actor.registers (range_with_len plan.kernel.inputs n))) (sym count)
      ∙ same_lines (outputs_of plan.kernel) actor.registers plan.kernel.inputs (drop plan.kernel.inputs instant) (λ k lt.
      registers_are (signal_id (plan.kernel.inputs + k)) (omega (arith, lt, count, interface, declared)) ∙ sym (dropped_at plan.kernel.inputs instant k))

  pub text_is : output_text plan.kernel (trace ++ instant ∷ []) ≡ output_text plan.kernel trace ++ seen_lines (outputs_of plan.kernel) (reaction_in plan.kernel actor.registers)
  text_is = text_more plan.kernel trace instant ∙ ap (λ text. output_text plan.kernel trace ++ text) (sym lines_are)

  pub next_amid : (other : Instant) → IsReference plan.kernel flows (length (trace ++ instant ∷ []) + 1) ((trace ++ instant ∷ []) ++ other ∷ []) → IsAmid plan flows (trace ++ instant ∷ []) other (instant_behind actor)
  next_amid other further = record {
    behind = committed_more;
    next = further;
    number = omega (arith, amid.number, length-append trace (instant ∷ []));
    within = omega arith;
    written = λ x w. absurd (omega (arith, w.earlier));
    unwritten = λ x none. refl;
    stored = λ e equation y x initial at form before. absurd (omega (arith, before.earlier));
    kept = λ e equation y x initial at form none. amid.stored e equation y x initial at form (there (Store e) (store_stands plan accepted e equation y x initial at form));
    read = λ x lt before. absurd (omega (arith, before.earlier));
    unread = λ x lt none. amid.read x lt (there (Read x) (read_stands plan accepted x lt));
    sound = λ place cause lt fault. omega (arith, lt);
  } where
    there : (kind : OpKind) → StandsBefore plan (length (numbers_of plan.order)) kind → StandsBefore plan actor.step kind
    there kind before = subst (λ n. StandsBefore plan n kind) (sym step_is) before
