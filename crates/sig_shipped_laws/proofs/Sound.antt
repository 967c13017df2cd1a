-- The image of an accepted plan is sound.
use Rattle.sig_shipped_laws.proofs.Common.{compiled_operations, compiled_order, ◌≡◌, ◌<◌, ℕ, Bool, true, List, length, None, Some, is_some, refl, sym, ap, subst, ◌∙◌, arith, slice_get, slice_index, SigId, KeepsTo, Reaction, Speaks, Status, status_at, some_reaction, Diagram, value_at, Holds, diagram, Asks, asks_depends, asks_no_idle, of_operation, Operation, operation_in, Needs, Precedes, IsAccepted, PlanView, Op, present_written, written_by_one, guards_idle, needed_earlier, read_earlier, stands_once, guard_held, compiled, Compiled, condition_signal, StandsAt, at_place, to_place, Guarded, IsSoundImage, IsWrittenBefore, guards_of, Reads, Writes as WritesIn, ImageView, image_of, ImageOpKind, slice_get_within}
use Rattle.sig_plan.specs.Order.{Writes}
use Rattle.sig_shipped_laws.proofs.Cases.{image_reads, image_writes, writes_image}
use Rattle.sig_shipped_laws.proofs.Placed.{IsMadeFor, guarded_at, guarded_for}

module _ (plan : PlanView) (accepted : IsAccepted plan) where
  abbrev c : Compiled plan.kernel plan.clocks.conditions (compiled_operations plan) (compiled_order plan)
  c = compiled plan accepted

  abbrev view : ImageView
  view = image_of plan

  -- a guard has the value of its operation's
  value_is : (op : Op) (g : Guarded) → IsMadeFor plan op g → (proposal : List Bool) → value_at g.guard proposal ≡ (operation_in plan.store.nodes op).guard proposal
  value_is op g made proposal = ap (λ (d : Diagram). value_at d proposal) made.guard

  -- what is written at an earlier place of the order is written by an earlier operation of the image
  written : (i n : ℕ) (p : Operation) (x : SigId) (proposal : List Bool) → i < n → i < length (compiled_order plan) → slice_get (compiled_operations plan) (slice_index (compiled_order plan) i) ≡ Some p → Writes p x → p.guard proposal ≡ true
      → IsWrittenBefore (guards_of view).ops n proposal x
  written i n p x proposal earlier within at writes done =
      let (op, stands, same) = to_place plan i p within at in
      let (g, is, made) = guarded_for plan accepted i op stands in
      let wrote : (operation_in plan.store.nodes op).writes ≡ Some x = ap (λ (q : Operation). q.writes) same ∙ writes in
      record {
        earlier = i;
        before = earlier;
        op = g;
        is = is;
        holds = value_is op g made proposal ∙ ap (λ (q : Operation). q.guard proposal) same ∙ done;
        writes = subst (λ (k : ImageOpKind). WritesIn k x) (sym made.kind) (writes_image plan.kernel (operation_in plan.store.nodes op) made.case made.is x wrote);
      }

  module _ (n : ℕ) (g : Guarded) (op : Op) (stands : StandsAt plan n op) (made : IsMadeFor plan op g) where
    abbrev q : Operation
    q = operation_in plan.store.nodes op

    here : (n < length (compiled_order plan)) × (slice_get (compiled_operations plan) (slice_index (compiled_order plan) n) ≡ Some q)
    here = at_place plan n op stands

    within : n < length (compiled_operations plan)
    within = let all = c.ordered.all in omega (arith, here.0, all)

    reads : (proposal : List Bool) (x : SigId) → value_at g.guard proposal ≡ true → Reads g.kind x → IsWrittenBefore (guards_of view).ops n proposal x
    reads proposal x holds read =
        let done = sym (value_is op g made proposal) ∙ holds in
        let named = image_reads plan.kernel q made.case made.is x (subst (λ (k : ImageOpKind). Reads k x) made.kind read) in
        let e = read_earlier plan.kernel c.valid plan.clocks.conditions (compiled_operations plan) c.has (compiled_order plan) c.ordered n within q here.1 proposal done x named in
        written e.0 n e.1 x proposal e.2 (omega (arith, e.2, here.0)) e.3 e.4 e.5

    writes : (proposal : List Bool) (x : SigId) → value_at g.guard proposal ≡ true → WritesIn g.kind x → IsWrittenBefore (guards_of view).ops n proposal x → ⊥
    writes proposal x holds write w =
        let (other, stood, made_too) = guarded_at plan accepted w.earlier w.op w.is in
        let found = some_reaction plan.kernel plan.clocks.conditions c.has.clocks c.has.order proposal in
        let there = at_place plan w.earlier other stood in
        let one = image_writes plan.kernel q made.case made.is x (subst (λ (k : ImageOpKind). WritesIn k x) made.kind write) in
        let two = image_writes plan.kernel (operation_in plan.store.nodes other) made_too.case made_too.is x (subst (λ (k : ImageOpKind). WritesIn k x) made_too.kind w.writes) in
        let done = sym (value_is op g made proposal) ∙ holds in
        let also = sym (value_is other w.op made_too proposal) ∙ w.holds in
        let same = written_by_one plan.kernel c.valid plan.clocks.conditions (compiled_operations plan) c.has proposal found.0 found.1 found.2 (slice_index (compiled_order plan) n) (slice_index (compiled_order plan) w.earlier) q (operation_in plan.store.nodes other) x here.1 there.1 one two done also in
        let all = c.ordered.all in
        let places = stands_once (Precedes plan.clocks.conditions (compiled_operations plan)) (length (compiled_operations plan)) (compiled_order plan) c.ordered n w.earlier within (omega (arith, there.0, all)) same in
        let before = w.before in
        omega (arith, places, before)

    asks : (proposal : List Bool) (place : ℕ) (x : SigId) → Asks g.guard proposal place → slice_get plan.clocks.conditions place ≡ Some x → IsWrittenBefore (guards_of view).ops n proposal x
    asks proposal place x asked at = by (status_at found.0 x.0) refl where
      found : (reaction : Reaction) × Speaks plan.kernel reaction × KeepsTo plan.clocks.conditions proposal reaction
      found = some_reaction plan.kernel plan.clocks.conditions c.has.clocks c.has.order proposal

      walks : Asks (diagram plan.store.nodes op.guard) proposal place
      walks = subst (λ (d : Diagram). Asks d proposal place) made.guard asked

      held : Holds plan.store.nodes op.guard
      held = guard_held plan accepted op.guard (of_operation stands.number.0 op stands.is)

      by : (status : Status) → status_at found.0 x.0 ≡ status → IsWrittenBefore (guards_of view).ops n proposal x
      by None absent =
          absurd (asks_no_idle plan.store accepted.store op.guard held proposal place walks
          (guards_idle plan.kernel c.valid plan.clocks.conditions (compiled_operations plan) c.has proposal found.0 found.1 found.2 place x at absent (slice_index (compiled_order plan) n) q here.1))
      by (Some b) there =
          let signal = condition_signal plan.kernel plan.clocks.conditions c.has.order place x at in
          let lt = slice_get_within plan.kernel.signals x.0 signal.0 signal.1 in
          let w = present_written plan.kernel c.valid plan.clocks.conditions (compiled_operations plan) c.has proposal found.0 found.1 found.2 x lt (ap is_some there) in
          let needs : Needs plan.clocks.conditions q x = record { variable = place; is = at; depends = asks_depends plan.store accepted.store op.guard held proposal place walks } in
          let e = needed_earlier plan.kernel c.valid plan.clocks.conditions (compiled_operations plan) c.has (compiled_order plan) c.ordered n within q here.1 x needs w.0 w.1 w.2 w.3 in
          written e.0 n w.1 x proposal e.1 (omega (arith, e.1, here.0)) (ap (slice_get (compiled_operations plan)) e.2 ∙ w.2) w.3 w.4

  pub sound : IsSoundImage (image_of plan)
  sound n g at =
      let (op, stands, made) = guarded_at plan accepted n g at in
      record { reads = reads n g op stands made; writes = writes n g op stands made; asks = asks n g op stands made }
