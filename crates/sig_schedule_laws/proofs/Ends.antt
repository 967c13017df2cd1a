-- What the two ends of a link send and take at an instant.
use Rattle.sig_schedule_laws.proofs.Common.{compiled_operations, compiled_order, ◌≡◌, ◌+◌, ◌*◌, ◌⊎◌, inl, inr, ℕ, ℤ, pos, Bool, true, false, cond, List, [], ◌∷◌, length, refl, ap, sym, subst, ◌∙◌, Contains, None, Option, Some, is_some, option_to_list, slice_get, unwrap_or, Instant, Seen, seen_at, SigId, Memory, IsNext, guard_holds, truths_of, Yield, yielded_in, item_of, CodeView, Instruction, instructions_of, under, unguarded, IsFor, StandsAt, Operation, Writes, IsAccepted, PlanView, Step, StepKind, LinkInfo, plan_operations, carrying_ends, slice_get_within}
use Rattle.sig_schedule_laws.proofs.Done.{done_once, done_there, stands_of, there_done}
use Rattle.sig_schedule_laws.proofs.Lists.{none_chosen, one_chosen}
use Rattle.sig_schedule_laws.proofs.Steps.{DoesStep, instruction_step, places_once, same_place, step_does}

-- what a link carries at an instant: the value of its signal, where it is present, or a report
abbrev pub carried_at : Instant → Option SigId → List ℤ
carried_at instant None = pos 0 ∷ []
carried_at instant (Some x) = option_to_list (seen_at instant x.0)

-- a choice that gives nothing
pub nothing_from : (b : Bool) (o : Option ℤ) → ((w : ℤ) → b ≡ true → o ≡ Some w → ⊥) → (let chosen : Option ℤ = cond b o None in chosen) ≡ None
nothing_from true (Some w) never = absurd (never w refl refl)
nothing_from _ _ never = refl

present_value : (s : Seen) (v : ℤ) → s ≡ Some v → unwrap_or s (pos 0) ≡ v
present_value s v is = ap (λ (o : Option ℤ). unwrap_or o (pos 0)) is

module _ (plan : PlanView) (accepted : IsAccepted plan) (link : ℕ) (info : LinkInfo) (at : slice_get plan.links link ≡ Some info) where
  abbrev all : ℕ → List Instruction
  all k = instructions_of (compiled_operations plan) (compiled_order plan) accepted.parts k

  abbrev IsKnown : ℕ → Instruction → Type 0
  IsKnown k i = IsFor (compiled_operations plan) (compiled_order plan) accepted.parts.links accepted.parts.clusters k i

  at_parts : slice_get accepted.parts.links link ≡ Some info
  at_parts = subst (λ (ls : List LinkInfo). slice_get ls link ≡ Some info) (sym accepted.links) at

  -- an instruction sends or receives on the link what an operation writes
  pub record IsItem (K : StepKind) (i : Instruction) : Type 0 where
    pub j : ℕ
    pub number : ℕ
    pub p : Operation
    pub x : SigId
    pub stands : StandsAt (compiled_operations plan) (compiled_order plan) j number p
    pub writes : Writes p x
    pub carries : info.signal ≡ Some x
    pub is : i ≡ under p K (2 * j + 1)

  -- one end of the link: the steps of an actor that give or take items, and those for reports
  pub record IsLinkEnd (k : ℕ) (yield : Yield) (K M : StepKind) : Type 0 where
    pub gives : (instant : Instant) → yield instant K ≡ Some (item_of (seen_at instant) info.signal)
    pub marks : (instant : Instant) → yield instant M ≡ Some (pos 0)
    pub only : (instant : Instant) (kind : StepKind) (w : ℤ) → yield instant kind ≡ Some w → (kind ≡ K) ⊎ (kind ≡ M)
    pub items : (i : Instruction) → IsKnown k i → i.kind ≡ K → IsItem K i
    pub reports : (i : Instruction) → IsKnown k i → i.kind ≡ M → (info.signal ≡ None) × (i ≡ unguarded M (2 * length (compiled_operations plan)))
    pub has_item : (j number : ℕ) (p : Operation) (x : SigId) → StandsAt (compiled_operations plan) (compiled_order plan) j number p → Writes p x → info.signal ≡ Some x → Contains (all k) (under p K (2 * j + 1))
    pub has_report : info.signal ≡ None → Contains (all k) (unguarded M (2 * length (compiled_operations plan)))

  module _ (memory : Memory) (next : ℕ → ℤ) (instant : Instant) (is : IsNext plan.kernel memory next instant)
      (k : ℕ) (code : CodeView) (coded : slice_get plan.codes k ≡ Some code) (yield : Yield) (K M : StepKind) (end : IsLinkEnd k yield K M) where
    abbrev own : List Bool
    own = truths_of plan.clocks.conditions (seen_at instant)

    abbrev chosen : Step → Option ℤ
    chosen step = cond (guard_holds plan code (seen_at instant) step) (yield instant step.kind) None

    chosen_some : (step : Step) (v : ℤ) → guard_holds plan code (seen_at instant) step ≡ true → yield instant step.kind ≡ Some v → chosen step ≡ Some v
    chosen_some step v holds gives = ap (λ b. cond b (yield instant step.kind) None) holds ∙ gives

    -- an item that is given is one of the link's signal, which is present
    item_done : (m : ℕ) (step : Step) (d : DoesStep plan accepted k code coded m step) → guard_holds plan code (seen_at instant) step ≡ true → (item : IsItem K d.i) → item.p.guard own ≡ true
    item_done m step d holds item = sym (ap (λ (i : Instruction). i.guard own) item.is) ∙ sym (d.guard (seen_at instant)) ∙ holds

    clash : (x : SigId) → info.signal ≡ Some x → info.signal ≡ None → ⊥
    clash x some none = let e : Some x ≡ None = sym some ∙ none in cc

    -- ---- a link of reports

    reported : info.signal ≡ None → yielded_in plan code yield instant code.steps ≡ pos 0 ∷ []
    reported none =
        let there = instruction_step plan accepted k code coded (unguarded M (2 * length (compiled_operations plan))) (end.has_report none) in
        let kind : there.1.kind ≡ M = there.3.kind ∙ ap (λ (i : Instruction). i.kind) there.4 in
        let holds : guard_holds plan code (seen_at instant) there.1 ≡ true = there.3.guard (seen_at instant) ∙ ap (λ (i : Instruction). i.guard own) there.4 in
        one_chosen chosen code.steps there.0 there.1 (pos 0) there.2 (chosen_some there.1 (pos 0) holds (ap (yield instant) kind ∙ end.marks instant)) (λ m b at_m apart.
        nothing_from (guard_holds plan code (seen_at instant) b) (yield instant b.kind) (λ w g y.
        let d = step_does plan accepted k code coded m b at_m in
        elim (end.only instant b.kind w y) [
          | inl item ↦ let found = end.items d.i d.known (sym d.kind ∙ item) in clash found.x found.carries none
          | inr mark ↦ apart (same_place plan accepted k code coded m there.0 b there.1 d there.3 ((end.reports d.i d.known (sym d.kind ∙ mark)).1 ∙ sym there.4))
        ]))

    -- ---- a link of a signal

    module _ (x : SigId) (carries : info.signal ≡ Some x) where
      same_signal : (K : StepKind) (i : Instruction) (item : IsItem K i) → item.x ≡ x
      same_signal K i item = let e : Some item.x ≡ Some x = sym item.carries ∙ carries in cc

      absent : seen_at instant x.0 ≡ None → yielded_in plan code yield instant code.steps ≡ []
      absent none = none_chosen chosen code.steps (λ m b at_m. nothing_from (guard_holds plan code (seen_at instant) b) (yield instant b.kind) (λ w g y.
          let d = step_does plan accepted k code coded m b at_m in
          elim (end.only instant b.kind w y) [
            | inl item ↦
                let found = end.items d.i d.known (sym d.kind ∙ item) in
                let there = done_there plan accepted memory next instant is found.number found.p found.x found.stands.is found.writes (item_done m b d g found) in
                let bad : true ≡ false = sym there ∙ ap (λ (z : SigId). is_some (seen_at instant z.0)) (same_signal K d.i found) ∙ ap (λ (s : Seen). is_some s) none in
                cc
            | inr mark ↦ clash x carries (end.reports d.i d.known (sym d.kind ∙ mark)).0
          ]))

      present : (v : ℤ) → seen_at instant x.0 ≡ Some v → yielded_in plan code yield instant code.steps ≡ v ∷ []
      present v some =
          let ends = carrying_ends plan.kernel accepted.valid plan.clocks.conditions (compiled_operations plan) (plan_operations plan accepted) accepted.parts accepted.split link info x at_parts carries in
          let w = there_done plan accepted memory next instant is x (slice_get_within plan.kernel.signals x.0 ends.owner ends.owned) (ap (λ (s : Seen). is_some s) some) in
          let stands = stands_of plan accepted w.0 w.1 w.2 in
          let there = instruction_step plan accepted k code coded (under w.1 K (2 * stands.0 + 1)) (end.has_item stands.0 w.0 w.1 x stands.1 w.3 carries) in
          let kind : there.1.kind ≡ K = there.3.kind ∙ ap (λ (i : Instruction). i.kind) there.4 in
          let holds : guard_holds plan code (seen_at instant) there.1 ≡ true = there.3.guard (seen_at instant) ∙ ap (λ (i : Instruction). i.guard own) there.4 ∙ w.4 in
          let value : item_of (seen_at instant) info.signal ≡ v = ap (λ (o : Option SigId). item_of (seen_at instant) o) carries ∙ present_value (seen_at instant x.0) v some in
          one_chosen chosen code.steps there.0 there.1 v there.2 (chosen_some there.1 v holds (ap (yield instant) kind ∙ end.gives instant ∙ ap Some value)) (λ m b at_m apart.
          nothing_from (guard_holds plan code (seen_at instant) b) (yield instant b.kind) (λ u g y.
          let d = step_does plan accepted k code coded m b at_m in
          elim (end.only instant b.kind u y) [
            | inl item ↦
                let found = end.items d.i d.known (sym d.kind ∙ item) in
                let numbers : found.number ≡ w.0 = done_once plan accepted memory next instant is found.number w.0 found.p w.1 x found.stands.is w.2
                (found.writes ∙ ap Some (same_signal K d.i found)) w.3 (item_done m b d g found) w.4 in
                let places = places_once plan accepted found.j stands.0 w.0 found.p w.1 (subst (λ n. StandsAt (compiled_operations plan) (compiled_order plan) found.j n found.p) numbers found.stands) stands.1 in
                let same : under found.p K (2 * found.j + 1) ≡ under w.1 K (2 * stands.0 + 1) = (λ t. under (places.1 t) K (2 * places.0 t + 1)) in
                apart (same_place plan accepted k code coded m there.0 b there.1 d there.3 (found.is ∙ same ∙ sym there.4))
            | inr mark ↦ clash x carries (end.reports d.i d.known (sym d.kind ∙ mark)).0
          ]))

      of_signal : yielded_in plan code yield instant code.steps ≡ option_to_list (seen_at instant x.0)
      of_signal = by (seen_at instant x.0) refl where
        by : (s : Seen) → seen_at instant x.0 ≡ s → yielded_in plan code yield instant code.steps ≡ option_to_list s
        by None is = absent is
        by (Some v) is = present v is

    -- what an end gives or takes at an instant
    pub in_instant : yielded_in plan code yield instant code.steps ≡ carried_at instant info.signal
    in_instant = by info.signal refl where
      by : (o : Option SigId) → info.signal ≡ o → yielded_in plan code yield instant code.steps ≡ carried_at instant o
      by None none = reported none
      by (Some x) carries = of_signal x carries
