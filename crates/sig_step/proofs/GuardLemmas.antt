-- The guards of an actor's slots, which are known in an instant once they were met.
use Rattle.sig_step.proofs.Common.{◌≡◌, ◌<◌, ◌≤◌, ◌⊎◌, ◌∙◌, ◌&&◌, ℕ, Bool, true, false, List, length, get_or, slice_get, set, Option, None, Some, refl, sym, ap, subst, inl, inr, arith, length-set, eqb_tells, slice_get-get_or, slice_get_within, test, code_of, slot_holds, truths_of, IsRunnable, PlanView, Slot, Step, same_Some, instant_of, seen_in, CountsNeeds, CountsWalk, IsSlotMet, AreMarks, KnowsGuard, known_in, mark_holds, mark_is_met, parent_holds, ClusterState, Mark, get_set_other, get_set_same}

and_drops : (p q : Bool) → (q ≡ true → p ≡ true) → (p && q) ≡ q
and_drops true q h = refl
and_drops false true h = h refl
and_drops false false h = refl

-- the next step is one of this slot
abbrev pub StandsAt : PlanView → ClusterState → ℕ → Type 0
StandsAt plan s number = (step : Step) × (slice_get (code_of plan s.actor).steps s.step ≡ Some step) × (step.slot ≡ number)

module _ (plan : PlanView) (s : ClusterState) (runnable : IsRunnable plan) (marks : AreMarks plan s) (number : ℕ) (slot : Slot)
    (there : slice_get (code_of plan s.actor).slots number ≡ Some slot) (stands : StandsAt plan s number) where
  -- where the guard holds, that of its parent is known to hold
  parent_known : (parent : Option ℕ) → slot.parent ≡ parent → test plan.store.nodes slot.guard (truths_of plan.clocks.conditions (seen_in s.values)) ≡ true
      → parent_holds s parent ≡ true
  parent_known None is holds = refl
  parent_known (Some p) is holds =
      let (before, above, above_is, implies) = runnable.parents s.actor number p slot there is in
      let (step, at, in_slot) = stands in
      let (m, other, earlier, other_at, other_slot) = runnable.first s.actor s.step p step at (subst (λ (n : ℕ). p < n) (sym in_slot) before) in
      let (mark, marked, now) = marks.reached m other earlier other_at in
      let marked_p : slice_get s.marks.items p ≡ Some mark = subst (λ (n : ℕ). slice_get s.marks.items n ≡ Some mark) other_slot marked in
      let known = (marks.known p mark marked_p now).0 in
      let above_holds : test plan.store.nodes above.guard (truths_of plan.clocks.conditions (seen_in s.values)) ≡ true = implies (truths_of plan.clocks.conditions (seen_in s.values)) holds in
      ap mark_holds marked_p ∙ known ∙ ap (slot_holds plan.store.nodes (truths_of plan.clocks.conditions (seen_in s.values))) above_is ∙ above_holds

  pub walk_value : (result : Bool)
      → result ≡ (parent_holds s slot.parent && test plan.store.nodes slot.guard (truths_of plan.clocks.conditions (seen_in s.values)))
      → result ≡ slot_holds plan.store.nodes (truths_of plan.clocks.conditions (seen_in s.values)) (slice_get (code_of plan s.actor).slots number)
  walk_value result is =
      is
      ∙ and_drops (parent_holds s slot.parent) (test plan.store.nodes slot.guard (truths_of plan.clocks.conditions (seen_in s.values))) (parent_known slot.parent refl)
      ∙ sym (ap (slot_holds plan.store.nodes (truths_of plan.clocks.conditions (seen_in s.values))) there)

  within_marks : number < length s.marks.items
  within_marks = let h = slice_get_within (code_of plan s.actor).slots number slot there in omega (arith, h, marks.count)

  -- the marks with one that is noted
  noted_at : (holds : Bool) (marked : List Mark) → marked ≡ set s.marks.items number (record { instant = (instant_of s.values); holds = holds })
      → (k : ℕ) (mark : Mark) → slice_get marked k ≡ Some mark
      → ((k ≡ number) × (record { instant = (instant_of s.values); holds = holds } ≡ mark)) ⊎ (slice_get s.marks.items k ≡ Some mark)
  noted_at holds marked items k mark at =
      let new : Mark = record { instant = (instant_of s.values); holds = holds } in
      let at_set : slice_get (set s.marks.items number new) k ≡ Some mark = ap (λ ms. slice_get ms k) (sym items) ∙ at in
      elim (eqb_tells k number) [
        | inl same ↦
            let here : slice_get (set s.marks.items number new) k ≡ Some new =
            subst (λ (n : ℕ). slice_get (set s.marks.items number new) n ≡ Some new) (sym same.1) (get_set_same s.marks.items number new within_marks) in
            inl (same.1, same_Some new mark (sym here ∙ at_set))
        | inr other ↦ inr (sym (get_set_other s.marks.items number k new other.1) ∙ at_set)
      ]

  reached_in : (holds : Bool) (marked : List Mark) → marked ≡ set s.marks.items number (record { instant = (instant_of s.values); holds = holds })
      → (k : ℕ) (old : Mark) → slice_get s.marks.items k ≡ Some old → old.instant ≡ (instant_of s.values)
      → (mark : Mark) × (slice_get marked k ≡ Some mark) × (mark.instant ≡ (instant_of s.values))
  reached_in holds marked items k old at now =
      let new : Mark = record { instant = (instant_of s.values); holds = holds } in
      elim (eqb_tells k number) [
        | inl same ↦
            let here : slice_get (set s.marks.items number new) k ≡ Some new =
            subst (λ (n : ℕ). slice_get (set s.marks.items number new) n ≡ Some new) (sym same.1) (get_set_same s.marks.items number new within_marks) in
            (new, ap (λ ms. slice_get ms k) items ∙ here, refl)
        | inr other ↦ (old, ap (λ ms. slice_get ms k) items ∙ get_set_other s.marks.items number k new other.1 ∙ at, now)
      ]

  -- a mark that stands for the guard of this slot
  knows_new : (holds : Bool) → holds ≡ slot_holds plan.store.nodes (truths_of plan.clocks.conditions (seen_in s.values)) (slice_get (code_of plan s.actor).slots number)
      → (k : ℕ) (mark : Mark) → k ≡ number → record { instant = (instant_of s.values); holds = holds } ≡ mark → KnowsGuard plan s.actor (instant_of s.values) s.step (seen_in s.values) k mark
  knows_new holds value k mark same is =
      let new : Mark = record { instant = (instant_of s.values); holds = holds } in
      let at_number : KnowsGuard plan s.actor (instant_of s.values) s.step (seen_in s.values) number new = λ now. (value, stands_here) in
      subst (KnowsGuard plan s.actor (instant_of s.values) s.step (seen_in s.values) k) is (subst (λ (n : ℕ). KnowsGuard plan s.actor (instant_of s.values) s.step (seen_in s.values) n new) (sym same) at_number) where
        stands_here : (n : ℕ) × (step : Step) × (n ≤ s.step) × (slice_get (code_of plan s.actor).steps n ≡ Some step) × (step.slot ≡ number)
        stands_here = (s.step, stands.0, omega arith, stands.1, stands.2)

  pub noted : (holds : Bool) → holds ≡ slot_holds plan.store.nodes (truths_of plan.clocks.conditions (seen_in s.values)) (slice_get (code_of plan s.actor).slots number)
      → (new : ClusterState) → new ≡ record s { marks = new.marks }
      → new.marks.items ≡ set s.marks.items number (record { instant = (instant_of s.values); holds = holds }) → AreMarks plan new
  noted holds value new is items =
      let are : AreMarks plan (record s { marks = new.marks }) = record {
        count = ap length items ∙ length-set s.marks.items number (record { instant = (instant_of s.values); holds = holds }) ∙ marks.count;
        past = λ k mark at. elim (noted_at holds new.marks.items items k mark at) [
          | inl new_one ↦ subst (λ (m : Mark). m.instant ≤ (instant_of s.values)) new_one.1 (omega arith)
          | inr old ↦ marks.past k mark old
        ];
        known = λ k mark at. elim (noted_at holds new.marks.items items k mark at) [
          | inl new_one ↦ knows_new holds value k mark new_one.0 new_one.1
          | inr old ↦ marks.known k mark old
        ];
        reached = λ n step below at. let (old, old_at, now) = marks.reached n step below at in reached_in holds new.marks.items items step.slot old old_at now;
      } in
      subst (AreMarks plan) (sym is) are

  -- its slot is then met
  pub noted_met : (holds : Bool) (new : ClusterState) → new ≡ record s { marks = new.marks }
      → new.marks.items ≡ set s.marks.items number (record { instant = instant_of s.values; holds = holds }) → IsSlotMet new number
  noted_met holds new is items =
      let mark : Mark = record { instant = instant_of s.values; holds = holds } in
      let met : IsSlotMet (record s { marks = new.marks }) number =
      (mark, ap (λ ms. slice_get ms number) items ∙ get_set_same s.marks.items number mark within_marks, refl) in
      subst (λ (t : ClusterState). IsSlotMet t number) (sym is) met

  unmet : (mark : Option Mark) → slice_get s.marks.items number ≡ mark
      → ((holds : Bool) → known_in (instant_of s.values) mark ≡ Some holds → ⊥) → mark_is_met (instant_of s.values) mark ≡ true → ⊥
  unmet None at unknown met =
      let some = slice_get-get_or s.marks.items number (record { instant = 0; holds = false }) within_marks in
      absurd (let e : None ≡ Some (get_or s.marks.items number (record { instant = 0; holds = false })) = sym at ∙ some in cc)
  unmet (Some mark) at unknown met = unknown mark.holds (rw met refl)

  pub counts : (before after : ℕ) → CountsNeeds plan.store.nodes slot.guard before after → (parent_holds s slot.parent ≡ false → after ≡ before)
      → ((holds : Bool) → known_in (instant_of s.values) (slice_get s.marks.items number) ≡ Some holds → ⊥)
      → (other : Slot) → slice_get (code_of plan s.actor).slots number ≡ Some other → CountsWalk plan s number other before after
  counts before after needs parent unknown other is =
      let same : slot ≡ other = same_Some slot other (sym there ∙ is) in
      let all : CountsWalk plan s number slot before after = record {
        needs = needs;
        met = λ met. absurd (unmet (slice_get s.marks.items number) refl unknown met);
        parent = parent;
      } in
      subst (λ (o : Slot). CountsWalk plan s number o before after) same all
