-- The collector commits at its last step, and nobody else commits.
use Rattle.sig_schedule_laws.proofs.Common.{compiled_operations, compiled_order, ◌≡◌, ◌<◌, ◌≤◌, ◌+◌, ◌*◌, ◌⊎◌, inl, inr, ℕ, zero, suc, true, List, ◌∷◌, length, map, refl, ap, sym, ◌∙◌, arith, Some, slice_get, range_with_len, at_most_or, Registers, guard_holds, truths_of, CodeView, Instruction, unguarded, IsFor, does, sends, receives, reports, collects, commits, IsAccepted, PlanView, Step, Do, Send, Receive, Report, Collect, Commit, positions_rise, slice_get_within, some_at}
use Rattle.sig_schedule_laws.proofs.Beginnings.{commits_there}
use Rattle.sig_schedule_laws.proofs.Steps.{before_by_position, instruction_step, same_place, step_does}

module _ (plan : PlanView) (accepted : IsAccepted plan) where
  abbrev IsKnown : ℕ → Instruction → Type 0
  IsKnown k i = IsFor (compiled_operations plan) (compiled_order plan) accepted.parts.links accepted.parts.clusters k i

  abbrev commit : Instruction
  commit = unguarded Commit (2 * length (compiled_operations plan) + 1)

  -- an instruction commits, for the collector, or is at an earlier position
  commit_or_before : (k : ℕ) (i : Instruction) → IsKnown k i → ((i ≡ commit) × (k ≡ accepted.parts.clusters)) ⊎ (i.position < 2 * length (compiled_operations plan) + 1)
  commit_or_before k _ (does j number p stands own) = let lt = slice_get_within (compiled_order plan) j number stands.place in let full = accepted.order.all in inr (omega (arith, lt, full))
  commit_or_before k _ (sends j number link p stands own from) = let lt = slice_get_within (compiled_order plan) j number stands.place in let full = accepted.order.all in inr (omega (arith, lt, full))
  commit_or_before k _ (receives j number link p stands other from reader) = let lt = slice_get_within (compiled_order plan) j number stands.place in let full = accepted.order.all in inr (omega (arith, lt, full))
  commit_or_before k _ (commits own) = inl (refl, own)
  commit_or_before k _ _ = inr (omega arith)

  commit_known : (k : ℕ) (i : Instruction) → IsKnown k i → i.kind ≡ Commit → (i ≡ commit) × (k ≡ accepted.parts.clusters)
  commit_known k _ (commits own) is = (refl, own)
  commit_known k _ (does j number p stands own) is = absurd (let e : Do (record { 0 = number }) ≡ Commit = is in cc)
  commit_known k _ (sends j number link p stands own from) is = absurd (let e : Send link ≡ Commit = is in cc)
  commit_known k _ (receives j number link p stands other from reader) is = absurd (let e : Receive link ≡ Commit = is in cc)
  commit_known k _ (reports link info other at none writer) is = absurd (let e : Report link ≡ Commit = is in cc)
  commit_known k _ (collects link info own at none) is = absurd (let e : Collect link ≡ Commit = is in cc)

  module _ (k : ℕ) (code : CodeView) (coded : slice_get plan.codes k ≡ Some code) (s : ℕ) (step : Step) (at : slice_get code.steps s ≡ Some step) where
    -- only the collector commits
    pub commits_alone : step.kind ≡ Commit → k ≡ accepted.parts.clusters
    commits_alone kind = let d = step_does plan accepted k code coded s step at in (commit_known k d.i d.known (sym d.kind ∙ kind)).1

    -- and always does
    pub commit_holds : step.kind ≡ Commit → (registers : Registers) → guard_holds plan code registers step ≡ true
    commit_holds kind registers =
        let d = step_does plan accepted k code coded s step at in
        d.guard registers ∙ ap (λ (i : Instruction). i.guard (truths_of plan.clocks.conditions registers)) (commit_known k d.i d.known (sym d.kind ∙ kind)).0

    -- where the collector does not commit, a step follows
    pub another_follows : k ≡ accepted.parts.clusters → (step.kind ≡ Commit → ⊥) → s + 1 < length code.steps
    another_follows own other =
        let d = step_does plan accepted k code coded s step at in
        let there = instruction_step plan accepted k code coded commit (commits_there (compiled_operations plan) (compiled_order plan) accepted.parts k own) in
        let position : there.3.i.position ≡ 2 * length (compiled_operations plan) + 1 = ap (λ (i : Instruction). i.position) there.4 in
        let before : s < there.0 = elim (commit_or_before k d.i d.known) [
          | inl last ↦ absurd (other (d.kind ∙ ap (λ (i : Instruction). i.kind) last.0))
          | inr lt ↦ before_by_position plan accepted k code coded s there.0 step there.1 d there.3 (omega (arith, lt, position))
        ] in
        omega (arith, before, slice_get_within code.steps there.0 there.1 there.2)

    -- where it commits, none follows
    pub commit_last : step.kind ≡ Commit → suc s ≡ length code.steps
    commit_last kind = by (at_most_or (length code.steps) (s + 1)) where
      within : s < length code.steps
      within = slice_get_within code.steps s step at

      by : (length code.steps ≤ s + 1) ⊎ (s + 1 < length code.steps) → suc s ≡ length code.steps
      by (inl le) = omega (arith, le, within)
      by (inr lt) =
          let d = step_does plan accepted k code coded s step at in
          let is = (commit_known k d.i d.known (sym d.kind ∙ kind)).0 in
          let other = some_at code.steps (s + 1) lt in
          let e = step_does plan accepted k code coded (s + 1) other.0 other.1 in
          let position : d.i.position ≡ 2 * length (compiled_operations plan) + 1 = ap (λ (i : Instruction). i.position) is in
          let later = positions_rise (compiled_operations plan) (compiled_order plan) accepted.parts k accepted.order.all s (s + 1) d.i e.i (omega arith) d.at e.at in
          elim (commit_or_before k e.i e.known) [
            | inl last ↦ let same = same_place plan accepted k code coded s (s + 1) step other.0 d e (is ∙ sym last.0) in absurd (omega (arith, same))
            | inr before ↦ absurd (omega (arith, before, later, position))
          ]

-- functions that agree over a range are mapped alike
pub mapped_same : {A : Type 0} (f g : ℕ → A) (a n : ℕ) → ((x : ℕ) → a ≤ x → x < a + n → f x ≡ g x) → map f (range_with_len a n) ≡ map g (range_with_len a n)
mapped_same {A} f g a zero same = refl
mapped_same {A} f g a (suc n) same = both (same a (omega arith) (omega arith)) (mapped_same f g (a + 1) n (λ x le lt. same x (omega (arith, le)) (omega (arith, lt)))) where
  both : {x y : A} {xs ys : List A} → x ≡ y → xs ≡ ys → x ∷ xs ≡ y ∷ ys
  both e f = λ t. e t ∷ f t
