-- An actor that goes on to its next step, or to the next instant.
use Rattle.sig_schedule_laws.proofs.Common.{◌≡◌, ◌<◌, ◌≤◌, ◌-◌, ◌+◌, ◌++◌, ℕ, suc, ℤ, Bool, true, false, cond, List, length, take, refl, ap, sym, ◌∙◌, arith, None, Option, Some, flat_map, nat_lt, option_to_list, slice_get, ◌||◌, ◌&&◌, ltb-false, ltb-true, append-nil, append_assoc, take_all, Instant, Trace, seen_at, last_of, Actor, guard_holds, initial_in, moved_on, no_registers, IsActorOn, Yield, fills, instant_at, is_filled, names, read_at, register_before, stored_at, yielded_before, yielded_in, CodeView, PlanView, Step}
use Rattle.sig_schedule_laws.proofs.Instants.{instants_to}
use Rattle.sig_schedule_laws.proofs.Lists.{any_push, chosen_push, joined_push, take_next}

-- what holds of the next step and of the next instant, holds of an actor that moved on
pub moved_cases : (P : Actor → Type 0) (count : ℕ) (a : Actor) → (a.step + 1 < count → P (record a { step = a.step + 1 }))
    → (count ≤ a.step + 1 → P (record a { instant = a.instant + 1; step = 0; registers = no_registers })) → P (moved_on count a)
moved_cases P count a further over = by (nat_lt (a.step + 1) count) refl where
  by : (b : Bool) → nat_lt (a.step + 1) count ≡ b → P (cond b (record a { step = a.step + 1 }) (record a { instant = a.instant + 1; step = 0; registers = no_registers }))
  by true lt = further (ltb-true (a.step + 1) count lt)
  by false le = over (ltb-false (a.step + 1) count le)

module _ (plan : PlanView) (code : CodeView) (reference : Trace) where
  -- what a step gives at an instant, if it is done there
  abbrev pub chosen_of : Yield → Instant → Step → Option ℤ
  chosen_of yield instant step = cond (guard_holds plan code (seen_at instant) step) (yield instant step.kind) None

  pub yields_next : (yield : Yield) (i s : ℕ) (step : Step) → slice_get code.steps s ≡ Some step
      → yielded_before plan code yield reference i (suc s) ≡ yielded_before plan code yield reference i s ++ option_to_list (chosen_of yield (instant_at reference i) step)
  yields_next yield i s step at =
      let now = instant_at reference i in
      let before : List ℤ = flat_map (λ instant. yielded_in plan code yield instant code.steps) (take (i - 1) reference) in
      ap (λ steps. before ++ yielded_in plan code yield now steps) (take_next s code.steps step at)
      ∙ ap (λ items. before ++ items) (chosen_push (chosen_of yield now) (take s code.steps) step)
      ∙ sym (append_assoc before (yielded_in plan code yield now (take s code.steps)) (option_to_list (chosen_of yield now step)))

  pub yields_over : (yield : Yield) (i : ℕ) → 1 ≤ i → i ≤ length reference → (s : ℕ) → suc s ≡ length code.steps
      → yielded_before plan code yield reference i (suc s) ≡ yielded_before plan code yield reference (i + 1) 0
  yields_over yield i from within s last =
      let now = instant_at reference i in
      let before : List ℤ = flat_map (λ instant. yielded_in plan code yield instant code.steps) (take (i - 1) reference) in
      let same : i ≡ i + 1 - 1 = omega arith in
      ap (λ steps. before ++ yielded_in plan code yield now steps) (take_all (suc s) code.steps (omega (arith, last)))
      ∙ sym (joined_push (λ instant. yielded_in plan code yield instant code.steps) (take (i - 1) reference) now)
      ∙ ap (λ t. flat_map (λ instant. yielded_in plan code yield instant code.steps) t) (sym (instants_to reference i from within) ∙ ap (λ n. take n reference) same)
      ∙ sym (append-nil (flat_map (λ instant. yielded_in plan code yield instant code.steps) (take (i + 1 - 1) reference)))

  -- what an actor that moved on has behind it
  pub yields_moved : (yield : Yield) (a : Actor) → 1 ≤ a.instant → a.instant ≤ length reference → a.step < length code.steps
      → yielded_before plan code yield reference (moved_on (length code.steps) a).instant (moved_on (length code.steps) a).step ≡ yielded_before plan code yield reference a.instant (suc a.step)
  yields_moved yield a from within lt =
      moved_cases (λ m. yielded_before plan code yield reference m.instant m.step ≡ yielded_before plan code yield reference a.instant (suc a.step)) (length code.steps) a
      (λ less. let same : a.step + 1 ≡ suc a.step = omega arith in ap (λ n. yielded_before plan code yield reference a.instant n) same)
      (λ over. sym (yields_over yield a.instant from within a.step (omega (arith, over, lt))))

  -- ---- registers

  module _ (instant : Instant) (s : ℕ) (step : Step) (at : slice_get code.steps s ≡ Some step) (signal : ℕ) where
    abbrev fills_it : Step → Bool
    fills_it other = guard_holds plan code (seen_at instant) other && names signal (fills plan other.kind)

    filled_next : is_filled plan code instant (take (suc s) code.steps) signal ≡ (is_filled plan code instant (take s code.steps) signal || fills_it step)
    filled_next = ap (λ steps. is_filled plan code instant steps signal) (take_next s code.steps step at) ∙ any_push fills_it (take s code.steps) step

    pub not_filled : fills_it step ≡ false → register_before plan code instant (suc s) signal ≡ register_before plan code instant s signal
    not_filled none = ap (λ b. cond b (seen_at instant signal) None) (filled_next ∙ ap (λ b. is_filled plan code instant (take s code.steps) signal || b) none ∙ or_false (is_filled plan code instant (take s code.steps) signal)) where
      or_false : (b : Bool) → (b || false) ≡ b
      or_false true = refl
      or_false false = refl

    pub now_filled : fills_it step ≡ true → register_before plan code instant (suc s) signal ≡ seen_at instant signal
    now_filled some = ap (λ b. cond b (seen_at instant signal) None) (filled_next ∙ ap (λ b. is_filled plan code instant (take s code.steps) signal || b) some ∙ or_true (is_filled plan code instant (take s code.steps) signal)) where
      or_true : (b : Bool) → (b || true) ≡ true
      or_true true = refl
      or_true false = refl

  -- ---- an actor behind its step

  -- an actor has done its step, and is yet to move on
  pub record IsBehind (a : Actor) : Type 0 where
    pub from : 1 ≤ a.instant
    pub within : a.instant + 1 ≤ length reference
    pub step : a.step < length code.steps
    pub registers : (signal : ℕ) → a.registers signal ≡ register_before plan code (instant_at reference a.instant) (suc a.step) signal
    pub memories : (signal : ℕ) → a.memories signal ≡ last_of (initial_in plan.kernel.equations signal) (yielded_before plan code (stored_at plan signal) reference a.instant (suc a.step))
    pub taken : (input : ℕ) → a.taken input ≡ length (yielded_before plan code (read_at plan input) reference a.instant (suc a.step))

  pub moved_is_on : (a : Actor) → IsBehind a → IsActorOn plan reference code (moved_on (length code.steps) a)
  moved_is_on a behind = moved_cases (IsActorOn plan reference code) (length code.steps) a
      (λ less.
      let same : suc a.step ≡ a.step + 1 = omega arith in
      record {
        from = behind.from;
        within = omega (arith, behind.within);
        step = less;
        registers = λ signal. behind.registers signal ∙ ap (λ n. register_before plan code (instant_at reference a.instant) n signal) same;
        memories = λ signal. behind.memories signal ∙ ap (λ n. last_of (initial_in plan.kernel.equations signal) (yielded_before plan code (stored_at plan signal) reference a.instant n)) same;
        taken = λ input. behind.taken input ∙ ap (λ n. length (yielded_before plan code (read_at plan input) reference a.instant n)) same;
      })
      (λ over.
      let last : suc a.step ≡ length code.steps = omega (arith, over, behind.step) in
      let within : a.instant ≤ length reference = omega (arith, behind.within) in
      record {
        from = omega (arith, behind.from);
        within = behind.within;
        step = omega (arith, behind.step);
        registers = λ signal. refl;
        memories = λ signal. behind.memories signal ∙ ap (last_of (initial_in plan.kernel.equations signal)) (yields_over (stored_at plan signal) a.instant behind.from within a.step last);
        taken = λ input. behind.taken input ∙ ap (λ (items : List ℤ). length items) (yields_over (read_at plan input) a.instant behind.from within a.step last);
      })
