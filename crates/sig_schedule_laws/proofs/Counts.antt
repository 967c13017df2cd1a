-- How many items an end of a link has given or taken before a step.
use Rattle.sig_schedule_laws.proofs.Common.{◌≡◌, ◌<◌, ◌≤◌, ◌-◌, ◌+◌, ◌++◌, ℕ, zero, suc, ℤ, List, [], ◌∷◌, length, take, drop, ap, sym, ◌∙◌, arith, None, Option, Some, flat_map, option_to_list, slice_get, cons_option, filter_map, length-append, take-append-drop, Instant, Seen, Trace, seen_at, SigId, AreFlowsFor, Yield, instant_at, yielded_before, yielded_in, IsReference, CodeView, IsAccepted, PlanView, Step, StepKind, LinkInfo, filter_map-append, get_taken, taken_get}
use Rattle.sig_schedule_laws.proofs.Ends.{IsLinkEnd, carried_at, in_instant}
use Rattle.sig_schedule_laws.proofs.Instants.{instants_to, next_at}
use Rattle.sig_schedule_laws.proofs.Lists.{chosen_push, joined_push, joined_same, take_next}
use Rattle.sig_schedule_laws.proofs.Moved.{chosen_of}
use Rattle.sig_schedule_laws.proofs.Prefixes.{at_instant, carried_over}

-- a longer front has as much
pub joined_longer : {A : Type 0} (f : A → List ℤ) (m n : ℕ) (xs : List A) → m ≤ n → length (flat_map f (take m xs)) ≤ length (flat_map f (take n xs))
joined_longer {A} f zero n xs le = omega arith
joined_longer {A} f (suc m) zero xs le = absurd (omega (arith, le))
joined_longer {A} f (suc m) (suc n) [] le = omega arith
joined_longer {A} f (suc m) (suc n) (x ∷ xs) le =
    let rest = joined_longer f m n xs (omega (arith, le)) in
    let one : length (f x ++ flat_map f (take m xs)) ≡ length (f x) + length (flat_map f (take m xs)) = length-append (f x) (flat_map f (take m xs)) in
    let two : length (f x ++ flat_map f (take n xs)) ≡ length (f x) + length (flat_map f (take n xs)) = length-append (f x) (flat_map f (take n xs)) in
    omega (arith, rest, one, two)

-- one that is chosen is counted
pub chosen_counted : {A : Type 0} (f : A → Option ℤ) (xs : List A) (t : ℕ) (x : A) (v : ℤ) → slice_get xs t ≡ Some x → f x ≡ Some v → 1 ≤ length (filter_map f xs)
chosen_counted {A} f [] t x v at is = absurd (let e : None ≡ Some x = at in cc)
chosen_counted {A} f (y ∷ xs) zero x v at is =
    let e : Some y ≡ Some x = at in
    let same : y ≡ x = cc in
    let here : length (cons_option (f y) (filter_map f xs)) ≡ suc (length (filter_map f xs)) = ap (λ o. length (cons_option o (filter_map f xs))) (ap f same ∙ is) in
    omega (arith, here)
chosen_counted {A} f (y ∷ xs) (suc t) x v at is = by (f y) (chosen_counted f xs t x v at is) where
  by : (o : Option ℤ) → 1 ≤ length (filter_map f xs) → 1 ≤ length (cons_option o (filter_map f xs))
  by None rest = rest
  by (Some w) rest = omega (arith, rest)

-- at most one item is carried at an instant
carried_once : (instant : Instant) (signal : Option SigId) → length (carried_at instant signal) ≤ 1
carried_once instant None = omega arith
carried_once instant (Some x) = by (seen_at instant x.0) where
  by : (s : Seen) → length (option_to_list s) ≤ 1
  by None = omega arith
  by (Some v) = omega arith

module _ (plan : PlanView) (accepted : IsAccepted plan) (flows : List (List ℤ)) (fit : AreFlowsFor plan.kernel flows) (reference : Trace) (is : IsReference plan.kernel flows (length reference) reference)
    (link : ℕ) (info : LinkInfo) (at : slice_get plan.links link ≡ Some info) where
  -- how many items the link carries before an instant
  abbrev pub carried_before : ℕ → ℕ
  carried_before i = length (carried_over plan accepted flows fit reference is link info at (take (i - 1) reference))

  pub carried_rises : (i j : ℕ) → i ≤ j → carried_before i ≤ carried_before j
  carried_rises i j le = joined_longer (λ instant. carried_at instant info.signal) (i - 1) (j - 1) reference (omega (arith, le))

  pub carried_next : (i : ℕ) → 1 ≤ i → i ≤ length reference → carried_before (i + 1) ≡ carried_before i + length (carried_at (instant_at reference i) info.signal)
  carried_next i from within =
      let same : i + 1 - 1 ≡ i = omega arith in
      ap (λ n. length (flat_map (λ instant. carried_at instant info.signal) (take n reference))) same
      ∙ ap (λ (t : Trace). length (flat_map (λ instant. carried_at instant info.signal) t)) (instants_to reference i from within)
      ∙ ap (λ (xs : List ℤ). length xs) (joined_push (λ instant. carried_at instant info.signal) (take (i - 1) reference) (instant_at reference i))
      ∙ length-append (flat_map (λ instant. carried_at instant info.signal) (take (i - 1) reference)) (carried_at (instant_at reference i) info.signal)

  module _ (k : ℕ) (code : CodeView) (coded : slice_get plan.codes k ≡ Some code) (yield : Yield) (K M : StepKind) (end : IsLinkEnd plan accepted link info at k yield K M) (i : ℕ) (from : 1 ≤ i) (within : i ≤ length reference) where
    abbrev now : Instant
    now = instant_at reference i

    abbrev so_far : ℕ → List ℤ
    so_far s = yielded_in plan code yield now (take s code.steps)

    pub counted : (s : ℕ) → length (yielded_before plan code yield reference i s) ≡ carried_before i + length (so_far s)
    counted s =
        length-append (flat_map (λ instant. yielded_in plan code yield instant code.steps) (take (i - 1) reference)) (so_far s)
        ∙ ap (λ (xs : List ℤ). length xs + length (so_far s)) (joined_same (λ instant. yielded_in plan code yield instant code.steps) (λ instant. carried_at instant info.signal) (take (i - 1) reference) (λ m instant there.
        at_instant plan accepted flows fit reference is link info at k code coded yield K M end m instant (taken_get (i - 1) reference m instant there).1))

    whole_now : yielded_in plan code yield now code.steps ≡ carried_at now info.signal
    whole_now = in_instant plan accepted link info at _ _ now (next_at plan accepted flows fit reference is i from within) k code coded yield K M end

    -- a front gives no more than all
    pub front_fewer : (s : ℕ) → length (so_far s) ≤ length (carried_at now info.signal)
    front_fewer s =
        let split : length (yielded_in plan code yield now code.steps) ≡ length (so_far s) + length (filter_map (chosen_of plan code reference yield now) (drop s code.steps)) =
        ap (λ steps. length (yielded_in plan code yield now steps)) (sym (take-append-drop s code.steps))
        ∙ ap (λ (xs : List ℤ). length xs) (filter_map-append (chosen_of plan code reference yield now) (take s code.steps) (drop s code.steps))
        ∙ length-append (so_far s) (filter_map (chosen_of plan code reference yield now) (drop s code.steps)) in
        let all : length (yielded_in plan code yield now code.steps) ≡ length (carried_at now info.signal) = ap (λ (xs : List ℤ). length xs) whole_now in
        omega (arith, split, all)

    module _ (s : ℕ) (step : Step) (at_s : slice_get code.steps s ≡ Some step) (v : ℤ) (gives : chosen_of plan code reference yield now step ≡ Some v) where
      next_more : length (so_far (suc s)) ≡ length (so_far s) + 1
      next_more =
          ap (λ steps. length (yielded_in plan code yield now steps)) (take_next s code.steps step at_s)
          ∙ ap (λ (xs : List ℤ). length xs) (chosen_push (chosen_of plan code reference yield now) (take s code.steps) step)
          ∙ length-append (so_far s) (option_to_list (chosen_of plan code reference yield now step))
          ∙ ap (λ o. length (so_far s) + length (option_to_list o)) gives

      -- none is given before a step that gives one, which is all
      pub none_before : length (so_far s) ≡ 0
      none_before = omega (arith, next_more, front_fewer (suc s), carried_once now info.signal)

      pub all_given : length (carried_at now info.signal) ≡ 1
      all_given = omega (arith, next_more, front_fewer (suc s), carried_once now info.signal)

      -- and it is given behind that step
      pub given_behind : (t : ℕ) → s < t → 1 ≤ length (so_far t)
      given_behind t lt = chosen_counted (chosen_of plan code reference yield now) (take t code.steps) s step v (get_taken t code.steps s step lt at_s) gives
