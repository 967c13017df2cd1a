-- What an actor puts out before a step of an instant begins the flow of the signal over the reference up to that instant.
use Rattle.sig_output_laws.proofs.Common.{◌≡◌, ◌≤◌, ◌-◌, ◌++◌, inl, inr, ℕ, zero, suc, ℤ, List, [], ◌∷◌, length, take, drop, refl, ap, sym, subst, ◌∙◌, arith, append-nil, append_assoc, Option, None, Some, option_to_list, slice_get, if◌then◌else◌, flat_map, filter_map, filter_map-append, take-append-drop, taken_get, joined_same, Instant, IsPrefixOf, Trace, flow_of, flow_append, seen_at, SigId, AreFlowsFor, IsReference, guard_holds, Yield, instant_at, yielded_before, yielded_in, instants_to, next_at, next_some, CodeView, IsAccepted, PlanView, Signal, Step}
use Rattle.sig_output_laws.proofs.Written.{all_or_nothing, nothing_in, whole_in, written_at}

pub take_longer : {A : Type 0} (m n : ℕ) (xs : List A) → m ≤ n → IsPrefixOf (take m xs) (take n xs)
take_longer {A} zero n xs le = (take n xs, refl)
take_longer {A} (suc m) zero xs le = absurd (omega (arith, le))
take_longer {A} (suc m) (suc n) [] le = ([], refl)
take_longer {A} (suc m) (suc n) (x ∷ xs) le = let rest = take_longer m n xs (omega (arith, le)) in (rest.0, ap (λ list. x ∷ list) rest.1)

pub flow_prefix : (signal : ℕ) (s t : Trace) → IsPrefixOf s t → IsPrefixOf (flow_of signal s) (flow_of signal t)
flow_prefix signal s t a = (flow_of signal a.0, ap (flow_of signal) a.1 ∙ flow_append signal s a.0)

pub front_begins : (signal i : ℕ) (trace : Trace) → IsPrefixOf (flow_of signal (take i trace)) (flow_of signal trace)
front_begins signal i trace = flow_prefix signal (take i trace) trace (drop i trace, sym (take-append-drop i trace))

pub nothing_begins : {A : Type 0} (xs whole : List A) → xs ≡ [] → IsPrefixOf xs whole
nothing_begins {A} xs whole none = subst (λ list. IsPrefixOf list whole) (sym none) (whole, refl)

all_nothing : {A B : Type 0} (xs : List A) → flat_map (λ x. let none : List B = [] in none) xs ≡ []
all_nothing {A} {B} [] = refl
all_nothing {A} {B} (x ∷ xs) = all_nothing xs

module _ (plan : PlanView) (accepted : IsAccepted plan) (flows : List (List ℤ)) (fit : AreFlowsFor plan.kernel flows) (reference : Trace) (is : IsReference plan.kernel flows (length reference) reference)
    (x : SigId) (k : ℕ) (code : CodeView) (coded : slice_get plan.codes k ≡ Some code) (i : ℕ) (from : 1 ≤ i) (within : i ≤ length reference) where
  abbrev yield : Yield
  yield = written_at plan x.0

  abbrev past : Trace
  past = take (i - 1) reference

  abbrev now : Instant
  now = instant_at reference i

  abbrev before : List ℤ
  before = flat_map (λ instant. yielded_in plan code yield instant code.steps) past

  abbrev given : Step → Option ℤ
  given step = if guard_holds plan code (seen_at now) step then yield now step.kind else None

  flow_to : flow_of x.0 (take i reference) ≡ flow_of x.0 past ++ option_to_list (seen_at now x.0)
  flow_to = ap (flow_of x.0) (instants_to reference i from within) ∙ flow_append x.0 past (now ∷ []) ∙ ap (λ items. flow_of x.0 past ++ items) (append-nil (option_to_list (seen_at now x.0)))

  abbrev Whole : Type 0
  Whole = (m : ℕ) (instant : Instant) → slice_get reference m ≡ Some instant → yielded_in plan code yield instant code.steps ≡ option_to_list (seen_at instant x.0)

  earlier : Whole → before ≡ flow_of x.0 past
  earlier whole = joined_same (λ instant. yielded_in plan code yield instant code.steps) (λ instant. option_to_list (seen_at instant x.0)) past (λ m instant there. whole m instant (taken_get (i - 1) reference m instant there).1)

  abbrev Never : Type 0
  Never = (instant : Instant) (s : ℕ) → (yielded_in plan code yield instant (take s code.steps) ≡ []) × (yielded_in plan code yield instant code.steps ≡ [])

  none_before : Never → before ≡ []
  none_before never = joined_same (λ instant. yielded_in plan code yield instant code.steps) (λ instant. []) past (λ m instant there. (never instant 0).1) ∙ all_nothing past

  -- all of the signal, or nothing
  by_case : (P : Type 0) → (Whole → yielded_in plan code yield now code.steps ≡ option_to_list (seen_at now x.0) → P) → (Never → P) → P
  by_case P all none = elim (all_or_nothing plan accepted x k code coded) [
    | inl whole ↦
        all (λ m instant there. let n = next_some plan accepted flows fit reference is m instant there in whole n.0 n.1 instant n.2)
        (whole _ _ now (next_at plan accepted flows fit reference is i from within))
    | inr never ↦ none (λ instant s. (
      nothing_in plan accepted x k code coded instant (take s code.steps) (λ m b at w. never m b (taken_get s code.steps m b at).1 w),
      nothing_in plan accepted x k code coded instant code.steps never,
    ))
  ]

  pub begins_to : (s : ℕ) → IsPrefixOf (yielded_before plan code yield reference i s) (flow_of x.0 (take i reference))
  begins_to s = by_case (IsPrefixOf (yielded_before plan code yield reference i s) (flow_of x.0 (take i reference)))
      (λ whole here. (
        filter_map given (drop s code.steps),
        flow_to ∙ ap (λ items. flow_of x.0 past ++ items) (sym here ∙ split) ∙ ap (λ items. items ++ (filter_map given (take s code.steps) ++ filter_map given (drop s code.steps))) (sym (earlier whole))
            ∙ sym (append_assoc before (filter_map given (take s code.steps)) (filter_map given (drop s code.steps))),
      ))
      (λ never. nothing_begins (yielded_before plan code yield reference i s) (flow_of x.0 (take i reference))
      (ap (λ items. items ++ yielded_in plan code yield now (take s code.steps)) (none_before never) ∙ (never now s).0)) where
        split : filter_map given code.steps ≡ filter_map given (take s code.steps) ++ filter_map given (drop s code.steps)
        split = ap (filter_map given) (sym (take-append-drop s code.steps)) ∙ filter_map-append given (take s code.steps) (drop s code.steps)

  -- before the first step of an instant it is of the instants before
  pub begins_before : IsPrefixOf (yielded_before plan code yield reference i 0) (flow_of x.0 past)
  begins_before = by_case (IsPrefixOf (yielded_before plan code yield reference i 0) (flow_of x.0 past))
      (λ whole here. ([], sym (earlier whole) ∙ sym (append-nil before) ∙ sym (append-nil (before ++ []))))
      (λ never. nothing_begins (yielded_before plan code yield reference i 0) (flow_of x.0 past) (ap (λ items. items ++ []) (none_before never)))

  -- the actor that writes the signal has put out all of the instants before
  pub all_before : (owner : Signal) → slice_get plan.kernel.signals x.0 ≡ Some owner → owner.cluster ≡ k → (s : ℕ) → IsPrefixOf (flow_of x.0 past) (yielded_before plan code yield reference i s)
  all_before owner at_x mine s = (
    yielded_in plan code yield now (take s code.steps),
    ap (λ items. items ++ yielded_in plan code yield now (take s code.steps)) (earlier (λ m instant there.
        let n = next_some plan accepted flows fit reference is m instant there in
        whole_in plan accepted x k code coded owner at_x mine n.0 n.1 instant n.2)),
  )
