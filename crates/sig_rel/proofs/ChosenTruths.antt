-- Truths of the unknowns that are a given reaction.
use Rattle.sig_rel.proofs.Common.{◌≡◌, ◌<◌, ◌+◌, ◌||◌, inl, inr, ℕ, zero, suc, Bool, true, false, List, [], ◌∷◌, length, get_or, map, eqb, Option, None, Some, refl, sym, ap, ◌∙◌, subst, arith, eq-eqb, if◌then◌else◌, ◌&&◌, is_some, slice_get, range_with_len, and_parts, eqb-true, false≢true, ext_get_or, get_or-map-range_with_len, get_or_from_slice_get, slice_get-get_or, slice_get_within, Kind, Boolean, Signal, kind_of, Kernel, conditions_of, IsReaction, Reaction, Status, are_statuses, is_boolean_kind, is_present, is_status_of, status_at, truth_of_status, present_together, truth_of, AreUnknowns, IsUsed, reaction_in, status_in, truth_in, some_at}
use Rattle.sig_rel.proofs.Reactions.{status_of_unknowns}

abbrev is_unknown : ℕ → Option ℕ → Bool
is_unknown v None = false
is_unknown v (Some w) = eqb w v

-- whether a signal that is present has this presence, or one that is true this truth
abbrev chosen : ℕ → List ℕ → List (Option ℕ) → Reaction → Bool
chosen v (p ∷ present) (t ∷ truth) (s ∷ reaction) = (eqb p v && is_some s) || ((is_unknown v t && truth_of_status s) || chosen v present truth reaction)
chosen v _ _ _ = false

neither : (a b c : Bool) → a ≡ false → b ≡ false → c ≡ false → (a || (b || c)) ≡ false
neither a b c ea eb ec = (λ j. ea j || (eb j || ec j))

first_true : (a b c : Bool) → a ≡ true → (a || (b || c)) ≡ true
first_true a b c e = ap (λ x. x || (b || c)) e

second_true : (a b c : Bool) → b ≡ true → (a || (b || c)) ≡ true
second_true true b c e = refl
second_true false b c e = ap (λ x. x || c) e

third_true : (a b c : Bool) → c ≡ true → (a || (b || c)) ≡ true
third_true false false c e = e
third_true _ _ c e = refl

presence_false : (p v : ℕ) (s : Status) → (p ≡ v → is_some s ≡ false) → (eqb p v && is_some s) ≡ false
presence_false p v s only = by (eqb p v) refl where
  by : (b : Bool) → eqb p v ≡ b → (b && is_some s) ≡ false
  by true e = only (eqb-true p v e)
  by false e = refl

truth_false : (t : Option ℕ) (v : ℕ) (s : Status) → (t ≡ Some v → truth_of_status s ≡ false) → (is_unknown v t && truth_of_status s) ≡ false
truth_false None v s only = refl
truth_false (Some w) v s only = by (eqb w v) refl where
  by : (b : Bool) → eqb w v ≡ b → (b && truth_of_status s) ≡ false
  by true e = only (ap Some (eqb-true w v e))
  by false e = refl

chosen_false : (v : ℕ) (present : List ℕ) (truth : List (Option ℕ)) (reaction : Reaction)
    → ((k : ℕ) → slice_get present k ≡ Some v → is_present reaction k ≡ false) → ((k : ℕ) → slice_get truth k ≡ Some (Some v) → truth_of_status (status_at reaction k) ≡ false)
    → chosen v present truth reaction ≡ false
chosen_false v (p ∷ present) (t ∷ truth) (s ∷ reaction) presences truths =
    neither (eqb p v && is_some s) (is_unknown v t && truth_of_status s) (chosen v present truth reaction)
    (presence_false p v s (λ e. presences 0 (ap Some e))) (truth_false t v s (λ e. truths 0 (ap Some e)))
    (chosen_false v present truth reaction (λ k at. presences (suc k) at) (λ k at. truths (suc k) at))
chosen_false v _ _ _ presences truths = refl

chosen_present : (v : ℕ) (present : List ℕ) (truth : List (Option ℕ)) (reaction : Reaction) (k : ℕ) → length truth ≡ length present → slice_get present k ≡ Some v → is_present reaction k ≡ true → chosen v present truth reaction ≡ true
chosen_present v [] truth reaction k count at is = absurd (let no : None ≡ Some v = at in cc)
chosen_present v (p ∷ present) [] reaction k count at is = absurd (omega (arith, count))
chosen_present v (p ∷ present) (t ∷ truth) [] k count at is = absurd (false≢true is)
chosen_present v (p ∷ present) (t ∷ truth) (s ∷ reaction) zero count at is =
    let e : p ≡ v = cc in
    first_true (eqb p v && is_some s) (is_unknown v t && truth_of_status s) (chosen v present truth reaction) (λ j. eq-eqb p v e j && is j)
chosen_present v (p ∷ present) (t ∷ truth) (s ∷ reaction) (suc k) count at is =
    third_true (eqb p v && is_some s) (is_unknown v t && truth_of_status s) (chosen v present truth reaction) (chosen_present v present truth reaction k (omega (arith, count)) at is)

chosen_true : (v : ℕ) (present : List ℕ) (truth : List (Option ℕ)) (reaction : Reaction) (k : ℕ) → length truth ≡ length present → slice_get truth k ≡ Some (Some v) → truth_of_status (status_at reaction k) ≡ true → chosen v present truth reaction ≡ true
chosen_true v [] [] reaction k count at is = absurd (let no : None ≡ Some (Some v) = at in cc)
chosen_true v (p ∷ present) (t ∷ truth) [] k count at is = absurd (false≢true is)
chosen_true v (p ∷ present) (t ∷ truth) (s ∷ reaction) zero count at is =
    let e : t ≡ Some v = cc in
    second_true (eqb p v && is_some s) (is_unknown v t && truth_of_status s) (chosen v present truth reaction)
    (λ j. (ap (is_unknown v) e ∙ eq-eqb v v refl) j && is j)
chosen_true v (p ∷ present) (t ∷ truth) (s ∷ reaction) (suc k) count at is =
    third_true (eqb p v && is_some s) (is_unknown v t && truth_of_status s) (chosen v present truth reaction) (chosen_true v present truth reaction k (omega (arith, count)) at is)
chosen_true v _ _ reaction k count at is = absurd (omega (arith, count))

-- one status for each signal, of its kind
pub all_statuses : (signals : List Signal) (reaction : Reaction) → are_statuses signals reaction ≡ true → length reaction ≡ length signals
all_statuses [] [] is = refl
all_statuses (signal ∷ signals) (s ∷ reaction) is = ap suc (all_statuses signals reaction (and_parts (is_status_of signal.kind s) (are_statuses signals reaction) is).1)
all_statuses _ _ is = absurd (false≢true is)

pub status_fits_at : (signals : List Signal) (reaction : Reaction) (k : ℕ) (signal : Signal) → are_statuses signals reaction ≡ true → slice_get signals k ≡ Some signal → is_status_of signal.kind (status_at reaction k) ≡ true
status_fits_at [] reaction k signal is at = absurd (let no : None ≡ Some signal = at in cc)
status_fits_at (x ∷ signals) [] k signal is at = absurd (false≢true is)
status_fits_at (x ∷ signals) (s ∷ reaction) zero signal is at =
    let e : x ≡ signal = cc in
    subst (λ y. is_status_of y.kind s ≡ true) e (and_parts (is_status_of x.kind s) (are_statuses signals reaction) is).0
status_fits_at (x ∷ signals) (s ∷ reaction) (suc k) signal is at = status_fits_at signals reaction k signal (and_parts (is_status_of x.kind s) (are_statuses signals reaction) is).1 at

pub true_unless_boolean : (kind : Kind) (b : Bool) → is_status_of kind (Some b) ≡ true → (is_boolean_kind (Some kind) ≡ true → ⊥) → b ≡ true
true_unless_boolean Boolean b fits other = absurd (other refl)
true_unless_boolean _ true fits other = refl
true_unless_boolean _ false fits other = absurd (false≢true fits)

pub length_in : (truths : List Bool) (present : List ℕ) (truth : List (Option ℕ)) → length truth ≡ length present → length (reaction_in truths present truth) ≡ length present
length_in truths [] truth count = refl
length_in truths (p ∷ present) [] count = absurd (omega (arith, count))
length_in truths (p ∷ present) (t ∷ truth) count = ap suc (length_in truths present truth (omega (arith, count)))

module _ (kernel : Kernel) (count : ℕ) (present : List ℕ) (truth : List (Option ℕ)) (are : AreUnknowns kernel count present truth) (reaction : Reaction) (is : IsReaction kernel reaction) where
  lengths : length truth ≡ length present
  lengths = are.truths ∙ sym are.presences

  -- signals of one unknown are of one class
  same_presence : (s k p : ℕ) → slice_get present s ≡ Some p → slice_get present k ≡ Some p → is_present reaction k ≡ is_present reaction s
  same_presence s k p at at' =
      let ls : s < length kernel.signals = let e = are.presences in let l = slice_get_within present s p at in omega (arith, e, l) in
      let lk : k < length kernel.signals = let e = are.presences in let l = slice_get_within present k p at' in omega (arith, e, l) in
      let same = get_or_from_slice_get present k p 0 at' ∙ sym (get_or_from_slice_get present s p 0 at) in
      present_together kernel reaction k s is ((are.classes k s lk ls).0 same)

  chosen_presence : (s p : ℕ) → slice_get present s ≡ Some p → chosen p present truth reaction ≡ is_present reaction s
  chosen_presence s p at = by (is_present reaction s) refl where
    by : (b : Bool) → is_present reaction s ≡ b → chosen p present truth reaction ≡ b
    by true e = chosen_present p present truth reaction s lengths at e
    by false e = chosen_false p present truth reaction (λ k at'. same_presence s k p at at' ∙ e) (λ k at'. absurd (are.differ s k p at at'))

  chosen_truth : (s v : ℕ) → slice_get truth s ≡ Some (Some v) → chosen v present truth reaction ≡ truth_of_status (status_at reaction s)
  chosen_truth s v at = by (truth_of_status (status_at reaction s)) refl where
    by : (b : Bool) → truth_of_status (status_at reaction s) ≡ b → chosen v present truth reaction ≡ b
    by true e = chosen_true v present truth reaction s lengths at e
    by false e = chosen_false v present truth reaction (λ k at'. absurd (are.differ k s v at' at)) (λ k at'. ap (λ n. truth_of_status (status_at reaction n)) (are.apart k s v at' at) ∙ e)

  -- the chosen truths
  abbrev pub choices : List Bool
  choices = map (λ v. chosen v present truth reaction) (range_with_len 0 (length (conditions_of kernel) + count))

  choice_at : (v : ℕ) → IsUsed present truth v → truth_of choices v ≡ chosen v present truth reaction
  choice_at v used =
      let within = are.within v used in
      get_or-map-range_with_len (λ w. chosen w present truth reaction) 0 (length (conditions_of kernel) + count) v v false within.1 (omega arith)

  pub choice_of_presence : (s p : ℕ) → slice_get present s ≡ Some p → truth_of choices p ≡ is_present reaction s
  choice_of_presence s p at = choice_at p (inl (s, at)) ∙ chosen_presence s p at

  pub choice_of_truth : (s : ℕ) (t : Option ℕ) (b : Bool) → s < length kernel.signals → slice_get truth s ≡ Some t → status_at reaction s ≡ Some b → truth_in choices t ≡ b
  choice_of_truth s None b lt at status =
      let signal = some_at kernel.signals s lt in
      let fits = status_fits_at kernel.signals reaction s signal.0 is.kinds signal.1 in
      sym (true_unless_boolean signal.0.kind b (ap (is_status_of signal.0.kind) (sym status) ∙ fits)
      (λ boolean.
      let there = are.some s (ap (λ o. is_boolean_kind (kind_of o)) signal.1 ∙ boolean) in
      let both : Some (let o : Option ℕ = None in o) ≡ Some (Some there.0) = sym at ∙ there.1 in
      absurd cc))
  choice_of_truth s (Some v) b lt at status = choice_at v (inr (s, at)) ∙ chosen_truth s v at ∙ ap truth_of_status status

  status_chosen : (s p : ℕ) (t : Option ℕ) → s < length kernel.signals → slice_get present s ≡ Some p → slice_get truth s ≡ Some t → status_in choices p t ≡ status_at reaction s
  status_chosen s p t lt at at' = by (status_at reaction s) refl where
    by : (o : Status) → status_at reaction s ≡ o → status_in choices p t ≡ o
    by None e = ap (λ (b : Bool). if b then Some (truth_in choices t) else None) (choice_of_presence s p at ∙ ap is_some e)
    by (Some b) e = ap (λ (b : Bool). if b then Some (truth_in choices t) else None) (choice_of_presence s p at ∙ ap is_some e) ∙ ap Some (choice_of_truth s t b lt at' e)

  pub truths_of_reaction : (truths : List Bool) × (reaction_in truths present truth ≡ reaction)
  truths_of_reaction = (
    choices,
    ext_get_or None (reaction_in choices present truth) reaction
        (length_in choices present truth lengths ∙ are.presences ∙ sym (all_statuses kernel.signals reaction is.kinds))
        (λ s lt.
        let long = length_in choices present truth lengths in
        let within : s < length present = omega (arith, lt, long) in
        let at = slice_get-get_or present s 0 within in
        let at' = slice_get-get_or truth s None (let e = lengths in omega arith) in
        status_of_unknowns choices present truth s (get_or present s 0) (get_or truth s None) at at'
        ∙ status_chosen s (get_or present s 0) (get_or truth s None) (let e = are.presences in omega arith) at at'),
  )
