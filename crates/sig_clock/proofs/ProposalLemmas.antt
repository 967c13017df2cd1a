-- Lemmas on proposals and the reactions that keep to them.
use Rattle.sig_clock.proofs.Common.{◌≡◌, ◌<◌, ◌≤◌, ◌⊎◌, inl, inr, ℕ, Bool, true, false, not, List, [], ◌∷◌, length, refl, sym, ap, ◌∙◌, subst, arith, Contains, zero, suc, Option, None, Some, is_some, slice_get, and_parts, cases_order, false≢true, SigId, Signal, kind_at, kind_of, Kernel, truth_of, with_truth, Allows, IsClockFunction, KeepsTo, HasClocks, AreInOrder, is_condition, is_free, signal_id, EntersBy, HasLayer, IsEarlier, IsSolved, Reaction, Status, Speaks, IsReaction, is_boolean_kind, is_present, is_silent, status_at, slice_get-get_or, slice_get_within, contains_at}
use Rattle.sig_clock.proofs.LayerLemmas.{one_layer}
use Rattle.sig_clock.proofs.ReactionLemmas.{absent_in_silence}

-- the place of a condition
index_of : (kernel : Kernel) (conditions : List SigId) → AreInOrder kernel conditions → (condition : ℕ) → is_condition kernel condition ≡ true
    → (v : ℕ) × (slice_get conditions v ≡ Some (signal_id condition))
index_of kernel conditions order condition is =
    let there : Contains conditions (signal_id condition) = (order.all (signal_id condition)).1 is in
    (there.0, slice_get-get_or conditions there.0 (signal_id condition) there.1 ∙ ap Some there.2)

is_condition_at : (kernel : Kernel) (conditions : List SigId) → AreInOrder kernel conditions → (v : ℕ) (condition : SigId) → slice_get conditions v ≡ Some condition → is_condition kernel condition.0 ≡ true
is_condition_at kernel conditions order v condition is = (order.all condition).0 (contains_at conditions v condition is)

signal_at : (signals : List Signal) (k : ℕ) → is_boolean_kind (kind_of (slice_get signals k)) ≡ true → k < length signals
signal_at [] k is = absurd (false≢true is)
signal_at (s ∷ signals) zero is = omega arith
signal_at (s ∷ signals) (suc k) is = omega (arith, signal_at signals k is)

condition_is_signal : (kernel : Kernel) (condition : ℕ) → is_condition kernel condition ≡ true → condition < length kernel.signals
condition_is_signal kernel condition is = signal_at kernel.signals condition (and_parts (is_boolean_kind (kind_at kernel.signals (signal_id condition))) (is_free kernel condition) is).0

same_by_proposal : (a b : Status) (truth other : Bool) → truth ≡ other → is_some a ≡ is_some b → Allows a truth → Allows b other → a ≡ b
same_by_proposal None None truth other same presence of_a of_b = refl
same_by_proposal None (Some b) truth other same presence of_a of_b = absurd (false≢true presence)
same_by_proposal (Some a) None truth other same presence of_a of_b = absurd (false≢true (sym presence))
same_by_proposal (Some a) (Some b) truth other same presence of_a of_b = ap Some (of_a ∙ same ∙ sym of_b)

-- two reactions that keep to one proposal have the same signals
pub same_presence : (kernel : Kernel) (conditions : List SigId) (proposal : List Bool) (a b : Reaction) → AreInOrder kernel conditions → Speaks kernel a → Speaks kernel b
    → KeepsTo conditions proposal a → KeepsTo conditions proposal b → (round signal : ℕ) → EntersBy kernel round signal → is_present a signal ≡ is_present b signal
same_presence kernel conditions proposal a b order speaks_a speaks_b keeps_a keeps_b zero signal enters = absurd enters
same_presence kernel conditions proposal a b order speaks_a speaks_b keeps_a keeps_b (suc round) signal enters = enters a b speaks_a speaks_b (λ condition is known.
    let place = index_of kernel conditions order condition is in
    same_by_proposal (status_at a condition) (status_at b condition) (truth_of proposal place.0) (truth_of proposal place.0) refl
    (same_presence kernel conditions proposal a b order speaks_a speaks_b keeps_a keeps_b round condition known) (keeps_a place.0 (signal_id condition) place.1) (keeps_b place.0 (signal_id condition) place.1))

abbrev KeepsBelow : List SigId → List Bool → ℕ → Reaction → Type 0
KeepsBelow conditions proposal m reaction = (v : ℕ) (condition : SigId) → v < m → slice_get conditions v ≡ Some condition → Allows (status_at reaction condition.0) (truth_of proposal v)

below_more : (conditions : List SigId) (proposal : List Bool) (m : ℕ) (reaction : Reaction) → KeepsBelow conditions proposal m reaction
    → ((condition : SigId) → slice_get conditions m ≡ Some condition → Allows (status_at reaction condition.0) (truth_of proposal m)) → KeepsBelow conditions proposal (suc m) reaction
below_more conditions proposal m reaction keeps next v condition lt is = at (cases_order v m) where
  at : ((v ≡ m) ⊎ ((v < m) ⊎ (m < v))) → Allows (status_at reaction condition.0) (truth_of proposal v)
  at (inl same) = subst (λ k. Allows (status_at reaction condition.0) (truth_of proposal k)) (sym same) (next condition (subst (λ k. slice_get conditions k ≡ Some condition) same is))
  at (inr (inl less)) = keeps v condition less is
  at (inr (inr more)) = absurd (omega (arith, more, lt))

speaks_with : (kernel : Kernel) (reaction : Reaction) (signal : ℕ) (b : Bool) → IsReaction kernel reaction → status_at reaction signal ≡ Some b → Speaks kernel reaction
speaks_with kernel reaction signal b is present = record { is = is; some = loud (is_silent reaction) refl } where
  loud : (silent : Bool) → is_silent reaction ≡ silent → is_silent reaction ≡ false
  loud true e = let none : status_at reaction signal ≡ None = absent_in_silence reaction signal e in cc
  loud false e = e

truth_cases : (a b : Bool) → (a ≡ b) ⊎ (not a ≡ b)
truth_cases true true = inl refl
truth_cases true false = inr refl
truth_cases false true = inr refl
truth_cases false false = inl refl

-- a reaction that keeps to the first truths of a proposal, and one more
one_more : (kernel : Kernel) (conditions : List SigId) (proposal : List Bool) (m : ℕ) → HasClocks kernel → AreInOrder kernel conditions
    → (reaction : Reaction) → Speaks kernel reaction → KeepsBelow conditions proposal m reaction
    → (found : Option SigId) → slice_get conditions m ≡ found → (other : Reaction) × Speaks kernel other × KeepsBelow conditions proposal (suc m) other
one_more kernel conditions proposal m has order reaction speaks keeps None none =
    (reaction, speaks, below_more conditions proposal m reaction keeps (λ condition is. absurd (let e : None ≡ Some condition = sym none ∙ is in cc)))
one_more kernel conditions proposal m has order reaction speaks keeps (Some c) at = by (status_at reaction c.0) refl where
  same : (condition : SigId) → slice_get conditions m ≡ Some condition → c ≡ condition
  same condition is = let e : Some c ≡ Some condition = sym at ∙ is in cc

  with_it : (other : Reaction) → Speaks kernel other → KeepsBelow conditions proposal m other → Allows (status_at other c.0) (truth_of proposal m) → (other : Reaction) × Speaks kernel other × KeepsBelow conditions proposal (suc m) other
  with_it other speaks' keeps' allows = (other, speaks', below_more conditions proposal m other keeps' (λ condition is. subst (λ (d : SigId). Allows (status_at other d.0) (truth_of proposal m)) (same condition is) allows))

  choose : (t : Bool) → status_at reaction c.0 ≡ Some t → ((t ≡ truth_of proposal m) ⊎ (not t ≡ truth_of proposal m)) → (other : Reaction) × Speaks kernel other × KeepsBelow conditions proposal (suc m) other
  choose t e (inl right) = with_it reaction speaks keeps (subst (λ s. Allows s (truth_of proposal m)) (sym e) right)
  choose t e (inr wrong) =
      let other = has.free c.0 (is_condition_at kernel conditions order m c at) reaction t speaks.is e in
      with_it other.0 (speaks_with kernel other.0 c.0 (not t) other.1 other.3)
      (λ v d lt at_v. subst (λ s. Allows s (truth_of proposal v)) (other.2 d.0 (is_condition_at kernel conditions order v d at_v) (order.order v m d c lt at_v at)) (keeps v d lt at_v))
      (subst (λ s. Allows s (truth_of proposal m)) (sym other.3) wrong)

  by : (status : Status) → status_at reaction c.0 ≡ status → (other : Reaction) × Speaks kernel other × KeepsBelow conditions proposal (suc m) other
  by None e = with_it reaction speaks keeps (subst (λ s. Allows s (truth_of proposal m)) (sym e) tt)
  by (Some t) e = choose t e (truth_cases t (truth_of proposal m))

-- each proposal is kept to by some reaction
reach : (kernel : Kernel) (conditions : List SigId) (proposal : List Bool) (m : ℕ) → HasClocks kernel → AreInOrder kernel conditions → (reaction : Reaction) × Speaks kernel reaction × KeepsBelow conditions proposal m reaction
reach kernel conditions proposal zero has order = (has.alive.0, has.alive.1, (λ v condition lt is. absurd (omega (arith, lt))))
reach kernel conditions proposal (suc m) has order = let before = reach kernel conditions proposal m has order in
    one_more kernel conditions proposal m has order before.0 before.1 before.2 (slice_get conditions m) refl

pub some_reaction : (kernel : Kernel) (conditions : List SigId) → HasClocks kernel → AreInOrder kernel conditions → (proposal : List Bool) → (reaction : Reaction) × Speaks kernel reaction × KeepsTo conditions proposal reaction
some_reaction kernel conditions has order proposal = let found = reach kernel conditions proposal (length conditions) has order in
    (found.0, found.1, (λ v condition is. found.2 v condition (slice_get_within conditions v condition is) is))

pub one_presence : (kernel : Kernel) (conditions : List SigId) → HasClocks kernel → AreInOrder kernel conditions → (proposal : List Bool) (a b : Reaction) → Speaks kernel a → Speaks kernel b
    → KeepsTo conditions proposal a → KeepsTo conditions proposal b → (signal : ℕ) → signal < length kernel.signals → is_present a signal ≡ is_present b signal
one_presence kernel conditions has order proposal a b speaks_a speaks_b keeps_a keeps_b signal within =
    let solved : IsSolved kernel signal = has.solved signal within in
    same_presence kernel conditions proposal a b order speaks_a speaks_b keeps_a keeps_b solved.0 signal solved.1.enters

other_truth : (truths : List Bool) (v : ℕ) (b : Bool) (u : ℕ) → (u ≡ v → ⊥) → truth_of (with_truth truths v b) u ≡ truth_of truths u
unfolding with_truth
other_truth [] zero b zero apart = absurd (apart refl)
other_truth [] zero b (suc u) apart = refl
other_truth [] (suc v) b zero apart = refl
other_truth [] (suc v) b (suc u) apart = other_truth [] v b u (λ e. apart (ap suc e))
other_truth (t ∷ truths) zero b zero apart = absurd (apart refl)
other_truth (t ∷ truths) zero b (suc u) apart = refl
other_truth (t ∷ truths) (suc v) b zero apart = refl
other_truth (t ∷ truths) (suc v) b (suc u) apart = other_truth truths v b u (λ e. apart (ap suc e))

-- a reaction from which a condition is absent keeps to a proposal whatever its truth there is
keeps_without : (conditions : List SigId) (proposal : List Bool) (v : ℕ) (condition : SigId) (b : Bool) (reaction : Reaction) → KeepsTo conditions proposal reaction
    → slice_get conditions v ≡ Some condition → status_at reaction condition.0 ≡ None → KeepsTo conditions (with_truth proposal v b) reaction
keeps_without conditions proposal v condition b reaction keeps at none u d is = by (cases_order u v) where
  apart : (u ≡ v → ⊥) → Allows (status_at reaction d.0) (truth_of (with_truth proposal v b) u)
  apart differ = subst (λ t. Allows (status_at reaction d.0) t) (sym (other_truth proposal v b u differ)) (keeps u d is)

  by : ((u ≡ v) ⊎ ((u < v) ⊎ (v < u))) → Allows (status_at reaction d.0) (truth_of (with_truth proposal v b) u)
  by (inl same) =
      let e : Some condition ≡ Some d = sym at ∙ ap (λ k. slice_get conditions k) (sym same) ∙ is in
      let it : condition ≡ d = cc in
      subst (λ (x : SigId). Allows (status_at reaction x.0) (truth_of (with_truth proposal v b) u)) it (subst (λ s. Allows s (truth_of (with_truth proposal v b) u)) (sym none) tt)
  by (inr (inl less)) = apart (λ e. omega (arith, less, e))
  by (inr (inr more)) = apart (λ e. omega (arith, more, e))

-- a condition that has entered before another one's layer stands before it
stands_before : (kernel : Kernel) (conditions : List SigId) → HasClocks kernel → AreInOrder kernel conditions → (d : ℕ) (c : SigId) (round layer w v : ℕ)
    → is_condition kernel d ≡ true → EntersBy kernel round d → HasLayer kernel c.0 layer → round < layer
    → slice_get conditions w ≡ Some (signal_id d) → slice_get conditions v ≡ Some c → w < v
stands_before kernel conditions has order d c round layer w v is enters layered lt at_w at_v = by (cases_order w v) where
  same : w ≡ v → signal_id d ≡ c
  same e = let f : Some (signal_id d) ≡ Some c = sym at_w ∙ ap (λ k. slice_get conditions k) e ∙ at_v in cc

  not_behind : IsEarlier kernel c.0 d → ⊥
  not_behind earlier =
      let own : earlier.layer ≡ layer = one_layer kernel c.0 earlier.layer layer earlier.has layered in
      let least : (earlier.later_layer ≤ round) = at_most (cases_order earlier.later_layer round) in
      elim earlier.before [ inl less ↦ omega (arith, less, own, least, lt) | inr equal ↦ omega (arith, equal.0, own, least, lt) ]
    where
      at_most : ((earlier.later_layer ≡ round) ⊎ ((earlier.later_layer < round) ⊎ (round < earlier.later_layer))) → earlier.later_layer ≤ round
      at_most (inl e) = omega (arith, e)
      at_most (inr (inl less)) = omega (arith, less)
      at_most (inr (inr more)) = absurd (earlier.later_has.first round more enters)

  by : ((w ≡ v) ⊎ ((w < v) ⊎ (v < w))) → w < v
  by (inl e) = absurd (layered.first round lt (subst (λ (x : SigId). EntersBy kernel round x.0) (same e) enters))
  by (inr (inl less)) = less
  by (inr (inr more)) = absurd (not_behind (order.order v w c (signal_id d) more at_v at_w))

-- two reactions that keep to proposals with the same earlier truths have the same signals of earlier layers
same_earlier : (kernel : Kernel) (conditions : List SigId) → HasClocks kernel → AreInOrder kernel conditions → (proposal other : List Bool) (a b : Reaction) (v : ℕ) (c : SigId) (layer : ℕ)
    → Speaks kernel a → Speaks kernel b → KeepsTo conditions proposal a → KeepsTo conditions other b
    → slice_get conditions v ≡ Some c → HasLayer kernel c.0 layer → ((u : ℕ) → u < v → truth_of proposal u ≡ truth_of other u)
    → (round signal : ℕ) → round ≤ layer → EntersBy kernel round signal → is_present a signal ≡ is_present b signal
same_earlier kernel conditions has order proposal other a b v c layer speaks_a speaks_b keeps_a keeps_b at layered agree zero signal le enters = absurd enters
same_earlier kernel conditions has order proposal other a b v c layer speaks_a speaks_b keeps_a keeps_b at layered agree (suc round) signal le enters = enters a b speaks_a speaks_b (λ condition is known.
    let place = index_of kernel conditions order condition is in
    let before : place.0 < v = stands_before kernel conditions has order condition c round layer place.0 v is known layered (omega (arith, le)) place.1 at in
    same_by_proposal (status_at a condition) (status_at b condition) (truth_of proposal place.0) (truth_of other place.0) (agree place.0 before)
    (same_earlier kernel conditions has order proposal other a b v c layer speaks_a speaks_b keeps_a keeps_b at layered agree round condition (omega (arith, le)) known)
    (keeps_a place.0 (signal_id condition) place.1) (keeps_b place.0 (signal_id condition) place.1))

none_from_absent : (status : Status) → false ≡ is_some status → status ≡ None
none_from_absent None e = refl
none_from_absent (Some b) e = absurd (false≢true e)

-- the truth of a condition that is absent makes no difference
pub absent_makes_none : (kernel : Kernel) (conditions : List SigId) → HasClocks kernel → AreInOrder kernel conditions → (signal : ℕ) (function : List Bool → Bool) → IsClockFunction kernel conditions signal function
    → (reaction : Reaction) (proposal other : List Bool) (v : ℕ) (condition : SigId) → Speaks kernel reaction → KeepsTo conditions proposal reaction
    → slice_get conditions v ≡ Some condition → status_at reaction condition.0 ≡ None → ((u : ℕ) → u < v → truth_of other u ≡ truth_of proposal u)
    → function (with_truth other v false) ≡ function (with_truth other v true)
absent_makes_none kernel conditions has order signal function is reaction proposal other v condition speaks keeps at none agree =
    let found = some_reaction kernel conditions has order other in
    let condition_is = is_condition_at kernel conditions order v condition at in
    let layered = has.solved condition.0 (condition_is_signal kernel condition.0 condition_is) in
    let presence : is_present reaction condition.0 ≡ is_present found.0 condition.0 = same_earlier kernel conditions has order proposal other reaction found.0 v condition layered.0 speaks found.1 keeps found.2 at layered.1 (λ u lt. sym (agree u lt)) layered.0 condition.0 (omega arith) layered.1.enters in
    let absent : status_at found.0 condition.0 ≡ None = none_from_absent (status_at found.0 condition.0) (sym (ap is_some none) ∙ presence) in
    sym (is (with_truth other v false) found.0 found.1 (keeps_without conditions other v condition false found.0 found.2 at absent))
    ∙ is (with_truth other v true) found.0 found.1 (keeps_without conditions other v condition true found.0 found.2 at absent)
