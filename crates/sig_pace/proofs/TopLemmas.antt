-- Lemmas on the tops among signals.
use Rattle.sig_pace.proofs.Common.{◌≡◌, ◌<◌, ◌≤◌, ◌+◌, ◌⊎◌, inl, inr, ℕ, List, [], ◌∷◌, ◌++◌, length, get_or, take, take_all, length-take-le, length-append, sym, ◌∙◌, subst, arith, Contains, AllPairs, zero, suc, get_or_default, take_more, Contains-append_left, Contains-push, Contains-push_cases, all_pairs_push, IsPossible, Kernel, AreIncreasing, IsBelow, AddsTop, AreByNumber, AreNotBelow, AreTops, IsBelowCandidate, IsBelowOne, IsCover, Candidate, contains_none}

-- ---- lists

-- the elements so far, and one more
pub taken_cases : {X : Type 0} (xs : List X) (k : ℕ) (d x : X) → k < length xs → Contains (take (k + 1) xs) x → Contains (take k xs) x ⊎ (get_or xs k d ≡ x)
taken_cases xs k d x lt there = Contains-push_cases (take k xs) (get_or xs k d) x (subst (λ ys. Contains ys x) (take_more xs k d lt) there)

pub taken_before : {X : Type 0} (xs : List X) (k : ℕ) (d x : X) → k < length xs → Contains (take k xs) x → Contains (take (k + 1) xs) x
taken_before xs k d x lt there = subst (λ ys. Contains ys x) (sym (take_more xs k d lt)) (Contains-append_left (take k xs) (get_or xs k d ∷ []) x there)

pub taken_last : {X : Type 0} (xs : List X) (k : ℕ) (d : X) → k < length xs → Contains (take (k + 1) xs) (get_or xs k d)
taken_last xs k d lt = subst (λ ys. Contains ys (get_or xs k d)) (sym (take_more xs k d lt)) (Contains-push (take k xs) (get_or xs k d))

-- a place of what is among the first elements
pub taken_at : {X : Type 0} (xs : List X) (k : ℕ) (x : X) → Contains (take k xs) x → (j : ℕ) × (j < k) × (j < length xs) × (get_or xs j x ≡ x)
taken_at xs zero x there = absurd (let lt = there.1 in omega (arith, lt))
taken_at [] (suc k) x there = absurd (let lt = there.1 in omega (arith, lt))
taken_at {X} (y ∷ xs) (suc k) x there = by (λ here. taken_at xs k x here) there.0 there.1 there.2 where
  by : (Contains (take k xs) x → (j : ℕ) × (j < k) × (j < length xs) × (get_or xs j x ≡ x)) → (i : ℕ) → i < length (take (suc k) (y ∷ xs)) → get_or (take (suc k) (y ∷ xs)) i x ≡ x → (j : ℕ) × (j < suc k) × (j < length (y ∷ xs)) × (get_or (y ∷ xs) j x ≡ x)
  by earlier zero lt is = (0, omega arith, omega arith, is)
  by earlier (suc i) lt is = let rest = earlier (i, omega (arith, lt), is) in (suc rest.0, let a = rest.1 in omega (arith, a), let a = rest.2 in omega (arith, a), rest.3)

pub taken_whole : {X : Type 0} (xs : List X) (k : ℕ) (x : X) → Contains (take k xs) x → Contains xs x
taken_whole xs k x there = let at = taken_at xs k x there in (at.0, at.2, at.3)

-- those before an element of an ordered list
pub taken_less : {X : Type 0} (R : X → X → Type 0) (xs : List X) (k : ℕ) (d x : X) → AllPairs R xs → k < length xs → Contains (take k xs) x → R x (get_or xs k d)
taken_less R xs k d x pairs lt there =
    let at = taken_at xs k x there in
    let own : get_or xs at.0 d ≡ x = sym (get_or_default xs at.0 x d at.2) ∙ at.3 in
    subst (λ y. R y (get_or xs k d)) own (pairs at.0 k d at.1 lt)

-- one more behind all others of an ordered list
pub ordered_push : {X : Type 0} (R : X → X → Type 0) (xs : List X) (y : X) → AllPairs R xs → ((x : X) → Contains xs x → R x y) → AllPairs R (xs ++ y ∷ [])
ordered_push R xs y pairs less = all_pairs_push R xs y pairs (λ k d lt. less (get_or xs k d) (k, lt, get_or_default xs k (get_or xs k d) d lt))

-- ---- signals below others

pub below_itself : (kernel : Kernel) (x : ℕ) → IsBelow kernel x x
below_itself kernel x reaction speaks present = present

pub below_through : (kernel : Kernel) (x y z : ℕ) → IsBelow kernel x y → IsBelow kernel y z → IsBelow kernel x z
below_through kernel x y z a b reaction speaks present = b reaction speaks (a reaction speaks present)

possible_above : (kernel : Kernel) (x y : ℕ) → IsPossible kernel x → IsBelow kernel x y → IsPossible kernel y
possible_above kernel x y possible below = (possible.0, possible.1, below possible.0 possible.1 possible.2)

-- ---- one more candidate

module _ (kernel : Kernel) (tops : List Candidate) (c : Candidate) where
  -- one that is never present is no top
  pub skip_never : (IsPossible kernel c.signal → ⊥) → AddsTop kernel tops c tops
  skip_never never seen lesser are whole of_whole to_whole here = record {
    among = λ m there. to_whole m (are.among m there);
    possible = are.possible;
    top = λ m y there within below. elim (of_whole y within) [
      | inl before ↦ are.top m y there before below
      | inr e ↦ absurd (never (subst (λ (z : Candidate). IsPossible kernel z.signal) e (possible_above kernel m.signal y.signal (are.possible m there) below)))
    ];
    cover = λ y within possible. elim (of_whole y within) [
      | inl before ↦ are.cover y before possible
      | inr e ↦ absurd (never (subst (λ (z : Candidate). IsPossible kernel z.signal) e possible))
    ];
    order = are.order;
  }

  -- nor is one that is below another one
  pub skip_below : IsBelowCandidate kernel c.signal tops → AddsTop kernel tops c tops
  skip_below covered seen lesser are whole of_whole to_whole here = record {
    among = λ m there. to_whole m (are.among m there);
    possible = are.possible;
    top = λ m y there within below. elim (of_whole y within) [
      | inl before ↦ are.top m y there before below
      | inr e ↦ subst (λ (z : Candidate). IsBelow kernel z.signal m.signal × (m.signal ≤ z.signal)) (sym e) (covered_top m there (subst (λ (z : Candidate). IsBelow kernel m.signal z.signal) e below))
    ];
    cover = λ y within possible. elim (of_whole y within) [
      | inl before ↦ are.cover y before possible
      | inr e ↦ subst (λ (z : Candidate). IsBelowCandidate kernel z.signal tops) (sym e) covered
    ];
    order = are.order;
  } where
    covered_top : (m : Candidate) → Contains tops m → IsBelow kernel m.signal c.signal → IsBelow kernel c.signal m.signal × (m.signal ≤ c.signal)
    covered_top m there below =
        let n = covered.0 in
        let back = are.top m n there (are.among n covered.1) (below_through kernel m.signal c.signal n.signal below covered.2) in
        let less = lesser m (are.among m there) in
        (below_through kernel c.signal n.signal m.signal covered.2 back.0, omega (arith, less))

  -- one that is below none is a top, in the place of those below it
  pub push_top : IsPossible kernel c.signal → (IsBelowCandidate kernel c.signal tops → ⊥) → (others : List Candidate) → AreNotBelow kernel c.signal tops others → AddsTop kernel tops c (others ++ c ∷ [])
  push_top possible none others not_below seen lesser are whole of_whole to_whole here = record {
    among = λ m there. elim (Contains-push_cases others c m there) [
      | inl old ↦ to_whole m (are.among m (not_below.among m old).0)
      | inr e ↦ subst (Contains whole) e here
    ];
    possible = λ m there. elim (Contains-push_cases others c m there) [
      | inl old ↦ are.possible m (not_below.among m old).0
      | inr e ↦ subst (λ (z : Candidate). IsPossible kernel z.signal) e possible
    ];
    top = λ m y there within below. elim (Contains-push_cases others c m there) [
      | inl old ↦ old_top m y old (of_whole y within) below
      | inr e ↦ subst (λ (z : Candidate). IsBelow kernel y.signal z.signal × (z.signal ≤ y.signal)) e (new_top y (of_whole y within) (subst (λ (z : Candidate). IsBelow kernel z.signal y.signal) (sym e) below))
    ];
    cover = λ y within some. elim (of_whole y within) [
      | inl before ↦ covered y (are.cover y before some)
      | inr e ↦ subst (λ (z : Candidate). IsBelowCandidate kernel z.signal (others ++ c ∷ [])) (sym e) (c, Contains-push others c, below_itself kernel c.signal)
    ];
    order = ordered_push (λ (a b : Candidate). a.signal < b.signal) others c (not_below.order are.order) (λ m old. lesser m (are.among m (not_below.among m old).0));
  } where
    old_top : (m y : Candidate) → Contains others m → Contains seen y ⊎ (y ≡ c) → IsBelow kernel m.signal y.signal → IsBelow kernel y.signal m.signal × (m.signal ≤ y.signal)
    old_top m y old (inl before) below = are.top m y (not_below.among m old).0 before below
    old_top m y old (inr e) below = absurd ((not_below.among m old).1 (subst (λ (z : Candidate). IsBelow kernel m.signal z.signal) e below))

    new_top : (y : Candidate) → Contains seen y ⊎ (y ≡ c) → IsBelow kernel c.signal y.signal → IsBelow kernel y.signal c.signal × (c.signal ≤ y.signal)
    new_top y (inl before) below =
        let at = are.cover y before (possible_above kernel c.signal y.signal possible below) in
        absurd (none (at.0, at.1, below_through kernel c.signal y.signal at.0.signal below at.2))
    new_top y (inr e) below = subst (λ (z : Candidate). IsBelow kernel z.signal c.signal × (c.signal ≤ z.signal)) (sym e) (below_itself kernel c.signal, omega arith)

    covered : (y : Candidate) → IsBelowCandidate kernel y.signal tops → IsBelowCandidate kernel y.signal (others ++ c ∷ [])
    covered y at = elim (not_below.all at.0 at.1) [
      | inl kept ↦ (at.0, Contains-append_left others (c ∷ []) at.0 kept, at.2)
      | inr below ↦ (c, Contains-push others c, below_through kernel y.signal at.0.signal c.signal at.2 below)
    ]

-- ---- covers

cover_less : (signals : List ℕ) (k x : ℕ) → AreIncreasing signals → k < length signals → Contains (take k signals) x → x < get_or signals k 0
cover_less signals k x increasing lt there = taken_less (λ x y. x < y) signals k 0 x increasing lt there

pub cover_none : (kernel : Kernel) (signals : List ℕ) → IsCover kernel (take 0 signals) []
cover_none kernel signals = record {
  count = omega arith;
  among = λ x there. absurd (contains_none x there);
  order = λ i j d less within. absurd (omega (arith, within));
  cover = λ y there. absurd (let lt = there.1 in omega (arith, lt));
}

module _ (kernel : Kernel) (signals : List ℕ) (increasing : AreIncreasing signals) (k : ℕ) (lt : k < length signals) (found : List ℕ) (is : IsCover kernel (take k signals) found) where
  long : length (take (k + 1) signals) ≡ length (take k signals) + 1
  long = (let a = length-take-le (k + 1) signals (omega (arith, lt)) in let b = length-take-le k signals (omega (arith, lt)) in omega (arith, a, b))

  pub cover_skip : IsBelowOne kernel (get_or signals k 0) found → IsCover kernel (take (k + 1) signals) found
  cover_skip below = record {
    count = (let a = is.count in let b = long in omega (arith, a, b));
    among = λ x there. taken_before signals k 0 x lt (is.among x there);
    order = is.order;
    cover = λ y there. elim (taken_cases signals k 0 y lt there) [
      | inl before ↦ is.cover y before
      | inr e ↦ subst (λ y. (x : ℕ) × Contains found x × (x ≤ y) × IsBelow kernel y x) e
          (below.0, below.1, (let less = cover_less signals k below.0 increasing lt (is.among below.0 below.1) in omega (arith, less)), below.2)
    ];
  }

  pub cover_push : IsCover kernel (take (k + 1) signals) (found ++ get_or signals k 0 ∷ [])
  cover_push = record {
    count = (let a = is.count in let b = long in let c = length-append found (get_or signals k 0 ∷ []) in omega (arith, a, b, c));
    among = λ x there. elim (Contains-push_cases found (get_or signals k 0) x there) [
      | inl old ↦ taken_before signals k 0 x lt (is.among x old)
      | inr e ↦ subst (Contains (take (k + 1) signals)) e (taken_last signals k 0 lt)
    ];
    order = ordered_push (λ x y. x < y) found (get_or signals k 0) is.order (λ x old. cover_less signals k x increasing lt (is.among x old));
    cover = λ y there. elim (taken_cases signals k 0 y lt there) [
      | inl before ↦ (let at = is.cover y before in (at.0, Contains-append_left found (get_or signals k 0 ∷ []) at.0 at.1, at.2, at.3))
      | inr e ↦ subst (λ y. (x : ℕ) × Contains (found ++ get_or signals k 0 ∷ []) x × (x ≤ y) × IsBelow kernel y x) e
          (get_or signals k 0, Contains-push found (get_or signals k 0), omega arith, below_itself kernel (get_or signals k 0))
    ];
  }

-- ---- candidates that are not below a signal

abbrev pub nothing : Candidate
nothing = record { signal = 0; reactions = record { number = 0 } }

-- those of the first candidates
pub record AreNotBelowYet (kernel : Kernel) (signal : ℕ) (candidates : List Candidate) (k : ℕ) (others : List Candidate) : Type 0 where
  pub among : (m : Candidate) → Contains others m → Contains (take k candidates) m × (IsBelow kernel m.signal signal → ⊥)
  pub all : (m : Candidate) → Contains (take k candidates) m → Contains others m ⊎ IsBelow kernel m.signal signal
  pub order : AreByNumber candidates → AreByNumber others

module _ (kernel : Kernel) (signal : ℕ) (candidates : List Candidate) (k : ℕ) (lt : k < length candidates) (others : List Candidate) (is : AreNotBelowYet kernel signal candidates k others) where
  pub drop_below : IsBelow kernel (get_or candidates k nothing).signal signal → AreNotBelowYet kernel signal candidates (k + 1) others
  drop_below below = record {
    among = λ m there. let at = is.among m there in (taken_before candidates k nothing m lt at.0, at.1);
    all = λ m there. elim (taken_cases candidates k nothing m lt there) [
      | inl before ↦ is.all m before
      | inr e ↦ inr (subst (λ (c : Candidate). IsBelow kernel c.signal signal) e below)
    ];
    order = is.order;
  }

  pub keep_other : (IsBelow kernel (get_or candidates k nothing).signal signal → ⊥) → AreNotBelowYet kernel signal candidates (k + 1) (others ++ get_or candidates k nothing ∷ [])
  keep_other not = record {
    among = λ m there. elim (Contains-push_cases others (get_or candidates k nothing) m there) [
      | inl old ↦ (let at = is.among m old in (taken_before candidates k nothing m lt at.0, at.1))
      | inr e ↦ (subst (Contains (take (k + 1) candidates)) e (taken_last candidates k nothing lt), subst (λ (c : Candidate). IsBelow kernel c.signal signal → ⊥) e not)
    ];
    all = λ m there. elim (taken_cases candidates k nothing m lt there) [
      | inl before ↦ elim (is.all m before) [ inl old ↦ inl (Contains-append_left others (get_or candidates k nothing ∷ []) m old) | inr below ↦ inr below ]
      | inr e ↦ inl (subst (Contains (others ++ get_or candidates k nothing ∷ [])) e (Contains-push others (get_or candidates k nothing)))
    ];
    order = λ numbers. ordered_push (λ (a b : Candidate). a.signal < b.signal) others (get_or candidates k nothing) (is.order numbers)
        (λ m old. taken_less (λ (a b : Candidate). a.signal < b.signal) candidates k nothing m numbers lt (is.among m old).0);
  }

pub all_passed : (kernel : Kernel) (signal : ℕ) (candidates : List Candidate) (k : ℕ) (others : List Candidate) → k ≡ length candidates → AreNotBelowYet kernel signal candidates k others → AreNotBelow kernel signal candidates others
all_passed kernel signal candidates k others all is = record {
  among = λ m there. let at = is.among m there in (taken_whole candidates k m at.0, at.1);
  all = λ m there. is.all m (subst (λ xs. Contains xs m) (sym (take_all k candidates (omega (arith, all)))) there);
  order = is.order;
}

-- ---- the tops so far

pub one_more_top : (kernel : Kernel) (candidates : List Candidate) → AreByNumber candidates → (k : ℕ) → k < length candidates → (tops new : List Candidate) → AreTops kernel (take k candidates) tops → AddsTop kernel tops (get_or candidates k nothing) new → AreTops kernel (take (k + 1) candidates) new
one_more_top kernel candidates numbers k lt tops new are adds =
    adds (take k candidates) (λ y there. taken_less (λ (a b : Candidate). a.signal < b.signal) candidates k nothing y numbers lt there) are (take (k + 1) candidates)
    (λ y there. by y (taken_cases candidates k nothing y lt there)) (λ y there. taken_before candidates k nothing y lt there) (taken_last candidates k nothing lt)
  where
    by : (y : Candidate) → Contains (take k candidates) y ⊎ (get_or candidates k nothing ≡ y) → Contains (take k candidates) y ⊎ (y ≡ get_or candidates k nothing)
    by y (inl before) = inl before
    by y (inr e) = inr (sym e)
