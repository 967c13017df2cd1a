-- How many nodes a question adds, by the variables that it tests.
use Rattle.sig_dd.proofs.Common.{◌≡◌, ◌≢◌, ℕ, zero, suc, ◌+◌, ◌^◌, ◌<◌, ◌≤◌, Bool, true, false, cond, List, [], ◌∷◌, ◌++◌, ◌⊎◌, inl, inr, length, get_or, refl, sym, ◌∙◌, subst, arith, Contains, eqb, eqb-true, eqb-false, pow-suc, pow_mono, diagram, IsReduced, HoldsAll, AllStartFrom, SomeTests, IsHalf, IsSplit, TestsOnly, Node, Question, Pick, Fix, Split}
use Rattle.sig_dd.proofs.Trees.{Tests-later}
use Rattle.sig_dd.proofs.Canonical.{proper}
use Rattle.sig_dd.proofs.Kept.{SomeTests-back}

-- u stands in the list
Member : List ℕ → ℕ → Type 0
Member [] u = ⊥
Member (x ∷ xs) u = (u ≡ x) ⊎ Member xs u

member_at : (xs : List ℕ) (u k : ℕ) → k < length xs → get_or xs k u ≡ u → Member xs u
unfolding Member
member_at [] u k lt e = absurd (omega arith)
member_at (x ∷ xs) u zero lt e = inl (sym e)
member_at (x ∷ xs) u (suc k) lt e = inr (member_at xs u k (omega arith) e)

Member-Contains : (xs : List ℕ) (u : ℕ) → Contains xs u → Member xs u
Member-Contains xs u (k, lt, e) = member_at xs u k lt e

Contains-Member : (xs : List ℕ) (u : ℕ) → Member xs u → Contains xs u
unfolding Member
Contains-Member [] u m = absurd m
Contains-Member (x ∷ xs) u (inl e) = (0, omega arith, sym e)
Contains-Member (x ∷ xs) u (inr m) = let (k, lt, e) = Contains-Member xs u m in (suc k, omega arith, e)

-- the list without a variable
pub without : ℕ → List ℕ → List ℕ
without v [] = []
without v (x ∷ xs) = cond (eqb x v) (without v xs) (x ∷ without v xs)

length-without_le : (v : ℕ) (xs : List ℕ) → length (without v xs) ≤ length xs
unfolding without
length-without_le v [] = omega arith
length-without_le v (x ∷ xs) =
    let h = length-without_le v xs in
    elim (eqb x v) as (λ b. length (cond b (without v xs) (x ∷ without v xs)) ≤ suc (length xs)) [ true ↦ omega arith | false ↦ omega arith ]

length-without : (v : ℕ) (xs : List ℕ) → Member xs v → suc (length (without v xs)) ≤ length xs
unfolding Member without
length-without v [] m = absurd m
length-without v (x ∷ xs) m = by (length-without v xs) (eqb x v) refl m
  where
    by : (Member xs v → suc (length (without v xs)) ≤ length xs) → (b : Bool) → eqb x v ≡ b → (v ≡ x) ⊎ Member xs v → suc (length (cond b (without v xs) (x ∷ without v xs))) ≤ suc (length xs)
    by below true e m = let h = length-without_le v xs in omega arith
    by below false e (inl same) = absurd (eqb-false x v e (sym same))
    by below false e (inr m) = let h = below m in omega arith

Member-without : (v u : ℕ) (xs : List ℕ) → u ≢ v → Member xs u → Member (without v xs) u
unfolding Member without
Member-without v u [] apart m = absurd m
Member-without v u (x ∷ xs) apart m = by (Member-without v u xs apart) (eqb x v) refl m
  where
    by : (Member xs u → Member (without v xs) u) → (b : Bool) → eqb x v ≡ b → (u ≡ x) ⊎ Member xs u → Member (cond b (without v xs) (x ∷ without v xs)) u
    by below true e (inl same) = absurd (apart (same ∙ eqb-true x v e))
    by below true e (inr m) = below m
    by below false e (inl same) = inl same
    by below false e (inr m) = inr (below m)

pub length-without_contained : (v : ℕ) (xs : List ℕ) → Contains xs v → suc (length (without v xs)) ≤ length xs
length-without_contained v xs among = length-without v xs (Member-Contains xs v among)

pub Contains-without : (v u : ℕ) (xs : List ℕ) → u ≢ v → Contains xs u → Contains (without v xs) u
Contains-without v u xs apart among = Contains-Member (without v xs) u (Member-without v u xs apart (Member-Contains xs u among))

-- no function of the question tests a variable before their first
SomeTests-later : (nodes : List Node) → IsReduced nodes → (q : Question) → HoldsAll nodes q → (b u : ℕ) → AllStartFrom nodes b q → SomeTests nodes q u → b ≤ u
SomeTests-later nodes reduced (Pick f g h) held b u s (inl t) = Tests-later (diagram nodes f) b u (proper nodes reduced f held.0) s.0 t
SomeTests-later nodes reduced (Pick f g h) held b u s (inr (inl t)) = Tests-later (diagram nodes g) b u (proper nodes reduced g held.1) s.1 t
SomeTests-later nodes reduced (Pick f g h) held b u s (inr (inr t)) = Tests-later (diagram nodes h) b u (proper nodes reduced h held.2) s.2 t
SomeTests-later nodes reduced (Fix f v x) held b u s t = Tests-later (diagram nodes f) b u (proper nodes reduced f held) s t

-- a half tests the question's variables but the one that it was split by
pub half_tests : (nodes : List Node) → IsReduced nodes → (q p : Question) (v : ℕ) (x : Bool) → IsHalf nodes q v x p → (vs : List ℕ) → TestsOnly nodes q vs → TestsOnly nodes p (without v vs)
half_tests nodes reduced q p v x half vs only u t =
    let later : suc v ≤ u = SomeTests-later nodes reduced p half.holds (suc v) u half.later t in
    Contains-Member _ u (Member-without v u vs (omega arith) (Member-Contains vs u (only u (half.tests u t))))

-- and stays so as nodes are added
pub TestsOnly-append : (old more : List Node) (q : Question) → HoldsAll old q → (vs : List ℕ) → TestsOnly old q vs → TestsOnly (old ++ more) q vs
TestsOnly-append old more q held vs only u t = only u (SomeTests-back old more u q held t)

double : (j k : ℕ) → suc j ≤ k → 2 ^ j + 2 ^ j ≤ 2 ^ k
double j k le = let once = pow-suc 2 j in let more : 2 ^ suc j ≤ 2 ^ k = pow_mono le in omega arith

-- two halves' allowances and one node fit that of the question
pub halves_fit : (nodes : List Node) (q : Question) (s : Split) → IsSplit nodes q s → (vs : List ℕ) → TestsOnly nodes q vs → 2 ^ length (without s.variable vs) + 2 ^ length (without s.variable vs) ≤ 2 ^ length vs
halves_fit nodes q s split vs only =
    double _ _ (length-without s.variable vs (Member-Contains vs s.variable (only s.variable split.tested)))

-- what the second half tests, where the first one's nodes were added
pub second_tests : (old mid more : List Node) → mid ≡ old ++ more → IsReduced old → (q : Question) (s : Split) → IsSplit old q s → (vs : List ℕ) → TestsOnly old q vs → TestsOnly mid s.high (without s.variable vs)
second_tests old mid more e reduced q s split vs only =
    subst (λ ns. TestsOnly ns s.high (without s.variable vs)) (sym e)
    (TestsOnly-append old more s.high split.high.holds (without s.variable vs) (half_tests old reduced q s.high s.variable true split.high vs only))

-- the nodes of both halves, and what two of them leave
pub both_fit : (old mid hi more : List Node) → mid ≡ old ++ more → IsReduced old → (q : Question) (s : Split) → IsSplit old q s
    → ((ws : List ℕ) → TestsOnly old s.low ws → length mid < length old + 2 ^ length ws)
    → ((ws : List ℕ) → TestsOnly mid s.high ws → length hi < length mid + 2 ^ length ws)
    → (vs : List ℕ) → TestsOnly old q vs → length hi + 2 ≤ length old + 2 ^ length vs
both_fit old mid hi more e reduced q s split low_adds high_adds vs only =
    let ws = without s.variable vs in
    let low = low_adds ws (half_tests old reduced q s.low s.variable false split.low vs only) in
    let high = high_adds ws (second_tests old mid more e reduced q s split vs only) in
    let fit = halves_fit old q s split vs only in
    omega arith
