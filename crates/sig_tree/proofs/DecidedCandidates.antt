-- Candidates that are decided: none of them holds, or there is a first one that does.
use Rattle.sig_tree.proofs.Common.{◌++◌, ◌⊎◌, List, [], ◌∷◌, refl, inl, inr, ⊤, Candidate, Offence, NoneHolds, IsFirst, each}

abbrev pub AreDecided : List Candidate → Type 0
AreDecided [] = ⊤
AreDecided (c ∷ cs) = Dec c.Holds × AreDecided cs

pub none_or_first : (cs : List Candidate) → AreDecided cs → NoneHolds cs ⊎ ((offence : Offence) × IsFirst cs offence)
none_or_first [] decided = inl tt
none_or_first (c ∷ cs) decided = by decided.0 (none_or_first cs decided.1) where
  by : Dec c.Holds → NoneHolds cs ⊎ ((offence : Offence) × IsFirst cs offence) → NoneHolds (c ∷ cs) ⊎ ((offence : Offence) × IsFirst (c ∷ cs) offence)
  by (yes holds) rest = inr (c.offence, inl (holds, refl))
  by (no fails) (inl none) = inl (fails, none)
  by (no fails) (inr first) = inr (first.0, inr (fails, first.1))

-- ---- lists of candidates

pub decided_append : (cs ds : List Candidate) → AreDecided cs → AreDecided ds → AreDecided (cs ++ ds)
decided_append [] ds first rest = rest
decided_append (c ∷ cs) ds first rest = (first.0, decided_append cs ds first.1 rest)

pub decided_each : {A : Type 0} (of : A → List Candidate) → ((x : A) → AreDecided (of x)) → (xs : List A) → AreDecided (each of xs)
decided_each of decide [] = tt
decided_each of decide (x ∷ xs) = decided_append (of x) (each of xs) (decide x) (decided_each of decide xs)

-- one candidate of each element
pub decided_one : {A : Type 0} (of : A → Candidate) → ((x : A) → Dec (of x).Holds) → (xs : List A) → AreDecided (each (λ x. of x ∷ []) xs)
decided_one of decide xs = decided_each (λ x. of x ∷ []) (λ x. (decide x, tt)) xs

-- lists that are decided, one behind the other
abbrev pub joined : ((cs : List Candidate) × AreDecided cs) → ((ds : List Candidate) × AreDecided ds) → (es : List Candidate) × AreDecided es
joined first rest = (first.0 ++ rest.0, decided_append first.0 rest.0 first.1 rest.1)
