-- Marked signals, by number.
use Rattle.sig_part.proofs.Common.{◌≡◌, ◌<◌, ◌≤◌, ◌+◌, ◌⊎◌, inl, inr, ◌↔◌, ℕ, Bool, true, false, List, [], ◌∷◌, ◌++◌, sym, ap, ◌∙◌, subst, arith, Contains, cases_order, false≢true, Contains-append_left, Contains-push, Contains-push_cases, SigId, AreMarked, mark_at, signal_same, contains_none}
use Rattle.sig_part.proofs.Lists.{pairwise_push}

abbrev numbered : ℕ → SigId
numbered n = record { 0 = n }

pub marked_none : (marks : List Bool) → AreMarked 0 marks []
marked_none marks = record {
  order = λ i j x y less is_x is_y. cc;
  all = λ x. ((λ there. absurd (contains_none x there)), (λ there. absurd (omega (arith, there.0))));
}

module _ (n : ℕ) (marks : List Bool) (list : List SigId) (before : AreMarked n marks list) where
  below_cases : (x : SigId) → x.0 < n + 1 → (x.0 < n) ⊎ (x ≡ numbered n)
  below_cases x less = at (cases_order x.0 n) where
    at : ((x.0 ≡ n) ⊎ ((x.0 < n) ⊎ (n < x.0))) → (x.0 < n) ⊎ (x ≡ numbered n)
    at (inl e) = inr (signal_same x (numbered n) e)
    at (inr (inl below)) = inl below
    at (inr (inr more)) = absurd (omega (arith, more, less))

  pub marked_not : mark_at marks n ≡ false → AreMarked (n + 1) marks list
  marked_not left = record {
    order = before.order;
    all = λ x. (
      (λ there. let is = (before.all x).0 there in let below : x.0 < n = is.0 in (omega (arith, below), is.1)),
      (λ is. elim (below_cases x is.0) [ inl below ↦ (before.all x).1 (below, is.1) | inr e ↦ absurd (false≢true (sym left ∙ ap (λ (s : SigId). mark_at marks s.0) (sym e) ∙ is.1)) ]),
    );
  }

  pub marked_next : mark_at marks n ≡ true → AreMarked (n + 1) marks (list ++ numbered n ∷ [])
  marked_next is_marked = record {
    order = pairwise_push (λ (x y : SigId). x.0 < y.0) list (numbered n) before.order (λ x there. ((before.all x).0 there).0);
    all = λ x. (
      (λ there. elim (Contains-push_cases list (numbered n) x there) [
        | inl earlier ↦ (let is = (before.all x).0 earlier in let below : x.0 < n = is.0 in (omega (arith, below), is.1))
        | inr e ↦ (let same : n ≡ x.0 = ap (λ (s : SigId). s.0) e in (omega (arith, same), ap (mark_at marks) (sym same) ∙ is_marked))
      ]),
      (λ is. elim (below_cases x is.0) [
        | inl below ↦ Contains-append_left list (numbered n ∷ []) x ((before.all x).1 (below, is.1))
        | inr e ↦ subst (Contains (list ++ numbered n ∷ [])) (sym e) (Contains-push list (numbered n))
      ]),
    );
  }

-- the signals whose numbers are from one number to another one
abbrev pub AreFromTo : ℕ → ℕ → List SigId → Type 0
AreFromTo from n list = (x : SigId) → Contains list x ↔ ((from ≤ x.0) × (x.0 < n))

pub from_to_none : (from : ℕ) → AreFromTo from from []
from_to_none from x = ((λ there. absurd (contains_none x there)), (λ is. absurd (omega (arith, is.0, is.1))))

pub from_to_more : (from n : ℕ) (list : List SigId) → from ≤ n → AreFromTo from n list → AreFromTo from (n + 1) (list ++ numbered n ∷ [])
from_to_more from n list begun before x = (
  (λ there. elim (Contains-push_cases list (numbered n) x there) [
    | inl earlier ↦ (let is = (before x).0 earlier in let below : x.0 < n = is.1 in (is.0, omega (arith, below)))
    | inr e ↦ (let same : n ≡ x.0 = ap (λ (s : SigId). s.0) e in (omega (arith, same, begun), omega (arith, same)))
  ]),
  (λ is. at is.0 is.1 (cases_order x.0 n)),
) where
  at : from ≤ x.0 → x.0 < n + 1 → ((x.0 ≡ n) ⊎ ((x.0 < n) ⊎ (n < x.0))) → Contains (list ++ numbered n ∷ []) x
  at least most (inl e) = subst (Contains (list ++ numbered n ∷ [])) (sym (signal_same x (numbered n) e)) (Contains-push list (numbered n))
  at least most (inr (inl below)) = Contains-append_left list (numbered n ∷ []) x ((before x).1 (least, below))
  at least most (inr (inr more)) = absurd (omega (arith, more, most))
