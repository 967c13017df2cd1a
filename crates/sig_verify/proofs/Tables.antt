-- What tables tell.
use Rattle.sig_verify.proofs.Common.{nat_cmp, ◌≡◌, ℕ, Bool, true, false, List, Option, Some, inl, inr, refl, sym, ap, subst, ◌∙◌, eqb-true, BTreeMap, get, ◌||◌, ◌&&◌, IfSome, nat_eq, AreOf, is_written, true_at, Follows, IsFor, IsOf, Ref, SigId, test, Diagrams, cases_Bool}
use Rattle.sig_verify.proofs.Stays.{are_of_kept, written_kept}

-- ---- entries that are added

-- what holds of each entry still does with one more
pub entry_added : {A : Type 0} (P : ℕ → A → Type 0) (old new : BTreeMap ℕ A) (n : ℕ) (x : A) → P n x → get nat_cmp new n ≡ Some x → ((k : ℕ) → nat_eq n k ≡ false → get nat_cmp new k ≡ get nat_cmp old k)
    → ((k : ℕ) → IfSome (get nat_cmp old k) (P k)) → (k : ℕ) → IfSome (get nat_cmp new k) (P k)
entry_added {A} P old new n x here is others each k = elim (cases_Bool (nat_eq n k)) [
  | inl same ↦ subst (λ m. IfSome (get nat_cmp new m) (P m)) (eqb-true n k same) (subst (λ (o : Option A). IfSome o (P n)) (sym is) here)
  | inr apart ↦ subst (λ (o : Option A). IfSome o (P k)) (sym (others k apart)) (each k)
]

or_none : (a g : Bool) → a ≡ (a || (false && g))
or_none true g = refl
or_none false g = refl

module _ (d e : Diagrams) (follows : Follows 1 d e) (old new : BTreeMap ℕ Ref) (are : AreOf d old) (y : SigId) (before guard now : Ref)
    (was : IsFor d (is_written d.store.nodes old y.0) before) (is : IsFor e (λ ts. test d.store.nodes before ts || test d.store.nodes guard ts) now)
    (here : get nat_cmp new y.0 ≡ Some now) (others : (x : ℕ) → nat_eq y.0 x ≡ false → get nat_cmp new x ≡ get nat_cmp old x) where
  pub are_of_added : AreOf e new
  are_of_added = entry_added (λ k. IsOf e) old new y.0 now is.of here others (are_of_kept 1 d e follows old are)

  written_here : (truths : List Bool) → is_written e.store.nodes new y.0 truths ≡ (is_written d.store.nodes old y.0 truths || test d.store.nodes guard truths)
  written_here truths =
      ap (λ (o : Option Ref). true_at e.store.nodes o truths) here ∙ is.is.function truths ∙ ap (λ b. b || test d.store.nodes guard truths) (was.is.function truths)

  -- a signal was written where it was before, or where the guard is true if it is this one
  pub written_added : (x : ℕ) (truths : List Bool) → is_written e.store.nodes new x truths ≡ (is_written d.store.nodes old x truths || (nat_eq y.0 x && test d.store.nodes guard truths))
  written_added x truths = elim (cases_Bool (nat_eq y.0 x)) [
    | inl same ↦
        subst (λ m. is_written e.store.nodes new m truths ≡ (is_written d.store.nodes old m truths || test d.store.nodes guard truths)) (eqb-true y.0 x same) (written_here truths)
        ∙ ap (λ b. is_written d.store.nodes old x truths || (b && test d.store.nodes guard truths)) (sym same)
    | inr apart ↦
        ap (λ (o : Option Ref). true_at e.store.nodes o truths) (others x apart) ∙ written_kept 1 d e follows old are x truths
        ∙ or_none (is_written d.store.nodes old x truths) (test d.store.nodes guard truths)
        ∙ ap (λ b. is_written d.store.nodes old x truths || (b && test d.store.nodes guard truths)) (sym apart)
  ]
