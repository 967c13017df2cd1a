-- The operations of an instant, one after another.
use Rattle.sig_exec.proofs.Common.{◌≡◌, inl, inr, ℕ, zero, suc, true, List, [], ◌∷◌, take, None, Some, refl, sym, subst, slice_get, Guarded, Guards, guarded_in, guards_of, ImageView, IsImage, Ends, EndsIn, Handles, HandlesAll, State, holds, ImageOp, ImageCause, EndsAt, HandlesFirst}
use Rattle.sig_exec.proofs.Places.{guarded_at}

-- one more at the end
pub then_one : (guards : Guards) (ops : List Guarded) (n : ℕ) (op : Guarded) (s t u : State) → slice_get ops n ≡ Some op → HandlesAll guards (take n ops) s t → Handles guards op t u
    → HandlesAll guards (take (suc n) ops) s u
then_one guards [] n op s t u is all one = absurd (let f : None ≡ Some op = is in cc)
then_one guards (o ∷ ops) zero op s t u is all one =
    let same : o ≡ op = cc in
    (u, subst (λ (x : Guarded). Handles guards x s u) (sym same) (subst (λ (x : State). Handles guards op x u) all one), refl)
then_one guards (o ∷ ops) (suc n) op s t u is (middle, first, rest) one = (middle, first, then_one guards ops n op middle t u is rest one)

-- the first operations, and then one that ends the run
then_ends : (guards : Guards) (ops : List Guarded) (n : ℕ) (op : Guarded) (s t : State) (cause : ImageCause) → slice_get ops n ≡ Some op → HandlesAll guards (take n ops) s t
    → holds guards op t ≡ true → Ends op.kind op.at t cause → EndsIn guards ops s cause
then_ends guards [] n op s t cause is all on ends = absurd (let f : None ≡ Some op = is in cc)
then_ends guards (o ∷ ops) zero op s t cause is all on ends =
    let same : o ≡ op = cc in
    inl (
      subst (λ (x : Guarded). holds guards x s ≡ true) (sym same) (subst (λ (x : State). holds guards op x ≡ true) all on),
      subst (λ (x : Guarded). Ends x.kind x.at s cause) (sym same) (subst (λ (x : State). Ends op.kind op.at x cause) all ends),
    )
then_ends guards (o ∷ ops) (suc n) op s t cause is (middle, first, rest) on ends = inr (middle, first, then_ends guards ops n op middle t cause is rest on ends)

module _ (image : ImageView) (right : IsImage image) (n : ℕ) (op : ImageOp) (is : slice_get image.ops n ≡ Some op) (s t : State) (first : HandlesFirst image n s t) where
  abbrev guarded : Guarded
  guarded = guarded_in image.nodes op

  pub first_ends : holds (guards_of image) guarded t ≡ true → (cause : ImageCause) → EndsAt image n t cause → EndsIn (guards_of image) (guards_of image).ops s cause
  first_ends on cause ends = then_ends (guards_of image) (guards_of image).ops n guarded s t cause (guarded_at image right n op is) first on (ends op is)
