-- An image is sound, or one of its operations is the first that is not.
use Rattle.sig_verify.proofs.Common.{◌≡◌, ℕ, zero, suc, ◌<◌, ◌≤◌, length, Option, None, Some, ◌⊎◌, inl, inr, refl, sym, subst, ◌∙◌, arith, slice_get, Guarded, IsSoundImage, IsSoundOperation, guards_of, ImageView, IsSoundAt, IsFirstUnsound, same_Some}
use Rattle.sig_verify.proofs.Decided.{Decides, sound_or_not}
use Rattle.sig_verify.proofs.Found.{all_sound, first_found, one_more}

module _ (image : ImageView) where
  at_option : (n : ℕ) (o : Option Guarded) → slice_get (guards_of image).ops n ≡ o → Decides (IsSoundAt image n)
  at_option n None e = inl (λ op is. let no : None ≡ Some op = sym e ∙ is in absurd cc)
  at_option n (Some op) e = elim (sound_or_not (guards_of image) n op) [
    | inl sound ↦ inl (λ other is. subst (IsSoundOperation (guards_of image) n) (same_Some op other (sym e ∙ is)) sound)
    | inr fails ↦ inr (λ all. fails (all op e))
  ]

  -- the first operations are sound, or one of them is the first that is not
  up_to : (end : ℕ) → end ≤ length image.ops → ((m : ℕ) → m < end → IsSoundAt image m) ⊎ ((n : ℕ) × IsFirstUnsound image n)
  up_to zero le = inl (λ m lt. absurd (omega arith))
  up_to (suc end) le = elim (up_to end (omega (arith, le))) [
    | inr first ↦ inr first
    | inl before ↦ elim (at_option end (slice_get (guards_of image).ops end) refl) [
      | inl here ↦ inl (λ m lt. one_more image end before here m (omega (arith, lt)))
      | inr unsound ↦ inr (end, first_found image end (omega (arith, le)) unsound before)
    ]
  ]

  pub verdict : IsSoundImage image ⊎ ((n : ℕ) × IsFirstUnsound image n)
  verdict = elim (up_to (length image.ops) (omega arith)) [
    | inl all ↦ inl (all_sound image (length image.ops) (omega arith) all)
    | inr first ↦ inr first
  ]
