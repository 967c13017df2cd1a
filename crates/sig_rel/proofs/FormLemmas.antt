-- The forms of a kernel's equations: their signals are there, and a reaction meets them.
use Rattle.sig_rel.proofs.Common.{◌≡◌, ◌<◌, ℕ, true, Option, None, Some, refl, subst, length, ◌&&◌, slice_get, option_map, and_parts, ltb-true, SigId, form_fits, IsValid, form_within, is_below, Equation, Form, Kernel, IsReaction, Reaction, meets, form_at}
use Rattle.sig_rel.proofs.OnceDefined.{fits_at, got_or, got_within, within_at}

module _ (kernel : Kernel) where
  pub below : (x : SigId) → is_below (length kernel.signals) x ≡ true → x.0 < length kernel.signals
  below x is = ltb-true x.0 (length kernel.signals) is

  pub three : (a b c : SigId) → (is_below (length kernel.signals) a && (is_below (length kernel.signals) b && (is_below (length kernel.signals) c && true))) ≡ true
      → (a.0 < length kernel.signals) × (b.0 < length kernel.signals) × (c.0 < length kernel.signals)
  three a b c is =
      let first = and_parts (is_below (length kernel.signals) a) (is_below (length kernel.signals) b && (is_below (length kernel.signals) c && true)) is in
      let second = and_parts (is_below (length kernel.signals) b) (is_below (length kernel.signals) c && true) first.1 in
      (below a first.0, below b second.0, below c (and_parts (is_below (length kernel.signals) c) true second.1).0)

  pub two : (a b : SigId) → (is_below (length kernel.signals) a && (is_below (length kernel.signals) b && true)) ≡ true → (a.0 < length kernel.signals) × (b.0 < length kernel.signals)
  two a b is =
      let first = and_parts (is_below (length kernel.signals) a) (is_below (length kernel.signals) b && true) is in
      (below a first.0, below b (and_parts (is_below (length kernel.signals) b) true first.1).0)

module _ (kernel : Kernel) (valid : IsValid kernel) (number : ℕ) (form : Form) (at : form_at kernel number ≡ Some form) where
  pub at_form : (P : Form → Type 0) → ((equation : Equation) → slice_get kernel.equations number ≡ Some equation → P equation.form) → P form
  at_form P all = by (slice_get kernel.equations number) refl at where
    by : (o : Option Equation) → slice_get kernel.equations number ≡ o → option_map (λ (e : Equation). e.form) o ≡ Some form → P form
    by None there is = absurd (let no : None ≡ Some form = is in cc)
    by (Some equation) there is = let e : equation.form ≡ form = cc in subst P e (all equation there)

  pub inside : form_within (length kernel.signals) form ≡ true
  inside = at_form (λ f. form_within (length kernel.signals) f ≡ true) (λ equation there. within_at kernel valid number equation there)

  pub fits : form_fits kernel.signals form ≡ true
  fits = at_form (λ f. form_fits kernel.signals f ≡ true) (λ equation there. fits_at kernel valid number equation there)

  pub met : (r : Reaction) → IsReaction kernel r → meets kernel.signals r form ≡ true
  met r reaction = at_form (λ f. meets kernel.signals r f ≡ true) (λ equation there.
      subst (λ (e : Equation). meets kernel.signals r e.form ≡ true) (got_or kernel.equations number equation equation there) (reaction.equations number equation (got_within kernel.equations number equation there)))
