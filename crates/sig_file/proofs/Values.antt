-- Numbers that fit.
use Rattle.sig_file.proofs.Common.{◌≡◌, ℕ, ◌<◌, inl, inr, true, List, length, Option, None, Some, refl, sym, ap, subst, ◌∙◌, arith, cases_lt, ltb-true, slice_get, slice_get_past, Decides-int_eq, ℤ, w64, ◌||◌, Kind, Integer, Boolean, Event, Sort, AnInteger, Truth, AnEvent, constant_is, kind_fits, value_is, has_64_bits, int_eq, pos, negsuc, Any, accepts, accepts_value, is_boolean, is_same, kind_at, kind_in, memory_at, memory_in, ImageMemory, ImageSignal, or_cases}
use mir.Val.{SFits}

pub fits_64 : (v : ℤ) → has_64_bits v ≡ true → SFits w64 v
fits_64 (pos n) e = record { sfits = ltb-true _ _ e }
fits_64 (negsuc n) e = record { sfits = ltb-true _ _ e }

is_small : (v w : ℤ) → SFits w64 w → int_eq v w ≡ true → SFits w64 v
is_small v w fits e = subst (SFits w64) (sym ((Decides-int_eq v w).0 e)) fits

zero_fits : SFits w64 (pos 0)
zero_fits = record { sfits = omega arith }

one_fits : SFits w64 (pos 1)
one_fits = record { sfits = omega arith }

truth_fits : (v : ℤ) → (int_eq v (pos 0) || int_eq v (pos 1)) ≡ true → SFits w64 v
truth_fits v e = elim (or_cases (int_eq v (pos 0)) (int_eq v (pos 1)) e) [ inl h ↦ is_small v (pos 0) zero_fits h | inr h ↦ is_small v (pos 1) one_fits h ]

pub value_fits : (kind : Kind) (v : ℤ) → value_is kind v ≡ true → SFits w64 v
value_fits Integer v e = fits_64 v e
value_fits Boolean v e = truth_fits v e
value_fits Event v e = is_small v (pos 1) one_fits e

pub constant_fits : (sort : Sort) (v : ℤ) → constant_is sort v ≡ true → SFits w64 v
constant_fits AnInteger v e = fits_64 v e
constant_fits Truth v e = truth_fits v e
constant_fits AnEvent v e = is_small v (pos 1) one_fits e
constant_fits Any v e = fits_64 v e

pub accepted_value : (kind : Option Kind) (v : ℤ) → accepts_value kind v ≡ true → SFits w64 v
accepted_value None v e = absurd cc
accepted_value (Some kind) v e = value_fits kind v e

-- ---- what is there has a number below the count

here_below : {A B : Type 0} (f : Option A → Option B) (xs : List A) (x : ℕ) → f None ≡ None → (f (slice_get xs x) ≡ None → ⊥) → x < length xs
here_below f xs x none some =
    elim (cases_lt x (length xs)) [
      | inl lt ↦ lt
      | inr le ↦ absurd (some (ap f (slice_get_past xs x le) ∙ none))
    ]

pub signal_below : (signals : List ImageSignal) (x : ℕ) → (kind_at signals x ≡ None → ⊥) → x < length signals
signal_below signals x some = here_below kind_in signals x refl some

pub memory_below : (memories : List ImageMemory) (m : ℕ) → (memory_at memories m ≡ None → ⊥) → m < length memories
memory_below memories m some = here_below memory_in memories m refl some

none_fits : (sort : Sort) (kind : Option Kind) → kind_fits sort kind ≡ true → kind ≡ None → ⊥
none_fits sort None e h = absurd cc
none_fits sort (Some kind) e h = absurd cc

pub fitting_below : (signals : List ImageSignal) (sort : Sort) (x : ℕ) → kind_fits sort (kind_at signals x) ≡ true → x < length signals
fitting_below signals sort x e = signal_below signals x (none_fits sort (kind_at signals x) e)

none_boolean : (kind : Option Kind) → is_boolean kind ≡ true → kind ≡ None → ⊥
none_boolean None e h = absurd cc
none_boolean (Some kind) e h = absurd cc

pub boolean_below : (signals : List ImageSignal) (x : ℕ) → is_boolean (kind_at signals x) ≡ true → x < length signals
boolean_below signals x e = signal_below signals x (none_boolean (kind_at signals x) e)

pub none_accepts : (target source : Option Kind) → accepts target source ≡ true → (target ≡ None → ⊥) × (source ≡ None → ⊥)
none_accepts None source e = absurd cc
none_accepts (Some kind) None e = absurd cc
none_accepts (Some kind) (Some other) e = ((λ h. absurd cc), (λ h. absurd cc))

pub none_same : (kind other : Option Kind) → is_same kind other ≡ true → (kind ≡ None → ⊥) × (other ≡ None → ⊥)
none_same None other e = absurd cc
none_same (Some kind) None e = absurd cc
none_same (Some kind) (Some other) e = ((λ h. absurd cc), (λ h. absurd cc))

pub none_value : (kind : Option Kind) (v : ℤ) → accepts_value kind v ≡ true → kind ≡ None → ⊥
none_value None v e h = absurd cc
none_value (Some kind) v e h = absurd cc
