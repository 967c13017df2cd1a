-- Lemmas on traces.
use Rattle.std.proofs.Common.{◌≡◌, ◌≤◌, ◌+◌, ◌++◌, ◌⊎◌, ◌↔◌, inl, inr, ℕ, zero, suc, ℤ, pos, negsuc, Bool, true, false, List, [], ◌∷◌, length, refl, ap, sym, subst, ◌∙◌, arith, append_assoc}
use Rattle.std.specs.Prelude.{None, Some, option_to_list, slice_index_or}
use Rattle.std.proofs.lemmas.Bool.{lt-ltb, ltb-true}
use Rattle.std.proofs.lemmas.List.{length-append, append-nil}
use Rattle.sig_base.specs.Traces.{Trace, Instant, Bounded, Fits, IsInteger, is_silent, seen_at, flow_of, has_64_bits, NoneSilent, reduce, IsPrefixOf, IsLongest}

one_more : (instant : Instant) (t : Trace) (silent : Bool) → is_silent instant ≡ silent → NoneSilent (reduce t) → NoneSilent (reduce (instant ∷ t))
one_more instant t true is none = rw is none
one_more instant t false is none = rw is (is, none)

pub speaks : (t : Trace) → NoneSilent (reduce t)
speaks [] = tt
speaks (instant ∷ t) = one_more instant t (is_silent instant) refl (speaks t)

pub reduced : (t : Trace) → NoneSilent t → reduce t ≡ t
reduced [] none = refl
reduced (instant ∷ t) none = rw none.0 (ap (λ rest. instant ∷ rest) (reduced t none.1))

nothing : {A : Type 0} (xs : List A) → length xs ≤ 0 → xs ≡ []
nothing [] le = refl
nothing (x ∷ xs) le = absurd (omega (arith, le))

pub same_by_prefixes : {A : Type 0} (t u : List A) → IsPrefixOf t u → IsPrefixOf u t → t ≡ u
same_by_prefixes {A} t u p q =
    let longer : length u ≡ length t + length p.0 = ap length p.1 ∙ length-append t p.0 in
    let shorter : length t ≡ length u + length q.0 = ap length q.1 ∙ length-append u q.0 in
    let none : q.0 ≡ [] = nothing q.0 (omega (arith, longer, shorter)) in
    q.1 ∙ ap (λ back. u ++ back) none ∙ append-nil u

-- there is at most one longest trace
pub one_longest : (IsTrace : Trace → Type 0) (flows : List (List ℤ)) (limit : ℕ) (t u : Trace) → IsLongest IsTrace flows limit t → IsLongest IsTrace flows limit u → t ≡ u
one_longest IsTrace flows limit t u a b = same_by_prefixes t u (within a b) (within b a) where
  within : {t u : Trace} → IsLongest IsTrace flows limit t → IsLongest IsTrace flows limit u → IsPrefixOf t u
  within {t} {u} a b = subst (λ s. IsPrefixOf s u) (reduced t a.speaks) (b.longest t a.is a.fits (subst (λ s. length s ≤ limit) (sym (reduced t a.speaks)) a.within))

pub flow_append : (signal : ℕ) (t u : Trace) → flow_of signal (t ++ u) ≡ flow_of signal t ++ flow_of signal u
flow_append signal [] u = refl
flow_append signal (instant ∷ t) u =
    ap (λ rest. option_to_list (seen_at instant signal) ++ rest) (flow_append signal t u) ∙ sym (append_assoc (option_to_list (seen_at instant signal)) (flow_of signal t) (flow_of signal u))

pub silent_at : (instant : Instant) (signal : ℕ) → is_silent instant ≡ true → seen_at instant signal ≡ None
silent_at [] signal silent = refl
silent_at (None ∷ instant) zero silent = refl
silent_at (None ∷ instant) (suc signal) silent = silent_at instant signal silent
silent_at (Some v ∷ instant) signal silent = cc

-- silent instants give no values
pub flow_reduced : (signal : ℕ) (t : Trace) → flow_of signal (reduce t) ≡ flow_of signal t
flow_reduced signal [] = refl
flow_reduced signal (instant ∷ t) = one (is_silent instant) refl (flow_reduced signal t) where
  one : (silent : Bool) → is_silent instant ≡ silent → flow_of signal (reduce t) ≡ flow_of signal t → flow_of signal (reduce (instant ∷ t)) ≡ flow_of signal (instant ∷ t)
  one true is rest = rw is (rest ∙ sym (ap (λ seen. option_to_list seen ++ flow_of signal t) (silent_at instant signal is)))
  one false is rest = rw is (ap (λ flow. option_to_list (seen_at instant signal) ++ flow) rest)

pub fits_reduced : (flows : List (List ℤ)) (t : Trace) → Fits flows (reduce t) ↔ Fits flows t
fits_reduced flows t = (
  (λ fits input lt. subst (λ flow. IsPrefixOf flow (slice_index_or flows input [])) (flow_reduced input t) (fits input lt)),
  (λ fits input lt. subst (λ flow. IsPrefixOf flow (slice_index_or flows input [])) (sym (flow_reduced input t)) (fits input lt)),
)

-- the order of beginnings
pub prefix_of_prefix : {A : Type 0} (s t u : List A) → IsPrefixOf s t → IsPrefixOf t u → IsPrefixOf s u
prefix_of_prefix s t u a b = (a.0 ++ b.0, b.1 ∙ ap (λ front. front ++ b.0) a.1 ∙ append_assoc s a.0 b.0)

pub one_begins_the_other : {A : Type 0} (s t u : List A) → IsPrefixOf s u → IsPrefixOf t u → IsPrefixOf s t ⊎ IsPrefixOf t s
one_begins_the_other [] t u a b = inl (t, refl)
one_begins_the_other (x ∷ s) [] u a b = inr (x ∷ s, refl)
one_begins_the_other (x ∷ s) (y ∷ t) u a b =
    let same : x ∷ (s ++ a.0) ≡ y ∷ (t ++ b.0) = sym a.1 ∙ b.1 in
    let parts = cons_same same in
    more parts.0 (one_begins_the_other s t (t ++ b.0) (a.0, sym parts.1) (b.0, refl)) where
      cons_same : {A : Type 0} {x y : A} {xs ys : List A} → x ∷ xs ≡ y ∷ ys → (x ≡ y) × (xs ≡ ys)
      cons_same {A} {x} {y} {xs} {ys} e = (ap (first x) e, ap rest e) where
        first : A → List A → A
        first d [] = d
        first d (z ∷ zs) = z

        rest : List A → List A
        rest [] = []
        rest (z ∷ zs) = zs

      more : x ≡ y → IsPrefixOf s t ⊎ IsPrefixOf t s → IsPrefixOf (x ∷ s) (y ∷ t) ⊎ IsPrefixOf (y ∷ t) (x ∷ s)
      more e (inl c) = inl (c.0, rw (← e) (ap (λ list. x ∷ list) c.1))
      more e (inr c) = inr (c.0, rw e (ap (λ list. y ∷ list) c.1))

pub prefix_length : {A : Type 0} (s t : List A) → IsPrefixOf s t → length s ≤ length t
prefix_length s t a = let is : length t ≡ length s + length a.0 = ap length a.1 ∙ length-append s a.0 in omega (arith, is)

pub prefix_fits : (flows : List (List ℤ)) (s t : Trace) → IsPrefixOf s t → Fits flows t → Fits flows s
prefix_fits flows s t a fits input lt =
    prefix_of_prefix (flow_of input s) (flow_of input t) (slice_index_or flows input [])
    (flow_of input a.0, ap (λ trace. flow_of input trace) a.1 ∙ flow_append input s a.0) (fits input lt)

pub prefix_speaks : (s t : Trace) → IsPrefixOf s t → NoneSilent t → NoneSilent s
prefix_speaks s t a all = front s a.0 (subst NoneSilent a.1 all) where
  front : (s more : Trace) → NoneSilent (s ++ more) → NoneSilent s
  front [] more all = tt
  front (instant ∷ s) more all = (all.0, front s more all.1)

-- a test for integers of 64 bits
pub fits_by_test : (v : ℤ) → (has_64_bits v ≡ true) ↔ IsInteger Bounded v
fits_by_test (pos n) = ((λ e. record { sfits = ltb-true _ _ e }), (λ h. lt-ltb _ _ h.sfits))
fits_by_test (negsuc n) = ((λ e. record { sfits = ltb-true _ _ e }), (λ h. lt-ltb _ _ h.sfits))
