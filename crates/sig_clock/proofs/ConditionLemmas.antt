-- Lemmas on the conditions of a kernel.
use Rattle.sig_clock.proofs.Common.{◌≡◌, ◌<◌, ◌+◌, ◌++◌, ℕ, Bool, true, false, cond, List, [], ◌∷◌, length, map, get_or, refl, sym, ap, ◌∙◌, subst, arith, ◌&&◌, ◌||◌, nat_lt, filter, list_any, range_with_len, or-false, take_all, filter-append, get_or-map-range_with_len, length-map-range_with_len, SigId, Signal, kind_at, Kernel, AreFreeBy, added, frees, is_condition, is_free, signal_id, is_boolean_kind, range_from_zero}

pub first_free : (kernel : Kernel) (free : List Bool) (n : ℕ) → free ≡ map (λ number. nat_lt number kernel.inputs) (range_with_len 0 n) → n ≡ length kernel.signals → AreFreeBy kernel 0 free
first_free kernel free n is count = record {
  count = ap length is ∙ length-map-range_with_len (λ number. nat_lt number kernel.inputs) 0 n ∙ count;
  each = λ k lt. ap (λ xs. get_or xs k false) is ∙ get_or-map-range_with_len (λ number. nat_lt number kernel.inputs) 0 n k k false (subst (λ m. k < m) (sym count) lt) (omega arith)
      ∙ sym (or-false (nat_lt k kernel.inputs));
}

-- all equations were seen
pub is_free_at : (kernel : Kernel) (free : List Bool) (k : ℕ) → AreFreeBy kernel (length kernel.equations) free → k < length kernel.signals → get_or free k false ≡ is_free kernel k
is_free_at kernel free k are lt = are.each k lt ∙ ap (λ equations. nat_lt k kernel.inputs || list_any (frees kernel.signals k) equations) (take_all (length kernel.equations) kernel.equations (omega arith))

map_append : (xs ys : List ℕ) → map signal_id (xs ++ ys) ≡ map signal_id xs ++ map signal_id ys
map_append [] ys = refl
map_append (x ∷ xs) ys = ap (λ list. signal_id x ∷ list) (map_append xs ys)

-- one more number is a condition, or is none
pub more_conditions : (p : ℕ → Bool) (n : ℕ) → p n ≡ true
    → map signal_id (filter p (range_with_len 0 n)) ++ signal_id n ∷ [] ≡ map signal_id (filter p (range_with_len 0 (n + 1)))
more_conditions p n passes = sym (ap (λ list. map signal_id (filter p list)) (range_from_zero n) ∙ ap (map signal_id) (filter-append p (range_with_len 0 n) (n ∷ []))
    ∙ map_append (filter p (range_with_len 0 n)) (filter p (n ∷ [])) ∙ ap (λ b. map signal_id (filter p (range_with_len 0 n)) ++ map signal_id (cond b (n ∷ []) [])) passes)

pub no_more_conditions : (p : ℕ → Bool) (n : ℕ) → p n ≡ false
    → map signal_id (filter p (range_with_len 0 n)) ≡ map signal_id (filter p (range_with_len 0 (n + 1)))
no_more_conditions p n fails = sym (ap (λ list. map signal_id (filter p list)) (range_from_zero n) ∙ ap (map signal_id) (filter-append p (range_with_len 0 n) (n ∷ []))
    ∙ map_append (filter p (range_with_len 0 n)) (filter p (n ∷ [])) ∙ ap (λ b. map signal_id (filter p (range_with_len 0 n)) ++ map signal_id (cond b (n ∷ []) [])) fails ∙ ending (map signal_id (filter p (range_with_len 0 n)))) where
      ending : (xs : List SigId) → xs ++ [] ≡ xs
      ending [] = refl
      ending (x ∷ xs) = ap (λ list. x ∷ list) (ending xs)

-- one more number, where it is a condition
pub added_conditions : (p : ℕ → Bool) (n : ℕ) (b : Bool) (old new : List SigId) → p n ≡ b → old ≡ map signal_id (filter p (range_with_len 0 n)) → new ≡ added old n b
    → new ≡ map signal_id (filter p (range_with_len 0 (n + 1)))
added_conditions p n true old new is before after = after ∙ ap (λ list. list ++ signal_id n ∷ []) before ∙ more_conditions p n is
added_conditions p n false old new is before after = after ∙ before ∙ no_more_conditions p n is

-- a number is chosen exactly where it is a condition
pub chosen_is : (kernel : Kernel) (signals : List Signal) (free own : List Bool) (number : ℕ) (b : Bool) → AreFreeBy kernel (length kernel.equations) free → number < length kernel.signals
    → signals ≡ kernel.signals → own ≡ free → b ≡ (is_boolean_kind (kind_at signals (signal_id number)) && get_or own number false) → is_condition kernel number ≡ b
chosen_is kernel signals free own number b are within same_signals same is = sym (is
    ∙ ap (λ list. is_boolean_kind (kind_at list (signal_id number)) && get_or own number false) same_signals
    ∙ ap (λ list. is_boolean_kind (kind_at kernel.signals (signal_id number)) && get_or list number false) same
    ∙ ap (λ t. is_boolean_kind (kind_at kernel.signals (signal_id number)) && t) (is_free_at kernel free number are within))
