-- Inputs by their names.
use Rattle.sig_flow.proofs.Common.{Bool, true, Option, cond, ap, cases_eq, ArePlaces, IsInput, ◌+◌, ◌≡◌, ◌≢◌, ◌<◌, ℕ, zero, suc, List, [], ◌∷◌, length, get_or, map, None, Some, false, bytes_eq, sym, refl, ◌∙◌, ⊎_elim, arith, cases_order, not_from_Decides, get_or-map, length-map, apart_from_distinct, bytes_eq-Decides, IsDistinct, Signal, Integer, kind_named, other_bytes}

-- some signal, for the places past the end of a list
pub nobody : Signal
nobody = record { name = []; kind = Integer; cluster = 0; at = record { line = 0; col = 0 } }

-- no input has the name
pub kind_absent : (inputs : List Signal) (name : List ℕ) → ((k : ℕ) (d : Signal) → k < length inputs → (get_or inputs k d).name ≡ name → ⊥) → kind_named inputs name ≡ None
kind_absent [] name none = refl
kind_absent (input ∷ inputs) name none =
    rw (other_bytes input.name name (none 0 input (omega arith))) (kind_absent inputs name (λ k d lt. none (suc k) d (omega arith)))

-- the first input of the name
pub kind_at : (inputs : List Signal) (name : List ℕ) (i : ℕ) (d : Signal) → i < length inputs → ((k : ℕ) (e : Signal) → k < i → (get_or inputs k e).name ≡ name → ⊥) → (get_or inputs i d).name ≡ name → kind_named inputs name ≡ Some (get_or inputs i d).kind
kind_at [] name i d lt none is = absurd (omega arith)
kind_at (input ∷ inputs) name zero d lt none is = rw ((bytes_eq-Decides input.name name).1 is) refl
kind_at (input ∷ inputs) name (suc i) d lt none is =
    rw (other_bytes input.name name (none 0 d (omega arith))) (kind_at inputs name i d (omega arith) (λ k e below. none (suc k) e (omega arith)) is)

-- two inputs have different names
pub names_differ : (inputs : List Signal) (i k : ℕ) (d : Signal) → IsDistinct bytes_eq (map (λ input. input.name) inputs) → i < length inputs → k < length inputs → k ≢ i → (get_or inputs i d).name ≢ (get_or inputs k d).name
names_differ inputs i k d distinct lt_i lt_k ne =
    let names = map (λ (input : Signal). input.name) inputs in
    let size = length-map inputs (λ (input : Signal). input.name) in
    let at_i = get_or-map (λ (input : Signal). input.name) inputs i d [] lt_i in
    let at_k = get_or-map (λ (input : Signal). input.name) inputs k d [] lt_k in
    ⊎_elim
    (λ e. absurd (ne e))
    (⊎_elim
    (λ lt. λ same. not_from_Decides _ (bytes_eq-Decides _ _) (apart_from_distinct bytes_eq names k i [] distinct lt (omega arith)) (at_k ∙ sym same ∙ sym at_i))
    (λ lt. λ same. not_from_Decides _ (bytes_eq-Decides _ _) (apart_from_distinct bytes_eq names i k [] distinct lt (omega arith)) (at_i ∙ same ∙ sym at_k)))
    (cases_order k i)

-- places with those of one more input
module _ (inputs : List Signal) (n : ℕ) (place now : List ℕ → Option ℕ) (name : List ℕ) (distinct : IsDistinct bytes_eq (map (λ input. input.name) inputs)) (lt : n < length inputs)
    (named : (d : Signal) → (get_or inputs n d).name ≡ name) (updates : (q : List ℕ) → now q ≡ cond (bytes_eq name q) (Some n) (place q)) (before : ArePlaces inputs n place) where
  more_sound : (q : List ℕ) (i : ℕ) → now q ≡ Some i → (b : Bool) → bytes_eq name q ≡ b → (i < n + 1) × ((d : Signal) → (get_or inputs i d).name ≡ q)
  more_sound q i found true here =
      let same : Some n ≡ Some i = sym (updates q ∙ ap (λ b. cond b (Some n) (place q)) here) ∙ found in
      let e : n ≡ i = cc in
      (omega (arith, e), λ d. ap (λ k. (get_or inputs k d).name) (sym e) ∙ named d ∙ (bytes_eq-Decides name q).0 here)
  more_sound q i found false here =
      let was = before.sound q i (sym (updates q ∙ ap (λ b. cond b (Some n) (place q)) here) ∙ found) in
      (omega (arith, was.0), was.1)

  more_all : (i : ℕ) (d : Signal) → i < n + 1 → now (get_or inputs i d).name ≡ Some i
  more_all i d less =
      let q = (get_or inputs i d).name in
      ⊎_elim
      (λ e. updates q ∙ ap (λ b. cond b (Some n) (place q)) ((bytes_eq-Decides name q).1 (sym (named d) ∙ ap (λ k. (get_or inputs k d).name) (sym e))) ∙ ap Some (sym e))
      (λ ne. updates q ∙ ap (λ b. cond b (Some n) (place q)) (other_bytes name q (λ same. names_differ inputs n i d distinct lt (omega (arith, less, lt)) ne (named d ∙ same))) ∙ before.all i d (omega (arith, less, ne)))
      (cases_eq i n)

  pub places_more : ArePlaces inputs (n + 1) now
  places_more = record { sound = λ q i found. more_sound q i found (bytes_eq name q) refl; all = more_all }

-- the input at the place of a name, and none where the name has no place
module _ (inputs : List Signal) (place : List ℕ → Option ℕ) (places : ArePlaces inputs (length inputs) place) (q : List ℕ) where
  pub place_input : (i : ℕ) → place q ≡ Some i → IsInput inputs q i
  place_input i found =
      let at = places.sound q i found in
      record {
        within = at.0;
        same = at.1;
        kind = λ d. kind_at inputs q i d at.0
            (λ k e below same.
            let lt = at.0 in
            let both : Some k ≡ Some i = sym (places.all k e (omega (arith, below, lt))) ∙ (ap place same ∙ found) in
            let one : k ≡ i = cc in omega (arith, one, below))
            (at.1 d);
      }

  pub place_none : place q ≡ None → kind_named inputs q ≡ None
  place_none none = kind_absent inputs q (λ k d lt same. let both : Some k ≡ None = sym (places.all k d lt) ∙ (ap place same ∙ none) in cc)
