-- The names of a header, and the places at which signals are named.
use Rattle.sig_judge.proofs.Common.{◌≡◌, ◌≢◌, ◌<◌, ◌+◌, ◌++◌, ◌&&◌, ℕ, Bool, true, false, cond, not, List, [], ◌∷◌, length, map, get_or, set, Option, None, Some, bytes_eq, is_some, unwrap_or, refl, sym, ap, ◌∙◌, subst, arith, ⊎_elim, append_assoc, cases_Bool, cases_eq, ne_eqb, eq-eqb, false≢true, get_or_default, get_or-set_same, get_or-set_other, ext_get_or, length-map, length-set, map-append, append-nil, list_all-append, list_all_at, sum_by-append, sum_by-cons, list_all-from_AllPass, bytes_eq-Decides, IsDistinct, count_by, list_all, position_or_len, Kind, Integer, Signal, kind_named, Word, words_from, words_of, names_differ, nobody, IsPlace, Named, are_names, column_of, is_header, is_named_once, kinds_named, texts_of, other_bytes}
use Rattle.std.proofs.lemmas.List.{get_or-map}

module _ {X : Type 0} (p : X → Bool) where
  -- how many pass, with one more in front
  counted_first : (x : X) (xs : List X) (b : Bool) → p x ≡ b → count_by p (x ∷ xs) ≡ cond b 1 0 + count_by p xs
  counted_first x xs b is = sum_by-cons (λ y. cond (p y) 1 0) x xs ∙ ap (λ t. cond t 1 0 + count_by p xs) is

  placed_first : (x : X) (xs : List X) (b : Bool) → p x ≡ b → position_or_len p (x ∷ xs) ≡ cond (not b) (1 + position_or_len p xs) 0
  placed_first x xs b is = ap (λ t. cond (not t) (1 + position_or_len p xs) 0) is

  -- and with one more at the end
  pub counted_last : (xs : List X) (y : X) (b : Bool) → p y ≡ b → count_by p (xs ++ y ∷ []) ≡ count_by p xs + cond b 1 0
  counted_last xs y b is =
      let one : count_by p (y ∷ []) ≡ cond b 1 0 + 0 = counted_first y [] b is in
      let both : count_by p (xs ++ y ∷ []) ≡ count_by p xs + count_by p (y ∷ []) = sum_by-append (λ z. cond (p z) 1 0) xs (y ∷ []) in
      omega (arith, one, both)

  -- the first that passes stands behind those that do not
  pub placed_last : (xs : List X) (y : X) → count_by p xs ≡ 0 → p y ≡ true → position_or_len p (xs ++ y ∷ []) ≡ length xs
  placed_last [] y none is = placed_first y [] true is
  placed_last (x ∷ xs) y none is = ⊎_elim
      (λ passes. absurd (let some : count_by p (x ∷ xs) ≡ 1 + count_by p xs = counted_first x xs true passes in omega (arith, some)))
      (λ fails.
      let rest : count_by p (x ∷ xs) ≡ 0 + count_by p xs = counted_first x xs false fails in
      let at : position_or_len p (xs ++ y ∷ []) ≡ length xs = placed_last xs y (omega (arith, rest)) is in
      let step : position_or_len p (x ∷ (xs ++ y ∷ [])) ≡ 1 + position_or_len p (xs ++ y ∷ []) = placed_first x (xs ++ y ∷ []) false fails in
      omega (arith, at, step))
      (cases_Bool (p x))

  -- and before what comes behind it
  pub placed_before : (xs : List X) (y : X) → 0 < count_by p xs → position_or_len p (xs ++ y ∷ []) ≡ position_or_len p xs
  placed_before [] y some = absurd (omega arith)
  placed_before (x ∷ xs) y some = ⊎_elim
      (λ passes. placed_first x (xs ++ y ∷ []) true passes ∙ sym (placed_first x xs true passes))
      (λ fails.
      let rest : count_by p (x ∷ xs) ≡ 0 + count_by p xs = counted_first x xs false fails in
      let at : position_or_len p (xs ++ y ∷ []) ≡ position_or_len p xs = placed_before xs y (omega (arith, rest)) in
      let step : position_or_len p (x ∷ (xs ++ y ∷ [])) ≡ 1 + position_or_len p (xs ++ y ∷ []) = placed_first x (xs ++ y ∷ []) false fails in
      let was : position_or_len p (x ∷ xs) ≡ 1 + position_or_len p xs = placed_first x xs false fails in
      omega (arith, at, step, was))
      (cases_Bool (p x))

  -- one that passes stands within
  pub placed_within : (xs : List X) → 0 < count_by p xs → position_or_len p xs < length xs
  placed_within [] some = absurd (omega arith)
  placed_within (x ∷ xs) some = ⊎_elim
      (λ passes. let at : position_or_len p (x ∷ xs) ≡ 0 = placed_first x xs true passes in omega (arith, at))
      (λ fails.
      let rest : count_by p (x ∷ xs) ≡ 0 + count_by p xs = counted_first x xs false fails in
      let at : position_or_len p (x ∷ xs) ≡ 1 + position_or_len p xs = placed_first x xs false fails in
      let within : position_or_len p xs < length xs = placed_within xs (omega (arith, rest)) in
      omega (arith, at, within))
      (cases_Bool (p x))

-- a place, with one more name behind
place_kept : (names : List (List ℕ)) (name last : List ℕ) (place : Option ℕ) → bytes_eq name last ≡ false → IsPlace names name place → IsPlace (names ++ last ∷ []) name place
place_kept names name last None other is =
    let count : count_by (bytes_eq name) (names ++ last ∷ []) ≡ count_by (bytes_eq name) names + 0 = counted_last (bytes_eq name) names last false other in
    omega (arith, count, is)
place_kept names name last (Some place) other is =
    let count : count_by (bytes_eq name) (names ++ last ∷ []) ≡ count_by (bytes_eq name) names + 0 = counted_last (bytes_eq name) names last false other in
    let one : count_by (bytes_eq name) names ≡ 1 = is.0 in
    (omega (arith, count, one), placed_before (bytes_eq name) names last (omega (arith, one)) ∙ is.1)

place_made : (names : List (List ℕ)) (name last : List ℕ) → bytes_eq name last ≡ true → IsPlace names name None → IsPlace (names ++ last ∷ []) name (Some (length names))
place_made names name last same none =
    let count : count_by (bytes_eq name) (names ++ last ∷ []) ≡ count_by (bytes_eq name) names + 1 = counted_last (bytes_eq name) names last true same in
    (omega (arith, count, none), placed_last (bytes_eq name) names last none same)

pub nothing_there : (o : Option ℕ) → is_some o ≡ false → o ≡ None
nothing_there None none = refl
nothing_there (Some n) none = absurd (false≢true (sym none))

-- the texts of words, with one more
texts_last : (done : List Word) (word : Word) → texts_of (done ++ word ∷ []) ≡ texts_of done ++ word.text ∷ []
texts_last done word = map-append (λ (w : Word). w.text) done (word ∷ [])

module _ (signals : List Signal) (differ : IsDistinct bytes_eq (map (λ signal. signal.name) signals)) where
  -- the places of all signals, when the one that is named had none
  pub places_with : (names : List (List ℕ)) (places : List (Option ℕ)) (i n : ℕ) (e : Signal) (text : List ℕ) → length places ≡ length signals → i < length signals → (get_or signals i e).name ≡ text → get_or places i None ≡ None → n ≡ length names
      → ((k : ℕ) (d : Signal) → k < length signals → IsPlace names (get_or signals k d).name (get_or places k None))
      → (k : ℕ) (d : Signal) → k < length signals → IsPlace (names ++ text ∷ []) (get_or signals k d).name (get_or (set places i (Some n)) k None)
  places_with names places i n e text size lt named none is are k d lt_k =
      let at_i : get_or signals i e ≡ get_or signals i d = get_or_default signals i e d lt in
      let own : (get_or signals i d).name ≡ text = ap (λ (s : Signal). s.name) (sym at_i) ∙ named in
      ⊎_elim
      (λ (same : k ≡ i).
      let was : IsPlace names (get_or signals k d).name None = subst (λ o. IsPlace names (get_or signals k d).name o) (ap (λ j. get_or places j None) same ∙ none) (are k d lt_k) in
      let text_is : (get_or signals k d).name ≡ text = ap (λ j. (get_or signals j d).name) same ∙ own in
      let now : get_or (set places i (Some n)) k None ≡ Some (length names) = ap (λ j. get_or (set places i (Some n)) j None) same ∙ get_or-set_same places i (Some n) None (omega arith) ∙ ap Some is in
      subst (λ o. IsPlace (names ++ text ∷ []) (get_or signals k d).name o) (sym now) (place_made names (get_or signals k d).name text ((bytes_eq-Decides (get_or signals k d).name text).1 text_is) was))
      (λ (other : k ≢ i).
      let apart : (get_or signals k d).name ≢ text = λ (same : (get_or signals k d).name ≡ text). names_differ signals i k d differ lt lt_k other (own ∙ sym same) in
      subst (λ o. IsPlace (names ++ text ∷ []) (get_or signals k d).name o) (sym (get_or-set_other places i k (Some n) None other))
      (place_kept names (get_or signals k d).name text (get_or places k None) (other_bytes (get_or signals k d).name text apart) (are k d lt_k)))
      (cases_eq k i)

-- the words behind a word that was taken
split_on : (done all : List Word) (word : Word) (behind from : List Word) → all ≡ done ++ from → from ≡ word ∷ behind → all ≡ (done ++ word ∷ []) ++ behind
split_on done all word behind from split are = split ∙ ap (λ (ws : List Word). done ++ ws) are ∙ sym (append_assoc done (word ∷ []) behind)

-- one more word names a signal that was not named
pub named_on : (signals : List Signal) (differ : IsDistinct bytes_eq (map (λ signal. signal.name) signals)) (line : List ℕ) (kinds : List Kind) (places : List (Option ℕ)) (col : ℕ) (rest : List ℕ) (named : Named signals line kinds places col rest)
    (i n : ℕ) (e : Signal) (word : Word) (new_col : ℕ) (after : List ℕ) → words_from col rest ≡ word ∷ words_from new_col after → i < length signals → (get_or signals i e).name ≡ word.text → kind_named signals word.text ≡ Some (get_or signals i e).kind → get_or places i None ≡ None → n ≡ length kinds
    → Named signals line (kinds ++ (get_or signals i e).kind ∷ []) (set places i (Some n)) new_col after
named_on signals differ line kinds places col rest named i n e word new_col after are lt is kind none count =
    let texts : texts_of (named.done ++ word ∷ []) ≡ texts_of named.done ++ word.text ∷ [] = texts_last named.done word in
    let size : length kinds ≡ length (texts_of named.done) = ap length named.kinds_are ∙ length-map (texts_of named.done) (λ word. unwrap_or (kind_named signals word) Integer) in
    record {
      done = named.done ++ word ∷ [];
      split = split_on named.done (words_of line) word (words_from new_col after) (words_from col rest) named.split are;
      known = ap (are_names signals) texts ∙ list_all-append (λ word. is_some (kind_named signals word)) (texts_of named.done) (word.text ∷ []) ∙ rw (named.known, kind) refl;
      kinds_are = sym (ap (kinds_named signals) texts ∙ map-append (λ word. unwrap_or (kind_named signals word) Integer) (texts_of named.done) (word.text ∷ []) ∙ rw (sym named.kinds_are, kind) refl);
      same_length = length-set places i (Some n) ∙ named.same_length;
      places_are = λ k d lt_k. subst (λ ts. IsPlace ts (get_or signals k d).name (get_or (set places i (Some n)) k None)) (sym texts) (places_with signals differ (texts_of named.done) places i n e word.text named.same_length lt is none (count ∙ size) named.places_are k d lt_k);
    }

module _ (signals : List Signal) (names : List (List ℕ)) where
  not_both : (a b : Bool) → b ≡ false → (a && b) ≡ false
  not_both false b other = refl
  not_both true b other = other

  -- a signal that is not named exactly once
  badly_named : (k : ℕ) → k < length signals → count_by (bytes_eq (get_or signals k nobody).name) names ≢ 1 → is_header signals names ≡ false
  badly_named k lt other =
      not_both (are_names signals names) (list_all (λ signal. is_named_once names signal.name) signals) (list_all_at (λ signal. is_named_once names signal.name) signals k nobody lt (ne_eqb (count_by (bytes_eq (get_or signals k nobody).name) names) 1 other))

  -- each signal that is named exactly once
  well_named : are_names signals names ≡ true → ((k : ℕ) (d : Signal) → k < length signals → count_by (bytes_eq (get_or signals k d).name) names ≡ 1) → is_header signals names ≡ true
  well_named known once =
      rw (known, list_all-from_AllPass (λ signal. is_named_once names signal.name) signals (λ k d lt. eq-eqb (count_by (bytes_eq (get_or signals k d).name) names) 1 (once k d lt))) refl

module _ (signals : List Signal) (line : List ℕ) (kinds : List Kind) (places : List (Option ℕ)) (col : ℕ) (rest : List ℕ) (named : Named signals line kinds places col rest) where
  -- all names, where one is next
  texts_with : (word : Word) (behind : List Word) → words_from col rest ≡ word ∷ behind → texts_of (words_of line) ≡ texts_of named.done ++ word.text ∷ texts_of behind
  texts_with word behind are =
      ap texts_of (named.split ∙ ap (λ (ws : List Word). named.done ++ ws) are) ∙ map-append (λ (w : Word). w.text) named.done (word ∷ behind)

  -- a signal that was named before
  named_before : (i : ℕ) (e : Signal) (word : Word) (behind : List Word) (o : Option ℕ) → words_from col rest ≡ word ∷ behind → i < length signals → (get_or signals i e).name ≡ word.text → get_or places i None ≡ o → is_some o ≡ true → is_header signals (texts_of (words_of line)) ≡ false
  named_before i e word behind None are lt is at some = absurd (false≢true some)
  named_before i e word behind (Some place) are lt is at some =
      let name : List ℕ = (get_or signals i nobody).name in
      let own : name ≡ word.text = ap (λ (s : Signal). s.name) (get_or_default signals i nobody e lt) ∙ is in
      let first : count_by (bytes_eq name) (texts_of named.done) ≡ 1 = (subst (λ o. IsPlace (texts_of named.done) name o) at (named.places_are i nobody lt)).0 in
      let next : count_by (bytes_eq name) (word.text ∷ texts_of behind) ≡ 1 + count_by (bytes_eq name) (texts_of behind) = counted_first (bytes_eq name) word.text (texts_of behind) true ((bytes_eq-Decides name word.text).1 own) in
      let whole : count_by (bytes_eq name) (texts_of (words_of line)) ≡ count_by (bytes_eq name) (texts_of named.done) + count_by (bytes_eq name) (word.text ∷ texts_of behind) = ap (count_by (bytes_eq name)) (texts_with word behind are) ∙ sum_by-append (λ z. cond (bytes_eq name z) 1 0) (texts_of named.done) (word.text ∷ texts_of behind) in
      badly_named signals (texts_of (words_of line)) i lt (λ one. omega (arith, first, next, whole))

  pub twice_named : (i : ℕ) (e : Signal) (word : Word) (behind : List Word) → words_from col rest ≡ word ∷ behind → i < length signals → (get_or signals i e).name ≡ word.text → is_some (get_or places i None) ≡ true → is_header signals (texts_of (words_of line)) ≡ false
  twice_named i e word behind are lt is some = named_before i e word behind (get_or places i None) are lt is refl some

  -- all names, where none is left
  texts_all : words_from col rest ≡ [] → texts_of (words_of line) ≡ texts_of named.done
  texts_all none = ap texts_of (named.split ∙ ap (λ (ws : List Word). named.done ++ ws) none ∙ append-nil named.done)

  -- a signal that is not named
  pub not_named : (k : ℕ) → words_from col rest ≡ [] → k < length places → get_or places k None ≡ None → is_header signals (texts_of (words_of line)) ≡ false
  not_named k none lt at =
      let zero_times : count_by (bytes_eq (get_or signals k nobody).name) (texts_of named.done) ≡ 0 = subst (λ o. IsPlace (texts_of named.done) (get_or signals k nobody).name o) at (named.places_are k nobody (omega (arith, named.same_length))) in
      badly_named signals (texts_of (words_of line)) k (omega (arith, named.same_length)) (λ one. omega (arith, zero_times, one, ap (count_by (bytes_eq (get_or signals k nobody).name)) (texts_all none)))

  module _ (columns : List ℕ) (none : words_from col rest ≡ []) (all : map Some columns ≡ places) where
    sizes : length columns ≡ length signals
    sizes = sym (length-map columns Some) ∙ ap length all ∙ named.same_length

    place_at : (k : ℕ) (d : Signal) → k < length signals → IsPlace (texts_of named.done) (get_or signals k d).name (Some (get_or columns k 0))
    place_at k d lt =
        let at : get_or places k None ≡ Some (get_or columns k 0) = ap (λ ps. get_or ps k None) (sym all) ∙ get_or-map Some columns k 0 None (omega (arith, sizes)) in
        subst (λ o. IsPlace (texts_of named.done) (get_or signals k d).name o) at (named.places_are k d lt)

    -- each signal is named exactly once
    pub all_named : is_header signals (texts_of (words_of line)) ≡ true
    all_named = rw (texts_all none) (well_named signals (texts_of named.done) named.known (λ k d lt. (place_at k d lt).0))

    pub kinds_named_all : kinds ≡ kinds_named signals (texts_of (words_of line))
    kinds_named_all = named.kinds_are ∙ ap (kinds_named signals) (sym (texts_all none))

    pub columns_all : columns ≡ map (λ signal. column_of (texts_of (words_of line)) signal.name) signals
    columns_all =
        let column : Signal → ℕ = λ signal. column_of (texts_of (words_of line)) signal.name in
        ext_get_or 0 columns (map column signals) (sizes ∙ sym (length-map signals column))
        (λ k lt. sym (get_or-map column signals k nobody 0 (omega (arith, sizes)) ∙ ap (λ ts. column_of ts (get_or signals k nobody).name) (texts_all none) ∙ (place_at k nobody (omega (arith, sizes))).1))
