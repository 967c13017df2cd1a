-- Items in a row, both ways.
use Rattle.sig_file.proofs.Common.{◌≡◌, ℕ, zero, suc, ◌+◌, ◌<◌, ◌≤◌, List, [], ◌∷◌, ◌++◌, length, Result, Ok, Err, refl, sym, ap, subst, ◌∙◌, append_assoc, append-nil, arith, inl, inr, flat_map, flat_map-cons, length-append, Each, Reading, ◌>>=◌, several}
use Rattle.sig_file.proofs.Fields.{IsBytes, Reads, Takes, Takes-then, bind_err, bind_ok, ok_is, shorter}

module _ {A : Type 0} (item : List A → Reading A) (right : List A → A → Type 0) (spell : A → List ℕ) (limit : ℕ) (each : (before : List A) → length before < limit → Reads (item before) (right before) spell) where
  record Rows (before : List A) (bytes : List ℕ) (n : ℕ) (all : List A) (rest : List ℕ) : Type 0 where
    pub more : List A
    pub is : all ≡ before ++ more
    pub count : length more ≡ n
    pub takes : Takes bytes (flat_map spell more) rest
    pub each_right : Each right before more

  none_left : (before : List A) (bytes : List ℕ) (all : List A) (rest : List ℕ) → IsBytes bytes → ◌≡◌ {A = List A × List ℕ} (before, bytes) (all, rest) → Rows before bytes 0 all rest
  none_left before bytes all rest fits p =
      let left : bytes ≡ rest = ap (λ (y : List A × List ℕ). y.1) p in
      record {
        more = [];
        is = sym (ap (λ (y : List A × List ℕ). y.0) p) ∙ sym (append-nil before);
        count = refl;
        takes = record { parts = left; rest_fits = subst IsBytes left fits };
        each_right = tt;
      }

  one_more : (n : ℕ) (before : List A) (x : A) (bytes middle : List ℕ) (all : List A) (rest : List ℕ) → Takes bytes (spell x) middle → right before x → Rows (before ++ x ∷ []) middle n all rest → Rows before bytes (suc n) all rest
  one_more n before x bytes middle all rest t here more = record {
    more = x ∷ more.more;
    is = more.is ∙ append_assoc before (x ∷ []) more.more;
    count = ap suc more.count;
    takes = rw flat_map-cons (Takes-then bytes (spell x) middle (flat_map spell more.more) rest t more.takes);
    each_right = (here, more.each_right);
  }

  grown : (before : List A) (x : A) (n : ℕ) → length before + suc n ≤ limit → length (before ++ x ∷ []) + n ≤ limit
  grown before x n h = omega (arith, length-append before (x ∷ []))

  several_takes : (n : ℕ) (before : List A) (bytes : List ℕ) (all : List A) (rest : List ℕ) → length before + n ≤ limit → IsBytes bytes → several item n before bytes ≡ Ok (all, rest) → Rows before bytes n all rest
  unfolding several
  several_takes zero before bytes all rest small fits e = none_left before bytes all rest fits (ok_is (before, bytes) (all, rest) e)
  several_takes (suc n) before bytes all rest small fits e =
      let a = bind_ok (item before bytes) (λ x. several item n (before ++ x.0 ∷ []) x.1) (all, rest) e in
      let t = (each before (omega arith)).takes bytes a.0.0 a.0.1 fits a.1 in
      one_more n before a.0.0 bytes a.0.1 all rest t.0 t.1 (several_takes n (before ++ a.0.0 ∷ []) a.0.1 all rest (grown before a.0.0 n small) t.0.rest_fits a.2)

  several_again : (xs before : List A) (rest : List ℕ) → length before + length xs ≤ limit → Each right before xs → several item (length xs) before (flat_map spell xs ++ rest) ≡ Ok (before ++ xs, rest)
  unfolding several
  several_again [] before rest small h = ap (λ (y : List A). Ok (y, rest)) (sym (append-nil before))
  several_again (x ∷ xs) before rest small h =
      let regrouped : flat_map spell (x ∷ xs) ++ rest ≡ spell x ++ (flat_map spell xs ++ rest) = ap (λ (y : List ℕ). y ++ rest) (flat_map-cons spell x xs) ∙ append_assoc (spell x) (flat_map spell xs) rest in
      let first : item before (flat_map spell (x ∷ xs) ++ rest) ≡ Ok (x, flat_map spell xs ++ rest) = ap (item before) regrouped ∙ (each before (omega arith)).again x (flat_map spell xs ++ rest) h.0 in
      ap (λ (r : Result (A × List ℕ) ℕ). r >>= λ y. several item (length xs) (before ++ y.0 ∷ []) y.1) first
      ∙ several_again xs (before ++ x ∷ []) rest (grown before x (length xs) small) h.1
      ∙ ap (λ (y : List A). Ok (y, rest)) (append_assoc before (x ∷ []) xs)

  several_short : (n : ℕ) (before : List A) (bytes : List ℕ) (left : ℕ) → length before + n ≤ limit → IsBytes bytes → several item n before bytes ≡ Err left → left ≤ length bytes
  unfolding several
  several_short zero before bytes left small fits e = absurd cc
  several_short (suc n) before bytes left small fits e =
      elim (bind_err (item before bytes) (λ x. several item n (before ++ x.0 ∷ []) x.1) left e) [
        | inl h ↦ (each before (omega arith)).short bytes left fits h
        | inr h ↦ (
            let t = (each before (omega arith)).takes bytes h.0.0 h.0.1 fits h.1 in
            shorter bytes (spell h.0.0) h.0.1 left t.0 (several_short n (before ++ h.0.0 ∷ []) h.0.1 left (grown before h.0.0 n small) t.0.rest_fits h.2))
      ]

  -- so many items, each right behind those before it
  pub several_reads : (n : ℕ) → n ≤ limit → Reads (several item n []) (λ xs. (length xs ≡ n) × Each right [] xs) (flat_map spell)
  several_reads n small = record {
    takes = λ bytes xs rest fits e. (let r = several_takes n [] bytes xs rest (omega arith) fits e in
        subst (λ (ys : List A). Takes bytes (flat_map spell ys) rest × ((length ys ≡ n) × Each right [] ys)) (sym r.is) (r.takes, (r.count, r.each_right)));
    again = λ xs rest h. subst (λ (k : ℕ). several item k [] (flat_map spell xs ++ rest) ≡ Ok (xs, rest)) h.0 (several_again xs [] rest (omega (arith, h.0)) h.1);
    short = λ bytes left fits e. several_short n [] bytes left (omega arith) fits e;
  }
