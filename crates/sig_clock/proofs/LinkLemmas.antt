-- Lemmas on putting signals into one class.
use Rattle.sig_clock.proofs.Common.{◌≡◌, ◌<◌, ◌≤◌, ◌⊎◌, inl, inr, ℕ, ℤ, Bool, true, false, List, [], ◌∷◌, length, get_or, refl, sym, ap, ◌∙◌, subst, arith, Contains, cond, ◌==◌, and_parts, cases_order, ltb-true, list_all, operand_within, get_or-eq_default, get_or-set_same, get_or-set_other, slice_set, ◌+◌, SigId, Operand, Sig, Const, signals_among, Equivalence, given, itself, turned, joined, AreJoined, Tied, relabel_one, contains_cons, contains_head, contains_later, contains_none, contains_one}

-- an equivalence that contains a relation contains the smallest one that does
pub equivalence_in : {R S : ℕ → ℕ → Type 0} → ((x y : ℕ) → R x y → Equivalence S x y) → (x y : ℕ) → Equivalence R x y → Equivalence S x y
equivalence_in {R} {S} f _ _ (given x y r) = f x y r
equivalence_in {R} {S} f _ _ (itself x) = itself x
equivalence_in {R} {S} f _ _ (turned x y e) = turned x y (equivalence_in f x y e)
equivalence_in {R} {S} f _ _ (joined x y z e g) = joined x y z (equivalence_in f x y e) (equivalence_in f y z g)

relabel_is : (from to number : ℕ) → number ≡ from → relabel_one from to number ≡ to
relabel_is from to number is = grind arith

relabel_stays : (from to number : ℕ) → (number ≡ from → ⊥) → relabel_one from to number ≡ number
relabel_stays from to number differ = grind arith

relabel_lowers : (from to number : ℕ) → to ≤ from → relabel_one from to number ≤ number
relabel_lowers from to number le = grind arith

cond_same : (b : Bool) (x : ℕ) → cond b x x ≡ x
cond_same true x = refl
cond_same false x = refl

relabel_to : (from to : ℕ) → relabel_one from to to ≡ to
relabel_to from to = cond_same (to == from) to

one_of_two : (x y z : ℕ) → Contains (x ∷ y ∷ []) z → (z ≡ x) ⊎ (z ≡ y)
one_of_two x y z there = elim (contains_cons x z (y ∷ []) there) [ inl is ↦ inl is | inr later ↦ inr (elim (contains_cons y z [] later) [ inl is ↦ is | inr none ↦ absurd (contains_none z none) ]) ]

-- two signals are put into one class
pub put_together : (numbers new : List ℕ) (x y from to : ℕ) → x < length numbers → y < length numbers
    → get_or numbers x 0 ≡ from → get_or numbers y 0 ≡ to → to ≤ from → length new ≡ length numbers
    → ((k : ℕ) → k < length numbers → get_or new k 0 ≡ relabel_one from to (get_or numbers k 0)) → AreJoined numbers new (x ∷ y ∷ [])
put_together numbers new x y from to in_x in_y is_x is_y le count each = record {
  count = count;
  keeps = λ s t in_s in_t same. each s in_s ∙ ap (relabel_one from to) same ∙ sym (each t in_t);
  lowers = λ s. lowers s (cases_order s (length numbers));
  one = λ s t in_s in_t. all_to s in_s ∙ sym (all_to t in_t);
  only = λ s in_s. only s in_s (number_of s (cases_order (get_or numbers s 0) from));
} where
  past : (s : ℕ) → length numbers ≤ s → get_or new s 0 ≤ get_or numbers s 0
  past s end = let none : get_or new s 0 ≡ 0 = get_or-eq_default new 0 (omega (arith, end, count)) in omega (arith, none)

  lowers : (s : ℕ) → ((s ≡ length numbers) ⊎ ((s < length numbers) ⊎ (length numbers < s))) → get_or new s 0 ≤ get_or numbers s 0
  lowers s (inl e) = past s (omega (arith, e))
  lowers s (inr (inl less)) = omega (arith, each s less, relabel_lowers from to (get_or numbers s 0) le)
  lowers s (inr (inr more)) = past s (omega (arith, more))

  new_x : get_or new x 0 ≡ to
  new_x = each x in_x ∙ ap (relabel_one from to) is_x ∙ relabel_is from to from refl

  new_y : get_or new y 0 ≡ to
  new_y = each y in_y ∙ ap (relabel_one from to) is_y ∙ relabel_to from to

  all_to : (s : ℕ) → Contains (x ∷ y ∷ []) s → get_or new s 0 ≡ to
  all_to s there = elim (one_of_two x y s there) [ inl is ↦ ap (λ k. get_or new k 0) is ∙ new_x | inr is ↦ ap (λ k. get_or new k 0) is ∙ new_y ]

  number_of : (s : ℕ) → ((get_or numbers s 0 ≡ from) ⊎ ((get_or numbers s 0 < from) ⊎ (from < get_or numbers s 0))) → (get_or numbers s 0 ≡ from) ⊎ (get_or numbers s 0 ≡ from → ⊥)
  number_of s (inl is) = inl is
  number_of s (inr (inl lt)) = inr (λ e. omega arith)
  number_of s (inr (inr lt)) = inr (λ e. omega arith)

  own : (s : ℕ) → s < length numbers → Equivalence (Tied numbers (x ∷ y ∷ [])) s (get_or numbers s 0)
  own s in_s = given s (get_or numbers s 0) (inl (in_s, refl))

  tie : Equivalence (Tied numbers (x ∷ y ∷ [])) x y
  tie = given x y (inr (contains_head x (y ∷ []), contains_later x y (y ∷ []) (contains_head y [])))

  from_to : Equivalence (Tied numbers (x ∷ y ∷ [])) from to
  from_to = subst (λ n. Equivalence (Tied numbers (x ∷ y ∷ [])) n to) is_x (subst (λ n. Equivalence (Tied numbers (x ∷ y ∷ [])) (get_or numbers x 0) n) is_y
      (joined (get_or numbers x 0) x (get_or numbers y 0) (turned x (get_or numbers x 0) (own x in_x)) (joined x y (get_or numbers y 0) tie (own y in_y))))

  only : (s : ℕ) → s < length numbers → ((get_or numbers s 0 ≡ from) ⊎ (get_or numbers s 0 ≡ from → ⊥)) → Equivalence (Tied numbers (x ∷ y ∷ [])) s (get_or new s 0)
  only s in_s (inl is) = subst (λ n. Equivalence (Tied numbers (x ∷ y ∷ [])) s n) (sym (each s in_s ∙ relabel_is from to (get_or numbers s 0) is))
      (joined s from to (subst (λ n. Equivalence (Tied numbers (x ∷ y ∷ [])) s n) is (own s in_s)) from_to)
  only s in_s (inr other) = subst (λ n. Equivalence (Tied numbers (x ∷ y ∷ [])) s n) (sym (each s in_s ∙ relabel_stays from to (get_or numbers s 0) other)) (own s in_s)

-- it does not matter which one is named first
pub turned_round : (old new : List ℕ) (x y : ℕ) → AreJoined old new (x ∷ y ∷ []) → AreJoined old new (y ∷ x ∷ [])
turned_round old new x y are = record {
  count = are.count;
  keeps = are.keeps;
  lowers = are.lowers;
  one = λ s t in_s in_t. are.one s t (turn s in_s) (turn t in_t);
  only = λ s in_s. equivalence_in tied s (get_or new s 0) (are.only s in_s);
} where
  turn : (s : ℕ) → Contains (y ∷ x ∷ []) s → Contains (x ∷ y ∷ []) s
  turn s there = elim (one_of_two y x s there) [ inl is ↦ subst (λ k. Contains (x ∷ y ∷ []) k) (sym is) (contains_later x y (y ∷ []) (contains_head y [])) | inr is ↦ subst (λ k. Contains (x ∷ y ∷ []) k) (sym is) (contains_head x (y ∷ [])) ]

  back : (s : ℕ) → Contains (x ∷ y ∷ []) s → Contains (y ∷ x ∷ []) s
  back s there = elim (one_of_two x y s there) [ inl is ↦ subst (λ k. Contains (y ∷ x ∷ []) k) (sym is) (contains_later y x (x ∷ []) (contains_head x [])) | inr is ↦ subst (λ k. Contains (y ∷ x ∷ []) k) (sym is) (contains_head y (x ∷ [])) ]

  tied : (s t : ℕ) → Tied old (x ∷ y ∷ []) s t → Equivalence (Tied old (y ∷ x ∷ [])) s t
  tied s t (inl own) = given s t (inl own)
  tied s t (inr two) = given s t (inr (back s two.0, back t two.1))

-- no signals, or one alone, are of one class as they are
pub none_joined : (numbers : List ℕ) → AreJoined numbers numbers []
none_joined numbers = record {
  count = refl;
  keeps = λ s t in_s in_t same. same;
  lowers = λ s. omega arith;
  one = λ x y in_x in_y. absurd (contains_none x in_x);
  only = λ s in_s. given s (get_or numbers s 0) (inl (in_s, refl));
}

pub alone_joined : (numbers : List ℕ) (x : ℕ) → AreJoined numbers numbers (x ∷ [])
alone_joined numbers x = record {
  count = refl;
  keeps = λ s t in_s in_t same. same;
  lowers = λ s. omega arith;
  one = λ s t in_s in_t. ap (λ k. get_or numbers k 0) (contains_one x s in_s ∙ sym (contains_one x t in_t));
  only = λ s in_s. given s (get_or numbers s 0) (inl (in_s, refl));
}

-- two signals are put together, and then the first of them with others
pub more_joined : (old mid new : List ℕ) (y x : ℕ) (more : List ℕ) → AreJoined old mid (y ∷ x ∷ []) → AreJoined mid new (y ∷ more)
    → y < length old → x < length old → AreJoined old new (y ∷ x ∷ more)
more_joined old mid new y x more first second in_y in_x = record {
  count = second.count ∙ first.count;
  keeps = λ s t in_s in_t same. second.keeps s t (within s in_s) (within t in_t) (first.keeps s t in_s in_t same);
  lowers = λ s. omega (arith, second.lowers s, first.lowers s);
  one = λ s t in_s in_t. as_y s (split s in_s) ∙ sym (as_y t (split t in_t));
  only = λ s in_s. equivalence_in tied s (get_or new s 0) (second.only s (within s in_s));
} where
  within : (s : ℕ) → s < length old → s < length mid
  within s in_s = subst (λ n. s < n) (sym first.count) in_s

  split : (s : ℕ) → Contains (y ∷ x ∷ more) s → (s ≡ x) ⊎ Contains (y ∷ more) s
  split s there = elim (contains_cons y s (x ∷ more) there) [
    | inl is ↦ inr (subst (λ k. Contains (y ∷ more) k) (sym is) (contains_head y more))
    | inr later ↦ elim (contains_cons x s more later) [ inl is ↦ inl is | inr rest ↦ inr (contains_later y s more rest) ]
  ]

  x_y : get_or new x 0 ≡ get_or new y 0
  x_y = second.keeps x y (within x in_x) (within y in_y) (first.one x y (contains_later y x (x ∷ []) (contains_head x [])) (contains_head y (x ∷ [])))

  as_y : (s : ℕ) → ((s ≡ x) ⊎ Contains (y ∷ more) s) → get_or new s 0 ≡ get_or new y 0
  as_y s (inl is) = ap (λ k. get_or new k 0) is ∙ x_y
  as_y s (inr there) = second.one s y there (contains_head y more)

  widen_two : (s : ℕ) → Contains (y ∷ x ∷ []) s → Contains (y ∷ x ∷ more) s
  widen_two s there = elim (one_of_two y x s there) [
    | inl is ↦ subst (λ k. Contains (y ∷ x ∷ more) k) (sym is) (contains_head y (x ∷ more))
    | inr is ↦ subst (λ k. Contains (y ∷ x ∷ more) k) (sym is) (contains_later y x (x ∷ more) (contains_head x more))
  ]

  widen_more : (s : ℕ) → Contains (y ∷ more) s → Contains (y ∷ x ∷ more) s
  widen_more s there = elim (contains_cons y s more there) [
    | inl is ↦ subst (λ k. Contains (y ∷ x ∷ more) k) (sym is) (contains_head y (x ∷ more))
    | inr later ↦ contains_later y s (x ∷ more) (contains_later x s more later)
  ]

  first_tied : (s t : ℕ) → Tied old (y ∷ x ∷ []) s t → Equivalence (Tied old (y ∷ x ∷ more)) s t
  first_tied s t (inl own) = given s t (inl own)
  first_tied s t (inr two) = given s t (inr (widen_two s two.0, widen_two t two.1))

  tied : (s t : ℕ) → Tied mid (y ∷ more) s t → Equivalence (Tied old (y ∷ x ∷ more)) s t
  tied s t (inl own) = subst (λ n. Equivalence (Tied old (y ∷ x ∷ more)) s n) own.1 (equivalence_in first_tied s (get_or mid s 0) (first.only s (subst (λ n. s < n) first.count own.0)))
  tied s t (inr all) = given s t (inr (widen_more s all.0, widen_more t all.1))

-- a signal by itself, and then with others
same_joined : (old mid new : List ℕ) (y : ℕ) (more : List ℕ) → AreJoined old mid (y ∷ []) → AreJoined mid new (y ∷ more) → y < length old → AreJoined old new (y ∷ more)
same_joined old mid new y more first second in_y = record {
  count = second.count ∙ first.count;
  keeps = λ s t in_s in_t same. second.keeps s t (within s in_s) (within t in_t) (first.keeps s t in_s in_t same);
  lowers = λ s. omega (arith, second.lowers s, first.lowers s);
  one = second.one;
  only = λ s in_s. equivalence_in tied s (get_or new s 0) (second.only s (within s in_s));
} where
  within : (s : ℕ) → s < length old → s < length mid
  within s in_s = subst (λ n. s < n) (sym first.count) in_s

  widen : (s : ℕ) → Contains (y ∷ []) s → Contains (y ∷ more) s
  widen s there = subst (λ k. Contains (y ∷ more) k) (sym (contains_one y s there)) (contains_head y more)

  first_tied : (s t : ℕ) → Tied old (y ∷ []) s t → Equivalence (Tied old (y ∷ more)) s t
  first_tied s t (inl own) = given s t (inl own)
  first_tied s t (inr two) = given s t (inr (widen s two.0, widen t two.1))

  tied : (s t : ℕ) → Tied mid (y ∷ more) s t → Equivalence (Tied old (y ∷ more)) s t
  tied s t (inl own) = subst (λ n. Equivalence (Tied old (y ∷ more)) s n) own.1 (equivalence_in first_tied s (get_or mid s 0) (first.only s (subst (λ n. s < n) first.count own.0)))
  tied s t (inr all) = given s t (inr all)

-- the numbers up to an index are given
pub record Relabelled (from to i : ℕ) (old now : List ℕ) : Type 0 where
  pub below : (k : ℕ) → k < i → get_or now k 0 ≡ relabel_one from to (get_or old k 0)
  pub above : (k : ℕ) → i ≤ k → get_or now k 0 ≡ get_or old k 0

pub one_relabelled : (from to i : ℕ) (old now : List ℕ) (number : ℕ) → i < length now → number ≡ relabel_one from to (get_or now i 0) → Relabelled from to i old now → Relabelled from to (i + 1) old (slice_set now i number)
one_relabelled from to i old now number within is done = record {
  below = λ k lt. at k lt (cases_order k i);
  above = λ k le. get_or-set_other now i k number 0 (λ e. omega (arith, le, e)) ∙ done.above k (omega (arith, le));
} where
  at : (k : ℕ) → k < i + 1 → ((k ≡ i) ⊎ ((k < i) ⊎ (i < k))) → get_or (slice_set now i number) k 0 ≡ relabel_one from to (get_or old k 0)
  at k lt (inl e) = ap (λ j. get_or (slice_set now i number) j 0) e ∙ get_or-set_same now i number 0 within ∙ is ∙ ap (relabel_one from to) (done.above i (omega arith)) ∙ ap (λ j. relabel_one from to (get_or old j 0)) (sym e)
  at k lt (inr (inl less)) = get_or-set_other now i k number 0 (λ e. omega (arith, less, e)) ∙ done.below k less
  at k lt (inr (inr more)) = absurd (omega (arith, more, lt))

-- a signal is put together with an operand, and then with others
pub operands_joined : (old mid new : List ℕ) (y : ℕ) (operands : List Operand) (first : Operand) (others : List Operand) → operands ≡ first ∷ others
    → y < length old → ((x : SigId) → first ≡ Sig x → x.0 < length old)
    → AreJoined old mid (y ∷ signals_among (first ∷ [])) → AreJoined mid new (y ∷ signals_among others) → AreJoined old new (y ∷ signals_among operands)
operands_joined old mid new y operands (Sig x) others is in_y in_x one rest = subst (λ list. AreJoined old new (y ∷ signals_among list)) (sym is)
    (more_joined old mid new y x.0 (signals_among others) one rest in_y (in_x x refl))
operands_joined old mid new y operands (Const c) others is in_y in_x one rest = subst (λ list. AreJoined old new (y ∷ signals_among list)) (sym is) (same_joined old mid new y (signals_among others) one rest in_y)

-- a constant adds no signal
pub const_joined : (numbers : List ℕ) (y : ℕ) (operand : Operand) (constant : ℤ) → operand ≡ Const constant → AreJoined numbers numbers (y ∷ signals_among (operand ∷ []))
const_joined numbers y operand constant is = subst (λ o. AreJoined numbers numbers (y ∷ signals_among (o ∷ []))) (sym is) (alone_joined numbers y)

pub first_below : (n : ℕ) (operands : List Operand) (first : Operand) (others : List Operand) → operands ≡ first ∷ others → list_all (operand_within n) operands ≡ true
    → (x : SigId) → first ≡ Sig x → x.0 < n
first_below n operands first others is all x e =
    let parts = and_parts (operand_within n first) (list_all (operand_within n) others) (subst (λ list. list_all (operand_within n) list ≡ true) is all) in
    ltb-true x.0 n (subst (λ o. operand_within n o ≡ true) e parts.0)
