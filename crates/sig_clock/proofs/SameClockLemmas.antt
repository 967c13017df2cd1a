-- Lemmas on clock classes.
use Rattle.sig_clock.proofs.Common.{◌≡◌, ◌<◌, ◌≤◌, ◌+◌, ◌⊎◌, inl, inr, ℕ, Bool, true, false, List, [], ◌∷◌, length, map, get_or, refl, sym, ap, ◌∙◌, subst, arith, Contains, ◌&&◌, zero, suc, list_all, AllPass, range_with_len, and_parts, ltb-true, cases_order, length-map-range_with_len, get_or-map-range_with_len, SigId, form_within, operand_within, is_below, Equation, Form, Fun, Delay, When, WhenConst, Default, Sync, Event, Operand, Sig, Const, Kernel, AreLeast, AreRelated, Equivalence, SameClock, given, itself, turned, joined, related, signals_among, AreJoined, Tied, contains_cons, contains_none}
use Rattle.sig_clock.proofs.LinkLemmas.{equivalence_in}

-- the numbers are those of classes, as far as the first equations say
pub record ArePartition (kernel : Kernel) (n : ℕ) (least : List ℕ) : Type 0 where
  pub count : length least ≡ length kernel.signals
  pub below : (s : ℕ) → get_or least s 0 ≤ s
  pub sound : (s : ℕ) → s < length kernel.signals → SameClock kernel s (get_or least s 0)
  pub complete : (k : ℕ) (d : Equation) (x y : ℕ) → k < n → k < length kernel.equations → Contains (related (get_or kernel.equations k d).form) x → Contains (related (get_or kernel.equations k d).form) y
      → get_or least x 0 ≡ get_or least y 0

own_below : (a n s : ℕ) → get_or (map (λ number. number) (range_with_len a n)) s 0 ≤ a + s
own_below a zero s = omega arith
own_below a (suc n) zero = omega arith
own_below a (suc n) (suc s) = omega (arith, own_below (a + 1) n s)

pub first_partition : (kernel : Kernel) (least : List ℕ) (n : ℕ) → least ≡ map (λ number. number) (range_with_len 0 n) → n ≡ length kernel.signals → ArePartition kernel 0 least
first_partition kernel least n is count = record {
  count = ap length is ∙ length-map-range_with_len (λ number. number) 0 n ∙ count;
  below = λ s. let h : get_or (map (λ number. number) (range_with_len 0 n)) s 0 ≤ s = omega (arith, own_below 0 n s) in subst (λ xs. get_or xs s 0 ≤ s) (sym is) h;
  sound = λ s in_s. subst (λ m. SameClock kernel s m) (sym (ap (λ xs. get_or xs s 0) is ∙ get_or-map-range_with_len (λ number. number) 0 n s s 0 (subst (λ m. s < m) (sym count) in_s) (omega arith))) (itself s);
  complete = λ k d x y lt inside in_x in_y. absurd (omega (arith, lt));
}

operands_below : (n : ℕ) (operands : List Operand) (x : ℕ) → list_all (operand_within n) operands ≡ true → Contains (signals_among operands) x → x < n
operands_below n [] x all there = absurd (contains_none x there)
operands_below n (Sig y ∷ operands) x all there =
    let parts = and_parts (is_below n y) (list_all (operand_within n) operands) all in
    elim (contains_cons y.0 x (signals_among operands) there) [
      | inl is ↦ subst (λ k. k < n) (sym is) (ltb-true y.0 n parts.0)
      | inr later ↦ operands_below n operands x parts.1 later
    ]
operands_below n (Const c ∷ operands) x all there = operands_below n operands x (and_parts true (list_all (operand_within n) operands) all).1 there

two_below : (n : ℕ) (a b : SigId) (x : ℕ) → (is_below n a && (is_below n b && true)) ≡ true → Contains (a.0 ∷ b.0 ∷ []) x → x < n
two_below n a b x all there =
    let parts = and_parts (is_below n a) (is_below n b && true) all in
    elim (contains_cons a.0 x (b.0 ∷ []) there) [
      | inl is ↦ subst (λ k. k < n) (sym is) (ltb-true a.0 n parts.0)
      | inr later ↦ elim (contains_cons b.0 x [] later) [ inl is ↦ subst (λ k. k < n) (sym is) (ltb-true b.0 n (and_parts (is_below n b) true parts.1).0) | inr none ↦ absurd (contains_none x none) ]
    ]

-- related signals are signals that are there
pub related_below : (n : ℕ) (form : Form) (x : ℕ) → form_within n form ≡ true → Contains (related form) x → x < n
related_below n (Fun y op operands) x all there =
    let parts = and_parts (is_below n y) (list_all (operand_within n) operands) all in
    elim (contains_cons y.0 x (signals_among operands) there) [
      | inl is ↦ subst (λ k. k < n) (sym is) (ltb-true y.0 n parts.0)
      | inr later ↦ operands_below n operands x parts.1 later
    ]
related_below n (Delay y z c) x all there = two_below n y z x all there
related_below n (When y z b) x all there = absurd (contains_none x there)
related_below n (WhenConst y c b) x all there = absurd (contains_none x there)
related_below n (Default y u v) x all there = absurd (contains_none x there)
related_below n (Sync y z) x all there = two_below n y z x all there
related_below n (Event y z) x all there = two_below n y z x all there

-- one more equation is seen
pub next_partition : (kernel : Kernel) (n : ℕ) (old new : List ℕ) (equation : Equation) → ArePartition kernel n old → n < length kernel.equations
    → ((d : Equation) → get_or kernel.equations n d ≡ equation) → AllPass (λ e. form_within (length kernel.signals) e.form) kernel.equations
    → AreJoined old new (related equation.form) → ArePartition kernel (n + 1) new
next_partition kernel n old new equation part inside is within are = record {
  count = are.count ∙ part.count;
  below = λ s. omega (arith, are.lowers s, part.below s);
  sound = λ s in_s. equivalence_in tied s (get_or new s 0) (are.only s (subst (λ m. s < m) (sym part.count) in_s));
  complete = λ k d x y lt in_k in_x in_y. at k d x y in_k in_x in_y (cases_order k n) lt;
} where
  tied : (s t : ℕ) → Tied old (related equation.form) s t → SameClock kernel s t
  tied s t (inl own) = subst (λ m. SameClock kernel s m) own.1 (part.sound s (subst (λ m. s < m) part.count own.0))
  tied s t (inr two) = given s t (record { number = n; within = inside; left = λ d. subst (λ (e : Equation). Contains (related e.form) s) (sym (is d)) two.0; right = λ d. subst (λ (e : Equation). Contains (related e.form) t) (sym (is d)) two.1 })

  there : (k : ℕ) (d : Equation) (x : ℕ) → k < length kernel.equations → Contains (related (get_or kernel.equations k d).form) x → x < length old
  there k d x in_k in_x = subst (λ m. x < m) (sym part.count) (related_below (length kernel.signals) (get_or kernel.equations k d).form x (within k d in_k) in_x)

  at : (k : ℕ) (d : Equation) (x y : ℕ) → k < length kernel.equations → Contains (related (get_or kernel.equations k d).form) x → Contains (related (get_or kernel.equations k d).form) y
      → ((k ≡ n) ⊎ ((k < n) ⊎ (n < k))) → k < n + 1 → get_or new x 0 ≡ get_or new y 0
  at k d x y in_k in_x in_y (inl same) lt = are.one x y
      (subst (λ (e : Equation). Contains (related e.form) x) (ap (λ j. get_or kernel.equations j d) same ∙ is d) in_x)
      (subst (λ (e : Equation). Contains (related e.form) y) (ap (λ j. get_or kernel.equations j d) same ∙ is d) in_y)
  at k d x y in_k in_x in_y (inr (inl less)) lt = are.keeps x y (there k d x in_k in_x) (there k d y in_k in_y) (part.complete k d x y less in_k in_x in_y)
  at k d x y in_k in_x in_y (inr (inr more)) lt = absurd (omega (arith, more, lt))

same_number : (kernel : Kernel) (least : List ℕ) → ((x y : ℕ) → AreRelated kernel x y → get_or least x 0 ≡ get_or least y 0) → (x y : ℕ) → SameClock kernel x y → get_or least x 0 ≡ get_or least y 0
same_number kernel least all _ _ (given x y r) = all x y r
same_number kernel least all _ _ (itself x) = refl
same_number kernel least all _ _ (turned x y e) = sym (same_number kernel least all x y e)
same_number kernel least all _ _ (joined x y z e f) = same_number kernel least all x y e ∙ same_number kernel least all y z f

-- all equations were seen
pub last_partition : (kernel : Kernel) (n : ℕ) (least : List ℕ) → ArePartition kernel n least → length kernel.equations ≤ n → AreLeast kernel least
last_partition kernel n least part end = record {
  count = part.count;
  same = part.sound;
  least = λ s t in_s same. subst (λ m. m ≤ t) (sym (same_number kernel least pair s t same)) (part.below t);
} where
  equation_at : (equations : List Equation) (k : ℕ) → k < length equations → Equation
  equation_at [] k lt = absurd (omega (arith, lt))
  equation_at (e ∷ equations) k lt = e

  pair : (x y : ℕ) → AreRelated kernel x y → get_or least x 0 ≡ get_or least y 0
  pair x y r = part.complete r.number (equation_at kernel.equations r.number r.within) x y (omega (arith, r.within, end)) r.within (r.left (equation_at kernel.equations r.number r.within)) (r.right (equation_at kernel.equations r.number r.within))
