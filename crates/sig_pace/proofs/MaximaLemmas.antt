-- The tops among the least signals of all clock classes are the least signals of the maximal clocks. There are two of
-- them or more exactly where a kernel needs paces.
use Rattle.sig_pace.proofs.Common.{◌≡◌, ◌<◌, ◌≤◌, inl, inr, ℕ, true, List, [], ◌∷◌, length, get_or, refl, sym, ap, ◌∙◌, subst, arith, Contains, zero, suc, IsPossible, IsDead, IsRoot, IsSignal, is_present, is_silent, SameClock, present_together, Kernel, all_statuses, AreLeaders, AreMaximalClocks, IsBelow, IsLeastMaximal, NeedsNoPaces, NeedsPaces, AreMaxima, AreTops, IsCover, signals_of, Candidate, map_get, cases_Bool, contains_cons, contains_head, contains_later, contains_mapped, contains_none, mapped_from, get_or_from_slice_get, slice_get-get_or, slice_get_within, present_within, someone}
use Rattle.sig_pace.proofs.TopLemmas.{below_through}

-- ---- what is present

possible_signal : (kernel : Kernel) (s : ℕ) → IsPossible kernel s → IsSignal kernel s
possible_signal kernel s possible = omega (arith, present_within possible.0 s possible.2, all_statuses kernel.signals possible.0 possible.1.is.kinds)

class_below : (kernel : Kernel) (s l : ℕ) → SameClock kernel s l → IsBelow kernel s l
class_below kernel s l one reaction speaks present = sym (present_together kernel reaction s l speaks.is one) ∙ present

-- ---- maximal clocks

module _ (kernel : Kernel) (leaders found : List ℕ) (are : AreLeaders kernel leaders) (cover : IsCover kernel leaders found) (candidates tops : List Candidate) (same : signals_of candidates ≡ found) (is : AreTops kernel candidates tops) where
  -- each signal is below a candidate that is no greater
  candidate_above : (s : ℕ) → IsSignal kernel s → (c : Candidate) × Contains candidates c × (c.signal ≤ s) × IsBelow kernel s c.signal
  candidate_above s lt =
      let l = are.all s lt in
      let x = cover.cover l.0 l.1 in
      let c = mapped_from (λ (c : Candidate). c.signal) candidates x.0 (subst (λ (xs : List ℕ). Contains xs x.0) (sym same) x.1) in
      let low : c.0.signal ≤ s = (let a = l.3 in let b = x.2 in let e = c.2 in omega (arith, a, b, e)) in
      (c.0, c.1, low, subst (IsBelow kernel s) c.2 (below_through kernel s l.0 x.0 (class_below kernel s l.0 l.2) x.3))

  candidate_signal : (c : Candidate) → Contains candidates c → IsSignal kernel c.signal
  candidate_signal c there = are.are c.signal (cover.among c.signal (subst (λ (xs : List ℕ). Contains xs c.signal) same (contains_mapped (λ (c : Candidate). c.signal) candidates c there)))

  top_is_maximal : (m : Candidate) → Contains tops m → IsLeastMaximal kernel m.signal
  top_is_maximal m there = record {
    maximal = record {
      is = candidate_signal m (is.among m there);
      possible = is.possible m there;
      top = λ y lt below.
          let c = candidate_above y lt in
          let back = is.top m c.0 there c.1 (below_through kernel m.signal y c.0.signal below c.3) in
          below_through kernel y c.0.signal m.signal c.3 back.0;
    };
    least = λ y lt one.
        let c = candidate_above y lt in
        let back = is.top m c.0 there c.1 (below_through kernel m.signal y c.0.signal one.up c.3) in
        let a = back.1 in
        let b = c.2 in
        omega (arith, a, b);
  }

  covered : (s : ℕ) → IsPossible kernel s → (m : Candidate) × Contains tops m × IsBelow kernel s m.signal
  covered s possible =
      let c = candidate_above s (possible_signal kernel s possible) in
      let m = is.cover c.0 c.1 (possible.0, possible.1, c.3 possible.0 possible.1 possible.2) in
      (m.0, m.1, below_through kernel s c.0.signal m.0.signal c.3 m.2)

  maximal_is_top : (x : ℕ) → IsLeastMaximal kernel x → Contains (signals_of tops) x
  maximal_is_top x max =
      let c = candidate_above x max.maximal.is in
      let m = covered x max.maximal.possible in
      let lt = candidate_signal m.0 (is.among m.0 m.1) in
      let back = max.maximal.top m.0.signal lt m.2 in
      let up : x ≤ m.0.signal = max.least m.0.signal lt (record { up = m.2; down = back }) in
      let down = (is.top m.0 c.0 m.1 c.1 (below_through kernel m.0.signal x c.0.signal back c.3)).1 in
      let low = c.2 in
      let e : m.0.signal ≡ x = omega (arith, up, down, low) in
      subst (Contains (signals_of tops)) e (contains_mapped (λ (c : Candidate). c.signal) tops m.0 m.1)

  pub maxima_are : AreMaxima kernel (signals_of tops)
  maxima_are = record {
    clocks = record {
      all = λ x. (
        (λ there. let m = mapped_from (λ (c : Candidate). c.signal) tops x there in subst (IsLeastMaximal kernel) (sym m.2) (top_is_maximal m.0 m.1)),
        maximal_is_top x,
      );
      order = λ i j x y less at_i at_j.
          let a = map_get (λ (c : Candidate). c.signal) tops i x at_i in
          let b = map_get (λ (c : Candidate). c.signal) tops j y at_j in
          let lt = is.order i j a.0 less (slice_get_within tops j b.0 b.1) in
          let own_a : get_or tops i a.0 ≡ a.0 = get_or_from_slice_get tops i a.0 a.0 a.1 in
          let own_b : get_or tops j a.0 ≡ b.0 = get_or_from_slice_get tops j b.0 a.0 b.1 in
          let signal_a = ap (λ (c : Candidate). c.signal) own_a in
          let signal_b = ap (λ (c : Candidate). c.signal) own_b in
          let e = a.2 in
          let f = b.2 in
          omega (arith, lt, signal_a, signal_b, e, f);
    };
    cover = λ s possible. let m = covered s possible in (m.0.signal, contains_mapped (λ (c : Candidate). c.signal) tops m.0 m.1, m.2);
  }

-- ---- their number

module _ (kernel : Kernel) (least : List ℕ) (are : AreMaximalClocks kernel least) where
  pub maximal_signal : (m : ℕ) → Contains least m → IsSignal kernel m
  maximal_signal m there = ((are.all m).0 there).maximal.is

  place_below : (i : ℕ) → i < length least → i ≤ get_or least i 0
  place_below zero lt = omega arith
  place_below (suc i) lt =
      let before = place_below i (omega (arith, lt)) in
      let less = are.order i (suc i) (get_or least i 0) (get_or least (suc i) 0) (omega arith) (slice_get-get_or least i 0 (omega (arith, lt))) (slice_get-get_or least (suc i) 0 lt) in
      omega (arith, before, less)

  pub few_maximal : length least ≤ length kernel.signals
  few_maximal = by (length least) refl where
    by : (n : ℕ) → length least ≡ n → n ≤ length kernel.signals
    by zero e = omega arith
    by (suc n) e =
        let lt : n < length least = omega (arith, e) in
        let low = place_below n lt in
        let high = maximal_signal (get_or least n 0) (n, lt, get_or_from_slice_get least n (get_or least n 0) (get_or least n 0) (slice_get-get_or least n 0 lt)) in
        omega (arith, low, high)

-- ---- which kernels need paces

none_is_dead : (kernel : Kernel) → AreMaxima kernel [] → IsDead kernel
none_is_dead kernel are reaction is = elim (cases_Bool (is_silent reaction)) [
  | inl e ↦ e
  | inr e ↦
      let s = someone reaction e in
      let at = are.cover s.0 (reaction, record { is = is; some = e }, s.2) in
      absurd (contains_none at.0 at.1)
]

one_is_root : (kernel : Kernel) (m : ℕ) → AreMaxima kernel (m ∷ []) → IsRoot kernel m
one_is_root kernel m are = record {
  is = maximal_signal kernel (m ∷ []) are.clocks m (contains_head m []);
  everywhere = λ reaction speaks.
      let s = someone reaction speaks.some in
      let at = are.cover s.0 (reaction, speaks, s.2) in
      elim (contains_cons m at.0 [] at.1) [
        | inl e ↦ subst (λ x. is_present reaction x ≡ true) e (at.2 reaction speaks s.2)
        | inr none ↦ absurd (contains_none at.0 none)
      ];
}

pub few_need_none : (kernel : Kernel) (least : List ℕ) → AreMaxima kernel least → length least < 2 → NeedsNoPaces kernel
few_need_none kernel [] are few = inr (none_is_dead kernel are)
few_need_none kernel (m ∷ []) are few = inl (m, one_is_root kernel m are)
few_need_none kernel (m ∷ n ∷ least) are few = absurd (omega (arith, few))

pub many_need_paces : (kernel : Kernel) (least : List ℕ) → AreMaximalClocks kernel least → 2 ≤ length least → NeedsPaces kernel least
many_need_paces kernel (m ∷ n ∷ least) are many =
    let first = (are.all m).0 (contains_head m (n ∷ least)) in
    let second = (are.all n).0 (contains_later m n (n ∷ least) (contains_head n least)) in
    let less = are.order 0 1 m n (omega arith) refl refl in
    record {
      alive = (first.maximal.possible.0, first.maximal.possible.1);
      none = λ r root.
          let m_r : IsBelow kernel m r = λ reaction speaks present. root.everywhere reaction speaks in
          let n_r : IsBelow kernel n r = λ reaction speaks present. root.everywhere reaction speaks in
          let m_n = below_through kernel m r n m_r (second.maximal.top r root.is n_r) in
          let n_m = below_through kernel n r m n_r (first.maximal.top r root.is m_r) in
          let up = first.least n second.maximal.is (record { up = m_n; down = n_m }) in
          let down = second.least m first.maximal.is (record { up = n_m; down = m_n }) in
          omega (arith, less, up, down);
      clocks = are;
    }
many_need_paces kernel _ are many = absurd (omega (arith, many))

-- the signals of the tops, in a list of their own
pub maxima_asked : (kernel : Kernel) (leaders found : List ℕ) → AreLeaders kernel leaders → IsCover kernel leaders found → (candidates tops : List Candidate) → signals_of candidates ≡ found → AreTops kernel candidates tops → (least : List ℕ) → least ≡ signals_of tops → AreMaxima kernel least
maxima_asked kernel leaders found are cover candidates tops same is least e = subst (AreMaxima kernel) (sym e) (maxima_are kernel leaders found are cover candidates tops same is)
