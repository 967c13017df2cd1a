-- Lemmas on roots, and on signals that are met in a part of the solutions.
use Rattle.sig_solve.proofs.Common.{◌≡◌, ◌<◌, ◌≤◌, ◌⊎◌, inl, inr, ◌↔◌, ℕ, Bool, true, false, not, eqb, List, [], ◌∷◌, length, get_or, sym, ap, ◌∙◌, subst, arith, Contains, IsTrue, zero, suc, Some, AllPairs, range_with_len, cases_eq, cases_lt, false≢true, get_or_default, AllPairs-filter, get_or-range_with_len, length-range_with_len, Kernel, itself, HasNoRoot, IsLeast, IsMissingRoot, IsRoot, Reaction, Speaks, is_present, StoreView, Implies, Overlap, test, Ref, IsSolution, reading, all_statuses, IsAskedIn, IsMet, IsFrame, leaders_of, Frame, Asked, cases_Bool, someone}
use Rattle.sig_solve.proofs.FrameLemmas.{leader_in, leader_is, least_below}
use Rattle.sig_solve.proofs.SystemLemmas.{presence_at, presence_read}

-- numbers of a range stand in increasing order, and so do those that a filter keeps
pub ordered_range : (n : ℕ) → AllPairs (λ x y. x < y) (range_with_len 0 n)
ordered_range n i j d less within =
    let lt : j < n = omega (arith, within, length-range_with_len 0 n) in
    omega (arith, get_or-range_with_len 0 n i d (omega (arith, less, lt)), get_or-range_with_len 0 n j d lt, less)

pub ordered_leaders : (least leaders : List ℕ) → leaders ≡ leaders_of least → AllPairs (λ x y. x < y) leaders
ordered_leaders least leaders is =
    let R : ℕ → ℕ → Type 0 = λ x y. x < y in
    subst (λ (xs : List ℕ). AllPairs R xs) (sym is) (AllPairs-filter R (λ s. eqb (get_or least s 0) s) (range_with_len 0 (length least)) (ordered_range (length least)))

-- what is present is among the signals
pub present_within : (reaction : Reaction) (s : ℕ) → is_present reaction s ≡ true → s < length reaction
present_within [] s present = absurd (false≢true present)
present_within (status ∷ reaction) zero present = omega arith
present_within (status ∷ reaction) (suc s) present = omega (arith, present_within reaction s present)

-- the leaders of a frame, by their places
pub leader_at : (frame : Frame) (is : IsFrame frame) (leaders : List ℕ) (k : ℕ) → leaders ≡ frame.leaders.items → k < length leaders → get_or leaders k 0 < length frame.kernel.now.signals
leader_at frame is leaders k same lt = (leader_is frame is (get_or leaders k 0) (subst (λ (xs : List ℕ). Contains xs (get_or leaders k 0)) same (k, lt, get_or_default leaders k (get_or leaders k 0) 0 lt))).0

-- the place of the leader of a signal
leader_place : (frame : Frame) (is : IsFrame frame) (leaders : List ℕ) → leaders ≡ frame.leaders.items → (s : ℕ) → s < length frame.kernel.now.signals → (k : ℕ) × (k < length leaders) × (get_or leaders k 0 ≡ get_or frame.least.items s 0)
leader_place frame is leaders same s lt =
    let there = subst (λ (xs : List ℕ). Contains xs (get_or frame.least.items s 0)) (sym same) (leader_in frame is s lt) in
    (there.0, there.1, sym (get_or_default leaders there.0 (get_or frame.least.items s 0) 0 there.1) ∙ there.2)

module _ (store : StoreView) (asked : Asked) (is : IsAskedIn store asked) where
  abbrev frame : Frame
  frame = asked.frame

  abbrev presence : ℕ → Ref
  presence s = get_or asked.system.present s asked.system.residue

  -- a signal is present where its leader is
  leader_presence : (s : ℕ) → s < length asked.frame.kernel.now.signals → get_or asked.system.present (get_or asked.frame.least.items s 0) asked.system.residue ≡ get_or asked.system.present s asked.system.residue
  leader_presence s lt =
      let l = get_or asked.frame.least.items s 0 in
      let below = least_below asked.frame.kernel.now asked.frame.least.items is.parts.least s lt in
      let e : Some (presence l) ≡ Some (presence s) =
      sym (presence_at asked.frame.kernel.now store.nodes asked.system is.is_system l below) ∙ sym (is.is_system.classes s l lt below (is.parts.least.same s lt)) ∙ presence_at asked.frame.kernel.now store.nodes asked.system is.is_system s lt in
      cc

  -- ---- roots

  pub implied_root : (s : ℕ) → s < length asked.frame.kernel.now.signals → Implies store.nodes asked.solutions (get_or asked.system.present s asked.system.residue) → IsRoot asked.frame.kernel.now s
  implied_root s lt implies = record {
    is = lt;
    everywhere = λ reaction speaks.
        let at = is.is_system.complete reaction speaks in
        ap (λ r. is_present r s) (sym at.2) ∙ presence_read asked.frame.kernel.now store.nodes asked.system is.is_system s lt at.0 ∙ implies at.0 ((is.solutions at.0).1 at.1);
  }

  root_implied : (s : ℕ) → IsRoot asked.frame.kernel.now s → Implies store.nodes asked.solutions (get_or asked.system.present s asked.system.residue)
  root_implied s root ts t =
      sym (presence_read asked.frame.kernel.now store.nodes asked.system is.is_system s root.is ts) ∙ root.everywhere (reading store.nodes asked.system ts) (is.is_system.sound ts ((is.solutions ts).0 t))

  -- where no leader is a root, no signal is
  pub none_root : (leaders : List ℕ) → leaders ≡ asked.frame.leaders.items → ((k : ℕ) → k < length leaders → Implies store.nodes asked.solutions (get_or asked.system.present (get_or leaders k 0) asked.system.residue) → ⊥) → HasNoRoot asked.frame.kernel.now
  none_root leaders same none s root =
      let (k, lt, lead) = leader_place asked.frame is.parts leaders same s root.is in
      none k lt (subst (λ (r : Ref). Implies store.nodes asked.solutions r) (sym (leader_presence s root.is) ∙ ap presence (sym lead)) (root_implied s root))

  -- ---- signals that are met

  met_leader : (part : Ref) (s : ℕ) → IsMet store.nodes asked part s → IsMet store.nodes asked part (get_or asked.frame.least.items s 0)
  met_leader part s met = (least_below asked.frame.kernel.now asked.frame.least.items is.parts.least s met.0, subst (λ (r : Ref). Overlap store.nodes part r) (sym (leader_presence s met.0)) met.1)

  module _ (part : Ref) (leaders : List ℕ) (same : leaders ≡ asked.frame.leaders.items) where
    increasing : (i j : ℕ) → i < j → j < length leaders → get_or leaders i 0 < get_or leaders j 0
    increasing i j less within = ordered_leaders asked.frame.least.items leaders (same ∙ is.parts.leaders) i j 0 less within

    up : (k other j : ℕ) → k ≤ j → j < length leaders → get_or leaders j 0 ≤ other → get_or leaders k 0 ≤ other
    up k other j le within low = elim (cases_eq k j) [ inl e ↦ subst (λ i. get_or leaders i 0 ≤ other) (sym e) low | inr ne ↦ (let less : k < j = omega (arith, le, ne) in omega (arith, increasing k j less within, low)) ]

    not_before : (k j : ℕ) → (j < k → ⊥) → k ≤ j
    not_before k j not = elim (cases_lt j k) [ inl less ↦ absurd (not less) | inr le ↦ le ]

    -- the first leader that is met is the first signal
    pub first_is_least : (k : ℕ) → k < length leaders → ((j : ℕ) → j < k → Overlap store.nodes part (get_or asked.system.present (get_or leaders j 0) asked.system.residue) → ⊥)
        → Overlap store.nodes part (get_or asked.system.present (get_or leaders k 0) asked.system.residue) → IsLeast (IsMet store.nodes asked part) (get_or leaders k 0)
    first_is_least k lt none met = record {
      holds = (leader_at asked.frame is.parts leaders k same lt, met);
      least = λ other at.
          let (j, within, lead) = leader_place asked.frame is.parts leaders same other at.0 in
          let below : get_or asked.frame.least.items other 0 ≤ other = is.parts.least.least other other at.0 (itself other) in
          let own : Overlap store.nodes part (get_or asked.system.present (get_or leaders j 0) asked.system.residue) = subst (λ s. Overlap store.nodes part (presence s)) (sym lead) (met_leader part other at).1 in
          up k other j (not_before k j (λ less. none j less own)) within (omega (arith, lead, below));
    }

    -- if no leader is met, no signal is
    pub none_met : ((k : ℕ) → k < length leaders → Overlap store.nodes part (get_or asked.system.present (get_or leaders k 0) asked.system.residue) → ⊥) → (s : ℕ) → IsMet store.nodes asked part s → ⊥
    none_met none s met =
        let (k, lt, lead) = leader_place asked.frame is.parts leaders same s met.0 in
        none k lt (subst (λ l. Overlap store.nodes part (presence l)) (sym lead) (met_leader part s met).1)

  -- a part that is true exactly at the solutions whose reactions keep to a statement
  module _ (Q : Reaction → Type 0) (part : Ref) (says : (ts : List Bool) → IsTrue (test store.nodes part ts) ↔ (IsSolution store.nodes asked.system ts × Q (reading store.nodes asked.system ts))) where
    possible_met : (r : Reaction) (s : ℕ) → Speaks asked.frame.kernel.now r → Q r → is_present r s ≡ true → IsMet store.nodes asked part s
    possible_met r s speaks q present =
        let at = is.is_system.complete r speaks in
        let lt : s < length asked.frame.kernel.now.signals = omega (arith, present_within r s present, all_statuses asked.frame.kernel.now.signals r speaks.is.kinds) in
        (lt, (at.0, (says at.0).1 (at.1, subst Q (sym at.2) q), sym (presence_read asked.frame.kernel.now store.nodes asked.system is.is_system s lt at.0) ∙ ap (λ x. is_present x s) at.2 ∙ present))

    pub least_possible : (x : ℕ) → IsLeast (IsMet store.nodes asked part) x → IsLeast (λ s. (r : Reaction) × Speaks asked.frame.kernel.now r × Q r × (is_present r s ≡ true)) x
    least_possible x least = record {
      holds =
          let (lt, (ts, t, u)) = least.holds in
          let both = (says ts).0 t in
          (reading store.nodes asked.system ts, is.is_system.sound ts both.0, both.1, presence_read asked.frame.kernel.now store.nodes asked.system is.is_system x lt ts ∙ u);
      least = λ other w. least.least other (possible_met w.0 other w.1 w.2 w.3);
    }

    -- such a reaction has some signal
    pub some_met : (r : Reaction) → Speaks asked.frame.kernel.now r → Q r → ((s : ℕ) → IsMet store.nodes asked part s → ⊥) → ⊥
    some_met r speaks q none = let at = someone r speaks.some in none at.0 (possible_met r at.0 speaks q at.2)

  pub solutions_say : (ts : List Bool) → IsTrue (test store.nodes asked.solutions ts) ↔ (IsSolution store.nodes asked.system ts × Unit {0})
  solutions_say ts = ((λ t. ((is.solutions ts).0 t, tt)), (λ both. (is.solutions ts).1 both.0))

  -- the solutions without a signal, of a kernel that has no root
  module _ (x : ℕ) (lt : x < length asked.frame.kernel.now.signals) (rest : Ref) (says : (ts : List Bool) → IsTrue (test store.nodes rest ts) ↔ (IsSolution store.nodes asked.system ts × (is_present (reading store.nodes asked.system ts) x ≡ false))) where
    pub rest_met : HasNoRoot asked.frame.kernel.now → ((s : ℕ) → IsMet store.nodes asked rest s → ⊥) → ⊥
    rest_met no_root none = no_root x (implied_root x lt (λ ts t. by ts t (cases_Bool (test store.nodes (get_or asked.system.present x asked.system.residue) ts)))) where
      by : (ts : List Bool) → IsTrue (test store.nodes asked.solutions ts) → ((test store.nodes (get_or asked.system.present x asked.system.residue) ts ≡ true) ⊎ (test store.nodes (get_or asked.system.present x asked.system.residue) ts ≡ false))
          → IsTrue (test store.nodes (get_or asked.system.present x asked.system.residue) ts)
      by ts t (inl e) = e
      by ts t (inr e) =
          let solves = (is.solutions ts).0 t in
          let absent = presence_read asked.frame.kernel.now store.nodes asked.system is.is_system x lt ts ∙ e in
          absurd (some_met (λ r. is_present r x ≡ false) rest says (reading store.nodes asked.system ts) (is.is_system.sound ts solves) absent none)

-- both signals that show that there is no root
pub missing : (kernel : Kernel) (x y : ℕ) → HasNoRoot kernel → IsLeast (λ s. (r : Reaction) × Speaks kernel r × Unit {0} × (is_present r s ≡ true)) x
    → IsLeast (λ s. (r : Reaction) × Speaks kernel r × (is_present r x ≡ false) × (is_present r s ≡ true)) y → IsMissingRoot kernel x y
missing kernel x y none first second = record {
  none = none;
  first = record { holds = (first.holds.0, first.holds.1, first.holds.3); least = λ other w. first.least other (w.0, w.1, tt, w.2) };
  second = record { holds = (second.holds.0, second.holds.1, second.holds.3, second.holds.2); least = λ other w. second.least other (w.0, w.1, w.3, w.2) };
}
