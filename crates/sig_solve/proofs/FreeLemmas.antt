-- Lemmas on free systems: what their truths read off.
use Rattle.sig_solve.proofs.Common.{◌≡◌, ◌≢◌, ◌<◌, ◌≤◌, ◌↔◌, inl, inr, ℕ, Bool, true, false, eqb, not, List, [], ◌∷◌, length, map, get_or, refl, sym, ap, ◌∙◌, subst, arith, Contains, zero, suc, None, Some, slice_get, is_some, list_any, range_with_len, get_or-range_with_len, length-range_with_len, cases_eq, eq-eqb, eqb-true, false≢true, SigId, Kernel, Allows, KeepsTo, is_condition, signal_id, AgreeOn, EntersBy, HasLayer, IsDetermined, IsEarlier, IsFree, IsReaction, Reaction, Status, Speaks, is_present, is_silent, status_at, enters_stays, one_layer, absent_in_silence, Depends, truth_of, with_truth, StoreView, IsStore, test, Node, Ref, truth_of-with_same, truth_of-with_other, depends_agree, AreConditions, IsFreeSystem, IsOver, IsSolution, IsSystem, SystemView, reading, IsAmong, IsFrame, IsFreeIn, is_unknown, is_unknown_to, AreGuards, AreEntered, IsOpenAnswer, Frame, at_contained, contains_at, one_passes, passes_one, slice_get-get_or, slice_get_within}
use Rattle.sig_solve.proofs.FrameLemmas.{leader_is}
use Rattle.sig_solve.proofs.ReactionLemmas.{condition_is_signal}
use Rattle.sig_solve.proofs.RoundLemmas.{determined_enters}
use Rattle.sig_solve.proofs.SystemLemmas.{keeps_at, presence_at as presence_at_system, presence_over as presence_over_system, presence_read as presence_read_system, same_readings}
use Rattle.sig_solve.proofs.TruthLemmas.{is_in, mixed, mixed_at, mixed_outside}

-- a truth that is the same with either truth of a variable
not_depends : (f : List Bool → Bool) (v : ℕ) (ts : List Bool) → (Depends f v → ⊥) → f (with_truth ts v false) ≡ f (with_truth ts v true)
not_depends f v ts not = by (f (with_truth ts v false)) (f (with_truth ts v true)) refl refl where
  by : (a b : Bool) → f (with_truth ts v false) ≡ a → f (with_truth ts v true) ≡ b → f (with_truth ts v false) ≡ f (with_truth ts v true)
  by true false e d = absurd (not (ts, λ same. false≢true (sym d ∙ sym same ∙ e)))
  by false true e d = absurd (not (ts, λ same. false≢true (sym e ∙ same ∙ d)))
  by _ _ e d = e ∙ sym d

-- the marks of conditions that are not known
marks_read : (known conditions : List SigId) (v : ℕ) → get_or (map (λ (c : SigId). is_unknown_to known (Some c)) conditions) v true ≡ is_unknown conditions known v
marks_read known (c ∷ conditions) (suc v) = marks_read known conditions v
marks_read known _ _ = refl

module _ (kernel : Kernel) (store : StoreView) (system : SystemView) (is : IsFreeIn kernel store system) where
  abbrev nodes : List Node
  nodes = store.nodes

  pub solution : (truths : List Bool) → IsSolution store.nodes system truths
  solution truths = (is.is_free.residue truths, is.is_free.speaks truths)

  pub speaks_read : (truths : List Bool) → Speaks kernel (reading store.nodes system truths)
  speaks_read truths = is.is_system.sound truths (solution truths)

  pub presence_at : (s : ℕ) → s < length kernel.signals → slice_get system.present s ≡ Some (get_or system.present s system.residue)
  presence_at s lt = presence_at_system kernel store.nodes system is.is_system s lt

  pub presence_over : (s : ℕ) → s < length kernel.signals → IsOver store.nodes system (get_or system.present s system.residue)
  presence_over s lt = presence_over_system kernel store.nodes system is.is_system s lt

  pub presence_read : (s : ℕ) → s < length kernel.signals → (truths : List Bool) → is_present (reading store.nodes system truths) s ≡ test store.nodes (get_or system.present s system.residue) truths
  presence_read s lt truths = presence_read_system kernel store.nodes system is.is_system s lt truths

  -- variable i is the proposal of condition i, and there are no others
  own_number : (v : ℕ) (c : SigId) → slice_get system.conditions v ≡ Some c → slice_get system.proposals v ≡ Some v
  own_number v c at =
      let lt = slice_get_within system.conditions v c at in
      ap (λ xs. slice_get xs v) is.is_free.proposals
      ∙ slice_get-get_or (range_with_len 0 (length system.conditions)) v 0 (omega (arith, lt, length-range_with_len 0 (length system.conditions)))
      ∙ ap Some (get_or-range_with_len 0 (length system.conditions) v 0 lt ∙ omega arith)

  pub keeps_own : (truths : List Bool) → KeepsTo system.conditions truths (reading store.nodes system truths)
  keeps_own truths v c at = keeps_at kernel store.nodes system is.is_system truths v v c at (own_number v c at)

  idle_own : (i : ℕ) (c : SigId) (truths : List Bool) (b : Bool) → slice_get system.conditions i ≡ Some c → IsSolution store.nodes system truths → status_at (reading store.nodes system truths) c.0 ≡ None
      → IsSolution store.nodes system (with_truth truths i b) × (reading store.nodes system (with_truth truths i b) ≡ reading store.nodes system truths)
  idle_own i c truths b at solves absent = is.is_system.idle i i c truths b at (own_number i c at) solves absent

  pub below_of : (r : Ref) → IsOver store.nodes system r → (v : ℕ) → Depends (test store.nodes r) v → v < length system.conditions
  below_of r over v d = let within = over.within v d in let end = within.1 in omega (arith, end, is.is_free.first, is.is_free.variables)

  -- truths that agree on the proposals read off one reaction
  pub same_reading : (a b : List Bool) → ((v : ℕ) → v < length system.conditions → truth_of a v ≡ truth_of b v) → reading store.nodes system a ≡ reading store.nodes system b
  same_reading a b same = same_readings store.nodes store.nodes a b system.present system.truth (λ s r at. over r (is.is_system.present s r at)) (λ s r at. over r (is.is_system.truth s r at)) where
    over : (r : Ref) → IsOver store.nodes system r → test store.nodes r a ≡ test store.nodes r b
    over r is_over = depends_agree store is.has_store r is_over.held a b (λ v d. same v (below_of r is_over v d))

  -- the reaction with the first truths of a proposal put in for its own
  flipped : (proposal : List Bool) (reaction : Reaction) → KeepsTo system.conditions proposal reaction → (start : List Bool) → reading store.nodes system start ≡ reaction
      → (n : ℕ) → n ≤ length system.conditions → (truths : List Bool) × (reading store.nodes system truths ≡ reaction) × ((v : ℕ) → v < n → truth_of truths v ≡ truth_of proposal v)
  flipped proposal reaction keeps start is_start zero le = (start, is_start, λ v lt. absurd (omega (arith, lt)))
  flipped proposal reaction keeps start is_start (suc n) le =
      let before = flipped proposal reaction keeps start is_start n (omega (arith, le)) in
      let t = before.0 in
      let d : SigId = signal_id 0 in
      let at : slice_get system.conditions n ≡ Some (get_or system.conditions n d) = slice_get-get_or system.conditions n d (omega (arith, le)) in (
        with_truth t n (truth_of proposal n),
        by t before.1 (get_or system.conditions n d) at (status_at reaction (get_or system.conditions n d).0) refl,
        λ v lt. elim (cases_eq v n) [
          | inl e ↦ subst (λ w. truth_of (with_truth t n (truth_of proposal n)) w ≡ truth_of proposal w) (sym e) (truth_of-with_same t n (truth_of proposal n))
          | inr ne ↦ truth_of-with_other t n (truth_of proposal n) v ne ∙ before.2 v (omega (arith, lt, ne))
        ],
      )
    where
      by : (t : List Bool) → reading store.nodes system t ≡ reaction → (c : SigId) → slice_get system.conditions n ≡ Some c → (status : Status) → status_at reaction c.0 ≡ status → reading store.nodes system (with_truth t n (truth_of proposal n)) ≡ reaction
      by t own c at None absent = (idle_own n c t (truth_of proposal n) at (solution t) (ap (λ r. status_at r c.0) own ∙ absent)).1 ∙ own
      by t own c at (Some b) here =
          let wanted : Allows (Some b) (truth_of proposal n) = subst (λ x. Allows x (truth_of proposal n)) here (keeps n c at) in
          let has : Allows (Some b) (truth_of t n) = subst (λ x. Allows x (truth_of t n)) (ap (λ r. status_at r c.0) own ∙ here) (keeps_own t n c at) in
          let same : truth_of proposal n ≡ truth_of t n = sym wanted ∙ has in
          same_reading (with_truth t n (truth_of proposal n)) t (λ v lt. elim (cases_eq v n) [
            | inl e ↦ subst (λ w. truth_of (with_truth t n (truth_of proposal n)) w ≡ truth_of t w) (sym e) (truth_of-with_same t n (truth_of proposal n) ∙ same)
            | inr ne ↦ truth_of-with_other t n (truth_of proposal n) v ne
          ]) ∙ own

  -- a proposal reads off the one reaction that keeps to it
  pub one_reading : (proposal : List Bool) (reaction : Reaction) → Speaks kernel reaction → KeepsTo system.conditions proposal reaction → reading store.nodes system proposal ≡ reaction
  one_reading proposal reaction speaks keeps =
      let start = is.is_system.complete reaction speaks in
      let end = flipped proposal reaction keeps start.0 start.2 (length system.conditions) (omega arith) in
      same_reading proposal end.0 (λ v lt. sym (end.2 v lt)) ∙ end.1

  -- the number of a condition's proposal
  pub number_of : (c : ℕ) → is_condition kernel c ≡ true → (v : ℕ) × (slice_get system.conditions v ≡ Some (signal_id c))
  number_of c is_c = let there = (is.conditions.all (signal_id c)).1 is_c in (there.0, at_contained system.conditions (signal_id c) there)

  -- two truths that differ in the proposal of one condition read off the same status of another one, where its presence does not depend on that proposal
  pub same_status_beside : (d u v : ℕ) (ts : List Bool) → d < length kernel.signals → slice_get system.conditions u ≡ Some (signal_id d) → u ≢ v → (a b : Bool)
      → test store.nodes (get_or system.present d system.residue) (with_truth ts v a) ≡ test store.nodes (get_or system.present d system.residue) (with_truth ts v b)
      → status_at (reading store.nodes system (with_truth ts v a)) d ≡ status_at (reading store.nodes system (with_truth ts v b)) d
  same_status_beside d u v ts lt at apart a b same = by (status_at (reading store.nodes system (with_truth ts v a)) d) (status_at (reading store.nodes system (with_truth ts v b)) d) refl refl where
    presences : is_present (reading store.nodes system (with_truth ts v a)) d ≡ is_present (reading store.nodes system (with_truth ts v b)) d
    presences = presence_read d lt (with_truth ts v a) ∙ same ∙ sym (presence_read d lt (with_truth ts v b))

    own : (x : Bool) (status : Status) → status_at (reading store.nodes system (with_truth ts v x)) d ≡ status → Allows status (truth_of ts u)
    own x status e = subst (λ t. Allows status t) (truth_of-with_other ts v x u apart) (subst (λ y. Allows y (truth_of (with_truth ts v x) u)) e (keeps_own (with_truth ts v x) u (signal_id d) at))

    by : (x y : Status) → status_at (reading store.nodes system (with_truth ts v a)) d ≡ x → status_at (reading store.nodes system (with_truth ts v b)) d ≡ y → status_at (reading store.nodes system (with_truth ts v a)) d ≡ status_at (reading store.nodes system (with_truth ts v b)) d
    by None None e f = e ∙ sym f
    by (Some p) (Some q) e f =
        let first : p ≡ truth_of ts u = own a (Some p) e in
        let second : q ≡ truth_of ts u = own b (Some q) f in
        e ∙ ap Some (first ∙ sym second) ∙ sym f
    by None (Some q) e f = absurd (false≢true (sym (ap is_some e) ∙ presences ∙ ap is_some f))
    by (Some p) None e f = absurd (false≢true (sym (ap is_some f) ∙ sym presences ∙ ap is_some e))

  -- a presence that does not depend on a proposal is the same with either truth of it
  same_presence_beside : (d v : ℕ) (ts : List Bool) → (Depends (test store.nodes (get_or system.present d system.residue)) v → ⊥) → (a b : Bool)
      → test store.nodes (get_or system.present d system.residue) (with_truth ts v a) ≡ test store.nodes (get_or system.present d system.residue) (with_truth ts v b)
  same_presence_beside d v ts not false true = not_depends (test store.nodes (get_or system.present d system.residue)) v ts not
  same_presence_beside d v ts not true false = sym (not_depends (test store.nodes (get_or system.present d system.residue)) v ts not)
  same_presence_beside d v ts not _ _ = refl

  -- two truths of one proposal read off the same presence, where they read off the same statuses of the known conditions
  same_where_agreed : (Known : ℕ → Type 0) (s v : ℕ) (ts : List Bool) → s < length kernel.signals → IsDetermined kernel Known s → AgreeOn kernel Known (reading store.nodes system (with_truth ts v false)) (reading store.nodes system (with_truth ts v true))
      → test store.nodes (get_or system.present s system.residue) (with_truth ts v false) ≡ test store.nodes (get_or system.present s system.residue) (with_truth ts v true)
  same_where_agreed Known s v ts lt determined agree =
      sym (presence_read s lt (with_truth ts v false))
      ∙ determined (reading store.nodes system (with_truth ts v false)) (reading store.nodes system (with_truth ts v true)) (speaks_read (with_truth ts v false)) (speaks_read (with_truth ts v true)) agree
      ∙ presence_read s lt (with_truth ts v true)

  other_number : (c : SigId) (d u v : ℕ) → slice_get system.conditions u ≡ Some (signal_id d) → slice_get system.conditions v ≡ Some c → (d ≡ c.0 → ⊥) → u ≢ v
  other_number c d u v at_u at_v not e =
      let both : Some (signal_id d) ≡ Some c = sym at_u ∙ ap (slice_get system.conditions) e ∙ at_v in
      let same : signal_id d ≡ c = cc in
      not (ap (λ (x : SigId). x.0) same)

  -- what is determined by conditions of the first rounds depends on their proposals alone
  pub depends_known : (round s v : ℕ) (c : SigId) → s < length kernel.signals → IsDetermined kernel (EntersBy kernel round) s → slice_get system.conditions v ≡ Some c → (EntersBy kernel round c.0 → ⊥)
      → Depends (test store.nodes (get_or system.present s system.residue)) v → ⊥
  depends_known zero s v c lt determined at unknown (ts, differ) = differ (same_where_agreed (EntersBy kernel zero) s v ts lt determined (λ d is_d known. absurd known))
  depends_known (suc r) s v c lt determined at unknown (ts, differ) =
      differ (same_where_agreed (EntersBy kernel (suc r)) s v ts lt determined (λ d is_d known.
      let w = number_of d is_d in
      let below = condition_is_signal kernel d is_d in
      same_status_beside d w.0 v ts below w.1 (other_number c d w.0 v w.1 at (λ same. unknown (subst (λ x. EntersBy kernel (suc r) x) same known))) false true
      (same_presence_beside d v ts (depends_known r d v c below known at (λ early. unknown (enters_stays kernel c.0 r early))) false true)))

  -- a condition that is in no known one's place is not known
  known_is : (known : List SigId) (c : SigId) → is_unknown_to known (Some c) ≡ false → IsAmong known c.0
  known_is known c is_known = by (list_any (λ (other : SigId). eqb other.0 c.0) known) refl where
    by : (b : Bool) → list_any (λ (other : SigId). eqb other.0 c.0) known ≡ b → IsAmong known c.0
    by true e =
        let found = passes_one (λ (other : SigId). eqb other.0 c.0) known e in
        subst (λ k. Contains known (signal_id k)) (eqb-true found.0.0 c.0 found.2) found.1
    by false e = absurd (false≢true (sym is_known ∙ ap not e))

  known_not : (known : List SigId) (c : SigId) → is_unknown_to known (Some c) ≡ true → IsAmong known c.0 → ⊥
  known_not known c unknown among = false≢true (sym (ap not (one_passes (λ (other : SigId). eqb other.0 c.0) known (signal_id c.0) among (eq-eqb c.0 c.0 refl))) ∙ unknown)

  -- a presence that needs proposals of known conditions alone is determined by these
  pub needs_known : (known : List SigId) (needs : List ℕ) (s : ℕ) → s < length kernel.signals → ((v : ℕ) → Depends (test store.nodes (get_or system.present s system.residue)) v → Contains needs v)
      → ((v : ℕ) → Contains needs v → is_unknown system.conditions known v ≡ false) → IsDetermined kernel (IsAmong known) s
  needs_known known needs s lt all told a b speaks_a speaks_b agree =
      ap (λ r. is_present r s) (sym first.2) ∙ presence_read s lt first.0
      ∙ depends_agree store is.has_store (get_or system.present s system.residue) (presence_over s lt).held first.0 both (λ v d. sym (mixed_at needs first.0 second.0 v (all v d)))
      ∙ sym (presence_read s lt both) ∙ ap (λ r. is_present r s) (one_reading both b speaks_b keeps)
    where
      first : (truths : List Bool) × IsSolution store.nodes system truths × (reading store.nodes system truths ≡ a)
      first = is.is_system.complete a speaks_a

      second : (truths : List Bool) × IsSolution store.nodes system truths × (reading store.nodes system truths ≡ b)
      second = is.is_system.complete b speaks_b

      both : List Bool
      both = mixed needs (is.is_system.complete a speaks_a).0 (is.is_system.complete b speaks_b).0

      keeps : KeepsTo system.conditions (mixed needs (is.is_system.complete a speaks_a).0 (is.is_system.complete b speaks_b).0) b
      keeps v c at = elim (is_in needs v) [
        | inl there ↦
            let among = known_is known c (ap (is_unknown_to known) (sym at) ∙ told v there) in
            let same = agree c.0 ((is.conditions.all c).0 (contains_at system.conditions v c at)) among in
            let own : Allows (status_at a c.0) (truth_of first.0 v) = subst (λ r. Allows (status_at r c.0) (truth_of first.0 v)) first.2 (keeps_own first.0 v c at) in
            subst (λ t. Allows (status_at b c.0) t) (sym (mixed_at needs first.0 second.0 v there)) (subst (λ x. Allows x (truth_of first.0 v)) same own)
        | inr out ↦
            let own : Allows (status_at b c.0) (truth_of second.0 v) = subst (λ r. Allows (status_at r c.0) (truth_of second.0 v)) second.2 (keeps_own second.0 v c at) in
            subst (λ t. Allows (status_at b c.0) t) (mixed_outside needs first.0 second.0 v out) own
      ]

  -- a presence that needs the proposal of a condition that is not known is not determined
  pub needs_unknown : (round : ℕ) (known : List SigId) (s v : ℕ) → AreEntered kernel round known → s < length kernel.signals → Depends (test store.nodes (get_or system.present s system.residue)) v
      → is_unknown system.conditions known v ≡ true → IsDetermined kernel (IsAmong known) s → ⊥
  needs_unknown round known s v entered lt depends unknown determined = by (get_or system.conditions v (signal_id 0)) at where
    at : slice_get system.conditions v ≡ Some (get_or system.conditions v (signal_id 0))
    at = slice_get-get_or system.conditions v (signal_id 0) (below_of (get_or system.present s system.residue) (presence_over s lt) v depends)

    by : (c : SigId) → slice_get system.conditions v ≡ Some c → ⊥
    by c at_c =
        let is_c = (is.conditions.all c).0 (contains_at system.conditions v c at_c) in
        depends_known round s v c lt (determined_enters kernel round known entered s determined) at_c
        (λ enters. known_not known c (ap (is_unknown_to known) (sym at_c) ∙ unknown) ((entered c.0 is_c).1 enters)) depends

  -- so the question whether one of its needs is not known is answered
  pub open_answer : (round : ℕ) (known conditions : List SigId) (needs variables : List ℕ) (s : ℕ) (r : Ref) (result : Bool) → AreEntered kernel round known → s < length kernel.signals → r ≡ get_or system.present s system.residue
      → ((v : ℕ) → Contains needs v ↔ Depends (test store.nodes r) v) → conditions ≡ system.conditions → variables ≡ needs → result ≡ list_any (is_unknown conditions known) variables → IsOpenAnswer kernel (IsAmong known) s result
  open_answer round known conditions needs variables s r result entered lt own exact same all answer = subst (λ b. IsOpenAnswer kernel (IsAmong known) s b) (sym answer) (by (list_any (is_unknown conditions known) variables) refl) where
    present : (v : ℕ) → Contains needs v ↔ Depends (test store.nodes (get_or system.present s system.residue)) v
    present v = subst (λ p. Contains needs v ↔ Depends (test store.nodes p) v) own (exact v)

    by : (b : Bool) → list_any (is_unknown conditions known) variables ≡ b → IsOpenAnswer kernel (IsAmong known) s b
    by true e =
        let found = passes_one (is_unknown conditions known) variables e in
        needs_unknown round known s found.0 entered lt ((present found.0).0 (subst (λ (xs : List ℕ). Contains xs found.0) all found.1)) (ap (λ cs. is_unknown cs known found.0) (sym same) ∙ found.2)
    by false e = needs_known known needs s lt (λ v d. (present v).1 d) (λ v there. told v there (is_unknown system.conditions known v) refl) where
      told : (v : ℕ) → Contains needs v → (b : Bool) → is_unknown system.conditions known v ≡ b → is_unknown system.conditions known v ≡ false
      told v there false f = f
      told v there true f = absurd (false≢true (sym e ∙ one_passes (is_unknown conditions known) variables v (subst (λ (xs : List ℕ). Contains xs v) (sym all) there) (ap (λ cs. is_unknown cs known v) same ∙ f)))

  -- the same where the conditions that are not known are marked
  pub marked_answer : (round : ℕ) (known : List SigId) (needs variables : List ℕ) (marks : List Bool) (s : ℕ) (result : Bool) → AreEntered kernel round known → s < length kernel.signals
      → ((v : ℕ) → Contains needs v ↔ Depends (test store.nodes (get_or system.present s system.residue)) v) → variables ≡ needs → marks ≡ map (λ (c : SigId). is_unknown_to known (Some c)) system.conditions
      → result ≡ list_any (λ v. get_or marks v true) variables → IsOpenAnswer kernel (IsAmong known) s result
  marked_answer round known needs variables marks s result entered lt exact all are answer =
      open_answer round known system.conditions needs variables s (get_or system.present s system.residue) result entered lt refl exact refl all (answer ∙ (λ j. list_any (λ v. marked v j) variables))
    where
      marked : (v : ℕ) → get_or marks v true ≡ is_unknown system.conditions known v
      marked v = ap (λ (xs : List Bool). get_or xs v true) are ∙ marks_read known system.conditions v

  -- no condition is pinned: its proposal may be turned
  module _ (reaction : Reaction) (truth : Bool) (c : ℕ) (is_c : is_condition kernel c ≡ true) (possible : IsReaction kernel reaction) (here : status_at reaction c ≡ Some truth) where
    speaks_here : Speaks kernel reaction
    speaks_here = record { is = possible; some = by (is_silent reaction) refl } where
      by : (b : Bool) → is_silent reaction ≡ b → is_silent reaction ≡ false
      by false e = e
      by true e = absurd (let none : None ≡ Some truth = sym (absent_in_silence reaction c e) ∙ here in cc)

    abbrev start : List Bool
    start = (is.is_system.complete reaction speaks_here).0

    abbrev number : ℕ
    number = (number_of c is_c).0

    within : c < length kernel.signals
    within = condition_is_signal kernel c is_c

    start_is : reading store.nodes system (is.is_system.complete reaction speaks_here).0 ≡ reaction
    start_is = (is.is_system.complete reaction speaks_here).2

    truth_here : truth_of (is.is_system.complete reaction speaks_here).0 (number_of c is_c).0 ≡ truth
    truth_here =
        let own : Allows (Some truth) (truth_of start number) = subst (λ x. Allows x (truth_of start number)) (ap (λ r. status_at r c) start_is ∙ here) (keeps_own start number (signal_id c) (number_of c is_c).1) in
        sym own

    -- the start with its own truth put in twice
    back_again : (ts : List Bool) → ((v : ℕ) → v ≢ (number_of c is_c).0 → truth_of ts v ≡ truth_of (is.is_system.complete reaction speaks_here).0 v) → reading store.nodes system (with_truth ts (number_of c is_c).0 truth) ≡ reaction
    back_again ts same = same_reading (with_truth ts number truth) start (λ v lt. elim (cases_eq v number) [
      | inl e ↦ subst (λ w. truth_of (with_truth ts number truth) w ≡ truth_of start w) (sym e) (truth_of-with_same ts number truth ∙ sym truth_here)
      | inr ne ↦ truth_of-with_other ts number truth v ne ∙ same v ne
    ]) ∙ start_is

    abbrev turned : List Bool
    turned = with_truth (is.is_system.complete reaction speaks_here).0 (number_of c is_c).0 (not truth)

    turned_is : status_at (reading store.nodes system (with_truth (is.is_system.complete reaction speaks_here).0 (number_of c is_c).0 (not truth))) c ≡ Some (not truth)
    turned_is = by (status_at (reading store.nodes system turned) c) refl where
      by : (x : Status) → status_at (reading store.nodes system (with_truth (is.is_system.complete reaction speaks_here).0 (number_of c is_c).0 (not truth))) c ≡ x → x ≡ Some (not truth)
      by None e =
          let stays = (idle_own number (signal_id c) turned truth (number_of c is_c).1 (solution turned) e).1 in
          let back = back_again turned (λ v ne. truth_of-with_other start number (not truth) v ne) in
          absurd (let none : None ≡ Some truth = sym e ∙ ap (λ r. status_at r c) (sym stays ∙ back) ∙ here in cc)
      by (Some b) e =
          let own : Allows (Some b) (truth_of turned number) = subst (λ x. Allows x (truth_of turned number)) e (keeps_own turned number (signal_id c) (number_of c is_c).1) in
          ap Some (own ∙ truth_of-with_same start number (not truth))

    earlier_same : AgreeOn kernel (λ earlier. IsEarlier kernel earlier c) reaction (reading store.nodes system (with_truth (is.is_system.complete reaction speaks_here).0 (number_of c is_c).0 (not truth)))
    earlier_same d is_d earlier =
        ap (λ r. status_at r d) (sym (back_again start (λ v ne. refl)))
        ∙ same_status_beside d w.0 number start below w.1 (other_number (signal_id c) d w.0 number w.1 (number_of c is_c).1 apart) truth (not truth) (same_presence_beside d number start (not_needed earlier.layer earlier.has before_or) truth (not truth))
      where
        w : (u : ℕ) × (slice_get system.conditions u ≡ Some (signal_id d))
        w = number_of d is_d

        below : d < length kernel.signals
        below = condition_is_signal kernel d is_d

        before_or : earlier.layer ≤ earlier.later_layer
        before_or = elim earlier.before [ inl less ↦ omega (arith, less) | inr both ↦ omega (arith, both.0) ]

        apart : d ≡ c → ⊥
        apart same =
            let layers = one_layer kernel c earlier.layer earlier.later_layer (subst (λ x. HasLayer kernel x earlier.layer) same earlier.has) earlier.later_has in
            elim earlier.before [ inl less ↦ omega (arith, less, layers) | inr both ↦ omega (arith, both.1, same) ]

        not_needed : (layer : ℕ) → HasLayer kernel d layer → layer ≤ earlier.later_layer → Depends (test store.nodes (get_or system.present d system.residue)) (number_of c is_c).0 → ⊥
        not_needed zero has le depends = absurd has.enters
        not_needed (suc r) has le depends = depends_known r d number (signal_id c) below has.enters (number_of c is_c).1 (λ enters. earlier.later_has.first r (omega (arith, le)) enters) depends

    turned_free : (other : Reaction) × IsReaction kernel other × AgreeOn kernel (λ earlier. IsEarlier kernel earlier c) reaction other × (status_at other c ≡ Some (not truth))
    turned_free = (reading store.nodes system turned, (speaks_read turned).is, earlier_same, turned_is)

  pub condition_free : (c : ℕ) → is_condition kernel c ≡ true → IsFree kernel c
  condition_free c is_c reaction truth possible here = turned_free reaction truth c is_c possible here

  pub alive : (reaction : Reaction) × Speaks kernel reaction
  alive = (reading store.nodes system [], speaks_read [])

-- what is free of a system
pub free_in : (kernel : Kernel) (store : StoreView) (system : SystemView) (conditions : List SigId) → IsStore store → system.conditions ≡ conditions → AreConditions kernel conditions → IsSystem kernel store.nodes system → IsFreeSystem store.nodes system → IsFreeIn kernel store system
free_in kernel store system conditions has_store same are is_system free =
    record { has_store = has_store; conditions = subst (AreConditions kernel) (sym same) are; is_system = is_system; is_free = free }

-- the presences of a free system are guards
pub free_guards : (frame : Frame) (is : IsFrame frame) (store : StoreView) (system : SystemView) → IsFreeIn frame.kernel.now store system → AreGuards store.nodes frame system.conditions system.present
free_guards frame parts store system is = record {
  count = is.is_system.presences;
  each = λ s leads.
      let lt = (leader_is frame parts s leads).0 in
      let over = presence_over frame.kernel.now store system is s lt in (
        get_or system.present s system.residue,
        presence_at frame.kernel.now store system is s lt,
        record {
          held = over.held;
          function = λ proposal. (
            (λ t. (reading store.nodes system proposal, speaks_read frame.kernel.now store system is proposal, keeps_own frame.kernel.now store system is proposal, presence_read frame.kernel.now store system is s lt proposal ∙ t)),
            (λ w. sym (presence_read frame.kernel.now store system is s lt proposal) ∙ ap (λ r. is_present r s) (one_reading frame.kernel.now store system is proposal w.0 w.1 w.2) ∙ w.3),
          );
          variables = λ v d. below_of frame.kernel.now store system is (get_or system.present s system.residue) over v d;
        },
      );
}
