-- Lemmas on systems: what their truths read off.
use Rattle.sig_solve.proofs.Common.{◌≡◌, ◌<◌, ℕ, Bool, true, false, List, [], ◌∷◌, length, map, get_or, refl, sym, ap, ◌∙◌, subst, arith, Contains, zero, suc, None, Some, slice_get, is_some, if◌then◌else◌, get_or-range_with_len, length-range_with_len, SigId, Kernel, Allows, KeepsTo, Speaks, is_present, status_at, truth_of, with_truth, IsStore, Keeps, StoreView, test, Node, Ref, Holds-kept, depends_agree, IsOver, IsSolution, IsSystem, IsVariable, SystemView, proposed, reading, status_read, statuses_read, in_range, variables_of, slice_get-get_or, test-kept}

-- what a signal is in what truths read off
pub status_of_reading : (nodes : List Node) (truths : List Bool) (present truth : List Ref) (s : ℕ) (p t : Ref) → slice_get present s ≡ Some p → slice_get truth s ≡ Some t → status_at (statuses_read nodes truths present truth) s ≡ status_read nodes truths p t
status_of_reading nodes truths [] truth s p t at_p at_t = absurd (let e : None ≡ Some p = at_p in cc)
status_of_reading nodes truths (q ∷ present) [] s p t at_p at_t = absurd (let e : None ≡ Some t = at_t in cc)
status_of_reading nodes truths (q ∷ present) (u ∷ truth) zero p t at_p at_t =
    let e : Some q ≡ Some p = at_p in
    let f : Some u ≡ Some t = at_t in
    let same_p : q ≡ p = cc in
    let same_t : u ≡ t = cc in
    ap (λ x. status_read nodes truths x u) same_p ∙ ap (λ x. status_read nodes truths p x) same_t
status_of_reading nodes truths (q ∷ present) (u ∷ truth) (suc s) p t at_p at_t = status_of_reading nodes truths present truth s p t at_p at_t

-- where each presence and each truth is the same, the same is read off
pub same_readings : (m n : List Node) (a b : List Bool) (present truth : List Ref) → ((s : ℕ) (r : Ref) → slice_get present s ≡ Some r → test m r a ≡ test n r b) → ((s : ℕ) (r : Ref) → slice_get truth s ≡ Some r → test m r a ≡ test n r b)
    → statuses_read m a present truth ≡ statuses_read n b present truth
same_readings m n a b (p ∷ present) (t ∷ truth) same_p same_t =
    ap (λ x. (if x then Some (test m t a) else None) ∷ statuses_read m a present truth) (same_p 0 p refl)
    ∙ ap (λ x. (if test n p b then Some x else None) ∷ statuses_read m a present truth) (same_t 0 t refl)
    ∙ ap (λ xs. status_read n b p t ∷ xs) (same_readings m n a b present truth (λ s r at. same_p (suc s) r at) (λ s r at. same_t (suc s) r at))
same_readings m n a b _ _ same_p same_t = refl

some_where : (b truth : Bool) → is_some (if b then Some truth else None) ≡ b
some_where true truth = refl
some_where false truth = refl

-- the truth that is proposed for a condition is that of its variable
pub proposed_truth : (truths : List Bool) (proposals : List ℕ) (i v : ℕ) → slice_get proposals i ≡ Some v → truth_of (map (truth_of truths) proposals) i ≡ truth_of truths v
proposed_truth truths [] i v at = absurd (let e : None ≡ Some v = at in cc)
proposed_truth truths (w ∷ proposals) zero v at = let e : Some w ≡ Some v = at in let same : w ≡ v = cc in ap (truth_of truths) same
proposed_truth truths (w ∷ proposals) (suc i) v at = proposed_truth truths proposals i v at

pub in_variables : (system : SystemView) (v : ℕ) → IsVariable system v → Contains (variables_of system) v
in_variables system v is = in_range system.first system.variables v is.0 is.1

pub of_variables : (system : SystemView) (v : ℕ) → Contains (variables_of system) v → IsVariable system v
of_variables system v (k, lt, at) =
    let below : k < system.variables = omega (arith, lt, length-range_with_len system.first system.variables) in
    let is = get_or-range_with_len system.first system.variables k v below in
    (omega (arith, is, at), omega (arith, is, at, below))

pub variables_count : (system : SystemView) → length (variables_of system) ≡ system.variables
variables_count system = length-range_with_len system.first system.variables

module _ (kernel : Kernel) (nodes : List Node) (system : SystemView) (is : IsSystem kernel nodes system) where
  pub presence_at : (s : ℕ) → s < length kernel.signals → slice_get system.present s ≡ Some (get_or system.present s system.residue)
  presence_at s lt = slice_get-get_or system.present s system.residue (omega (arith, lt, is.presences))

  pub presence_over : (s : ℕ) → s < length kernel.signals → IsOver nodes system (get_or system.present s system.residue)
  presence_over s lt = is.present s (get_or system.present s system.residue) (presence_at s lt)

  pub truth_over : (s : ℕ) → s < length kernel.signals → IsOver nodes system (get_or system.truth s system.residue)
  truth_over s lt = is.truth s (get_or system.truth s system.residue) (slice_get-get_or system.truth s system.residue (omega (arith, lt, is.truths)))

  pub status_is : (s : ℕ) → s < length kernel.signals → (truths : List Bool)
      → status_at (reading nodes system truths) s ≡ (if test nodes (get_or system.present s system.residue) truths then Some (test nodes (get_or system.truth s system.residue) truths) else None)
  status_is s lt truths =
      status_of_reading nodes truths system.present system.truth s (get_or system.present s system.residue) (get_or system.truth s system.residue) (presence_at s lt) (slice_get-get_or system.truth s system.residue (omega (arith, lt, is.truths)))

  pub presence_read : (s : ℕ) → s < length kernel.signals → (truths : List Bool) → is_present (reading nodes system truths) s ≡ test nodes (get_or system.present s system.residue) truths
  presence_read s lt truths = ap is_some (status_is s lt truths) ∙ some_where (test nodes (get_or system.present s system.residue) truths) (test nodes (get_or system.truth s system.residue) truths)

  -- a condition that is present has the truth of its variable
  pub keeps_at : (truths : List Bool) (i v : ℕ) (c : SigId) → slice_get system.conditions i ≡ Some c → slice_get system.proposals i ≡ Some v → Allows (status_at (reading nodes system truths) c.0) (truth_of truths v)
  keeps_at truths i v c at own = subst (Allows (status_at (reading nodes system truths) c.0)) (proposed_truth truths system.proposals i v own) (is.keeps truths i c at)

-- truths that agree on the variables read off one reaction
module _ (kernel : Kernel) (store : StoreView) (has : IsStore store) (system : SystemView) (is : IsSystem kernel store.nodes system) (a b : List Bool) (same : (v : ℕ) → IsVariable system v → truth_of a v ≡ truth_of b v) where
  pub over_same : (r : Ref) → IsOver store.nodes system r → test store.nodes r a ≡ test store.nodes r b
  over_same r over = depends_agree store has r over.held a b (λ v d. same v (over.within v d))

  pub reading_same : reading store.nodes system a ≡ reading store.nodes system b
  reading_same = same_readings store.nodes store.nodes a b system.present system.truth (λ s r at. over_same r (is.present s r at)) (λ s r at. over_same r (is.truth s r at))

  pub solution_same : IsSolution store.nodes system b → IsSolution store.nodes system a
  solution_same solves = (over_same system.residue is.residue ∙ solves.0, over_same system.speaks is.speaks ∙ solves.1)

-- what holds of a system stays as the store grows
module _ (old new : StoreView) (kept : Keeps old new) (system : SystemView) where
  pub over_kept : (r : Ref) → IsOver old.nodes system r → IsOver new.nodes system r
  over_kept r over = record {
    held = Holds-kept old new kept r over.held;
    within = λ v d. over.within v (d.0, λ e. d.1 (test-kept old new kept r over.held _ ∙ e ∙ sym (test-kept old new kept r over.held _)));
  }

  module _ (kernel : Kernel) (is : IsSystem kernel old.nodes system) where
    pub reading_kept : (truths : List Bool) → reading new.nodes system truths ≡ reading old.nodes system truths
    reading_kept truths = same_readings new.nodes old.nodes truths truths system.present system.truth (λ s r at. test-kept old new kept r (is.present s r at).held truths) (λ s r at. test-kept old new kept r (is.truth s r at).held truths)

    pub solution_older : (truths : List Bool) → IsSolution new.nodes system truths → IsSolution old.nodes system truths
    solution_older truths solves = (sym (test-kept old new kept system.residue is.residue.held truths) ∙ solves.0, sym (test-kept old new kept system.speaks is.speaks.held truths) ∙ solves.1)

    pub solution_newer : (truths : List Bool) → IsSolution old.nodes system truths → IsSolution new.nodes system truths
    solution_newer truths solves = (test-kept old new kept system.residue is.residue.held truths ∙ solves.0, test-kept old new kept system.speaks is.speaks.held truths ∙ solves.1)

    pub system_kept : IsSystem kernel new.nodes system
    system_kept = record {
      presences = is.presences;
      truths = is.truths;
      present = λ s r at. over_kept r (is.present s r at);
      truth = λ s r at. over_kept r (is.truth s r at);
      residue = over_kept system.residue is.residue;
      speaks = over_kept system.speaks is.speaks;
      few = is.few;
      counted = is.counted;
      proposal = is.proposal;
      apart = is.apart;
      classes = is.classes;
      plain = is.plain;
      sound = λ truths solves. subst (Speaks kernel) (sym (reading_kept truths)) (is.sound truths (solution_older truths solves));
      complete = λ reaction speaks. let at = is.complete reaction speaks in (at.0, solution_newer at.0 at.1, reading_kept at.0 ∙ at.2);
      keeps = λ truths. subst (KeepsTo system.conditions (proposed system truths)) (sym (reading_kept truths)) (is.keeps truths);
      idle = λ i v condition truths b at own solves absent.
          let stays = is.idle i v condition truths b at own (solution_older truths solves) (ap (λ r. status_at r condition.0) (sym (reading_kept truths)) ∙ absent) in
          (solution_newer (with_truth truths v b) stays.0, reading_kept (with_truth truths v b) ∙ stays.1 ∙ sym (reading_kept truths));
    }
