-- Lemmas on rounds: where the proposals of known conditions are known, so are the conditions.
use Rattle.sig_solve.proofs.Common.{◌≡◌, ◌≤◌, ℕ, Bool, true, false, List, get_or, refl, sym, ap, ◌∙◌, subst, arith, zero, suc, None, Some, is_some, slice_get, false≢true, SigId, Allows, is_condition, signal_id, AgreeOn, EntersBy, Reaction, Status, Speaks, is_present, status_at, truth_of, StoreView, IsSolution, reading, ForgetsAllBut, IsAskedIn, IsAmong, Asked}
use Rattle.sig_solve.proofs.AskedLemmas.{is_condition_at, kept_known, kept_proposals, moved, number_of, speaks_read, variable_at}
use Rattle.sig_solve.proofs.RoundLemmas.{enters_later}
use Rattle.sig_solve.proofs.SystemLemmas.{keeps_at}

module _ (store : StoreView) (asked : Asked) (is : IsAskedIn store asked) where
  -- two solutions with one proposal for a condition read off one status of it, where they read off one presence
  module _ (a b : List Bool) (c : ℕ) (is_c : is_condition asked.frame.kernel.now c ≡ true) (present : is_present (reading store.nodes asked.system a) c ≡ is_present (reading store.nodes asked.system b) c)
      (agree : (i v : ℕ) → slice_get asked.system.conditions i ≡ Some (signal_id c) → slice_get asked.system.proposals i ≡ Some v → truth_of a v ≡ truth_of b v) where
    by_statuses : (x y : Status) → status_at (reading store.nodes asked.system a) c ≡ x → status_at (reading store.nodes asked.system b) c ≡ y → status_at (reading store.nodes asked.system a) c ≡ status_at (reading store.nodes asked.system b) c
    by_statuses None None e f = e ∙ sym f
    by_statuses None (Some y) e f = absurd (false≢true (sym (ap is_some e) ∙ present ∙ ap is_some f))
    by_statuses (Some x) None e f = absurd (false≢true (sym (ap is_some f) ∙ sym present ∙ ap is_some e))
    by_statuses (Some x) (Some y) e f =
        let (i, at) = number_of store asked is c is_c in
        let own = variable_at store asked is i (signal_id c) at in
        let v = get_or asked.system.proposals i 0 in
        let first : Allows (Some x) (truth_of a v) = subst (λ s. Allows s (truth_of a v)) e (keeps_at asked.frame.kernel.now store.nodes asked.system is.is_system a i v (signal_id c) at own) in
        let second : Allows (Some y) (truth_of b v) = subst (λ s. Allows s (truth_of b v)) f (keeps_at asked.frame.kernel.now store.nodes asked.system is.is_system b i v (signal_id c) at own) in
        e ∙ ap Some (first ∙ agree i v at own ∙ sym second) ∙ sym f

    pub one_status : status_at (reading store.nodes asked.system a) c ≡ status_at (reading store.nodes asked.system b) c
    one_status = by_statuses (status_at (reading store.nodes asked.system a) c) (status_at (reading store.nodes asked.system b) c) refl refl

  -- so two solutions with one proposal for the conditions of the first rounds agree on these
  module _ (a b : List Bool) (solves_a : IsSolution store.nodes asked.system a) (solves_b : IsSolution store.nodes asked.system b) (round : ℕ)
      (agree : (i v : ℕ) (c : SigId) → slice_get asked.system.conditions i ≡ Some c → slice_get asked.system.proposals i ≡ Some v → EntersBy asked.frame.kernel.now round c.0 → truth_of a v ≡ truth_of b v) where
    pub closed_rounds : (r : ℕ) → r ≤ round → AgreeOn asked.frame.kernel.now (EntersBy asked.frame.kernel.now r) (reading store.nodes asked.system a) (reading store.nodes asked.system b)
    closed_rounds zero le c is_c enters = absurd enters
    closed_rounds (suc r) le c is_c enters =
        one_status a b c is_c
        (enters (reading store.nodes asked.system a) (reading store.nodes asked.system b) (speaks_read store asked is a solves_a) (speaks_read store asked is b solves_b) (closed_rounds r (omega (arith, le))))
        (λ i v at own. agree i v (signal_id c) at own (enters_later asked.frame.kernel.now (suc r) round c le enters))

  -- a reaction that agrees with another one on known conditions, as a solution with the proposals of that one
  module _ (known : List SigId) (forgotten : List Bool) (but : ForgetsAllBut asked.system known forgotten) (a : List Bool) (r : Reaction) (speaks : Speaks asked.frame.kernel.now r)
      (agree : AgreeOn asked.frame.kernel.now (IsAmong known) (reading store.nodes asked.system a) r) where
    own_truths : (ts : List Bool) × IsSolution store.nodes asked.system ts × (reading store.nodes asked.system ts ≡ r)
    own_truths = is.is_system.complete r speaks

    abbrev own : List Bool
    own = own_truths.0

    allowed : (i v : ℕ) (c : SigId) → slice_get asked.system.conditions i ≡ Some c → slice_get asked.system.proposals i ≡ Some v → truth_of forgotten v ≡ false → Allows (status_at (reading store.nodes asked.system own_truths.0) c.0) (truth_of a v)
    allowed i v c at_c at kept =
        let among = kept_known store asked is known forgotten but i v c at_c at kept in
        let same = agree c.0 (is_condition_at store asked is i c at_c) among in
        subst (λ s. Allows s (truth_of a v)) (same ∙ ap (λ x. status_at x c.0) (sym own_truths.2)) (keeps_at asked.frame.kernel.now store.nodes asked.system is.is_system a i v c at_c at)

    pub agreeing : (o : List Bool) × ((v : ℕ) → truth_of forgotten v ≡ false → truth_of a v ≡ truth_of o v) × IsSolution store.nodes asked.system o × (reading store.nodes asked.system o ≡ r)
    agreeing =
        let at = moved store asked is forgotten (kept_proposals store asked is known forgotten but) a own_truths.0 own_truths.1 allowed in
        (at.0, at.1, at.2, at.3 ∙ own_truths.2)
    -- ---- whether known conditions leave a presence open
