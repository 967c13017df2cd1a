-- Which operations come before which is decided.
use Rattle.sig_deciding_laws.proofs.Common.{◌≡◌, ◌≢◌, inl, inr, ℕ, zero, suc, Bool, true, false, List, [], ◌∷◌, length, refl, sym, ap, ◌∙◌, subst, arith, Contains, Some, slice_get, cases_eq, EqId, SigId, Depends, truth_of, with_truth, Guard, Operation, ComesBefore, Decides, DoneTogether, Feeds, Keeps, Needs, OpKind, DelayRead, Store, slice_get_within, map_dec, dec_both, dec_contains, dec_either, dec_not, dec_option, dec_some, dec_truth, all_truths, searched_below, searched_lists, truth_of-with_same}
use Rattle.sig_deciding_laws.proofs.DecidedStatements.{dec_equation, dec_signal}
use Rattle.sig_deciding_laws.proofs.ClockFunctionsOfKernel.{AgreeBelow, IsSound, Sees}

-- ---- proposals

-- the first truths of a proposal
abbrev cut : ℕ → List Bool → List Bool
cut zero p = []
cut (suc n) [] = false ∷ cut n []
cut (suc n) (t ∷ p) = t ∷ cut n p

cut_length : (n : ℕ) (p : List Bool) → length (cut n p) ≡ n
cut_length zero p = refl
cut_length (suc n) [] = let rest = cut_length n [] in omega (arith, rest)
cut_length (suc n) (t ∷ p) = let rest = cut_length n p in omega (arith, rest)

cut_agrees : (n : ℕ) (p : List Bool) → AgreeBelow n p (cut n p)
cut_agrees zero p v less = absurd (omega (arith, less))
cut_agrees (suc n) [] zero less = refl
cut_agrees (suc n) [] (suc v) less = cut_agrees n [] v (omega (arith, less))
cut_agrees (suc n) (t ∷ p) zero less = refl
cut_agrees (suc n) (t ∷ p) (suc v) less = cut_agrees n p v (omega (arith, less))

pub dec_some_proposal : (n : ℕ) (P : List Bool → Type 0) → ((p : List Bool) → Dec (P p)) → ((p q : List Bool) → AgreeBelow n p q → P p → P q) → Dec ((p : List Bool) × P p)
dec_some_proposal n P decide same =
    map_dec (λ found. (found.0, found.2)) (λ found. (cut n found.0, cut_length n found.0, same found.0 (cut n found.0) (cut_agrees n found.0) found.1))
    (searched_lists all_truths n P (λ p _. decide p))

other_truth : (truths : List Bool) (v : ℕ) (b : Bool) (u : ℕ) → (u ≡ v → ⊥) → truth_of (with_truth truths v b) u ≡ truth_of truths u
unfolding with_truth
other_truth [] (suc v) b (suc u) apart = other_truth [] v b u (λ e. apart (ap suc e))
other_truth (t ∷ truths) (suc v) b (suc u) apart = other_truth truths v b u (λ e. apart (ap suc e))
other_truth _ zero b zero apart = absurd (apart refl)
other_truth _ _ b _ apart = refl

with_agrees : (n v : ℕ) (b : Bool) (p q : List Bool) → AgreeBelow n p q → AgreeBelow n (with_truth p v b) (with_truth q v b)
with_agrees n v b p q agree u less = elim (cases_eq u v) [
  | inl same ↦ subst (λ k. truth_of (with_truth p v b) k ≡ truth_of (with_truth q v b) k) (sym same) (truth_of-with_same p v b ∙ sym (truth_of-with_same q v b))
  | inr apart ↦ other_truth p v b u apart ∙ agree u less ∙ sym (other_truth q v b u apart)
]

dec_depends : (n : ℕ) (f : Guard) → Sees n f → (v : ℕ) → Dec (Depends f v)
dec_depends n f sees v =
    dec_some_proposal n (λ truths. f (with_truth truths v false) ≢ f (with_truth truths v true)) (λ truths. dec_not (dec_truth (f (with_truth truths v false)) (f (with_truth truths v true))))
    (λ p q agree differs same. differs (side p q agree false ∙ same ∙ sym (side p q agree true)))
  where
    side : (p q : List Bool) → AgreeBelow n p q → (b : Bool) → f (with_truth p v b) ≡ f (with_truth q v b)
    side p q agree b = sees (with_truth p v b) (with_truth q v b) (with_agrees n v b p q agree)

-- ---- operations

is_delay_read : (kind : OpKind) → Dec (kind ≡ DelayRead)
is_delay_read DelayRead = yes refl
is_delay_read _ = no (λ e. cc)

is_store : (kind : OpKind) (delay : EqId) → Dec (kind ≡ Store delay)
is_store (Store d) delay = map_dec (ap Store) (λ e. cc) (dec_equation d delay)
is_store _ delay = no (λ e. cc)

dec_together : (n : ℕ) (p q : Operation) → Sees n p.guard → Sees n q.guard → Dec (DoneTogether p q)
dec_together n p q sees_p sees_q =
    map_dec (λ found. (found.0, found.1.0, found.1.1)) (λ found. (found.0, (found.1, found.2)))
    (dec_some_proposal n (λ proposal. (p.guard proposal ≡ true) × (q.guard proposal ≡ true)) (λ proposal. dec_both (dec_truth (p.guard proposal) true) (dec_truth (q.guard proposal) true))
    (λ a b agree both. (sym (sees_p a b agree) ∙ both.0, sym (sees_q a b agree) ∙ both.1)))

module _ (conditions : List SigId) where
  pub dec_needs : (q : Operation) → IsSound (length conditions) q → (condition : SigId) → Dec (Needs conditions q condition)
  dec_needs q sound condition =
      map_dec (λ found. record { variable = found.0; is = found.2.0; depends = found.2.1 })
      (λ needs. (needs.variable, slice_get_within conditions needs.variable condition needs.is, (needs.is, needs.depends)))
      (searched_below (length conditions) (λ v. (slice_get conditions v ≡ Some condition) × Depends q.guard v) (λ v _.
      dec_both (dec_option dec_signal (slice_get conditions v) (Some condition)) (dec_depends (length conditions) q.guard sound.sees v)))

  module _ (p q : Operation) (sound_p : IsSound (length conditions) p) (sound_q : IsSound (length conditions) q) where
    dec_feeds : Dec (Feeds p q)
    dec_feeds =
        map_dec (λ found. record { signal = found.0; writes = found.1; reads = found.2.0; together = found.2.1 }) (λ feeds. (feeds.signal, feeds.writes, (feeds.reads, feeds.together)))
        (dec_some (λ x. Contains q.reads x × DoneTogether p q) p.writes (λ x. dec_both (dec_contains dec_signal q.reads x) (dec_together (length conditions) p q sound_p.sees sound_q.sees)))

    dec_decides : Dec (Decides conditions p q)
    dec_decides =
        map_dec (λ found. record { condition = found.0; writes = found.1; needs = found.2 }) (λ decides. (decides.condition, decides.writes, decides.needs))
        (dec_some (Needs conditions q) p.writes (dec_needs q sound_q))

    dec_keeps : Dec (Keeps p q)
    dec_keeps =
        map_dec (λ found. record { delay = found.0; read = found.2.0; of = found.1; store = found.2.1 }) (λ keeps. (keeps.delay, keeps.of, (keeps.read, keeps.store)))
        (dec_some (λ delay. (p.kind ≡ DelayRead) × (q.kind ≡ Store delay)) p.equation (λ delay. dec_both (is_delay_read p.kind) (is_store q.kind delay)))

    pub dec_before : Dec (ComesBefore conditions p q)
    dec_before = dec_either dec_feeds (dec_either dec_decides dec_keeps)
