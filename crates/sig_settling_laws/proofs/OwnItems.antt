-- Own steps: an actor that does one runs, and the items that it sent and took only become more.
use Rattle.sig_settling_laws.proofs.Common.{◌≡◌, ◌++◌, inl, inr, ℕ, zero, suc, ℤ, Bool, true, false, cond, List, [], ◌∷◌, refl, ap, sym, subst, ◌∙◌, append_assoc, nat_lt, slice_get, append-nil, code_of, Given, AtLimit, Puts, Stopped, Takes, Turn, turn, turn_at, Grow, HasTurned, IsOwnStep, Items, LeadBy, Own, Stay, cases_eq}

-- items stand in front of more
abbrev pub Begin : Items → Items → Type 0
Begin before after = (link : ℕ) → (rest : List ℤ) × (after link ≡ before link ++ rest)

begin_same : (items : Items) → Begin items items
begin_same items link = ([], sym (append-nil (items link)))

begin_stay : (before after : Items) → Stay before after → Begin before after
begin_stay before after stay link = ([], stay link ∙ sym (append-nil (before link)))

begin_grow : (l : ℕ) (item : ℤ) (before after : Items) → Grow l item before after → Begin before after
begin_grow l item before after grow link = elim (cases_eq link l) [
  | inl same ↦ (item ∷ [], subst (λ n. after n ≡ before n ++ item ∷ []) (sym same) grow.here)
  | inr apart ↦ ([], grow.others link apart ∙ sym (append-nil (before link)))
]

begin_onward : (a b c : Items) → Begin a b → Begin b c → Begin a c
begin_onward a b c one two link =
    let first = one link in
    let second = two link in
    (first.0 ++ second.0, second.1 ∙ ap (λ (xs : List ℤ). xs ++ second.0) first.1 ∙ append_assoc (a link) first.0 second.0)

turned_begins : (t : Turn) (a b : Own) → HasTurned t a b → Begin a.sent b.sent × Begin a.taken b.taken
turned_begins Stopped a b turned = absurd turned
turned_begins (Puts l item next) a b turned = (begin_grow l item a.sent b.sent turned.1.0, begin_stay a.taken b.taken turned.1.1)
turned_begins (Takes l next) a b turned = (begin_stay a.sent b.sent turned.2.0, begin_grow l turned.0 a.taken b.taken turned.2.1)
turned_begins _ a b turned = (begin_stay a.sent b.sent turned.1.0, begin_stay a.taken b.taken turned.1.1)

module _ (given : Given) (k : ℕ) where
  pub lead_begins : (n : ℕ) (a b : Own) → LeadBy given k n a b → Begin a.sent b.sent × Begin a.taken b.taken
  lead_begins zero a b same =
      (subst (λ (o : Own). Begin a.sent o.sent) same (begin_same a.sent), subst (λ (o : Own). Begin a.taken o.taken) same (begin_same a.taken))
  lead_begins (suc n) a b lead =
      let first = turned_begins (turn given.plan given.flows given.limit k a.actor) a lead.0 lead.1 in
      let rest = lead_begins n lead.0 b lead.2 in
      (begin_onward a.sent lead.0.sent b.sent first.0 rest.0, begin_onward a.taken lead.0.taken b.taken first.1 rest.1)

  -- an actor that does an own step runs
  pub step_runs : (a b : Own) → IsOwnStep given k a b → a.actor.ended ≡ false
  step_runs a b step = by a.actor.ended refl where
    by : (ended : Bool) → a.actor.ended ≡ ended → a.actor.ended ≡ false
    by false is = is
    by true is = absurd (subst (λ e. HasTurned (cond e Stopped (cond (nat_lt given.limit a.actor.instant) AtLimit (turn_at given.plan given.flows (code_of given.plan k) a.actor (slice_get (code_of given.plan k).steps a.actor.step)))) a b) is step)
