use Rattle.sig_dd.proofs.{◌≡◌, Bool, true, false, cond, inl, inr, sym, ◌∙◌, ap, subst, refl, false≢true, eq-value, Meets, pair_eq-same}
use Rattle.std.specs.HashSet.{contains}
use Rattle.sig_dd.proofs.store.Store.+meets_in.Goals.{In_ok-insert}
use Rattle.sig_dd.proofs.store.Store.+meets_in.Goals as goal

-- neither half meets, so the pair does not
apart : (t : _) (c : In_ok-insert t) → Meets c.args.self.now.nodes c.args.pair c.args.truth → ⊥
apart t c met = elim (c.in-Open.ensures.step.either met) [
  | inl low ↦ false≢true (sym c.if-branch.false ∙ c.in_ok-meets_in.ensures.value.1 low)
  | inr high ↦ false≢true (sym c.if-branch-2.false ∙ c.in_ok-meets_in-2.ensures.value.1 high)
]

pub returns-clause-apart : goal.returns-clause-apart
returns-clause-apart t c p has met = by (eq-value.it c.args.pair p) refl
  where
    by : (b : Bool) → eq-value.it c.args.pair p ≡ b → ⊥
    by true e = apart t c (subst (λ q. Meets c.args.self.now.nodes q c.args.truth) (sym (pair_eq-same c.args.pair p e)) met)
    by false e = c.in_ok-meets_in-2.ensures.apart p (sym (ap (λ b. cond b true (contains eq-value.it c.meets_in-2.new.apart p)) e) ∙ sym (c.in_ok-insert.ensures.updates.0 p) ∙ has) met
