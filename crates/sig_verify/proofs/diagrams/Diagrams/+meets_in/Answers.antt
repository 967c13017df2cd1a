use Rattle.sig_verify.proofs.{◌≡◌, ◌<◌, ◌+◌, ◌-◌, ◌^◌, ℕ, Bool, true, false, cond, suc, inl, inr, refl, sym, ap, subst, ◌∙◌, contains, IsTired, IsWithin, Meets, eq-value, high_few, high_tired, low_few, low_tired, pair_same, pass_on}
use Rattle.sig_verify.proofs.diagrams.Diagrams.+meets_in.Goals.{After-meets_in, After-meets_in-2, In_ok-insert}
use Rattle.sig_verify.proofs.diagrams.Diagrams.+meets_in.Goals as goal

-- how many pairs were split behind the lower half, and behind both
low_counted : (t : _) (c : After-meets_in t) → (from to : ℕ) → IsWithin c.args.self.now.store.nodes from to c.args.pair → c.meets_in.new.work.pairs < c.args.work.now.pairs + 2 ^ (to - from)
low_counted t c from to w =
    let split = c.in-Open.ensures.step in
    let at = split.at from to w in
    low_few split.variable from to at.0 at.1 c.args.work.now c.count.new.self c.in_ok-count.ensures.counted
    c.meets_in.new.work (c.meets_in.ensures.counted (suc split.variable) to (split.low_within from to w))

high_counted : (t : _) (c : After-meets_in-2 t) → (from to : ℕ) → IsWithin c.args.self.now.store.nodes from to c.args.pair → c.meets_in-2.new.work.pairs < c.args.work.now.pairs + 2 ^ (to - from)
high_counted t c from to w =
    let split = c.in-Open.ensures.step in
    let at = split.at from to w in
    high_few split.variable from to at.0 at.1 c.args.work.now c.count.new.self c.in_ok-count.ensures.counted
    c.meets_in.new.work (c.meets_in.ensures.counted (suc split.variable) to (split.low_within from to w))
    c.meets_in-2.new.work (c.meets_in-2.ensures.counted (suc split.variable) to (split.high_within from to w))

pub returns-in_err-meets_in-clause-counted : goal.returns-in_err-meets_in-clause-counted
returns-in_err-meets_in-clause-counted t c = low_counted t (goal.at.returns-in_err-meets_in-clause-counted t c).After-meets_in

pub returns-then-branch-clause-counted : goal.returns-then-branch-clause-counted
returns-then-branch-clause-counted t c = low_counted t (goal.at.returns-then-branch-clause-counted t c).After-meets_in

pub returns-in_err-meets_in-2-clause-counted : goal.returns-in_err-meets_in-2-clause-counted
returns-in_err-meets_in-2-clause-counted t c = high_counted t (goal.at.returns-in_err-meets_in-2-clause-counted t c).After-meets_in-2

pub returns-then-branch-2-clause-counted : goal.returns-then-branch-2-clause-counted
returns-then-branch-2-clause-counted t c = high_counted t (goal.at.returns-then-branch-2-clause-counted t c).After-meets_in-2

pub returns-in_err-insert-clause-counted : goal.returns-in_err-insert-clause-counted
returns-in_err-insert-clause-counted t c = high_counted t (goal.at.returns-in_err-insert-clause-counted t c).After-meets_in-2

pub returns-clause-counted : goal.returns-clause-counted
returns-clause-counted t c = high_counted t (goal.at.returns-clause-counted t c).After-meets_in-2

pub returns-in_err-meets_in-clause-refused : goal.returns-in_err-meets_in-clause-refused
returns-in_err-meets_in-clause-refused t c = λ from to w.
    let split = c.in-Open.ensures.step in
    let at = split.at from to w in
    pass_on (IsTired c.args.work.now (2 ^ (to - from))) c.from_residual-in_err-meets_in.result c.in_err-meets_in.field-0.0 c.from_residual-in_err-meets_in.ensures.1
    (low_tired split.variable from to at.0 at.1 c.args.work.now c.count.new.self c.in_ok-count.ensures.counted c.in_err-meets_in.field-0.0
    (c.in_err-meets_in.ensures.refused (suc split.variable) to (split.low_within from to w)))

pub returns-in_err-meets_in-2-clause-refused : goal.returns-in_err-meets_in-2-clause-refused
returns-in_err-meets_in-2-clause-refused t c = λ from to w.
    let split = c.in-Open.ensures.step in
    let at = split.at from to w in
    pass_on (IsTired c.args.work.now (2 ^ (to - from))) c.from_residual-in_err-meets_in-2.result c.in_err-meets_in-2.field-0.0 c.from_residual-in_err-meets_in-2.ensures.1
    (high_tired split.variable from to at.0 at.1 c.args.work.now c.count.new.self c.in_ok-count.ensures.counted
    c.meets_in.new.work (c.meets_in.ensures.counted (suc split.variable) to (split.low_within from to w)) c.in_err-meets_in-2.field-0.0
    (c.in_err-meets_in-2.ensures.refused (suc split.variable) to (split.high_within from to w)))

-- neither half meets, so the pair does not
apart : (t : _) (c : In_ok-insert t) → Meets c.args.self.now.store.nodes c.args.pair c.args.truth → ⊥
apart t c met = elim (c.in-Open.ensures.step.either met) [
  | inl low ↦ let no : false ≡ true = sym c.if-branch.false ∙ c.in_ok-meets_in.ensures.value.1 low in absurd cc
  | inr high ↦ let no : false ≡ true = sym c.if-branch-2.false ∙ c.in_ok-meets_in-2.ensures.value.1 high in absurd cc
]

pub returns-clause-apart : goal.returns-clause-apart
returns-clause-apart t c p has met = by (eq-value.it c.args.pair p) refl
  where
    by : (b : Bool) → eq-value.it c.args.pair p ≡ b → ⊥
    by true e = apart t c (subst (λ q. Meets c.args.self.now.store.nodes q c.args.truth) (sym (pair_same c.args.pair p e)) met)
    by false e = c.in_ok-meets_in-2.ensures.apart p (sym (ap (λ b. cond b true (contains eq-value.it c.meets_in-2.new.apart p)) e) ∙ sym (c.in_ok-insert.ensures.updates.0 p) ∙ has) met
