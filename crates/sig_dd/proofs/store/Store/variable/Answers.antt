use Rattle.sig_dd.proofs.{◌≡◌, ◌^◌, ◌≤◌, length, refl, ap, arith, pow_mono, IfErr-at_err, share_of, IsRefOf-variable, starts_false, starts_true, IfOk-weaker}
use Rattle.sig_dd.proofs.store.Store.variable.Goals as goal

pub node_for-requires-clause-low_later : goal.node_for-requires-clause-low_later
node_for-requires-clause-low_later c = starts_false _ _ refl _

pub node_for-requires-clause-high_later : goal.node_for-requires-clause-high_later
node_for-requires-clause-high_later c = starts_true _ _ refl _

pub returns-clause-value : goal.returns-clause-value
returns-clause-value c =
    IfOk-weaker c.node_for.result _ _ (λ r. IsRefOf-variable c.args.self.now.nodes c.node_for.new.self.nodes c.args.v _ _ r refl refl) c.node_for.ensures.value

pub returns-clause-spends : goal.returns-clause-spends
returns-clause-spends c = record {
  over = λ vs s us.
      let (k, lt, at) = us.0 in
      let some_in : 1 ≤ length vs = omega arith in
      let some : 2 ^ 1 ≤ 2 ^ length vs = pow_mono some_in in
      let added = c.node_for.ensures.added in
      share_of vs c.args.self.now c.node_for.new.self c.node_for.result (omega arith) c.node_for.ensures.full (λ n is.
      let full = (c.node_for.ensures.full n is).1 in
      let same = ap length (IfErr-at_err (λ e. c.node_for.new.self.nodes ≡ c.args.self.now.nodes) is c.node_for.ensures.refused) in
      omega arith);
}
