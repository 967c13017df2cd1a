-- A flat body of a text has few equations, and signals of different names.
use Rattle.sig_front.proofs.Common.{◌<◌, ◌≤◌, ◌+◌, ◌*◌, ◌^◌, ℕ, List, length, map, bytes_eq, arith, IsFlatBody, length-map, IsDistinct, Result, Ok, Err, IfOk, Flat, FrontAnswer, FlatBody, FlatEquation, flat_body_of, flat_equation_of, IsText, ProcessModel, IsWellFormed, IsTree, IsSized, flat_weights, IsFlatText, mul-le}

module _ (trees : (text : List ℕ) (program : List ProcessModel) → IsText text program → IsTree program)
    (sized : (text : List ℕ) (program : List ProcessModel) → IsText text program → IsSized (length text) program)
    (sizes : (program : List ProcessModel) (flat : FlatBody) (size : ℕ) → IsTree program → IsWellFormed program → IsSized size program → IsFlatBody program flat → flat_weights flat.equations ≤ size * (length flat.signals + 1))
    (counted : (qs : List FlatEquation) → length qs ≤ flat_weights qs) where
  few : (text : List ℕ) (flat : FlatBody) → length text ≤ 1048576 → IsFlatText text flat → length flat.equations < 2 ^ 30
  few text flat short is =
      let bound : flat_weights flat.equations ≤ length text * (length flat.signals + 1) = sizes is.tree flat (length text) (trees text is.tree is.good.reads) is.good.formed (sized text is.tree is.good.reads) is.expands in
      let most : length text * (length flat.signals + 1) ≤ 1048576 * 513 = mul-le (length text) (length flat.signals + 1) 1048576 513 short (omega (arith, is.few)) in
      omega (arith, bound, most, counted flat.equations)

  pub small : (text : List ℕ) (result : Result Flat FrontAnswer) → length text ≤ 1048576 → IfOk result (λ flat. IsFlatText text (flat_body_of flat)) → IfOk result (λ flat. length flat.body.items < 2 ^ 30)
  small text (Ok flat) short is = omega (arith, few text (flat_body_of flat) short is, length-map flat.body.items flat_equation_of)
  small text (Err answer) short is = tt

module _ (differ : (text : List ℕ) (program : List ProcessModel) (flat : FlatBody) → IsText text program → IsWellFormed program → IsFlatBody program flat
    → length flat.signals < 10 ^ 64 → IsDistinct bytes_eq (map (λ signal. signal.name) flat.signals)) where
  -- a flat body of a text has signals of different names
  pub names_differ : (text : List ℕ) (flat : FlatBody) → IsFlatText text flat → IsDistinct bytes_eq (map (λ signal. signal.name) flat.signals)
  names_differ text flat is = differ text is.tree flat is.good.reads is.good.formed is.expands (let few : length flat.signals ≤ 512 = is.few in omega (arith, few))

  pub names : (text : List ℕ) (result : Result Flat FrontAnswer) → IfOk result (λ flat. IsFlatText text (flat_body_of flat)) → IfOk result (λ flat. IsDistinct bytes_eq (map (λ signal. signal.name) flat.signals.items))
  names text (Ok flat) is = names_differ text (flat_body_of flat) is
  names text (Err answer) is = tt
