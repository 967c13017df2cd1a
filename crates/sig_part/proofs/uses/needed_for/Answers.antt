use Rattle.sig_part.proofs.{◌≡◌, ◌<◌, ◌+◌, ◌↔◌, ◌++◌, ◌∙◌, ℕ, List, [], length, sym, subst, arith, Contains, false≢true, get_or_read, SigId, IsNeededWithin, needed_more, needed_not, read_is}
use Rattle.sig_part.proofs.uses.needed_for.Goals as goal
use Rattle.sig_part.proofs.uses.needed_for.Goals.{then-writes+in_ok-extend_from_slice, else-writes}

pub loop-number-preserved : goal.loop-number-preserved
loop-number-preserved c =
    let ops = c.args.ops.now in
    let needs = c.args.needs.now in
    let n = c.loop-number.number in
    let op = c.index-ops-number.result in
    let is = read_is ops n op c.loop-number-test.true c.index-ops-number.is in
    let below : n < length ops = c.loop-number-test.true in
    let few : length needs ≡ length ops = c.requires in
    let lt : n < length needs = omega (arith, below, few) in
    let old = c.loop-number.needed.items in
    elim c.if-writes.branch [
      | then-writes+in_ok-extend_from_slice w ↦
          let first : w.extend_from_slice.new.self.items ≡ old ++ w.as_slice.result.now = w.in_ok-extend_from_slice.ensures.items in
          let all : c.if-writes.needed.items ≡ old ++ w.as_slice.result.now = cc (w.needed-is) in
          subst (λ (xs : List SigId). (x : SigId) → Contains xs x ↔ IsNeededWithin ops needs c.args.x (n + 1) x) (sym all)
          (needed_more ops needs n op is c.args.x old w.as_slice.result.now (c.writes.ensures.0 w.if-writes.true)
          (w.as_slice.ensures ∙ get_or_read needs n w.index-needs-number.result lt w.index-needs-number.is []) c.loop-number.invariant)
      | else-writes w ↦
          let all : c.if-writes.needed.items ≡ old = cc (w.needed-is) in
          subst (λ (xs : List SigId). (x : SigId) → Contains xs x ↔ IsNeededWithin ops needs c.args.x (n + 1) x) (sym all)
          (needed_not ops needs n op is c.args.x old (λ writes. false≢true (sym w.if-writes.false ∙ c.writes.ensures.1 writes)) c.loop-number.invariant)
    ]

pub returns : goal.returns
returns c =
    let last = c.loop-number-test.false in
    let most = c.loop-number.auto.number-end in
    let same : c.loop-number.number ≡ length c.args.ops.now = omega (arith, last, most) in
    subst (λ (xs : List SigId). (x : SigId) → Contains xs x ↔ IsNeededWithin c.args.ops.now c.args.needs.now c.args.x (length c.args.ops.now) x) (sym c.from.ensures)
    (subst (λ (n : ℕ). (x : SigId) → Contains c.loop-number.needed.items x ↔ IsNeededWithin c.args.ops.now c.args.needs.now c.args.x n x) same c.loop-number.invariant)
