use Rattle.sig_part.proofs.{◌≡◌, ◌<◌, ◌+◌, ◌↔◌, ◌++◌, ◌∙◌, ℕ, List, [], length, sym, subst, arith, Contains, get_or_read, SigId, IsUsedWithin, used_more, used_not, read_is}
use Rattle.sig_part.proofs.uses.used_by.Goals as goal
use Rattle.sig_part.proofs.uses.used_by.Goals.{then-op-cluster+in_ok-extend_from_slice+in_ok-extend_from_slice-2, else-op-cluster}

pub loop-number-preserved : goal.loop-number-preserved
loop-number-preserved c =
    let ops = c.args.ops.now in
    let needs = c.args.needs.now in
    let n = c.loop-number.number in
    let op = c.index-ops-number.result in
    let is = read_is ops n op c.loop-number-test.true c.index-ops-number.is in
    let below : n < length ops = c.loop-number-test.true in
    let few : length needs ≡ length ops = c.requires in
    let lt : n < length needs = omega (arith, below, few) in
    let old = c.loop-number.used.items in
    elim c.if-op-cluster.branch [
      | then-op-cluster+in_ok-extend_from_slice+in_ok-extend_from_slice-2 w ↦
          let first : w.extend_from_slice.new.self.items ≡ old ++ w.as_slice.result.now = w.in_ok-extend_from_slice.ensures.items in
          let second : w.extend_from_slice-then-op-cluster.new.self.items ≡ w.extend_from_slice.new.self.items ++ w.as_slice-then-op-cluster.result.now = w.in_ok-extend_from_slice-2.ensures.items in
          let all : c.if-op-cluster.used.items ≡ (old ++ w.as_slice.result.now) ++ w.as_slice-then-op-cluster.result.now = cc (w.used-is) in
          subst (λ (xs : List SigId). (x : SigId) → Contains xs x ↔ IsUsedWithin ops needs c.args.cluster (n + 1) x) (sym all)
          (used_more ops needs n op is c.args.cluster old w.as_slice.result.now w.as_slice-then-op-cluster.result.now w.if-op-cluster.true w.as_slice.ensures
          (w.as_slice-then-op-cluster.ensures ∙ get_or_read needs n w.index-needs-number.result lt w.index-needs-number.is []) c.loop-number.invariant)
      | else-op-cluster w ↦
          let all : c.if-op-cluster.used.items ≡ old = cc (w.used-is) in
          subst (λ (xs : List SigId). (x : SigId) → Contains xs x ↔ IsUsedWithin ops needs c.args.cluster (n + 1) x) (sym all)
          (used_not ops needs n op is c.args.cluster old w.if-op-cluster.false c.loop-number.invariant)
    ]

pub returns : goal.returns
returns c =
    let last = c.loop-number-test.false in
    let most = c.loop-number.auto.number-end in
    let same : c.loop-number.number ≡ length c.args.ops.now = omega (arith, last, most) in
    subst (λ (n : ℕ). (x : SigId) → Contains c.loop-number.used.items x ↔ IsUsedWithin c.args.ops.now c.args.needs.now c.args.cluster n x) same c.loop-number.invariant
