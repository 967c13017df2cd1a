use Rattle.sig_work.proofs.{◌≡◌, ap, subst, arith, length, List, Some, slice_get, first_all, first_more, item_at, Member}
use Rattle.sig_work.proofs.share.Share.least_failure.Goals as goal

pub loop-member-preserved : goal.loop-member-preserved
loop-member-preserved c = rw c.min-least.ensures
    (first_more c.args.self.now c.loop-member.member-index c.loop-member.least c.member-item.result c.failure.result c.loop-member.invariant
    (subst (λ (xs : List Member). slice_get xs c.loop-member.member-index ≡ Some c.member-item.result) c.deref-member-items.ensures.value
    (item_at c.deref-member-items.result.now c.loop-member.member-index c.member-item.result c.loop-member-test.true c.member-item.is))
    c.failure.ensures.word (let fits = c.failure.type_inv in omega (arith, fits)) c.failure.ensures.position)

pub returns : goal.returns
returns c = first_all c.args.self.now c.loop-member.least c.loop-member.member-index
    (let all = c.loop-member-test.false in let same = ap (λ (xs : List Member). length xs) c.deref-member-items.ensures.value in omega (arith, all, same)) c.loop-member.invariant
