use Rattle.sig_type.proofs.{clashes_of_constants, finds_as, constants_more, declarations_in, ap, take_all}
use Rattle.sig_type.proofs.clashes.constants.Goals as goal

pub loop-place-preserved : goal.loop-place-preserved
loop-place-preserved c = constants_more c.args.scope.now c.args.all.now (declarations_in c.args.params.now) c.loop-place.place c.index-all-place.result c.index-all-place.is c.loop-place-test.true c.loop-place.invariant (rw c.kind_at.ensures at c.constant.ensures)

pub returns : goal.returns
returns c = finds_as (ap (λ ns. clashes_of_constants c.args.scope.now ns (declarations_in c.args.params.now)) (take_all _ c.args.all.now c.loop-place-test.false)) c.loop-place.invariant
