use Rattle.sig_type.proofs.{clashes_of_results, finds_as, results_more, declarations_in, ap, take_all}
use Rattle.sig_type.proofs.clashes.results.Goals as goal

pub loop-place-preserved : goal.loop-place-preserved
loop-place-preserved c = results_more c.args.scope.now c.args.names.now (declarations_in c.args.outputs.now) c.loop-place.place c.index-names-place.result c.index-names-place.is c.loop-place-test.true c.loop-place.invariant (rw c.kind_at.ensures at c.result_at.ensures)

pub returns : goal.returns
returns c = finds_as (ap (λ ns. clashes_of_results c.args.scope.now ns (declarations_in c.args.outputs.now)) (take_all _ c.args.names.now c.loop-place-test.false)) c.loop-place.invariant
