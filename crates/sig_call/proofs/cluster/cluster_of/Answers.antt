use Rattle.sig_call.proofs.{◌∙◌, ◌≤◌, ap, sym, map, arith, cluster_of, number_of, placement_of, pragmas_are, low_at}
use Rattle.sig_call.proofs.cluster.cluster_of.Goals as goal

pub loop-pragma-init : goal.loop-pragma-init
loop-pragma-init c = ap (λ ps. cluster_of c.args.other ps c.args.text.now) (ap (map placement_of) c.deref-pragma-items.ensures.value ∙ sym (pragmas_are c.args.process.now))

pub number_of-requires : goal.number_of-requires
number_of-requires c =
    let low : number_of c.pragma-item.result.label ≤ 63 = low_at c.args.process.now c.deref-pragma-items.result.now c.loop-pragma.pragma-index c.pragma-item.result c.requires c.deref-pragma-items.ensures.value c.loop-pragma-test.true c.pragma-item.is in
    let same = ap number_of c.as_bytes.ensures in
    omega arith
