use Rattle.sig_part.proofs.{◌≡◌, ◌<◌, ◌∙◌, ℕ, List, length, sym, ap, subst, arith, length_push, Signal, operations_in, cluster_count, AreImportedBy, AreNeededForEach, closed_as, closed_imported, cluster_begins, collector_begins, imported_none, imported_push}
use Rattle.sig_part.proofs.imports.imported.Goals as goal

pub loop-cluster-init : goal.loop-cluster-init
loop-cluster-init c = record {
  count = ap length c.new-marks.ensures.items;
  each = λ conditions nodes are.
      subst (AreImportedBy c.args.kernel.now conditions (operations_in nodes c.args.ops.now) 0) (sym c.new-marks.ensures.items) (imported_none c.args.kernel.now conditions (operations_in nodes c.args.ops.now));
}

pub loop-cluster-preserved : goal.loop-cluster-preserved
loop-cluster-preserved c =
    let kernel = c.args.kernel.now in
    let ops = c.args.ops.now in
    let needs = c.args.needs.now in
    let needed = c.in_ok-needed.needed.items in
    let used = c.in_ok-used.used.items in
    let n = c.loop-cluster.cluster in
    let marks = c.in_ok-closed.field-0 in
    let inv = c.loop-cluster.invariant in
    let test : n < c.args.clusters = c.loop-cluster-test.true in
    let few : c.args.clusters ≡ cluster_count kernel.signals = c.requires.clusters in
    let within : n < cluster_count kernel.signals = omega (arith, test, few) in
    let for_each : AreNeededForEach ops needs (length kernel.signals) needed =
    subst (λ (signals : List Signal). AreNeededForEach ops needs (length signals) needed) c.as_slice-signals.ensures c.in_ok-needed.ensures in
    let closed = closed_as _ kernel.signals _ needed _ used n marks c.as_slice-signals.ensures c.as_slice.ensures.value c.as_slice-in-loop-cluster.ensures.value c.in_ok-closed.ensures in
    record {
      count = ap length c.in_ok-push.ensures.items ∙ length_push c.loop-cluster.marks.items marks ∙ (let count = inv.count in omega (arith, count));
      each = λ conditions nodes are.
          imported_push kernel conditions (operations_in nodes ops) n c.loop-cluster.marks.items c.push.new.self.items marks (inv.each conditions nodes are)
          (λ written. closed_imported kernel conditions nodes ops needs needed are for_each written n used (cluster_begins kernel conditions nodes ops needs are n used within c.in_ok-used.ensures) marks closed)
          c.in_ok-push.ensures.items;
    }

pub returns-clause-actors : goal.returns-clause-actors
returns-clause-actors c =
    let count = c.loop-cluster.invariant.count in
    let last = c.loop-cluster-test.false in
    let most = c.loop-cluster.auto.cluster-end in
    let long = length_push c.loop-cluster.marks.items c.in_ok-closed-2.field-0 in
    ap length c.in_ok-push-2.ensures.items ∙ omega (arith, long, count, last, most)

pub returns-clause-imports : goal.returns-clause-imports
returns-clause-imports c conditions nodes are =
    let kernel = c.args.kernel.now in
    let ops = c.args.ops.now in
    let needs = c.args.needs.now in
    let needed = c.in_ok-needed.needed.items in
    let outputs = c.in_ok-outputs.outputs.items in
    let n = c.args.clusters in
    let marks = c.in_ok-closed-2.field-0 in
    let last = c.loop-cluster-test.false in
    let most = c.loop-cluster.auto.cluster-end in
    let same : c.loop-cluster.cluster ≡ n = omega (arith, last, most) in
    let before = subst (λ (k : ℕ). AreImportedBy kernel conditions (operations_in nodes ops) k c.loop-cluster.marks.items) same (c.loop-cluster.invariant.each conditions nodes are) in
    let for_each : AreNeededForEach ops needs (length kernel.signals) needed =
    subst (λ (signals : List Signal). AreNeededForEach ops needs (length signals) needed) c.as_slice-signals.ensures c.in_ok-needed.ensures in
    let closed = closed_as _ kernel.signals _ needed _ outputs n marks c.as_slice-signals.ensures c.as_slice-2.ensures.value c.as_slice-3.ensures.value c.in_ok-closed-2.ensures in
    imported_push kernel conditions (operations_in nodes ops) n c.loop-cluster.marks.items c.push-2.new.self.items marks before
    (λ written. closed_imported kernel conditions nodes ops needs needed are for_each written n outputs
    (collector_begins kernel conditions nodes ops needs are n outputs c.requires.clusters c.in_ok-outputs.ensures) marks closed)
    c.in_ok-push-2.ensures.items
