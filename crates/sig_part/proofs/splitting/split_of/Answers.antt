use Rattle.sig_part.proofs.{◌≡◌, ◌<◌, ◌∙◌, List, length, refl, sym, ap, subst, arith, rules, vec_len, SigId, LINKS, AreNeeded, operations_in, cluster_count, clusters_link, parts_as}
use Rattle.sig_part.proofs.splitting.split_of.Goals as goal

pub returns-then-count-from-clause-refused : goal.returns-then-count-from-clause-refused
returns-then-count-from-clause-refused c written =
    let kernel = c.args.kernel.now in
    let count : c.cluster_count-count.result ≡ cluster_count kernel.signals = c.cluster_count-count.ensures ∙ ap cluster_count c.as_slice-signals.ensures in
    let limit = c.from.ensures in
    let more = c.if-count-from.true in
    let many : LINKS < cluster_count kernel.signals = omega (arith, count, limit, more) in
    (refl, clusters_link kernel c.args.clocks.now.conditions c.args.store.now.nodes c.args.ops.now c.in_ok-needs.needs.items c.in_ok-needs.ensures written many)

pub returns-then-len-clause-refused : goal.returns-then-len-clause-refused
returns-then-len-clause-refused c written =
    let kernel = c.args.kernel.now in
    let conditions = c.args.clocks.now.conditions in
    let nodes = c.args.store.now.nodes in
    let ops = c.args.ops.now in
    let whole : vec_len c.in_ok-links.links ≡ length c.in_ok-links.links.items = search rules in
    let is = c.len.ensures in
    let more = c.if-len.true in
    let clusters = c.cluster_count-count.result in
    let count : clusters ≡ cluster_count kernel.signals = c.cluster_count-count.ensures ∙ ap cluster_count c.as_slice-signals.ensures in
    let needs = subst (λ (xs : List (List SigId)). AreNeeded conditions nodes ops xs) (sym c.as_slice.ensures.value) c.in_ok-needs.ensures in (
      refl,
      record {
        parts = record { clusters = clusters; links = c.in_ok-links.links.items; imports = c.in_ok-imports.imports.items };
        are = parts_as kernel conditions (operations_in nodes ops) c.as_slice-signals.result.now clusters c.in_ok-marks.marks.items c.as_slice-2.result.now c.as_slice-3.result.now
            c.in_ok-imports.imports.items c.in_ok-links.links.items written count c.as_slice-signals.ensures c.as_slice-2.ensures.value c.as_slice-3.ensures.value
            (c.in_ok-marks.ensures.imports conditions nodes needs) c.in_ok-imports.ensures c.in_ok-links.ensures;
        many = omega (arith, whole, is, more);
      },
    )

pub returns-clause-parts : goal.returns-clause-parts
returns-clause-parts c written =
    let kernel = c.args.kernel.now in
    let conditions = c.args.clocks.now.conditions in
    let nodes = c.args.store.now.nodes in
    let ops = c.args.ops.now in
    let clusters = c.cluster_count-count.result in
    let count : clusters ≡ cluster_count kernel.signals = c.cluster_count-count.ensures ∙ ap cluster_count c.as_slice-signals.ensures in
    let needs = subst (λ (xs : List (List SigId)). AreNeeded conditions nodes ops xs) (sym c.as_slice.ensures.value) c.in_ok-needs.ensures in
    parts_as kernel conditions (operations_in nodes ops) c.as_slice-signals.result.now clusters c.in_ok-marks.marks.items c.as_slice-2.result.now c.as_slice-3.result.now
    c.in_ok-imports.imports.items c.in_ok-links.links.items written count c.as_slice-signals.ensures c.as_slice-2.ensures.value c.as_slice-3.ensures.value
    (c.in_ok-marks.ensures.imports conditions nodes needs) c.in_ok-imports.ensures c.in_ok-links.ensures
