use Rattle.sig_part.proofs.{◌++◌, ◌∷◌, [], ◌∙◌, List, ap, sym, map, arith, append_assoc, range_with_len, map-range_with_len_more, report_link, LinkInfo}
use Rattle.sig_part.proofs.links.add_reports.Goals as goal

pub loop-cluster-preserved : goal.loop-cluster-preserved
loop-cluster-preserved c =
    let old = c.args.links.now.items in
    let n = c.loop-cluster.cluster in
    let report = report_link c.args.clusters in
    c.in_ok-push.ensures.items ∙ ap (λ (links : List LinkInfo). links ++ report n ∷ []) c.loop-cluster.invariant ∙ append_assoc old (map report (range_with_len 0 n)) (report n ∷ [])
    ∙ ap (λ (links : List LinkInfo). old ++ links) (sym (map-range_with_len_more report 0 n n (omega arith)))
