use Rattle.sig_part.proofs.{◌≡◌, ◌++◌, map, range_with_len, report_link}
use Rattle.sig_part.proofs.links.add_reports.Given as goal

abbrev pub invariant-loop-cluster : goal.invariant-loop-cluster
invariant-loop-cluster l = l.links.items ≡ l.initial.links.items ++ map (report_link l.clusters) (range_with_len 0 l.cluster)
