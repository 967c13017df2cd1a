-- none so far names the signal
use Rattle.sig_call.proofs.{◌≡◌, drop, map, cluster_of, model_of, placement_of, pragmas_of_model}
use Rattle.sig_call.proofs.cluster.cluster_of.Given as goal

abbrev pub invariant-loop-pragma : goal.invariant-loop-pragma
invariant-loop-pragma l = cluster_of l.other (map placement_of (drop l.pragma-index l.pragma-items)) l.text ≡ cluster_of l.other (pragmas_of_model (model_of l.process)) l.text
