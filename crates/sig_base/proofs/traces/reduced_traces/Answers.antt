use Rattle.sig_base.proofs.TraceLemmas.{speaks, reduced, same_by_prefixes}
use Rattle.sig_base.proofs.traces.reduced_traces.Goals as goal

-- src/traces.rt:9:1
pub returns-clause-speaks : goal.returns-clause-speaks
returns-clause-speaks c = speaks

-- src/traces.rt:9:1
pub returns-clause-same : goal.returns-clause-same
returns-clause-same c = reduced

-- src/traces.rt:9:1
pub returns-clause-prefixes : goal.returns-clause-prefixes
returns-clause-prefixes c = same_by_prefixes
