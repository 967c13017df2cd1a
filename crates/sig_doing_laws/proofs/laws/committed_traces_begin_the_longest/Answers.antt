use Rattle.sig_doing_laws.proofs.{begins_longest, text_prefix}
use Rattle.sig_doing_laws.proofs.laws.committed_traces_begin_the_longest.Goals as goal

pub returns-clause-trace : goal.returns-clause-trace
returns-clause-trace c = λ plan. begins_longest plan.kernel

pub returns-clause-text : goal.returns-clause-text
returns-clause-text c = λ plan flows limit trace longest is le whole. text_prefix plan.kernel trace longest (begins_longest plan.kernel flows limit trace longest is le whole)
