use Rattle.sig_rel.proofs.{Ok, IsSomePresent, Makes, itself, SpanColumns, classes_from}
use Rattle.sig_rel.proofs.substitution.Columns.some_present.Given as goal

abbrev pub invariant-loop-class : goal.invariant-loop-class
invariant-loop-class l = record {
  made : Makes (classes_from l.least l.class) (SpanColumns l.initial.store.nodes l.self) l.initial.store l.store itself (Ok l.some);
  value : IsSomePresent l.initial.store.nodes l.store.nodes l.least l.self l.class l.some;
}
