use Rattle.sig_rel.proofs.{◌*◌, Ok, take, Makes, IsPartlyWritten, SpanColumns, no_ref, steps}
use Rattle.sig_rel.proofs.substitution.Columns.write_all.Given as goal

abbrev pub invariant-loop-element : goal.invariant-loop-element
invariant-loop-element l = record {
  made : Makes (3 * steps l.rules (take l.element-index l.list)) (SpanColumns l.initial.store.nodes l.initial.self) l.initial.store l.store no_ref (Ok tt);
  written : IsPartlyWritten l.kernel l.rules l.initial.store.nodes l.store.nodes l.initial.self l.self (take l.element-index l.list);
}
