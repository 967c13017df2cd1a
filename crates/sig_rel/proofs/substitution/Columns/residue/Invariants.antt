use Rattle.sig_rel.proofs.{◌*◌, Ok, take, list_all, Agree, test, is_met, Makes, itself, SpanColumns, values_at}
use Rattle.sig_rel.proofs.substitution.Columns.residue.Given as goal

abbrev pub invariant-loop-equation : goal.invariant-loop-equation
invariant-loop-equation l = record {
  made : Makes (11 * l.equation-index) (SpanColumns l.initial.store.nodes l.self) l.initial.store l.store itself (Ok l.whole);
  value : Agree (test l.store.nodes l.whole) (λ truths. list_all (λ equation. is_met l.kernel.signals l.least (values_at l.initial.store.nodes l.self truths) equation.form) (take l.equation-index l.kernel.equations));
}
