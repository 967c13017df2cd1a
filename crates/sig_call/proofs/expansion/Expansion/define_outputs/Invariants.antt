-- those so far are defined, and the others are left
use Rattle.sig_call.proofs.{◌≡◌, ◌+◌, drop, outputs_defined, copy_in, made_of, with_equations}
use Rattle.sig_call.proofs.expansion.Expansion.define_outputs.Given as goal

abbrev pub invariant-loop-name : goal.invariant-loop-name
invariant-loop-name l = record {
  number : l.number ≡ l.first + l.name-index;
  made : with_equations (made_of l.self) (outputs_defined (copy_in l.copy) (drop l.name-index l.names) l.number) ≡ with_equations (made_of l.initial.self) (outputs_defined (copy_in l.copy) l.names l.first);
}
