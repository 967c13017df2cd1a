-- those so far are defined, and the others are left
use Rattle.sig_call.proofs.{◌≡◌, ◌+◌, drop, map, inputs_defined, expression_of, copy_in, made_of, with_equations}
use Rattle.sig_call.proofs.expansion.Expansion.define_inputs.Given as goal

abbrev pub invariant-loop-argument : goal.invariant-loop-argument
invariant-loop-argument l = record {
  number : l.number ≡ l.first + l.argument-index;
  made : with_equations (made_of l.self) (inputs_defined (copy_in l.copy) l.number (map expression_of (drop l.argument-index l.arguments))) ≡ with_equations (made_of l.initial.self) (inputs_defined (copy_in l.copy) l.first (map expression_of l.arguments));
}
