-- those so far are bound, and the others are left
use Rattle.sig_call.proofs.{◌≡◌, ◌+◌, ◌++◌, drop, bound_from, declarations_in, bindings_in}
use Rattle.sig_call.proofs.binding.bind_signals.Given as goal

abbrev pub invariant-loop-signal : goal.invariant-loop-signal
invariant-loop-signal l = record {
  number : l.number ≡ l.first + l.signal-index;
  bound : bindings_in l.bound.items ++ bound_from l.number (declarations_in (drop l.signal-index l.signals)) ≡ bindings_in l.initial.bound.items ++ bound_from l.first (declarations_in l.signals);
}
