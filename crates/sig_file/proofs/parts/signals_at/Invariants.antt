use Rattle.sig_file.proofs.{◌≡◌, ◌-◌, [], signal_at, names_of, IsSetOf, several}
use Rattle.sig_file.proofs.parts.signals_at.Given as goal

abbrev pub invariant-loop : goal.invariant-loop
invariant-loop l = record {
  names : IsSetOf (names_of l.signals.items) l.names.set;
  rest : several (signal_at l.inputs) (l.count - l.counter) l.signals.items l.rest ≡ several (signal_at l.inputs) l.count [] l.bytes;
}
