-- What the code has made of a flat body.
use Rattle.sig_call.specs.Prelude.{map, flat_equation_of}
use Rattle.sig_call.specs.declared.expansion.Expansion.{Expansion}
use Rattle.sig_call.specs.Making.{Made}

abbrev pub made_of : Expansion → Made
made_of e = record { progress = record { calls = e.calls; signals = e.signals.items }; equations = map flat_equation_of e.body.items }
