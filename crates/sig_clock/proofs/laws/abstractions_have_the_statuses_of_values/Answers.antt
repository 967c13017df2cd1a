use Rattle.sig_clock.proofs.{abstract_presence, abstract_silence, abstract_speaks, abstract_status}
use Rattle.sig_clock.proofs.laws.abstractions_have_the_statuses_of_values.Goals as goal

pub returns : goal.returns
returns c = record {
  speaks = abstract_speaks;
  silent = abstract_silence;
  statuses = abstract_status;
  presences = abstract_presence;
}
