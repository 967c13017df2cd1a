use Rattle.sig_pace.proofs.{fits_in_parts}
use Rattle.sig_pace.proofs.laws.traces_fit_the_flows_of_paces.Goals as goal

pub returns : goal.returns
returns c = λ kernel least valid flows paces count wide. fits_in_parts kernel least valid flows paces count wide
