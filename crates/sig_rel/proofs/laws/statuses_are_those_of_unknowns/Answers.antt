use Rattle.sig_rel.proofs.{presence_told, status_told}
use Rattle.sig_rel.proofs.laws.statuses_are_those_of_unknowns.Goals as goal

pub returns : goal.returns
returns c = record { status = status_told; presence = presence_told }
