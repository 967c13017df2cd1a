use Rattle.sig_image_command.proofs.{same_bad_place, same_flows, same_line, same_outcome, same_status}
use Rattle.sig_image_command.proofs.shipped.built_images_end_as_their_programs.Goals as goal

pub returns-clause-flows : goal.returns-clause-flows
returns-clause-flows c = same_flows

pub returns-clause-refused : goal.returns-clause-refused
returns-clause-refused c = same_bad_place

pub returns-clause-line : goal.returns-clause-line
returns-clause-line c = same_line

pub returns-clause-status : goal.returns-clause-status
returns-clause-status c = λ kernel end. same_status kernel end.cause

pub returns-clause-outcome : goal.returns-clause-outcome
returns-clause-outcome c = same_outcome
