use Rattle.sig_output_laws.proofs.{put_begins, put_grows}
use Rattle.sig_output_laws.proofs.laws.outputs_begin_the_reference.Goals as goal

pub returns : goal.returns
returns c = record { begins = λ given accepted fit reference is long. put_begins given accepted fit reference is long; grows = put_grows }
