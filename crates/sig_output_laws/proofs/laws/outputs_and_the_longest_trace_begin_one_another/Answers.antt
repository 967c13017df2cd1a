use Rattle.sig_output_laws.proofs.{put_and_longest}
use Rattle.sig_output_laws.proofs.laws.outputs_and_the_longest_trace_begin_one_another.Goals as goal

pub returns : goal.returns
returns c = put_and_longest
