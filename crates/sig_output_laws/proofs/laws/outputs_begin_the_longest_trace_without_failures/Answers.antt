use Rattle.sig_output_laws.proofs.{put_without_failures}
use Rattle.sig_output_laws.proofs.laws.outputs_begin_the_longest_trace_without_failures.Goals as goal

pub returns : goal.returns
returns c = put_without_failures
