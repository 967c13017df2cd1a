use Rattle.sig_output_laws.proofs.{put_all, put_exactly}
use Rattle.sig_output_laws.proofs.laws.ended_actors_have_put_out_the_longest_trace.Goals as goal

pub returns : goal.returns
returns c = record { begins = put_all; all = put_exactly }
