use Rattle.sig_clock.proofs.{silence}
use Rattle.sig_clock.proofs.laws.silence_is_a_reaction.Goals as goal

pub returns : goal.returns
returns c = silence
