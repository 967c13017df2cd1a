use Rattle.sig_link.specs.Ends as link
use Rattle.sig_chunk.proofs.ChunkLemmas.{handed}
use Rattle.sig_chunk.proofs.inlet.Inlet.hand_over.Goals as goal

pub returns-in-Ok-clause-sent : goal.returns-in-Ok-clause-sent
returns-in-Ok-clause-sent g c = handed (link.sent c.args.self.now.put) (link.sent c.push.new.self) _ c.in-Ok.ensures.ok
