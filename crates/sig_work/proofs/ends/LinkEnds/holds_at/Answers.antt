use Rattle.sig_work.proofs.{Some, place_is}
use Rattle.sig_work.proofs.ends.LinkEnds.holds_at.Goals as goal

pub returns-in-Some : goal.returns-in-Some
returns-in-Some c = λ holds. (c.in-Some.put, place_is c.args.self.now.puts.items c.args.link c.index.result.now (Some c.in-Some.put) c.requires c.index.ensures c.in-Some.is)
