use Rattle.std.proofs.Common.{rules}
use Rattle.sig_link.specs.Ends as link
use Rattle.sig_chunk.proofs.ChunkLemmas.{gives_next, gives_first}
use Rattle.sig_chunk.proofs.outlet.Outlet.pop.Goals as goal

pub returns-then-self-clause-item : goal.returns-then-self-clause-item
returns-then-self-clause-item g c =
    gives_next (link.taken c.args.self.now.take) c.args.self.now.opened c.args.self.now.given _ c.args.self.now.last c.if-self.true c.item-item.ensures.fits (search rules)

pub returns-clause-item : goal.returns-clause-item
returns-clause-item g c =
    gives_first (link.taken c.args.self.now.take) (link.taken c.pop.new.self) c.in_ok-chunk.chunk _ _ c.in_ok-chunk.ensures.item (search rules) c.in_ok-chunk.chunk.some c.item.ensures.fits (search rules)
