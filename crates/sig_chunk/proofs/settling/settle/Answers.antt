use Rattle.std.proofs.Common.{rules, arith, length-take}
use Rattle.sig_link.specs.Ends as link
use Rattle.sig_chunk.proofs.ChunkLemmas.{all_left}
use Rattle.sig_chunk.proofs.settling.settle.Goals as goal

pub returns : goal.returns
returns g c =
    let i = c.args.inlet in
    let o = c.args.outlet in
    let cut = length-take i.count i.items in
    let some = i.holds in
    let queue = c.settle.ensures in
    all_left i.size (link.sent i.put) (link.taken o.take) queue.0 o.opened o.given (link.put_capacity i.put) i.capacity _ queue.1 (search rules) i.small o.last o.within (omega (arith, cut, some)) i.room
