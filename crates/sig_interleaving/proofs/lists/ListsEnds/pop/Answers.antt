use Rattle.sig_interleaving.proofs.{arith, length, refl, popped_as, queue_there, within_range}
use Rattle.sig_interleaving.proofs.lists.ListsEnds.pop.Goals as goal

pub index_mut-requires : goal.index_mut-requires
index_mut-requires c =
    let lt = within_range (length c.args.self.now.queues.items) c.args.link c.requires.end in
    let whole = c.args.self.now.queues.ok.0 in
    omega (arith, lt, whole)

pub returns-clause-asked : goal.returns-clause-asked
returns-clause-asked c =
    let there = queue_there c.args.self.now c.args.link c.index_mut.result.now c.requires.end c.index_mut.ensures.value in
    record {
      tells_past = tt;
      tells_queues = popped_as c.args.self.now.queues.items _ c.args.link c.index_mut.result.now c.pop_front.new.self there refl c.pop_front.result
          c.pop_front.ensures.items c.pop_front.ensures.rest c.pop_front.ensures.capacity;
    }
