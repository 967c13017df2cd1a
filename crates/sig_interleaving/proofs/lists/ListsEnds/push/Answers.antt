use Rattle.sig_interleaving.proofs.{◌∙◌, ◌++◌, ◌∷◌, [], arith, length, refl, ap, w64, ℤ, to_z-of_z, found_full, pushed, queue_there, within_range}
use Rattle.sig_interleaving.proofs.lists.ListsEnds.push.Goals as goal

pub index_mut-queue-requires : goal.index_mut-queue-requires
index_mut-queue-requires c =
    let lt = within_range (length c.args.self.now.queues.items) c.args.link c.requires.end in
    let whole = c.args.self.now.queues.ok.0 in
    omega (arith, lt, whole)

pub returns-then-len-capacity-clause-asked : goal.returns-then-len-capacity-clause-asked
returns-then-len-capacity-clause-asked c =
    let there = queue_there c.args.self.now c.args.link c.index_mut-queue.result.now c.requires.end c.index_mut-queue.ensures.value in
    let capacity = c.capacity.ensures in
    let len = c.len.ensures in
    let whole = c.index_mut-queue.result.now.ok.0 in
    let full = c.if-len-capacity.true in
    record {
      tells_past = tt;
      tells_queues = found_full c.args.self.now.queues.items _ c.args.link c.index_mut-queue.result.now there refl (omega (arith, capacity, len, whole, full));
    }

pub returns-clause-asked : goal.returns-clause-asked
returns-clause-asked c =
    let there = queue_there c.args.self.now c.args.link c.index_mut-queue.result.now c.requires.end c.index_mut-queue.ensures.value in
    let capacity = c.capacity.ensures in
    let len = c.len.ensures in
    let whole = c.index_mut-queue.result.now.ok.0 in
    let room = c.if-len-capacity.false in
    record {
      tells_past = tt;
      tells_queues = pushed c.args.self.now.queues.items _ c.args.link c.index_mut-queue.result.now c.push_back_reserved.new.self there refl c.args.item (omega (arith, capacity, len, whole, room))
          (c.push_back_reserved.ensures.items ∙ ap (λ (item : ℤ). c.index_mut-queue.result.now.items ++ item ∷ []) (to_z-of_z w64 c.args.item c.ranges.item)) c.push_back_reserved.ensures.capacity;
    }
