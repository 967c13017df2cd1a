use Rattle.sig_dd.proofs.{inl, inr, arith, Ref, blocks_more}
use Rattle.sig_dd.proofs.store.Store.blocks.Goals as goal

pub loop-number-preserved : goal.loop-number-preserved
loop-number-preserved c =
    let inv = c.loop-number.invariant in
    let r : Ref = record { number = c.loop-number.number } in
    let few = inv.few in
    let own = c.block_of.ensures.few in
    record {
      few = elim c.greater-blocks.ensures.one [ inl same ↦ omega (arith, same, few) | inr same ↦ omega (arith, same, own) ];
      all = blocks_more c.args.self.now.nodes c.block_of.ensures.store.reduced r (let lt = c.loop-number-test.true in let most = c.requires.held in omega (arith, lt, most)) c.loop-number.blocks c.block_of.result c.greater-blocks.result
          c.greater-blocks.ensures.first c.greater-blocks.ensures.second inv.all c.block_of.ensures.past;
    }
