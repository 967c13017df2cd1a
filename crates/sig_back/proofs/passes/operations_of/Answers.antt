use Rattle.sig_back.proofs.{refl, no_room_for_operations}
use Rattle.sig_back.proofs.passes.operations_of.Goals as goal

pub returns-in-Err-Budget-clause-refused : goal.returns-in-Err-Budget-clause-refused
returns-in-Err-Budget-clause-refused c = (
  refl,
  no_room_for_operations c.args.kernel.now c.args.store.now c.operations.new.store c.args.clocks.now _ _ c.requires.clocks c.requires.spends c.operations.ensures.kept
      (c.operations_need_few_nodes.ensures.unknowns c.args.kernel.now c.args.clocks.now.conditions) (c.operations_need_few_nodes.ensures.conditions c.args.kernel.now c.args.clocks.now.conditions) c.in-Err-Budget.field-0 c.in-Err-Budget.field-0-is c.in-Err-Budget.ensures.share.refused,
)
