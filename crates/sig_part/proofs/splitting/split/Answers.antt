use Rattle.sig_part.proofs.{IfOk-weaker, IfErr-weaker, operations_in, presence_in, operations_written}
use Rattle.sig_part.proofs.splitting.split.Goals as goal

pub returns-clause-parts : goal.returns-clause-parts
returns-clause-parts c =
    let nodes = c.args.store.now.nodes in
    let written = operations_written c.args.kernel.now (presence_in nodes c.args.clocks.now) (operations_in nodes c.args.ops.now) c.requires.valid c.requires.operations.are in
    IfOk-weaker c.split_of.result _ _ (λ parts is. is written) c.split_of.ensures.parts

pub returns-clause-refused : goal.returns-clause-refused
returns-clause-refused c =
    let nodes = c.args.store.now.nodes in
    let written = operations_written c.args.kernel.now (presence_in nodes c.args.clocks.now) (operations_in nodes c.args.ops.now) c.requires.valid c.requires.operations.are in
    IfErr-weaker c.split_of.result _ _ (λ answer is. is written) c.split_of.ensures.refused
