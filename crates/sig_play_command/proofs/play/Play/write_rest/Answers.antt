use Rattle.sig_play_command.proofs.{end_of_rest, took_part, took_rest, IfErr-weaker, IfOk-weaker}
use Rattle.sig_play_command.proofs.play.Play.write_rest.Goals as goal

pub returns-clause-answer : goal.returns-clause-answer
returns-clause-answer g c =
    IfOk-weaker c.finish.result _ _
    (end_of_rest c.args.self.now.core c.requires.core c.args.self.now.plan.now c.plans_are_accepted.ensures c.args.self.now.inputs.now c.args.self.now.limit c.requires.plan c.requires.flows c.requires.limit
    c.committed_in-written.result c.committed_in-written.ensures g.S.Sink.took c.args.out.now c.finish.new.sink)
    c.finish.ensures.whole

pub returns-clause-rest : goal.returns-clause-rest
returns-clause-rest g c =
    IfOk-weaker c.finish.result _ _
    (took_rest c.args.self.now.core c.requires.core c.args.self.now.plan.now c.plans_are_accepted.ensures c.args.self.now.inputs.now c.args.self.now.limit c.requires.plan c.requires.flows c.requires.limit
    c.committed_in-written.result c.committed_in-written.ensures g.S.Sink.took c.args.out.now c.finish.new.sink)
    c.finish.ensures.whole

pub returns-clause-part : goal.returns-clause-part
returns-clause-part g c =
    IfErr-weaker c.finish.result _ _
    (λ _ part. took_part c.args.self.now.core c.requires.core c.args.self.now.plan.now c.plans_are_accepted.ensures c.args.self.now.inputs.now c.args.self.now.limit c.requires.plan c.requires.flows c.requires.limit
    c.committed_in-written.result c.committed_in-written.ensures g.S.Sink.took c.args.out.now c.finish.new.sink part)
    c.finish.ensures.prefix
