use Rattle.sig_work.proofs.{moved_begun, moved_kept, moved_served, moved_stopped, served_itself}
use Rattle.sig_work.proofs.workers.with_caller.Goals as goal

pub with_workers-requires-2-clause-run : goal.with_workers-requires-2-clause-run
with_workers-requires-2-clause-run g c κs within =
    let share = c.in-Some.share in
    moved_begun c.args.plan.now c.args.inputs.now c.args.word.now c.args.others.items c.pop.new.self.items c.args.mine.items share c.in-Some.ensures.items c.requires.run
    c.push_reserved.new.self.items share c.push_reserved.ensures.items (served_itself c.args.plan.now c.args.inputs.now c.args.word.now share)

pub returns-clause-kept : goal.returns-clause-kept
returns-clause-kept g c =
    let share = c.in-Some.share in
    moved_kept c.args.plan.now c.args.inputs.now c.args.word.now c.args.others.items c.pop.new.self.items c.args.mine.items share share c.in-Some.ensures.items (served_itself c.args.plan.now c.args.inputs.now c.args.word.now share)
    c.push_reserved.new.self.items c.with_workers-2.result.0.items c.push_reserved.ensures.items c.with_workers-2.ensures.kept

pub returns-clause-served : goal.returns-clause-served
returns-clause-served g c =
    let share = c.in-Some.share in
    moved_served c.args.plan.now c.args.inputs.now c.args.word.now g.S.Sink.took c.args.sink.now c.with_workers-2.new.sink c.with_workers-2.result.1
    c.pop.new.self.items c.args.mine.items share share (served_itself c.args.plan.now c.args.inputs.now c.args.word.now share) c.args.others.items c.push_reserved.new.self.items c.with_workers-2.result.0.items c.in-Some.ensures.items c.push_reserved.ensures.items c.with_workers-2.ensures.served

pub returns-clause-stopped : goal.returns-clause-stopped
returns-clause-stopped g c =
    let share = c.in-Some.share in
    moved_stopped c.args.plan.now c.args.inputs.now c.args.word.now g.S.Sink.took c.args.sink.now c.with_workers-2.new.sink c.with_workers-2.result.1
    c.pop.new.self.items c.args.mine.items share share (served_itself c.args.plan.now c.args.inputs.now c.args.word.now share) c.args.others.items c.push_reserved.new.self.items c.with_workers-2.result.0.items c.in-Some.ensures.items c.push_reserved.ensures.items c.with_workers-2.ensures.stopped
