use Rattle.sig_work.proofs.{◌++◌, [], List, ap, subst, sym, reactions_text, TookPrefix, err_of, ok_of, one_of_length, dealt_begun, halted_together, part_run, run_done, whole_run, run_of, AreBegun, AreDone, AreTogether, WereHalted, WereRun, HaveEnded, Share}
use Rattle.sig_work.proofs.running.run.Given.{Over}
use Rattle.sig_work.proofs.running.run.Goals.{In-Ok, In-Ok-result, In-Err}
use Rattle.sig_work.proofs.running.run.Goals as goal

-- the shares that were dealt begin a run
begun : (g : Over) (c : In-Ok g) → AreBegun (run_of c.args.plan.now c.args.inputs.now c.args.capacity c.args.limit) c.in-Ok.start.halt [] c.in-Ok.start.others.items c.in-Ok.start.mine.items
begun g c =
    let given = run_of c.args.plan.now c.args.inputs.now c.args.capacity c.args.limit in
    let word = c.in-Ok.start.halt in
    let others = c.in-Ok.start.others.items in
    let mine = c.in-Ok.start.mine.items in
    let single = one_of_length mine c.in-Ok.ensures.mine in
    subst (λ (xs : List Share). AreBegun given word [] others xs) (sym single.1)
    (dealt_begun given c.args.workers word (others ++ mine) c.in-Ok.ensures.dealt others single.0 (ap (λ (xs : List Share). others ++ xs) single.1))

-- they were served to their end
ran : (g : Over) (c : In-Ok-result g) → AreBegun (run_of c.args.plan.now c.args.inputs.now c.args.capacity c.args.limit) c.in-Ok.start.halt [] c.in-Ok.start.others.items c.in-Ok.start.mine.items
    → (were : WereRun g.S.Sink.took (run_of c.args.plan.now c.args.inputs.now c.args.capacity c.args.limit) c.in-Ok.start.halt (c.in-Ok.start.others.items ++ c.in-Ok.start.mine.items) c.run_shares-shares.result.0.items c.args.sink.now c.run_shares-shares.new.sink [])
    × AreDone (run_of c.args.plan.now c.args.inputs.now c.args.capacity c.args.limit) were.behind c.in-Ok.start.halt c.run_shares-shares.result.0.items
ran g c begins =
    let given = run_of c.args.plan.now c.args.inputs.now c.args.capacity c.args.limit in
    let word = c.in-Ok.start.halt in
    let dealt = c.in-Ok.start.others.items ++ c.in-Ok.start.mine.items in
    let new = c.run_shares-shares.result.0.items in
    let were = ok_of c.run_shares-shares.result.1 c.in-Ok-result.field-0 (WereRun g.S.Sink.took given word dealt new c.args.sink.now c.run_shares-shares.new.sink []) c.in-Ok-result.is
    (c.run_shares-shares.ensures.served c.args.capacity c.args.limit [] begins) in
    let ended = ok_of c.run_shares-shares.result.1 c.in-Ok-result.field-0 (HaveEnded new) c.in-Ok-result.is c.run_shares-shares.ensures.ended in
    (were, run_done given c.args.workers word dealt c.in-Ok.ensures.dealt new c.run_shares-shares.ensures.kept c.requires.fits c.requires.capacity.0 g.S.Sink.took c.args.sink.now c.run_shares-shares.new.sink were ended)

-- or halted where the sink failed
halted : (g : Over) (c : In-Err g) → AreBegun (run_of c.args.plan.now c.args.inputs.now c.args.capacity c.args.limit) c.in-Ok.start.halt [] c.in-Ok.start.others.items c.in-Ok.start.mine.items
    → (were : WereHalted (TookPrefix g.S.Sink.took) (run_of c.args.plan.now c.args.inputs.now c.args.capacity c.args.limit) c.run_shares-shares.result.0.items c.args.sink.now c.run_shares-shares.new.sink [])
    × AreTogether (run_of c.args.plan.now c.args.inputs.now c.args.capacity c.args.limit) were.behind c.in-Ok.start.halt c.run_shares-shares.result.0.items
halted g c begins =
    let given = run_of c.args.plan.now c.args.inputs.now c.args.capacity c.args.limit in
    let new = c.run_shares-shares.result.0.items in
    let were = err_of c.run_shares-shares.result.1 c.in-Err.field-0 (WereHalted (TookPrefix g.S.Sink.took) given new c.args.sink.now c.run_shares-shares.new.sink []) c.in-Err.is
    (c.run_shares-shares.ensures.stopped c.args.capacity c.args.limit [] begins) in
    (were, halted_together given c.args.workers c.in-Ok.start.halt (c.in-Ok.start.others.items ++ c.in-Ok.start.mine.items) c.in-Ok.ensures.dealt new c.run_shares-shares.ensures.kept c.requires.fits c.requires.capacity.0 (TookPrefix g.S.Sink.took) c.args.sink.now c.run_shares-shares.new.sink were)

pub run_shares-shares-requires-clause-run : goal.run_shares-shares-requires-clause-run
run_shares-shares-requires-clause-run g c κs within = (c.args.capacity, c.args.limit, [], begun g (goal.at.run_shares-shares-requires-clause-run g c).In-Ok)

pub gather-requires : goal.gather-requires
gather-requires g c =
    let (were, done) = ran g (goal.at.gather-requires g c).In-Ok-result (begun g (goal.at.gather-requires g c).In-Ok) in
    (c.args.capacity, c.args.limit, were.behind, done)

pub give_up-requires : goal.give_up-requires
give_up-requires g c =
    let (were, together) = halted g (goal.at.give_up-requires g c).In-Err (begun g (goal.at.give_up-requires g c).In-Ok) in
    (c.args.capacity, c.args.limit, were.behind, together)

pub returns-in-Ok-result-clause-whole : goal.returns-in-Ok-result-clause-whole
returns-in-Ok-result-clause-whole g c =
    let (were, done) = ran g (goal.at.returns-in-Ok-result-clause-whole g c).In-Ok-result (begun g (goal.at.returns-in-Ok-result-clause-whole g c).In-Ok) in
    let end = c.named_causes_exist_once.ensures.some c.args.plan.now c.plans_are_accepted.ensures c.args.inputs.now c.requires.fits c.args.limit in
    whole_run c.args.plan.now c.args.inputs.now c.args.capacity c.args.limit c.plans_are_accepted.ensures g.S.Sink.took c.args.sink.now c.run_shares-shares.new.sink end.0 end.1 end.2 end.3
    were.behind c.gather.result (c.gather.ensures.end c.args.capacity c.args.limit were.behind done)
    (subst (λ rs. g.S.Sink.took c.args.sink.now (reactions_text c.args.plan.now.kernel rs) c.run_shares-shares.new.sink) (sym were.text.joined) were.text.text)

pub returns-in-Err-clause-prefix : goal.returns-in-Err-clause-prefix
returns-in-Err-clause-prefix g c = λ fault. (
    let (were, together) = halted g (goal.at.returns-in-Err-clause-prefix g c).In-Err (begun g (goal.at.returns-in-Err-clause-prefix g c).In-Ok) in
    let end = c.named_causes_exist_once.ensures.some c.args.plan.now c.plans_are_accepted.ensures c.args.inputs.now c.requires.fits c.args.limit in
    part_run c.args.plan.now c.args.inputs.now c.args.capacity c.args.limit c.plans_are_accepted.ensures g.S.Sink.took c.args.sink.now c.run_shares-shares.new.sink end.0 end.1 end.2 end.3
    (c.a_kernel_has_one_longest_trace.ensures c.args.plan.now.kernel c.args.inputs.now c.args.limit)
    were.behind (c.give_up.ensures c.args.capacity c.args.limit were.behind together)
    (subst (λ rs. TookPrefix g.S.Sink.took c.args.sink.now (reactions_text c.args.plan.now.kernel rs) c.run_shares-shares.new.sink) (sym were.text.joined) were.text.text))
