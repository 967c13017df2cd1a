use Rattle.sig_image_command.proofs.{err_from_is_err_and, of_plan, ok_both, reaches_image, stops_length, stops_plan, IfErr-weaker, IfOk-weaker}
use Rattle.sig_image_command.proofs.build.built.Goals as goal

pub returns-in_err-plan-clause-stops : goal.returns-in_err-plan-clause-stops
returns-in_err-plan-clause-stops g c =
    let p = err_from_is_err_and c.from_residual.result c.from_residual.ensures.1 in
    rw (p.1, p.2) (stops_plan (g.F.Files.contents c.args.files.now) (g.F.Files.at c.args.files.now) (g.F.Files.at c.load_plan.new.files)
    (g.F.Files.misses c.args.files.now) (g.F.Files.misses c.load_plan.new.files) (g.F.Files.faults c.args.files.now) (g.F.Files.faults c.load_plan.new.files)
    c.args.name.now c.in_err-plan.field-0.0
    c.in_err-plan.ensures.about c.in_err-plan.ensures.counted c.in_err-plan.ensures.refused c.in_err-plan.ensures.budget c.in_err-plan.ensures.read.told)

pub returns-clause-stops : goal.returns-clause-stops
returns-clause-stops g c =
    IfErr-weaker c.bytes_of.result _ _
    (λ r is. stops_length (g.F.Files.contents c.args.files.now) (g.F.Files.at c.args.files.now) (g.F.Files.at c.load_plan.new.files)
    (g.F.Files.misses c.args.files.now) (g.F.Files.misses c.load_plan.new.files) (g.F.Files.faults c.args.files.now) (g.F.Files.faults c.load_plan.new.files)
    c.args.name.now c.in_ok-plan.plan c.bytes_of.ensures.accepted c.in_ok-plan.ensures.plan c.in_ok-plan.ensures.read.told r is)
    c.bytes_of.ensures.refused

pub returns-clause-bytes : goal.returns-clause-bytes
returns-clause-bytes g c =
    IfOk-weaker c.bytes_of.result _ _
    (λ bytes is. reaches_image (g.F.Files.contents c.args.files.now) (g.F.Files.at c.args.files.now) (g.F.Files.at c.load_plan.new.files)
    (g.F.Files.misses c.args.files.now) (g.F.Files.misses c.load_plan.new.files) (g.F.Files.faults c.args.files.now) (g.F.Files.faults c.load_plan.new.files)
    c.args.name.now c.in_ok-plan.plan c.bytes_of.ensures.accepted c.in_ok-plan.ensures.plan c.in_ok-plan.ensures.read.told bytes.items is.are is.few)
    c.bytes_of.ensures.bytes

pub returns-clause-image : goal.returns-clause-image
returns-clause-image g c =
    ok_both c.bytes_of.result _ _ _ (λ bytes are right. of_plan c.in_ok-plan.plan c.bytes_of.ensures.accepted bytes.items are right) c.bytes_of.ensures.bytes c.bytes_of.ensures.right
