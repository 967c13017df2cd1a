use Rattle.sig_image_command.proofs.{◌≡◌, err_from_is_err_and, name_where_there, status_of, no_flow_budget, told_always, told_never, stops_image, stops_inputs}
use Rattle.sig_image_command.proofs.load.load.Goals as goal

pub returns-in_err-image-clause-stops : goal.returns-in_err-image-clause-stops
returns-in_err-image-clause-stops g c =
    let p = err_from_is_err_and c.from_residual.result c.from_residual.ensures.1 in
    rw (p.1, p.2) (stops_image (g.F.Files.contents c.args.files.now) (g.F.Files.at c.args.files.now) (g.F.Files.at c.load_image.new.files)
    (g.F.Files.misses c.args.files.now) (g.F.Files.misses c.load_image.new.files) (g.F.Files.misses c.load_image.new.files)
    (g.F.Files.faults c.args.files.now) (g.F.Files.faults c.load_image.new.files) (g.F.Files.faults c.load_image.new.files)
    c.args.image.now c.args.flows.now c.args.settings c.in_err-image.field-0.0
    c.in_err-image.ensures.about c.in_err-image.ensures.counted c.in_err-image.ensures.refused c.in_err-image.ensures.budget c.in_err-image.ensures.read.told)

pub returns-in_err-inputs-clause-stops : goal.returns-in_err-inputs-clause-stops
returns-in_err-inputs-clause-stops g c =
    let p = err_from_is_err_and c.from_residual-in_err-inputs.result c.from_residual-in_err-inputs.ensures.1 in
    rw (p.1, p.2) (stops_inputs (g.F.Files.contents c.args.files.now) (g.F.Files.at c.args.files.now) (g.F.Files.at c.load_flows.new.files)
    (g.F.Files.misses c.args.files.now) (g.F.Files.misses c.load_image.new.files) (g.F.Files.misses c.load_flows.new.files)
    (g.F.Files.faults c.args.files.now) (g.F.Files.faults c.load_image.new.files) (g.F.Files.faults c.load_flows.new.files)
    c.args.image.now c.args.flows.now c.args.settings c.in_ok-image.image c.in_ok-image.ensures.image
    (g.F.Files.contents c.load_image.new.files) c.in_err-inputs.field-0.0
    c.in_ok-image.ensures.read.contents_stay c.in_ok-image.ensures.read.misses_stay c.in_ok-image.ensures.read.faults_stay
    c.in_err-inputs.ensures.about c.in_err-inputs.ensures.counted c.in_err-inputs.ensures.refused c.in_err-inputs.ensures.read.told)

pub returns-in_err-image-clause-budget : goal.returns-in_err-image-clause-budget
returns-in_err-image-clause-budget g c =
    let p = err_from_is_err_and c.from_residual.result c.from_residual.ensures.1 in
    rw (p.1, p.2) (told_always (g.F.Files.contents c.args.files.now) (status_of c.in_err-image.field-0.0) (λ held. g.F.Files.at c.load_image.new.files ≡ name_where_there held c.args.image.now)
    c.in_err-image.ensures.read.told)

pub returns-in_err-inputs-clause-budget : goal.returns-in_err-inputs-clause-budget
returns-in_err-inputs-clause-budget g c =
    let p = err_from_is_err_and c.from_residual-in_err-inputs.result c.from_residual-in_err-inputs.ensures.1 in
    rw (p.1, p.2) (told_never (g.F.Files.contents c.args.files.now) (status_of c.in_err-inputs.field-0.0) (λ held. g.F.Files.at c.load_flows.new.files ≡ name_where_there held c.args.image.now)
    (no_flow_budget c.args.flows.now c.in_err-inputs.field-0.0 c.in_err-inputs.ensures.about))
