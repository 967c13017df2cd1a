use Rattle.sig_flow.proofs.{◌∙◌, ap, words_fault, good_line}
use Rattle.sig_flow.proofs.flow_line.read_line.Goals as goal

pub returns-in_default-clause-good : goal.returns-in_default-clause-good
returns-in_default-clause-good c =
    let at = c.args.context in
    good_line at.version c.args.inputs.now at.number at.before c.args.line.now
    (ap (words_fault at.version c.args.inputs.now at.number at.before) c.in_default.ensures.none)

pub returns-in-Ok-clause-good : goal.returns-in-Ok-clause-good
returns-in-Ok-clause-good c =
    let at = c.args.context in
    good_line at.version c.args.inputs.now at.number at.before c.args.line.now
    (ap (words_fault at.version c.args.inputs.now at.number at.before) c.in-Some.ensures.word ∙ c.in-Ok.ensures.good)
