use Rattle.sig_parse.proofs.{◌≡◌, ◌∙◌, rules, begins_at, raised_last, behind_one, leaf_split, wrong_here, handed_on, stops_same, no_constant, constant_refused, negative_refused}
use Rattle.sig_parse.proofs.constant.constant.Goals as goal

pub returns-in-Some-take-3-clause-refuses : goal.returns-in-Some-take-3-clause-refuses
returns-in-Some-take-3-clause-refuses c = let e : c.take-2.new.self ≡ c.args.parser.now = search rules in
    raised_last _ c.negative.result (behind_one (leaf_split (begins_at e c.in-Some-take-3.ensures.0)) (λ cause after r. negative_refused c.in-Some-take-3.at cause _ after r)) c.negative.ensures.refuses

pub returns-in_err-name-clause-refuses : goal.returns-in_err-name-clause-refuses
returns-in_err-name-clause-refuses c =
    let here = c.args.parser.now.leaves in
    let one = c.in_default.ensures.0 in
    let two = c.in_default-take.ensures.0 ∙ one in
    let three = c.in_default-take-2.ensures.0 ∙ two in
    let four = c.in_default-take-3.ensures.0 ∙ three in
    handed_on c.from_residual.result _ c.from_residual.ensures (λ text.
    wrong_here c.in_err-name.field-0.0 (c.in_err-name.ensures.stays text ∙ four) (c.in_err-name.ensures.missing text).0 (constant_refused here
    (no_constant here c.in_default.ensures.1 (stops_same _ one c.in_default-take.ensures.1) (stops_same _ two c.in_default-take-2.ensures.1) (stops_same _ three c.in_default-take-3.ensures.1) (stops_same _ four (c.in_err-name.ensures.missing text).1))))
