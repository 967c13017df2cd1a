use Rattle.sig_file.proofs.{◌≡◌, Err, ap, arith, rules, TooLong, image_len}
use Rattle.sig_file.specs.PlanImages.{image_of}
use Rattle.sig_file.proofs.image_of.image.Goals as goal

pub returns-in_err-parts-clause-long : goal.returns-in_err-parts-clause-long
returns-in_err-parts-clause-long c limit e =
    let refused : c.in_err-parts.field-0.0 ≡ TooLong limit = search rules in
    omega (arith, image_len (image_of c.args.plan.now), c.in_err-parts.ensures.long limit (ap Err refused))
