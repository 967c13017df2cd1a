use Rattle.sig_image_command.proofs.{◌≡◌, ℕ, inl, inr, err_from_is_err_and, IsBeyondBound, IsFirstUnsound, of_more_image, IsBrokenFile, IsBudget, LacksNodes, RefusesImage, unsound_image, lacks_nodes, unsound_file, IfErr-weaker}
use Rattle.sig_image_command.proofs.image_file.verified_of.Goals as goal

pub returns-in_err-image-clause-refused : goal.returns-in_err-image-clause-refused
returns-in_err-image-clause-refused c =
    let p = err_from_is_err_and c.from_residual.result c.from_residual.ensures.1 in
    rw (p.1, p.2) (of_more_image (IsBrokenFile c.args.name.now c.args.bytes.now) (RefusesImage c.args.name.now c.args.bytes.now) (λ nodes. ⊥) (LacksNodes c.args.bytes.now)
    (λ line broken. inl broken) (λ nodes lacks. absurd lacks) c.in_err-image.field-0.0 c.in_err-image.ensures.refused)

pub returns-clause-refused : goal.returns-clause-refused
returns-clause-refused c =
    IfErr-weaker c.verified.result _ _
    (of_more_image (λ line. (n : ℕ) × IsFirstUnsound c.in_ok-image.image n × (line ≡ unsound_image c.args.name.now n)) (RefusesImage c.args.name.now c.args.bytes.now)
    (λ nodes. IsBudget nodes × IsBeyondBound c.in_ok-image.image) (LacksNodes c.args.bytes.now)
    (λ line unsound. inr (unsound_file c.args.name.now c.args.bytes.now line c.in_ok-image.image c.in_ok-image.ensures.file unsound.0 unsound.1 unsound.2))
    (λ nodes lacks. lacks_nodes c.args.bytes.now c.in_ok-image.image nodes c.in_ok-image.ensures.file lacks.0 lacks.1))
    c.verified.ensures.refused
