use Rattle.sig_image_command.proofs.{◌≤◌, ap, arith, length, IfSome_then, about_image, budget_of_image, refused_image, IsBudget, IsImageLine, IsSoundFile, LacksNodes, RefusesImage, image_line, holds_beyond, IfErr-weaker}
use Rattle.sig_image_command.proofs.load.load_image.Goals as goal

pub returns-clause-refused : goal.returns-clause-refused
returns-clause-refused g c =
    IfSome_then (g.F.Files.contents c.args.files.now) c.in_ok-bytes.ensures.bytes
    (λ held there.
    let short : length c.in_ok-bytes.bytes.items ≤ 67108864 = omega (arith, c.in_ok-bytes.ensures.within, c.deref.ensures.len, ap length c.deref.ensures.value) in
    IfErr-weaker c.verified_of.result _ _
    (λ r is. refused_image IsSoundFile (RefusesImage c.args.name.now) held c.args.name.now c.in_ok-bytes.bytes.items there (λ _ _. ⊥) short (LacksNodes c.in_ok-bytes.bytes.items) r
    (g.F.Files.faults c.args.files.now) (g.F.Files.faults c.read_data.new.files) is)
    (rw c.deref.ensures.value at c.verified_of.ensures.refused))

pub returns-clause-budget : goal.returns-clause-budget
returns-clause-budget g c =
    IfSome_then (g.F.Files.contents c.args.files.now) c.in_ok-bytes.ensures.bytes
    (λ held there.
    let short : length c.in_ok-bytes.bytes.items ≤ 67108864 = omega (arith, c.in_ok-bytes.ensures.within, c.deref.ensures.len, ap length c.deref.ensures.value) in
    IfErr-weaker c.verified_of.result _ _
    (λ r is. λ eight.
    let of = budget_of_image (RefusesImage c.args.name.now c.in_ok-bytes.bytes.items) (LacksNodes c.in_ok-bytes.bytes.items) r is eight in
    holds_beyond (held c.args.name.now) c.in_ok-bytes.bytes.items there short of.0 of.1)
    (rw c.deref.ensures.value at c.verified_of.ensures.refused))

pub returns-clause-about : goal.returns-clause-about
returns-clause-about g c =
    IfErr-weaker c.verified_of.result _ _
    (about_image (RefusesImage c.args.name.now c.in_ok-bytes.bytes.items) (LacksNodes c.in_ok-bytes.bytes.items) c.args.name.now (IsImageLine c.args.name.now) IsBudget
    (image_line c.args.name.now c.in_ok-bytes.bytes.items) (λ nodes lacks. lacks.number))
    (rw c.deref.ensures.value at c.verified_of.ensures.refused)
