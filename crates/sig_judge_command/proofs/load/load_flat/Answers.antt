use Rattle.sig_judge_command.proofs.{◌≤◌, ap, arith, length, IfSome_then, IsFlatText, refused_program, RefusesFlat, IfErr-weaker}
use Rattle.sig_judge_command.proofs.load.load_flat.Goals as goal

pub returns-clause-refused : goal.returns-clause-refused
returns-clause-refused g c =
    IfSome_then (g.F.Files.contents c.args.files.now) c.in_ok-bytes.ensures.bytes
    (λ held there.
    let short : length c.in_ok-bytes.bytes.items ≤ 1048576 = omega (arith, c.in_ok-bytes.ensures.within, c.deref.ensures.len, ap length c.deref.ensures.value) in
    IfErr-weaker c.flat_of.result _ _
    (λ r is. refused_program IsFlatText RefusesFlat held c.args.name.now c.in_ok-bytes.bytes.items there (λ _ _. ⊥) short (λ nodes. ⊥) r
    (g.F.Files.faults c.args.files.now) (g.F.Files.faults c.read_program.new.files) is)
    (rw c.deref.ensures.value at c.flat_of.ensures.refused))
