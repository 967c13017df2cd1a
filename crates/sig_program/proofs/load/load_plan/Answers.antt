use Rattle.sig_program.proofs.{◌≤◌, ap, arith, length, IfSome_then, err_from_is_err_and, about_bytes, budget_of, no_eight, refused_program, told, AreRefused, IsAcceptedAs, IsBudget, IsPlanLine, LacksNodes, budget_number, holds_beyond, plan_line, IfErr-weaker}
use Rattle.sig_program.proofs.load.load_plan.Goals as goal

pub returns-in_err-bytes-clause-budget : goal.returns-in_err-bytes-clause-budget
returns-in_err-bytes-clause-budget g c =
    let p = err_from_is_err_and c.from_residual.result c.from_residual.ensures.1 in
    rw (p.1, p.2) (told (g.F.Files.contents c.args.files.now) _ (λ held. λ eight. absurd (no_eight c.args.name.now (λ line. ⊥) c.in_err-bytes.field-0.0 c.in_err-bytes.ensures.about eight)))

pub returns-clause-refused : goal.returns-clause-refused
returns-clause-refused g c =
    IfSome_then (g.F.Files.contents c.args.files.now) c.in_ok-bytes.ensures.bytes
    (λ held there.
    let short : length c.in_ok-bytes.bytes.items ≤ 1048576 = omega (arith, c.in_ok-bytes.ensures.within, c.deref.ensures.len, ap length c.deref.ensures.value) in
    IfErr-weaker c.plan_of.result _ _
    (λ r is. refused_program (IsAcceptedAs c.args.pace) (AreRefused c.args.pace) held c.args.name.now c.in_ok-bytes.bytes.items there (λ _ _. ⊥) short (LacksNodes c.args.pace c.in_ok-bytes.bytes.items) r
    (g.F.Files.faults c.args.files.now) (g.F.Files.faults c.read_program.new.files) is)
    (rw c.deref.ensures.value at c.plan_of.ensures.refused))

pub returns-clause-budget : goal.returns-clause-budget
returns-clause-budget g c =
    IfSome_then (g.F.Files.contents c.args.files.now) c.in_ok-bytes.ensures.bytes
    (λ held there.
    let short : length c.in_ok-bytes.bytes.items ≤ 1048576 = omega (arith, c.in_ok-bytes.ensures.within, c.deref.ensures.len, ap length c.deref.ensures.value) in
    IfErr-weaker c.plan_of.result _ _
    (λ r is. λ eight.
    let of = budget_of (AreRefused c.args.pace c.in_ok-bytes.bytes.items) (LacksNodes c.args.pace c.in_ok-bytes.bytes.items) r is eight in
    holds_beyond c.args.pace c.args.name.now c.in_ok-bytes.bytes.items short held of.0 there of.1)
    (rw c.deref.ensures.value at c.plan_of.ensures.refused))

pub returns-clause-about : goal.returns-clause-about
returns-clause-about g c =
    IfErr-weaker c.plan_of.result _ _
    (about_bytes (AreRefused c.args.pace c.in_ok-bytes.bytes.items) (LacksNodes c.args.pace c.in_ok-bytes.bytes.items) c.args.name.now IsPlanLine IsBudget
    (plan_line c.args.pace c.in_ok-bytes.bytes.items) (budget_number c.args.pace c.in_ok-bytes.bytes.items))
    (rw c.deref.ensures.value at c.plan_of.ensures.refused)
