use Rattle.sig_compile_command.proofs.{◌≤◌, ap, arith, length, refl, err_from_is_err_and, WritesDue, reaches_text, stops_bytes, stops_unread, AreRefused, IsAcceptedAs, HoldsBeyondBound, IsBudget, IsCompileStatus, IsDueOf, IsPlanLine, LacksNodes, budget_number, holds_beyond, plan_line, IfErr-weaker, IfOk-weaker}
use Rattle.sig_compile_command.proofs.check.compiled.Goals as goal

pub returns-in_err-bytes-clause-stops : goal.returns-in_err-bytes-clause-stops
returns-in_err-bytes-clause-stops g c =
    let p = err_from_is_err_and c.from_residual.result c.from_residual.ensures.1 in
    rw (p.1, p.2) (stops_unread (IsAcceptedAs c.args.pace) (AreRefused c.args.pace) (λ kernel. WritesDue (IsDueOf c.args.product kernel) c.args.name.now) IsCompileStatus IsPlanLine IsBudget (λ held. HoldsBeyondBound c.args.pace (held c.args.name.now)) c.args.name.now
    (g.F.Files.contents c.args.files.now) (g.F.Files.at c.args.files.now) (g.F.Files.at c.read_program.new.files)
    (g.F.Files.misses c.args.files.now) (g.F.Files.misses c.read_program.new.files) (g.F.Files.faults c.args.files.now) (g.F.Files.faults c.read_program.new.files)
    c.in_err-bytes.field-0.0 c.in_err-bytes.ensures.about c.in_err-bytes.ensures.counted c.in_err-bytes.ensures.refused c.in_err-bytes.ensures.read.told)

pub returns-clause-stops : goal.returns-clause-stops
returns-clause-stops g c =
    let short : length c.in_ok-bytes.bytes.items ≤ 1048576 = omega (arith, c.in_ok-bytes.ensures.within, c.deref.ensures.len, ap length c.deref.ensures.value) in
    IfErr-weaker c.product_of.result _ _
    (λ r is. stops_bytes (IsAcceptedAs c.args.pace) (AreRefused c.args.pace) (λ kernel. WritesDue (IsDueOf c.args.product kernel) c.args.name.now) IsCompileStatus IsPlanLine IsBudget (λ held. HoldsBeyondBound c.args.pace (held c.args.name.now)) c.args.name.now
    (g.F.Files.contents c.args.files.now) (g.F.Files.at c.args.files.now) (g.F.Files.at c.read_program.new.files)
    (g.F.Files.misses c.args.files.now) (g.F.Files.misses c.read_program.new.files) (g.F.Files.faults c.args.files.now) (g.F.Files.faults c.read_program.new.files)
    c.in_ok-bytes.bytes.items (LacksNodes c.args.pace c.in_ok-bytes.bytes.items) r c.in_ok-bytes.ensures.bytes short
    (plan_line c.args.pace c.in_ok-bytes.bytes.items) (budget_number c.args.pace c.in_ok-bytes.bytes.items) (holds_beyond c.args.pace c.args.name.now c.in_ok-bytes.bytes.items short) is c.in_ok-bytes.ensures.read.told)
    (rw c.deref.ensures.value at c.product_of.ensures.refused)

pub returns-clause-text : goal.returns-clause-text
returns-clause-text g c =
    let short : length c.in_ok-bytes.bytes.items ≤ 1048576 = omega (arith, c.in_ok-bytes.ensures.within, c.deref.ensures.len, ap length c.deref.ensures.value) in
    IfOk-weaker c.product_of.result _ _
    (λ text is. reaches_text (IsAcceptedAs c.args.pace) (AreRefused c.args.pace) (λ kernel. WritesDue (IsDueOf c.args.product kernel) c.args.name.now) IsCompileStatus IsPlanLine IsBudget (λ held. HoldsBeyondBound c.args.pace (held c.args.name.now)) c.args.name.now
    (g.F.Files.contents c.args.files.now) (g.F.Files.at c.args.files.now) (g.F.Files.at c.read_program.new.files)
    c.in_ok-bytes.bytes.items text.items is.kernel c.in_ok-bytes.ensures.bytes short is.is (record { text = text.items; due = is.due; is = refl }) c.in_ok-bytes.ensures.read.told)
    (rw c.deref.ensures.value at c.product_of.ensures.text)
