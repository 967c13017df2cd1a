use Rattle.sig_compile_command.proofs.{◌≡◌, ◌≤◌, ap, arith, length, err_from_is_err_and, IsText, canonical_text, done, reaches_text, stops_bytes, stops_unread, IsFrontLine, IsPrintStatus, RefusesText, front_text_line, IfErr-weaker, IfOk-weaker}
use Rattle.sig_compile_command.proofs.print.canonical.Goals as goal

pub returns-in_err-bytes-clause-stops : goal.returns-in_err-bytes-clause-stops
returns-in_err-bytes-clause-stops g c =
    let p = err_from_is_err_and c.from_residual.result c.from_residual.ensures.1 in
    rw (p.1, p.2) (stops_unread IsText RefusesText (λ tree o. o ≡ done (canonical_text tree) c.args.name.now) IsPrintStatus IsFrontLine (λ nodes. ⊥) (λ held. ⊥) c.args.name.now
    (g.F.Files.contents c.args.files.now) (g.F.Files.at c.args.files.now) (g.F.Files.at c.read_program.new.files)
    (g.F.Files.misses c.args.files.now) (g.F.Files.misses c.read_program.new.files) (g.F.Files.faults c.args.files.now) (g.F.Files.faults c.read_program.new.files)
    c.in_err-bytes.field-0.0 c.in_err-bytes.ensures.about c.in_err-bytes.ensures.counted c.in_err-bytes.ensures.refused c.in_err-bytes.ensures.read.told)

pub returns-clause-stops : goal.returns-clause-stops
returns-clause-stops g c =
    let short : length c.in_ok-bytes.bytes.items ≤ 1048576 = omega (arith, c.in_ok-bytes.ensures.within, c.deref.ensures.len, ap length c.deref.ensures.value) in
    IfErr-weaker c.canonical_of.result _ _
    (λ r is. stops_bytes IsText RefusesText (λ tree o. o ≡ done (canonical_text tree) c.args.name.now) IsPrintStatus IsFrontLine (λ nodes. ⊥) (λ held. ⊥) c.args.name.now
    (g.F.Files.contents c.args.files.now) (g.F.Files.at c.args.files.now) (g.F.Files.at c.read_program.new.files)
    (g.F.Files.misses c.args.files.now) (g.F.Files.misses c.read_program.new.files) (g.F.Files.faults c.args.files.now) (g.F.Files.faults c.read_program.new.files)
    c.in_ok-bytes.bytes.items (λ nodes. ⊥) r c.in_ok-bytes.ensures.bytes short
    (front_text_line c.in_ok-bytes.bytes.items) (λ nodes lacks. lacks) (λ held nodes there lacks. lacks) is c.in_ok-bytes.ensures.read.told)
    (rw c.deref.ensures.value at c.canonical_of.ensures.refused)

pub returns-clause-text : goal.returns-clause-text
returns-clause-text g c =
    let short : length c.in_ok-bytes.bytes.items ≤ 1048576 = omega (arith, c.in_ok-bytes.ensures.within, c.deref.ensures.len, ap length c.deref.ensures.value) in
    IfOk-weaker c.canonical_of.result _ _
    (λ text is. reaches_text IsText RefusesText (λ tree o. o ≡ done (canonical_text tree) c.args.name.now) IsPrintStatus IsFrontLine (λ nodes. ⊥) (λ held. ⊥) c.args.name.now
    (g.F.Files.contents c.args.files.now) (g.F.Files.at c.args.files.now) (g.F.Files.at c.read_program.new.files)
    c.in_ok-bytes.bytes.items text.items is.tree c.in_ok-bytes.ensures.bytes short is.is (ap (λ t. done t c.args.name.now) is.printed) c.in_ok-bytes.ensures.read.told)
    (rw c.deref.ensures.value at c.canonical_of.ensures.text)
