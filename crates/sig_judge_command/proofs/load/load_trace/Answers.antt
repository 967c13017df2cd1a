use Rattle.sig_judge_command.proofs.{◌≤◌, ap, arith, length, IfSome_then, IsTraceFile, refused_data, RefusesTrace, IfErr-weaker}
use Rattle.sig_judge_command.proofs.load.load_trace.Goals as goal

pub returns-clause-refused : goal.returns-clause-refused
returns-clause-refused g c =
    IfSome_then (g.F.Files.contents c.args.files.now) c.in_ok-bytes.ensures.bytes
    (λ held there.
    let short : length c.in_ok-bytes.bytes.items ≤ 67108864 = omega (arith, c.in_ok-bytes.ensures.within, c.deref.ensures.len, ap length c.deref.ensures.value) in
    IfErr-weaker c.trace_of.result _ _
    (λ r is. refused_data (IsTraceFile c.args.flat.now.signals.items) (RefusesTrace c.args.name.now c.args.flat.now.signals.items) held c.args.name.now c.in_ok-bytes.bytes.items there (λ _ _. ⊥) short r
    (g.F.Files.faults c.args.files.now) (g.F.Files.faults c.read_data.new.files) is)
    (rw c.deref.ensures.value at c.trace_of.ensures.refused))
