use Rattle.sig_play_command.proofs.{◌≤◌, ap, arith, length, IfSome_then, AreEvents, about_data, refused_data, IsEventLine, RefusesEvents, event_line, IfErr-weaker}
use Rattle.sig_play_command.proofs.event_file.load_events.Goals as goal

pub returns-clause-refused : goal.returns-clause-refused
returns-clause-refused g c =
    IfSome_then (g.F.Files.contents c.args.files.now) c.in_ok-bytes.ensures.bytes
    (λ held there.
    let short : length c.in_ok-bytes.bytes.items ≤ 67108864 = omega (arith, c.in_ok-bytes.ensures.within, c.deref.ensures.len, ap length c.deref.ensures.value) in
    IfErr-weaker c.events_of.result _ _
    (λ r is. refused_data AreEvents (RefusesEvents c.args.name.now) held c.args.name.now c.in_ok-bytes.bytes.items there (λ _ _. ⊥) short r
    (g.F.Files.faults c.args.files.now) (g.F.Files.faults c.read_data.new.files) is)
    (rw c.deref.ensures.value at c.events_of.ensures.refused))

pub returns-clause-about : goal.returns-clause-about
returns-clause-about g c =
    IfErr-weaker c.events_of.result _ _
    (about_data (RefusesEvents c.args.name.now c.in_ok-bytes.bytes.items) c.args.name.now (IsEventLine c.args.name.now)
    (event_line c.args.name.now c.in_ok-bytes.bytes.items))
    (rw c.deref.ensures.value at c.events_of.ensures.refused)
