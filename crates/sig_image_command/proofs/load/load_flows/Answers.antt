use Rattle.sig_image_command.proofs.{◌≤◌, ap, arith, length, IfSome_then, AreFlows, about_data, refused_data, IsFlowLine, RefusesFlows, flow_line, inputs_of_image, IfErr-weaker}
use Rattle.sig_image_command.proofs.load.load_flows.Goals as goal

pub returns-clause-refused : goal.returns-clause-refused
returns-clause-refused g c =
    IfSome_then (g.F.Files.contents c.args.files.now) c.in_ok-bytes.ensures.bytes
    (λ held there.
    let short : length c.in_ok-bytes.bytes.items ≤ 67108864 = omega (arith, c.in_ok-bytes.ensures.within, c.deref.ensures.len, ap length c.deref.ensures.value) in
    IfErr-weaker c.flows_of.result _ _
    (λ r is. refused_data (AreFlows (inputs_of_image c.args.image.now)) (RefusesFlows c.args.name.now (inputs_of_image c.args.image.now)) held c.args.name.now c.in_ok-bytes.bytes.items there (λ _ _. ⊥) short r
    (g.F.Files.faults c.args.files.now) (g.F.Files.faults c.read_data.new.files) is)
    (rw (c.deref.ensures.value, c.image.view_is) at c.flows_of.ensures.refused))

pub returns-clause-about : goal.returns-clause-about
returns-clause-about g c =
    IfErr-weaker c.flows_of.result _ _
    (about_data (RefusesFlows c.args.name.now (inputs_of_image c.args.image.now) c.in_ok-bytes.bytes.items) c.args.name.now (IsFlowLine c.args.name.now)
    (flow_line c.args.name.now (inputs_of_image c.args.image.now) c.in_ok-bytes.bytes.items))
    (rw (c.deref.ensures.value, c.image.view_is) at c.flows_of.ensures.refused)
