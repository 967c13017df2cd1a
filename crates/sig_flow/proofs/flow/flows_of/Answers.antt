use Rattle.sig_flow.proofs.{◌≡◌, ◌⊎◌, ◌∙◌, ◌++◌, ◌+◌, [], ap, get_or, lines, flow_in, flow_on, numbered, values_for, words_of, length, arith, rules, sym, subst, common_steps, err_from_is_err_and, FlowAnswer, OutOfMemory, body_behind, IsFirstIn, all_read, fault_here, written}
use Rattle.sig_flow.proofs.flow.flows_of.Goals as goal

pub returns-in_err-before-clause-fault : goal.returns-in_err-before-clause-fault
returns-in_err-before-clause-fault c =
    let p = err_from_is_err_and c.from_residual-in_err-before.result c.from_residual-in_err-before.ensures.1 in
    let why = fault_here c.args.inputs.now (body_behind c.args.body) c.loop-rest.rest.now c.next_line.result.0.now c.next_line.result.1.now c.loop-rest.number c.loop-rest.before c.in_err-before.field-0.0 c.next_line.ensures.lines c.in_err-before.ensures.fault c.loop-rest.invariant.judged in
    rw p.1 (subst (λ (e : FlowAnswer). (e ≡ OutOfMemory) ⊎ IsFirstIn c.args.inputs.now (body_behind c.args.body) e) (sym p.2) why)

pub returns-clause-flows : goal.returns-clause-flows
returns-clause-flows c =
    let none : length c.loop-rest.rest.now ≡ 0 = grind (arith, common_steps) in
    all_read c.args.inputs.now (body_behind c.args.body) c.loop-rest.rest.now c.loop-rest.number c.loop-rest.before c.loop-rest.flows.items none c.loop-rest.invariant.same_length c.loop-rest.invariant.read c.loop-rest.invariant.judged

pub loop-rest-preserved : goal.loop-rest-preserved
loop-rest-preserved c =
    let at = c.loop-rest in
    let same : length c.read_line.new.flows ≡ length at.flows.items = c.read_line.auto.flows ∙ ap length c.deref_mut.ensures.value in
    let whole = written at.flows.len c.read_line.new.flows at.flows.items same (sym c.deref_mut.ensures.len ∙ ap length c.deref_mut.ensures.value) in
    record {
      within = search rules;
      same_length = ap length whole ∙ same ∙ at.invariant.same_length;
      few = search rules;
      judged = search rules;
      read = λ k d lt.
          ap (λ flows. get_or flows k [] ++ flow_in c.args.body.version (numbered (at.number + 1) (lines c.next_line.result.1.now)) (get_or c.args.inputs.now k d)) whole
          ∙ flow_on c.args.body.version c.args.inputs.now at.rest.now c.next_line.result.0.now c.next_line.result.1.now at.number c.next_line.ensures.lines
          (get_or at.flows.items k []) (get_or c.read_line.new.flows k []) (get_or c.args.inputs.now k d)
          (c.in_ok-before.ensures.flows k d lt ∙ ap (λ flows. get_or flows k [] ++ values_for c.args.body.version (get_or c.args.inputs.now k d) (words_of c.next_line.result.0.now)) c.deref_mut.ensures.value)
          ∙ at.invariant.read k d lt;
    }
