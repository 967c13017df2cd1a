use Rattle.sig_loaded.proofs.{◌≡◌, ◌≢◌, ⊎_elim, OutOfMemory, inputs_of, of_more_data, RefusesFlows, bad_flows}
use Rattle.sig_loaded.proofs.load.flows_of.Goals as goal

pub returns-in-Err-clause-refused : goal.returns-in-Err-clause-refused
returns-in-Err-clause-refused c =
    of_more_data (λ line. (c.in-Err.answer ≢ OutOfMemory) × (line ≡ bad_flows c.args.name.now c.in-Err.answer)) (RefusesFlows c.args.name.now (inputs_of c.args.kernel.now) c.args.bytes.now)
    (λ line is. record {
      answer = c.in-Err.answer;
      none = ⊎_elim (λ memory. absurd (is.0 memory)) (λ first. first) c.in-Err.ensures.fault;
      says = is.1;
    })
    c.refused_flows.result c.refused_flows.ensures
