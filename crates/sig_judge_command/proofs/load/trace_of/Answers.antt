use Rattle.sig_judge_command.proofs.{◌≡◌, ◌≢◌, ⊎_elim, OutOfMemory, of_more_data, RefusesTrace, bad_trace}
use Rattle.sig_judge_command.proofs.load.trace_of.Goals as goal

pub returns-in-Err-clause-refused : goal.returns-in-Err-clause-refused
returns-in-Err-clause-refused c =
    of_more_data (λ line. (c.in-Err.answer ≢ OutOfMemory) × (line ≡ bad_trace c.args.name.now c.in-Err.answer)) (RefusesTrace c.args.name.now c.args.flat.now.signals.items c.args.bytes.now)
    (λ line is. record {
      answer = c.in-Err.answer;
      none = ⊎_elim (λ memory. absurd (is.0 memory)) (λ first. first) c.in-Err.ensures.fault;
      says = is.1;
    })
    c.refused_trace.result c.refused_trace.ensures
