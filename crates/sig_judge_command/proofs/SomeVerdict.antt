-- The judging of a trace over told contents comes to an outcome, whatever its files hold and whether they are there.
use Rattle.sig_judge_command.proofs.Common.{◌≡◌, ◌⊎◌, ℕ, List, length, map, bytes_eq, inl, inr, refl, Contents, Outcome, Trace, Signal, FlatBody, FrontAnswer, TraceAnswer, Verdict, IsDistinct, IsTraceOf, IsFlatText, IsNoFlatText, IsTraceFile, IsFirstBadPlace, IsVerdict, front_line, kinds_of_file, some_at_data, some_at_program, AtTrace, JudgeComesTo, JudgesTo, RefusesFlat, RefusesTrace, bad_trace, judged}

module _ (texts : (text : List ℕ) → ((flat : FlatBody) × IsFlatText text flat) ⊎ ((answer : FrontAnswer) × IsNoFlatText text answer))
    (names : (text : List ℕ) (flat : FlatBody) → IsFlatText text flat → IsDistinct bytes_eq (map (λ signal. signal.name) flat.signals))
    (files : (signals : List Signal) (bytes : List ℕ) → ((trace : Trace) × IsTraceFile signals bytes trace) ⊎ ((answer : TraceAnswer) × IsFirstBadPlace signals bytes answer))
    (verdicts : (flat : FlatBody) (trace : Trace) → IsTraceOf flat.signals trace → (verdict : Verdict) × IsVerdict flat trace verdict) where
  flat_either : (bytes : List ℕ) → ((flat : FlatBody) × IsFlatText bytes flat) ⊎ ((answer : FrontAnswer) × IsNoFlatText bytes answer) → ((flat : FlatBody) × IsFlatText bytes flat) ⊎ ((line : List ℕ) × RefusesFlat bytes line)
  flat_either bytes (inl is) = inl is
  flat_either bytes (inr none) = inr (front_line none.0, record { answer = none.0; none = none.1; says = refl })

  trace_either : (name : List ℕ) (signals : List Signal) (bytes : List ℕ) → ((trace : Trace) × IsTraceFile signals bytes trace) ⊎ ((answer : TraceAnswer) × IsFirstBadPlace signals bytes answer)
      → ((trace : Trace) × IsTraceFile signals bytes trace) ⊎ ((line : List ℕ) × RefusesTrace name signals bytes line)
  trace_either name signals bytes (inl is) = inl is
  trace_either name signals bytes (inr none) = inr (bad_trace name none.0, record { answer = none.0; none = none.1; says = refl })

  module _ (held : Contents) (program traces : List ℕ) where
    by_trace : (flat : FlatBody) → IsDistinct bytes_eq (map (λ signal. signal.name) flat.signals) → (trace : Trace) (bytes : List ℕ) → IsTraceFile flat.signals bytes trace → (o : Outcome) × JudgesTo flat trace traces o
    by_trace flat differ trace bytes file =
        let verdict = verdicts flat trace (kinds_of_file flat.signals bytes trace differ file) in
        (judged verdict.0 traces, record { verdict = verdict.0; told = verdict.1; is = refl })

    by_flat : (flat : FlatBody) → IsDistinct bytes_eq (map (λ signal. signal.name) flat.signals) → (o : Outcome) × AtTrace held traces flat.signals (λ trace. JudgesTo flat trace traces) o
    by_flat flat differ =
        some_at_data (IsTraceFile flat.signals) (RefusesTrace traces flat.signals) (λ bytes. trace_either traces flat.signals bytes (files flat.signals bytes)) held traces
        (λ trace. JudgesTo flat trace traces) (by_trace flat differ)

    pub some_judge_outcome : (o : Outcome) × JudgeComesTo held program traces o
    some_judge_outcome =
        some_at_program IsFlatText RefusesFlat (λ bytes short. flat_either bytes (texts bytes)) held program
        (λ flat. AtTrace held traces flat.signals (λ trace. JudgesTo flat trace traces)) (λ flat found. by_flat flat (names found.bytes flat found.good))
