-- The judging of a trace over told contents comes to one outcome at most.
use Rattle.sig_judge_command.proofs.Common.{◌≡◌, ◌∙◌, ◌⊎◌, ◌↔◌, ℕ, List, Option, IfSome, inl, inr, sym, refl, ap, Trace, Signal, Contents, FlatBody, IsProcessTrace, IsFlatText, front_line, flat_once, no_flat_once, flat_or_refusal, IsTraceFile, IsBroken, IsVerdict, Verdict, Accepted, Broken, one_trace, one_fault, not_both as trace_or_fault, one_verdict_of, Good, OneAtMost, Outcome, long_file, long_program, IsDone, at_file_ends, one_at_data, one_at_program, AtFlat, AtTrace, FindsFlat, FindsTrace, IsJudgeStatus, JudgeComesTo, JudgesTo, RefusesFlat, RefusesTrace, bad_trace, judged, verdict_status}

no_flat_line : (bytes l m : List ℕ) → RefusesFlat bytes l → RefusesFlat bytes m → l ≡ m
no_flat_line bytes l m x y = x.says ∙ ap front_line (no_flat_once bytes x.answer y.answer x.none y.none) ∙ sym y.says

flat_apart : (bytes : List ℕ) (flat : FlatBody) (l : List ℕ) → IsFlatText bytes flat → RefusesFlat bytes l → ⊥
flat_apart bytes flat l says refuses = flat_or_refusal bytes flat refuses.answer says refuses.none

no_trace_line : (name : List ℕ) (signals : List Signal) (bytes l m : List ℕ) → RefusesTrace name signals bytes l → RefusesTrace name signals bytes m → l ≡ m
no_trace_line name signals bytes l m x y = x.says ∙ ap (bad_trace name) (one_fault signals bytes x.answer y.answer x.none y.none) ∙ sym y.says

trace_apart : (name : List ℕ) (signals : List Signal) (bytes : List ℕ) (trace : Trace) (l : List ℕ) → IsTraceFile signals bytes trace → RefusesTrace name signals bytes l → ⊥
trace_apart name signals bytes trace l says refuses = trace_or_fault signals bytes trace refuses.answer says refuses.none

one_verdict_outcome : (flat : FlatBody) (trace : Trace) (file : List ℕ) → OneAtMost (JudgesTo flat trace file)
one_verdict_outcome flat trace file o p x y =
    x.is ∙ ap (λ v. judged v file) (one_verdict_of flat trace x.verdict y.verdict x.told y.told) ∙ sym y.is

pub one_judge_outcome : (program traces : List ℕ) (held : Contents) → OneAtMost (JudgeComesTo held program traces)
one_judge_outcome program traces held =
    one_at_program IsFlatText RefusesFlat flat_once no_flat_line flat_apart held program
    (λ flat. AtTrace held traces flat.signals (λ trace. JudgesTo flat trace traces))
    (λ flat bytes is.
    one_at_data (IsTraceFile flat.signals) (RefusesTrace traces flat.signals) (one_trace flat.signals) (no_trace_line traces flat.signals) (trace_apart traces flat.signals) held traces
    (λ trace. JudgesTo flat trace traces) (λ trace bytes is. one_verdict_outcome flat trace traces))

-- ---- what it comes to

module _ (held : Contents) (program traces : List ℕ) where
  -- a program file that gives no flat body ends it
  pub flat_refuses : (o : Outcome) → AtFlat held program (λ _ _. ⊥) o → JudgeComesTo held program traces o
  flat_refuses o x =
      (x.0, x.1, at_file_ends 1 long_program program x.0 (λ flat. AtTrace held traces flat.signals (λ trace. JudgesTo flat trace traces)) o x.2)

  -- and so does a trace file, behind a flat body
  pub trace_refuses : (flat : FlatBody) (o : Outcome) → FindsFlat (held program) (Good flat) → AtTrace held traces flat.signals (λ _ _. ⊥) o → JudgeComesTo held program traces o
  trace_refuses flat o good x =
      (Good flat, good, (x.0, x.1, at_file_ends 4 (long_file traces) traces x.0 (λ trace. JudgesTo flat trace traces) o x.2))

  pub judges : (flat : FlatBody) (trace : Trace) (verdict : Verdict) → FindsFlat (held program) (Good flat) → FindsTrace (held traces) traces flat.signals (Good trace) → IsVerdict flat trace verdict → JudgeComesTo held program traces (judged verdict traces)
  judges flat trace verdict good read told = (Good flat, good, (Good trace, read, record { verdict = verdict; told = told; is = refl }))

-- a verdict is a status that says that all was done
pub verdict_done : (verdict : Verdict) → IsDone (verdict_status verdict)
verdict_done Accepted = inl (inl refl)
verdict_done (Broken instant equation) = inr refl

pub verdict_number : (verdict : Verdict) → IsJudgeStatus (verdict_status verdict)
verdict_number Accepted = inl (inl refl)
verdict_number (Broken instant equation) = inl (inr refl)

-- what the judge tells of its verdict makes it the verdict
pub verdict_holds : (flat : FlatBody) (trace : Trace) (verdict : Verdict) → (verdict ≡ Accepted) ↔ IsProcessTrace flat trace → ((instant equation : ℕ) → (verdict ≡ Broken instant equation) ↔ IsBroken flat trace instant equation) → IsVerdict flat trace verdict
verdict_holds flat trace Accepted accepted is_broken = accepted.0 refl
verdict_holds flat trace (Broken instant equation) accepted is_broken = (is_broken instant equation).0 refl
