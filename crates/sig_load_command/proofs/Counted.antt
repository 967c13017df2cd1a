-- What is promised of a load follows from what was counted and what was written.
use Rattle.sig_load_command.proofs.Common.{◌≡◌, ◌∙◌, ◌⊎◌, ◌<◌, ◌%◌, ◌^◌, ℕ, ℤ, List, [], Bool, Option, length, inl, inr, refl, sym, ap, subst, arith, IsTrue, flat_map, sum, IsWholeRun, INSTANTS_DEFAULT, output_text, Kernel, flows, program, Tallied, Tally, Rose, Contents, TookPrefix, IsAccepted, PlanView, Ended, kernel_end, Settings, Performs, write_line, OutOfMemory, performs_outcome, performs_refusal, told, end_line, end_status, HoldFew, LacksMemory, is_ended, no_six, IsShortFlows, IsShortProgram, WritesLoad, counted, loading, summary, summary_pieces}
use Rattle.sig_load_command.proofs.OneLoad.{one_load_outcome}
use Rattle.sig_load_command.proofs.Stopped.{load_number, stops_memory}

-- ---- the summary

-- what a tally came to, from nothing
pub tallied : (stages instants : ℕ) (text : List ℕ) (tally : Tally) → tally.bytes < 2 ^ 64 → tally.sum < 2 ^ 64 → Tallied (record { bytes = 0; sum = 0 }) text tally
    → flat_map (λ piece. piece) (summary_pieces stages instants tally.bytes tally.sum) ≡ summary stages instants text
tallied stages instants text tally few small took =
    let count : tally.bytes ≡ length text % 2 ^ 64 = omega (arith, took.count, few) in
    let total : tally.sum ≡ sum text % 2 ^ 64 = omega (arith, took.total, small) in
    ap (λ (n : ℕ). flat_map (λ piece. piece) (summary_pieces stages instants n tally.sum)) count
    ∙ ap (λ (n : ℕ). flat_map (λ piece. piece) (summary_pieces stages instants (length text % 2 ^ 64) n)) total

-- ---- what a load wrote

module _ {S : Type 0} (stages : ℕ) (plan : PlanView) (accepted : IsAccepted plan) (values : List (List ℤ)) (took : S → List ℕ → S → Type 0) (out out' : S) (wrote wrote' : ℕ) (clean : Bool) (Said : List ℕ → Type 0) (status : ℕ)
    (tally : Tally) (few : tally.bytes < 2 ^ 64) (small : tally.sum < 2 ^ 64) (end : Ended) (run : IsWholeRun plan values INSTANTS_DEFAULT Tallied (record { bytes = 0; sum = 0 }) tally end) where
  due : flat_map (λ piece. piece) (summary_pieces stages end.instants tally.bytes tally.sum) ≡ summary stages end.instants (output_text plan.kernel run.trace)
  due = tallied stages end.instants (output_text plan.kernel run.trace) tally few small run.text

  -- all of it
  pub wrote_whole : took out (flat_map (λ piece. piece) (summary_pieces stages end.instants tally.bytes tally.sum)) out'
      → TookPrefix took out (flat_map (λ piece. piece) (summary_pieces stages end.instants tally.bytes tally.sum)) out'
      → IsTrue clean → Said (end_line plan.kernel end) → status ≡ end_status end.cause
      → WritesLoad stages plan.kernel values took out out' wrote wrote' clean Said status
  wrote_whole whole prefix flushed said is = record {
    trace = run.trace;
    place = run.place;
    end = end;
    ends = kernel_end plan accepted values INSTANTS_DEFAULT run.trace run.place end run.end;
    writes = record {
      numbers = inl is;
      prefix = subst (λ (text : List ℕ). TookPrefix took out text out') due prefix;
      whole = λ other. subst (λ (text : List ℕ). took out text out') due whole;
      says = λ other. said;
      flushed = λ other. flushed;
      failed = λ six. absurd (no_six end.cause (sym is ∙ six));
      fault_line = λ six. absurd (no_six end.cause (sym is ∙ six));
    };
  }

  -- a write failed
  pub wrote_part : TookPrefix took out (flat_map (λ piece. piece) (summary_pieces stages end.instants tally.bytes tally.sum)) out'
      → Rose wrote wrote' → Said write_line → status ≡ 6 → WritesLoad stages plan.kernel values took out out' wrote wrote' clean Said status
  wrote_part prefix rose said six = record {
    trace = run.trace;
    place = run.place;
    end = end;
    ends = kernel_end plan accepted values INSTANTS_DEFAULT run.trace run.place end run.end;
    writes = record {
      numbers = inr six;
      prefix = subst (λ (text : List ℕ). TookPrefix took out text out') due prefix;
      whole = λ other. absurd (other six);
      says = λ other. absurd (other six);
      flushed = λ other. absurd (other six);
      failed = λ _. rose;
      fault_line = λ _. said;
    };
  }

-- ---- what is promised

module _ (seed stages : ℕ) (settings : Settings) (contents : Option Contents) (at : Option (List ℕ)) (misses faults : ℕ) (kernel : Kernel) (values : List (List ℤ))
    (is : IsShortProgram (program stages) kernel) (few : HoldFew kernel settings.capacity) (read : IsShortFlows kernel (flows seed stages) values) where
  pub performs_load : {S : Type 0} (took : S → List ℕ → S → Type 0) (out out' : S) (wrote wrote' : ℕ) (clean : Bool) (Said : List ℕ → Type 0) (status : ℕ) → took out [] out
      → WritesLoad stages kernel values took out out' wrote wrote' clean Said status ⊎ LacksMemory out out' Said status
      → Performs (loading seed stages settings) contents at at misses misses faults faults took out out' wrote wrote' clean Said status
  performs_load took out out' wrote wrote' clean Said status nothing (inl load) =
      performs_outcome (loading seed stages settings) contents at at misses misses faults faults (λ held. one_load_outcome seed stages settings)
      took out out' wrote wrote' clean Said status (counted stages kernel load.trace load.end)
      (inl (is_ended load.end.cause)) (inl (is_ended load.end.cause)) (inr (inl refl))
      (record {
        comes = told contents _ (λ held. inr (
          kernel,
          is,
          inr (
            few,
            inr (inr (
              values,
              read,
              record {
                trace = load.trace;
                place = load.place;
                end = load.end;
                ends = load.ends;
                is = refl;
              },
            )),
          ),
        ));
        last = told contents _ (λ held. refl);
        begun = told contents _ (λ held. tt);
      })
      load.writes
  performs_load {S} took out out' wrote wrote' clean Said status nothing (inr lacks) =
      subst (λ (o : S). Performs (loading seed stages settings) contents at at misses misses faults faults took out o wrote wrote' clean Said status) (sym lacks.untouched)
      (performs_refusal (loading seed stages settings) contents at at misses misses faults faults (λ held. one_load_outcome seed stages settings)
      took out wrote wrote' clean Said status OutOfMemory nothing load_number
      (stops_memory seed stages settings.capacity settings contents at misses faults refl) lacks.line lacks.numbered)
