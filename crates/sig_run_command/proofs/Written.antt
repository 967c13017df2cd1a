-- What is promised of a run follows from what its files gave and what was written.
use Rattle.sig_run_command.proofs.Common.{◌≡◌, ◌∙◌, ◌⊎◌, ℕ, ℤ, List, [], Bool, Option, IfSome, inl, inr, refl, sym, subst, IsTrue, IsWholeRun, IsLongest, Trace, IsKernelTrace, output_text, AreFlowsFor, inputs_of, Kernel, Rose, Contents, name_where_there, TookPrefix, TookPrefix-whole, IsAccepted, PlanView, Ended, some_end, kernel_end, Settings, Good, Performs, write_line, performs_outcome, performs_refusal, FindsAccepted, end_line, end_status, FindsFlows, HoldFew, LacksMemory, WritesRun, ended, running}
use Rattle.sig_outcome.specs.declared.refusal.Refusal.TheVariants.{OutOfMemory}
use Rattle.sig_loaded.proofs.Loads.{reaches_end, run_number, stops_memory}
use Rattle.sig_loaded.proofs.OneRun.{one_run_outcome}
use Rattle.sig_loaded.proofs.Statuses.{is_ended, no_six}

-- ---- what a run wrote

module _ {S : Type 0} (plan : PlanView) (accepted : IsAccepted plan) (flows : List (List ℤ)) (limit : ℕ) (took : S → List ℕ → S → Type 0) (out out' : S) (wrote wrote' : ℕ) (clean : Bool) (Said : List ℕ → Type 0) (status : ℕ) where
  -- it came to its end
  pub wrote_whole : (end : Ended) → IsWholeRun plan flows limit took out out' end → IsTrue clean → Said (end_line plan.kernel end) → status ≡ end_status end.cause
      → WritesRun plan.kernel flows limit took out out' wrote wrote' clean Said status
  wrote_whole end whole flushed said is = record {
    trace = whole.trace;
    place = whole.place;
    end = end;
    ends = kernel_end plan accepted flows limit whole.trace whole.place end whole.end;
    writes = record {
      numbers = inl is;
      prefix = TookPrefix-whole took out out' (output_text plan.kernel whole.trace) whole.text;
      whole = λ other. whole.text;
      says = λ other. said;
      flushed = λ other. flushed;
      failed = λ six. absurd (no_six end.cause (sym is ∙ six));
      fault_line = λ six. absurd (no_six end.cause (sym is ∙ six));
    };
  }

  -- a write failed, and each run has an end
  pub wrote_part : AreFlowsFor plan.kernel flows → ((trace : Trace) → IsLongest (IsKernelTrace plan.kernel) flows limit trace → TookPrefix took out (output_text plan.kernel trace) out')
      → Rose wrote wrote' → Said write_line → status ≡ 6 → WritesRun plan.kernel flows limit took out out' wrote wrote' clean Said status
  wrote_part fit prefix rose said six =
      let some = some_end plan accepted flows fit limit in
      record {
        trace = some.0;
        place = some.1;
        end = some.2;
        ends = kernel_end plan accepted flows limit some.0 some.1 some.2 some.3;
        writes = record {
          numbers = inr six;
          prefix = prefix some.0 some.3.longest;
          whole = λ other. absurd (other six);
          says = λ other. absurd (other six);
          flushed = λ other. absurd (other six);
          failed = λ _. rose;
          fault_line = λ _. said;
        };
      }

-- ---- what is promised

module _ (contents : Option Contents) (before at : Option (List ℕ)) (misses misses' faults faults' : ℕ) (program flows : List ℕ) (settings : Settings) (kernel : Kernel) (values : List (List ℤ))
    (good : IfSome contents (λ held. FindsAccepted settings.pace (held program) (Good kernel))) (few : HoldFew kernel settings.capacity)
    (read : IfSome contents (λ held. FindsFlows (held flows) flows (inputs_of kernel) (Good values))) (last : IfSome contents (λ held. at ≡ name_where_there held flows)) where
  pub performs_run : {S : Type 0} (took : S → List ℕ → S → Type 0) (out out' : S) (wrote wrote' : ℕ) (clean : Bool) (Said : List ℕ → Type 0) (status : ℕ) → took out [] out
      → WritesRun kernel values settings.instants took out out' wrote wrote' clean Said status ⊎ LacksMemory out out' Said status
      → Performs (running program flows settings) contents before at misses misses' faults faults' took out out' wrote wrote' clean Said status
  performs_run took out out' wrote wrote' clean Said status nothing (inl wrote_run) =
      performs_outcome (running program flows settings) contents before at misses misses' faults faults' (one_run_outcome program flows settings)
      took out out' wrote wrote' clean Said status (ended kernel wrote_run.trace wrote_run.end flows)
      (inl (is_ended wrote_run.end.cause)) (inl (is_ended wrote_run.end.cause)) (inr (inl refl))
      (reaches_end contents before at misses misses misses' faults faults faults' program flows settings kernel good few values wrote_run.trace wrote_run.end read
      (record {
        trace = wrote_run.trace;
        place = wrote_run.place;
        end = wrote_run.end;
        ends = wrote_run.ends;
        is = refl;
      })
      last)
      wrote_run.writes
  performs_run {S} took out out' wrote wrote' clean Said status nothing (inr lacks) =
      subst (λ (o : S). Performs (running program flows settings) contents before at misses misses' faults faults' took out o wrote wrote' clean Said status) (sym lacks.untouched)
      (performs_refusal (running program flows settings) contents before at misses misses' faults faults' (one_run_outcome program flows settings)
      took out wrote wrote' clean Said status OutOfMemory nothing (run_number program flows)
      (stops_memory contents before at misses misses misses' faults faults faults' program flows settings kernel good few last) lacks.line lacks.numbered)
