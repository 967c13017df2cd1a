-- What is promised of a run of an image follows from what its files gave and what was written.
use Rattle.sig_image_command.proofs.Common.{◌≡◌, ◌∙◌, ◌⊎◌, ℕ, ℤ, List, [], Bool, Option, IfSome, inl, inr, refl, sym, subst, arith, IsTrue, Rose, Contents, name_where_there, TookPrefix-whole, Settings, IsImageRun, ImageView, ImageCause, Exhausted, Limit, Overflow, ZeroDivisor, ImageEnd, TookRun, TookSome, Good, IsEnded, Performs, write_line, OutOfMemory, performs_outcome, performs_refusal, FindsFlows, LacksMemory, exec_line, exec_status, WritesExec, executed, executing, inputs_of_image, FindsImage}
use Rattle.sig_image_command.proofs.Loads.{reaches_end, stops_memory}
use Rattle.sig_image_command.proofs.OneExec.{exec_number, one_exec_outcome}

-- ---- statuses

no_six : (cause : ImageCause) → exec_status cause ≡ 6 → ⊥
no_six (Exhausted x) six = omega (arith, six)
no_six other six = omega (arith, six)

pub is_ended : (cause : ImageCause) → IsEnded (exec_status cause)
is_ended (Exhausted x) = inl refl
is_ended (Overflow at) = inr refl
is_ended (ZeroDivisor at) = inr refl
is_ended Limit = inl refl

-- ---- what a run wrote

module _ {S : Type 0} (image : ImageView) (flows : List (List ℤ)) (limit : ℕ) (took : S → List ℕ → S → Type 0) (out out' : S) (wrote wrote' : ℕ) (clean : Bool) (Said : List ℕ → Type 0) (status : ℕ) where
  -- it came to its end
  pub wrote_whole : (end : ImageEnd) → TookRun image flows limit took out out' end → IsTrue clean → Said (exec_line image end) → status ≡ exec_status end.cause
      → WritesExec image flows limit took out out' wrote wrote' clean Said status
  wrote_whole end whole flushed said is = record {
    text = whole.0;
    end = end;
    runs = whole.1;
    writes = record {
      numbers = inl is;
      prefix = TookPrefix-whole took out out' whole.0 whole.2;
      whole = λ other. whole.2;
      says = λ other. said;
      flushed = λ other. flushed;
      failed = λ six. absurd (no_six end.cause (sym is ∙ six));
      fault_line = λ six. absurd (no_six end.cause (sym is ∙ six));
    };
  }

  -- a write failed of a run that there is
  pub wrote_part : ((text : List ℕ) × (end : ImageEnd) × IsImageRun image flows limit text end) → TookSome image flows limit took out out'
      → Rose wrote wrote' → Said write_line → status ≡ 6 → WritesExec image flows limit took out out' wrote wrote' clean Said status
  wrote_part some prefix rose said six = record {
    text = some.0;
    end = some.1;
    runs = some.2;
    writes = record {
      numbers = inr six;
      prefix = prefix some.0 some.1 some.2;
      whole = λ other. absurd (other six);
      says = λ other. absurd (other six);
      flushed = λ other. absurd (other six);
      failed = λ _. rose;
      fault_line = λ _. said;
    };
  }

-- ---- what is promised

module _ (contents : Option Contents) (before at : Option (List ℕ)) (misses misses' faults faults' : ℕ) (file flows : List ℕ) (settings : Settings) (image : ImageView) (values : List (List ℤ))
    (good : IfSome contents (λ held. FindsImage (held file) file (Good image)))
    (read : IfSome contents (λ held. FindsFlows (held flows) flows (inputs_of_image image) (Good values))) (last : IfSome contents (λ held. at ≡ name_where_there held flows)) where
  pub performs_exec : {S : Type 0} (took : S → List ℕ → S → Type 0) (out out' : S) (wrote wrote' : ℕ) (clean : Bool) (Said : List ℕ → Type 0) (status : ℕ) → took out [] out
      → WritesExec image values settings.instants took out out' wrote wrote' clean Said status ⊎ LacksMemory out out' Said status
      → Performs (executing file flows settings) contents before at misses misses' faults faults' took out out' wrote wrote' clean Said status
  performs_exec took out out' wrote wrote' clean Said status nothing (inl wrote_run) =
      performs_outcome (executing file flows settings) contents before at misses misses' faults faults' (one_exec_outcome file flows settings)
      took out out' wrote wrote' clean Said status (executed image wrote_run.text wrote_run.end flows)
      (inl (is_ended wrote_run.end.cause)) (inl (is_ended wrote_run.end.cause)) (inr (inl refl))
      (reaches_end contents before at misses misses misses' faults faults faults' file flows settings image good last values wrote_run.text wrote_run.end read wrote_run.runs)
      wrote_run.writes
  performs_exec {S} took out out' wrote wrote' clean Said status nothing (inr lacks) =
      subst (λ (o : S). Performs (executing file flows settings) contents before at misses misses' faults faults' took out o wrote wrote' clean Said status) (sym lacks.untouched)
      (performs_refusal (executing file flows settings) contents before at misses misses' faults faults' (one_exec_outcome file flows settings)
      took out wrote wrote' clean Said status OutOfMemory nothing (exec_number file flows)
      (stops_memory contents before at misses misses misses' faults faults faults' file flows settings image good last) lacks.line lacks.numbered)
