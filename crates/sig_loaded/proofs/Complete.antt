-- Every program comes to an outcome, and one that can be run over flows to the end of its run.
use Rattle.sig_loaded.proofs.Common.{◌⊎◌, ℕ, ℤ, Bool, List, Some, ⊎_elim, inl, inr, refl, sym, ap, subst, PROGRAM_BYTES, Contents, inputs_of, Kernel, Signal, some_kernel_end, AreFlows, flows_or_fault, read_fit, Settings, Good, Holds, Outcome, refused, too_many_items, IsEnded, behind_data, behind_program, AreRefused, IsAcceptedAs, AtPlan, accepted_once, accepted_or_refused, refused_once, HasVerdict, some_at_plan, CanRun, AtFlows, AtLinks, HoldFew, RefusesFlows, RunComesTo, RunsTo, bad_flows, ended}
use Rattle.sig_outcome.proofs.FoundFiles.{some_at_data}
use Rattle.sig_loaded.proofs.OneRun.{flows_apart, no_flows_line, one_flows}
use Rattle.sig_loaded.proofs.Plans.{items_are}
use Rattle.sig_loaded.proofs.Statuses.{is_ended}

-- bytes have a reading as flows, or are refused with a line
pub flows_either : (name : List ℕ) (inputs : List Signal) (bytes : List ℕ) → ((values : List (List ℤ)) × AreFlows inputs bytes values) ⊎ ((line : List ℕ) × RefusesFlows name inputs bytes line)
flows_either name inputs bytes =
    ⊎_elim (λ good. inl good) (λ bad. inr (bad_flows name bad.0, record { answer = bad.0; none = bad.1; says = refl })) (flows_or_fault inputs bytes _ refl)

-- an accepted program comes to an outcome, whatever the flow file holds
module _ (held : Contents) (program flows : List ℕ) (settings : Settings) (kernel : Kernel) (accepted : Holds (held program) PROGRAM_BYTES (λ bytes. IsAcceptedAs settings.pace bytes kernel)) where
  some_end : (values : List (List ℤ)) (bytes : List ℕ) → AreFlows (inputs_of kernel) bytes values → (o : Outcome) × RunsTo kernel values settings.instants flows o
  some_end values bytes read =
      let end = some_kernel_end kernel accepted.good.has.valid accepted.good.accepted values (read_fit kernel bytes values read) settings.instants in
      (ended kernel end.0 end.2 flows, record { trace = end.0; place = end.1; end = end.2; ends = end.3; is = refl })

  abbrev BehindProgram : Outcome → Type 0
  BehindProgram o = AtLinks kernel settings.capacity (Some program) (AtFlows held flows (inputs_of kernel) (λ values. RunsTo kernel values settings.instants flows)) o

  few_run : HoldFew kernel settings.capacity → (o : Outcome) × BehindProgram o
  few_run few =
      let behind = some_at_data (AreFlows (inputs_of kernel)) (RefusesFlows flows (inputs_of kernel)) (flows_either flows (inputs_of kernel)) held flows
      (λ values. RunsTo kernel values settings.instants flows) some_end in
      (behind.0, inr (few, behind.1))

  some_behind : (o : Outcome) × BehindProgram o
  some_behind =
      ⊎_elim (λ many. (refused 2 too_many_items (Some program), inl (many, refl))) few_run
      (items_are kernel accepted.good.accepted settings.capacity)

  pub some_outcome : (o : Outcome) × RunComesTo held program flows settings o
  some_outcome = (some_behind.0, (Good kernel, accepted, some_behind.1))

-- and whatever the program file holds
pub any_outcome : ((pace : Bool) (bytes : List ℕ) → HasVerdict pace bytes) → (held : Contents) (program flows : List ℕ) (settings : Settings) → (o : Outcome) × RunComesTo held program flows settings o
any_outcome verdicts held program flows settings =
    some_at_plan verdicts settings.pace held program (λ kernel. AtLinks kernel settings.capacity (Some program) (AtFlows held flows (inputs_of kernel) (λ values. RunsTo kernel values settings.instants flows)))
    (λ kernel accepted. some_behind held program flows settings kernel accepted)

module _ (held : Contents) (program flows : List ℕ) (settings : Settings) (can : CanRun held program flows settings) where
  -- what comes behind its files comes to what is due of its kernel and its values
  module _ (Next : Kernel → List (List ℤ) → Outcome → Type 0) where
    abbrev AtInputs : Kernel → Outcome → Type 0
    AtInputs kernel o = AtFlows held flows (inputs_of kernel) (λ values. Next kernel values) o

    abbrev AtKernel : Kernel → Outcome → Type 0
    AtKernel kernel o = AtLinks kernel settings.capacity (Some program) (λ q. AtInputs kernel q) o

    behind_links : (o : Outcome) → AtKernel can.kernel o → AtInputs can.kernel o
    behind_links o (inl many) = absurd (can.few many.0)
    behind_links o (inr few) = few.1

    pub behind_files : (o : Outcome) → AtPlan settings.pace held program (λ kernel. AtKernel kernel) o → Next can.kernel can.values o
    behind_files o x =
        behind_data (AreFlows (inputs_of can.kernel)) (RefusesFlows flows (inputs_of can.kernel)) (one_flows (inputs_of can.kernel))
        (no_flows_line flows (inputs_of can.kernel)) (flows_apart flows (inputs_of can.kernel)) held flows can.values (λ values. Next can.kernel values) o can.read
        (behind_links o (behind_program (IsAcceptedAs settings.pace) (AreRefused settings.pace) (accepted_once settings.pace) (refused_once settings.pace) (accepted_or_refused settings.pace) held program can.kernel (λ kernel. AtKernel kernel) o can.accepted x))

  pub only_end : (o : Outcome) → RunComesTo held program flows settings o → RunsTo can.kernel can.values settings.instants flows o
  only_end o x = behind_files (λ kernel values. RunsTo kernel values settings.instants flows) o x

  pub end_status_is : (o : Outcome) → RunComesTo held program flows settings o → IsEnded o.status
  end_status_is o x = let run = only_end o x in subst IsEnded (sym (ap (λ (q : Outcome). q.status) run.is)) (is_ended run.end.cause)

  pub some_run : (o : Outcome) × RunComesTo held program flows settings o
  some_run = some_outcome held program flows settings can.kernel can.accepted
