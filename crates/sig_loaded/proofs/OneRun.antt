-- A run over told contents comes to one outcome at most, and what it comes to.
use Rattle.sig_loaded.proofs.Common.{◌≡◌, ◌∙◌, ℕ, ℤ, List, Option, Some, inl, inr, sym, refl, ap, Trace, Signal, Contents, AreFlowsFor, inputs_of, Kernel, Ended, IsValid, IsAcceptedKernel, one_kernel_end, AreFlows, read_fit, flows_and_fault, one_place, Settings, Good, OneAtMost, Outcome, long_file, long_program, refused, too_many_items, at_file_ends, one_at_data, one_at_program, AreRefused, IsAcceptedAs, AtPlan, FindsAccepted, accepted_once, accepted_or_refused, refused_once, AtFlows, AtLinks, FindsFlows, HoldFew, HoldTooMany, RefusesFlows, RunComesTo, RunsTo, bad_flows, ended}
use Rattle.sig_loaded.proofs.Plans.{items_apart}

-- ---- the flow file

-- bytes are one list of flows at most
pub one_flows : (inputs : List Signal) (bytes : List ℕ) (a b : List (List ℤ)) → AreFlows inputs bytes a → AreFlows inputs bytes b → a ≡ b
one_flows inputs bytes a b x y = x.each ∙ sym y.each

pub no_flows_line : (name : List ℕ) (inputs : List Signal) (bytes l m : List ℕ) → RefusesFlows name inputs bytes l → RefusesFlows name inputs bytes m → l ≡ m
no_flows_line name inputs bytes l m x y = x.says ∙ ap (bad_flows name) (one_place inputs bytes x.answer y.answer x.none y.none) ∙ sym y.says

pub flows_apart : (name : List ℕ) (inputs : List Signal) (bytes : List ℕ) (values : List (List ℤ)) (l : List ℕ) → AreFlows inputs bytes values → RefusesFlows name inputs bytes l → ⊥
flows_apart name inputs bytes values l says refuses = flows_and_fault inputs bytes values refuses.answer says refuses.none

-- ---- one outcome

-- a run has one end
pub one_run : (kernel : Kernel) → IsValid kernel → IsAcceptedKernel kernel → (values : List (List ℤ)) (limit : ℕ) (file : List ℕ) → AreFlowsFor kernel values → OneAtMost (RunsTo kernel values limit file)
one_run kernel valid accepted values limit file fit o p x y =
    let same = one_kernel_end kernel valid accepted values fit limit x.trace y.trace x.place y.place x.end y.end x.ends y.ends in
    x.is ∙ ap (λ (t : Trace). ended kernel t x.end file) same.0 ∙ ap (λ (e : Ended). ended kernel y.trace e file) same.2 ∙ sym y.is

-- the links hold too many items or few
pub one_at_links : (kernel : Kernel) → IsValid kernel → (capacity : ℕ) (file : Option (List ℕ)) (Next : Outcome → Type 0) → OneAtMost Next → OneAtMost (AtLinks kernel capacity file Next)
one_at_links kernel valid capacity file Next one o p (inl x) (inl y) = x.1 ∙ sym y.1
one_at_links kernel valid capacity file Next one o p (inl x) (inr y) = absurd (items_apart kernel valid capacity x.0 y.0)
one_at_links kernel valid capacity file Next one o p (inr x) (inl y) = absurd (items_apart kernel valid capacity y.0 x.0)
one_at_links kernel valid capacity file Next one o p (inr x) (inr y) = one o p x.1 y.1

module _ (program flows : List ℕ) (settings : Settings) where
  -- what comes behind a program that is accepted, and behind links that hold few items
  abbrev AtInputs : Contents → Kernel → Outcome → Type 0
  AtInputs held kernel o = AtFlows held flows (inputs_of kernel) (λ values. RunsTo kernel values settings.instants flows) o

  abbrev AtKernel : Contents → Kernel → Outcome → Type 0
  AtKernel held kernel o = AtLinks kernel settings.capacity (Some program) (λ q. AtInputs held kernel q) o

  -- the command comes to one outcome
  pub one_run_outcome : (held : Contents) → OneAtMost (RunComesTo held program flows settings)
  one_run_outcome held =
      one_at_program (IsAcceptedAs settings.pace) (AreRefused settings.pace) (accepted_once settings.pace) (refused_once settings.pace) (accepted_or_refused settings.pace) held program (λ kernel. AtKernel held kernel)
      (λ kernel bytes is.
      one_at_links kernel is.has.valid settings.capacity (Some program) (λ q. AtInputs held kernel q)
      (one_at_data (AreFlows (inputs_of kernel)) (RefusesFlows flows (inputs_of kernel)) (one_flows (inputs_of kernel)) (no_flows_line flows (inputs_of kernel)) (flows_apart flows (inputs_of kernel)) held flows
      (λ values. RunsTo kernel values settings.instants flows)
      (λ values data_bytes read. one_run kernel is.has.valid is.accepted values settings.instants flows (read_fit kernel data_bytes values read))))

  module _ (held : Contents) where
    -- a program file that gives no plan ends it
    pub program_refuses : (o : Outcome) → AtPlan settings.pace held program (λ _ _. ⊥) o → RunComesTo held program flows settings o
    program_refuses o x = (x.0, x.1, at_file_ends 1 long_program program x.0 (λ kernel. AtKernel held kernel) o x.2)

    module _ (kernel : Kernel) (good : FindsAccepted settings.pace (held program) (Good kernel)) where
      -- and so do links that hold too many items
      pub links_refuse : HoldTooMany kernel settings.capacity → RunComesTo held program flows settings (refused 2 too_many_items (Some program))
      links_refuse many = (Good kernel, good, inl (many, refl))

      -- and a flow file that gives no flows
      pub flows_refuse : HoldFew kernel settings.capacity → (o : Outcome) → AtFlows held flows (inputs_of kernel) (λ _ _. ⊥) o → RunComesTo held program flows settings o
      flows_refuse few o x =
          (Good kernel, good, inr (few, (x.0, x.1, at_file_ends 4 (long_file flows) flows x.0 (λ values. RunsTo kernel values settings.instants flows) o x.2)))

      -- else it comes to the run's end
      pub runs : HoldFew kernel settings.capacity → (values : List (List ℤ)) → FindsFlows (held flows) flows (inputs_of kernel) (Good values) → (o : Outcome) → RunsTo kernel values settings.instants flows o → RunComesTo held program flows settings o
      runs few values read o x = (Good kernel, good, inr (few, (Good values, read, x)))
