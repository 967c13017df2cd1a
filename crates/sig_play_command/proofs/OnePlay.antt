-- A play over told contents comes to one outcome at most, and what it comes to.
use Rattle.sig_play_command.proofs.Common.{◌≡◌, ◌∙◌, ◌++◌, ℕ, ℤ, List, map, Some, inl, inr, sym, ap, subst, append_cancel_left, Trace, Contents, output_text, AreFlowsFor, inputs_of, Kernel, Ended, Core, reactions_text, IsValid, IsAcceptedKernel, one_kernel_end, AreEvents, event_judge, AreFlows, lines_of, FileEvent, not_both, one_first, read_fit, Settings, Absent, AtFile, Bad, Found, Good, Long, OneAtMost, Outcome, long_file, long_program, at_file_ends, one_at_data, one_at_program, AreRefused, IsAcceptedAs, FindsAccepted, accepted_once, accepted_or_refused, refused_once, AtFlows, AtLinks, FindsFlows, HoldFew, RefusesFlows, RunComesTo, RunsTo, flows_apart, no_flows_line, one_at_links, one_flows, AtEvents, FindsEvents, RefusesEvents, bad_events, happens, PlayComesTo, PlaysTo, left_by, played}
use Rattle.sig_play_command.proofs.SamePlans.{same_after}

-- ---- the event file

-- bytes are one list of events at most
pub one_events : (bytes : List ℕ) (a b : List FileEvent) → AreEvents bytes a → AreEvents bytes b → a ≡ b
one_events bytes a b x y = x.each ∙ sym y.each

pub no_events_line : (name bytes l m : List ℕ) → RefusesEvents name bytes l → RefusesEvents name bytes m → l ≡ m
no_events_line name bytes l m x y = x.says ∙ ap (bad_events name) (one_first event_judge 0 (lines_of bytes) x.answer y.answer x.none y.none) ∙ sym y.says

pub events_apart : (name bytes : List ℕ) (events : List FileEvent) (l : List ℕ) → AreEvents bytes events → RefusesEvents name bytes l → ⊥
events_apart name bytes events l says refuses = not_both event_judge 0 (lines_of bytes) refuses.answer says.good refuses.none

-- ---- one outcome

-- a play has one text and one end
one_play : (kernel : Kernel) → IsValid kernel → IsAcceptedKernel kernel → (values : List (List ℤ)) (capacity limit : ℕ) (file : List ℕ) (events : List FileEvent) → AreFlowsFor kernel values
    → OneAtMost (PlaysTo kernel values capacity limit file events)
one_play kernel valid accepted values capacity limit file events fit o p x y =
    let same = one_kernel_end kernel valid accepted values fit limit x.trace y.trace x.place y.place x.end y.end x.ends y.ends in
    let left : left_by x.plan values capacity limit events ≡ left_by y.plan values capacity limit events =
    same_after x.plan y.plan x.planned.accepted y.planned.accepted (x.planned.same ∙ sym y.planned.same) values capacity limit (map happens events) in
    let missing : reactions_text kernel (left_by y.plan values capacity limit events).committed ++ x.rest ≡ output_text kernel y.trace =
    subst (λ (m : Core). reactions_text kernel m.committed ++ x.rest ≡ output_text kernel y.trace) left
    (subst (λ (t : Trace). reactions_text kernel (left_by x.plan values capacity limit events).committed ++ x.rest ≡ output_text kernel t) same.0 x.missing) in
    let rests : x.rest ≡ y.rest = append_cancel_left (reactions_text kernel (left_by y.plan values capacity limit events).committed) x.rest y.rest (missing ∙ sym y.missing) in
    x.is
    ∙ ap (λ (m : Core). played kernel m x.rest x.end file) left
    ∙ ap (λ (rest : List ℕ). played kernel (left_by y.plan values capacity limit events) rest x.end file) rests
    ∙ ap (λ (e : Ended). played kernel (left_by y.plan values capacity limit events) y.rest e file) same.2
    ∙ sym y.is

module _ (program flows events : List ℕ) (settings : Settings) where
  abbrev Plays : Kernel → List (List ℤ) → List FileEvent → Outcome → Type 0
  Plays kernel values happening o = PlaysTo kernel values settings.capacity settings.instants events happening o

  -- what comes behind a program that is accepted, links that hold few items, and flows
  abbrev AtScript : Contents → Kernel → List (List ℤ) → Outcome → Type 0
  AtScript held kernel values o = AtEvents held events (λ happening. Plays kernel values happening) o

  abbrev AtInputs : Contents → Kernel → Outcome → Type 0
  AtInputs held kernel o = AtFlows held flows (inputs_of kernel) (λ values. AtScript held kernel values) o

  abbrev AtKernel : Contents → Kernel → Outcome → Type 0
  AtKernel held kernel o = AtLinks kernel settings.capacity (Some program) (λ q. AtInputs held kernel q) o

  -- the command comes to one outcome
  pub one_play_outcome : (held : Contents) → OneAtMost (PlayComesTo held program flows events settings)
  one_play_outcome held =
      one_at_program (IsAcceptedAs settings.pace) (AreRefused settings.pace) (accepted_once settings.pace) (refused_once settings.pace) (accepted_or_refused settings.pace) held program (λ kernel. AtKernel held kernel)
      (λ kernel bytes is.
      one_at_links kernel is.has.valid settings.capacity (Some program) (λ q. AtInputs held kernel q)
      (one_at_data (AreFlows (inputs_of kernel)) (RefusesFlows flows (inputs_of kernel)) (one_flows (inputs_of kernel)) (no_flows_line flows (inputs_of kernel)) (flows_apart flows (inputs_of kernel)) held flows
      (λ values. AtScript held kernel values)
      (λ values data_bytes read.
      one_at_data AreEvents (RefusesEvents events) one_events (no_events_line events) (events_apart events) held events
      (λ happening. Plays kernel values happening)
      (λ happening event_bytes said. one_play kernel is.has.valid is.accepted values settings.capacity settings.instants events happening (read_fit kernel data_bytes values read)))))

  module _ (held : Contents) where
    -- what refuses a run over the same program and flows refuses the play
    module _ (o : Outcome) (refuses : (kernel : Kernel) (values : List (List ℤ)) → RunsTo kernel values settings.instants flows o → ⊥) where
      at_flows : (kernel : Kernel) (values : Found (List (List ℤ))) → AtFile 4 (long_file flows) flows values (λ vs. RunsTo kernel vs settings.instants flows) o
          → AtFile 4 (long_file flows) flows values (λ vs. AtScript held kernel vs) o
      at_flows kernel Absent is = is
      at_flows kernel Long is = is
      at_flows kernel (Bad line) is = is
      at_flows kernel (Good values) run = absurd (refuses kernel values run)

      at_links : (kernel : Kernel) → AtLinks kernel settings.capacity (Some program) (AtFlows held flows (inputs_of kernel) (λ values. RunsTo kernel values settings.instants flows)) o → AtKernel held kernel o
      at_links kernel (inl many) = inl many
      at_links kernel (inr few) = inr (few.0, (few.1.0, few.1.1, at_flows kernel few.1.0 few.1.2))

      at_program : (found : Found Kernel)
          → AtFile 1 long_program program found (λ kernel. AtLinks kernel settings.capacity (Some program) (AtFlows held flows (inputs_of kernel) (λ values. RunsTo kernel values settings.instants flows))) o
          → AtFile 1 long_program program found (λ kernel. AtKernel held kernel) o
      at_program Absent is = is
      at_program Long is = is
      at_program (Bad line) is = is
      at_program (Good kernel) next = at_links kernel next

      pub run_refuses : RunComesTo held program flows settings o → PlayComesTo held program flows events settings o
      run_refuses x = (x.0, x.1, at_program x.0 x.2)

    module _ (kernel : Kernel) (good : FindsAccepted settings.pace (held program) (Good kernel)) (few : HoldFew kernel settings.capacity) (values : List (List ℤ)) (read : FindsFlows (held flows) flows (inputs_of kernel) (Good values)) where
      -- and so does an event file that gives no events
      pub events_refuse : (o : Outcome) → AtEvents held events (λ _ _. ⊥) o → PlayComesTo held program flows events settings o
      events_refuse o x =
          (Good kernel, good, inr (few, (Good values, read, (x.0, x.1, at_file_ends 4 (long_file events) events x.0 (λ happening. Plays kernel values happening) o x.2))))

      -- else it comes to the play's end
      pub plays : (happening : List FileEvent) → FindsEvents (held events) events (Good happening) → (o : Outcome) → PlaysTo kernel values settings.capacity settings.instants events happening o
          → PlayComesTo held program flows events settings o
      plays happening said o x = (Good kernel, good, inr (few, (Good values, read, (Good happening, said, x))))
