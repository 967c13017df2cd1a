-- Every program comes to an outcome, and events that can be played to the end of their play.
use Rattle.sig_play_command.proofs.Common.{◌≡◌, ◌⊎◌, ◌++◌, ℕ, ℤ, Bool, List, map, Some, ⊎_elim, inl, inr, refl, sym, ap, subst, PROGRAM_BYTES, Contents, run_of, output_text, AreFlowsFor, inputs_of, Kernel, PlanView, some_end, end_of_kernel, some_plan, IsPlanOf, reactions_text, after_begins, AreEvents, AreFlows, FileEvent, EventAnswer, None, Option, event_judge, events_among, first_fault, first_from_some, good_from_none, lines_of, read_fit, Settings, Holds, Good, Outcome, refused, too_many_items, IsEnded, IsAcceptedAs, behind_data, behind_files, flows_either, some_at_data, HoldFew, items_are, RefusesFlows, is_ended, AtFlows, AtLinks, HasVerdict, some_at_plan, CanPlay, AtEvents, RefusesEvents, bad_events, happens, IsRest, PlayComesTo, PlaysTo, left_by, played}
use Rattle.sig_play_command.proofs.OnePlay.{events_apart, no_events_line, one_events}

-- bytes have a reading as events, or are refused with a line
by_fault : (name bytes : List ℕ) (fault : Option EventAnswer) → first_fault event_judge 0 (lines_of bytes) ≡ fault
    → ((happening : List FileEvent) × AreEvents bytes happening) ⊎ ((line : List ℕ) × RefusesEvents name bytes line)
by_fault name bytes None is = inl (events_among (lines_of bytes), record { good = good_from_none event_judge 0 (lines_of bytes) is; each = refl })
by_fault name bytes (Some fault) is =
    inr (bad_events name fault, record { answer = fault; none = first_from_some event_judge 0 (lines_of bytes) fault is; says = refl })

events_either : (name bytes : List ℕ) → ((happening : List FileEvent) × AreEvents bytes happening) ⊎ ((line : List ℕ) × RefusesEvents name bytes line)
events_either name bytes = by_fault name bytes _ refl

-- an accepted program comes to an outcome, whatever the flow file and the event file hold
module _ (held : Contents) (program flows events : List ℕ) (settings : Settings) (kernel : Kernel) (accepted : Holds (held program) PROGRAM_BYTES (λ bytes. IsAcceptedAs settings.pace bytes kernel)) where
  plan : (plan : PlanView) × IsPlanOf kernel plan
  plan = some_plan kernel accepted.good.has.valid accepted.good.accepted

  module _ (values : List (List ℤ)) (bytes : List ℕ) (read : AreFlows (inputs_of kernel) bytes values) where
    fits : AreFlowsFor plan.0.kernel values
    fits = subst (λ (k : Kernel). AreFlowsFor k values) (sym plan.1.same) (read_fit kernel bytes values read)

    -- what the events commit begins the text of the longest trace
    played_to : (happening : List FileEvent) (event_bytes : List ℕ) → AreEvents event_bytes happening → (o : Outcome) × PlaysTo kernel values settings.capacity settings.instants events happening o
    played_to happening event_bytes said =
        let end = some_end plan.0 plan.1.accepted values fits settings.instants in
        let left = left_by plan.0 values settings.capacity settings.instants happening in
        let begins = after_begins (run_of plan.0 values settings.capacity settings.instants) plan.1.accepted fits (map happens happening) end.0 end.1 end.2 end.3 in
        let rest = begins.0.0 in
        let missing : IsRest kernel left end.0 rest = subst (λ (k : Kernel). reactions_text k left.committed ++ rest ≡ output_text k end.0) plan.1.same (sym begins.0.1) in (
          played kernel left rest end.2 events,
          record {
            plan = plan.0;
            planned = plan.1;
            trace = end.0;
            place = end.1;
            end = end.2;
            ends = end_of_kernel kernel plan.0 plan.1 values settings.instants end.0 end.1 end.2 end.3;
            rest = rest;
            missing = missing;
            is = refl;
          },
        )

    at_events : (o : Outcome) × AtEvents held events (λ happening. PlaysTo kernel values settings.capacity settings.instants events happening) o
    at_events =
        some_at_data AreEvents (RefusesEvents events) (events_either events) held events
        (λ happening. PlaysTo kernel values settings.capacity settings.instants events happening) played_to

  abbrev BehindProgram : Outcome → Type 0
  BehindProgram o = AtLinks kernel settings.capacity (Some program) (AtFlows held flows (inputs_of kernel) (λ values. AtEvents held events (λ happening. PlaysTo kernel values settings.capacity settings.instants events happening))) o

  few_play : HoldFew kernel settings.capacity → (o : Outcome) × BehindProgram o
  few_play few =
      let behind = some_at_data (AreFlows (inputs_of kernel)) (RefusesFlows flows (inputs_of kernel)) (flows_either flows (inputs_of kernel)) held flows
      (λ values. AtEvents held events (λ happening. PlaysTo kernel values settings.capacity settings.instants events happening)) at_events in
      (behind.0, inr (few, behind.1))

  some_behind : (o : Outcome) × BehindProgram o
  some_behind =
      ⊎_elim (λ many. (refused 2 too_many_items (Some program), inl (many, refl))) few_play
      (items_are kernel accepted.good.accepted settings.capacity)

  pub some_outcome : (o : Outcome) × PlayComesTo held program flows events settings o
  some_outcome = (some_behind.0, (Good kernel, accepted, some_behind.1))

-- and whatever the program file holds
pub any_outcome : ((pace : Bool) (bytes : List ℕ) → HasVerdict pace bytes) → (held : Contents) (program flows events : List ℕ) (settings : Settings) → (o : Outcome) × PlayComesTo held program flows events settings o
any_outcome verdicts held program flows events settings =
    some_at_plan verdicts settings.pace held program
    (λ kernel. AtLinks kernel settings.capacity (Some program) (AtFlows held flows (inputs_of kernel) (λ values. AtEvents held events (λ happening. PlaysTo kernel values settings.capacity settings.instants events happening))))
    (λ kernel accepted. some_behind held program flows events settings kernel accepted)

module _ (held : Contents) (program flows events : List ℕ) (settings : Settings) (can : CanPlay held program flows events settings) where
  pub only_end : (o : Outcome) → PlayComesTo held program flows events settings o → PlaysTo can.run.kernel can.run.values settings.capacity settings.instants events can.happening o
  only_end o x =
      behind_data AreEvents (RefusesEvents events) one_events (no_events_line events) (events_apart events) held events can.happening
      (λ happening. PlaysTo can.run.kernel can.run.values settings.capacity settings.instants events happening) o can.said
      (behind_files held program flows settings can.run
      (λ kernel values. AtEvents held events (λ happening. PlaysTo kernel values settings.capacity settings.instants events happening)) o x)

  pub end_status_is : (o : Outcome) → PlayComesTo held program flows events settings o → IsEnded o.status
  end_status_is o x = let play = only_end o x in subst IsEnded (sym (ap (λ (q : Outcome). q.status) play.is)) (is_ended play.end.cause)

  pub some_play : (o : Outcome) × PlayComesTo held program flows events settings o
  some_play = some_outcome held program flows events settings can.run.kernel can.run.accepted
