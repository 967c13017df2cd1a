-- What holds of each state that events lead to.
use Rattle.sig_interleaving.proofs.Common.{ℤ, List, IsCore, given_of, AreBounded, BeginsTheText, GoesOn, HasTheEnd, HoldsOf, InEachRun, KeepsToTheReference, RecordsNoneBefore, run_of, Core, AreFlowsFor, IsAccepted, PlanView, bounded_events, after_enabled, after_begins, after_has_end, after_on}

-- in each run of a plan
module _ (plan : PlanView) (accepted : IsAccepted plan) (flows : List (List ℤ)) (fits : AreFlowsFor plan.kernel flows) where
  pub each_text : InEachRun BeginsTheText plan flows
  each_text capacity limit room some events trace place ended end = (after_begins (run_of plan flows capacity limit) accepted fits events trace place ended end).0

  pub each_reference : InEachRun KeepsToTheReference plan flows
  each_reference capacity limit room some events reference is long = after_on (run_of plan flows capacity limit) accepted fits reference is long events

  pub each_word : InEachRun RecordsNoneBefore plan flows
  each_word capacity limit room some events trace place ended end = (after_begins (run_of plan flows capacity limit) accepted fits events trace place ended end).1

  pub each_goes_on : InEachRun GoesOn plan flows
  each_goes_on capacity limit room some events = after_enabled (run_of plan flows capacity limit) accepted fits room events

  pub each_end : InEachRun HasTheEnd plan flows
  each_end capacity limit room some events = after_has_end (run_of plan flows capacity limit) accepted fits events

  pub all_bounded : AreBounded plan flows
  all_bounded capacity limit room some events = bounded_events (run_of plan flows capacity limit) accepted events

-- of the state of a core
module _ (c : Core) (is : IsCore c) (accepted : IsAccepted c.plan.now) where
  pub text_of : HoldsOf BeginsTheText c
  text_of events shows trace place ended end = (after_begins (given_of c) accepted is.fits events trace place ended end).0

  pub reference_of : HoldsOf KeepsToTheReference c
  reference_of events shows reference at long = after_on (given_of c) accepted is.fits reference at long events

  pub word_of : HoldsOf RecordsNoneBefore c
  word_of events shows trace place ended end = (after_begins (given_of c) accepted is.fits events trace place ended end).1

  pub goes_on_of : HoldsOf GoesOn c
  goes_on_of events shows = after_enabled (given_of c) accepted is.fits is.capacity events

  pub end_of : HoldsOf HasTheEnd c
  end_of events shows = after_has_end (given_of c) accepted is.fits events
