-- What is promised of a play follows from what its files gave and what was written.
use Rattle.sig_play_command.proofs.Common.{◌≡◌, ◌∙◌, ◌⊎◌, ◌≤◌, ◌*◌, ℕ, ℤ, List, [], Bool, map, Option, IfSome, length, inl, inr, refl, sym, ap, subst, arith, IsTrue, mul-le-mul_left, ITEMS, run_of, FileEvent, AreFlowsFor, inputs_of, Kernel, Rose, Contents, name_where_there, TookPrefix, TookPrefix-whole, IsAccepted, PlanView, Ended, LinkInfo, some_end, kernel_end, links_once, plan_links, after_begins, Settings, Good, Performs, write_line, OutOfMemory, performs_outcome, performs_refusal, FindsAccepted, IsOfKernel, end_line, end_status, FindsFlows, HoldFew, LacksMemory, end_there, is_ended, no_six, FindsEvents, happens, IsEndIn, TookPlay, WritesPlay, left_by, played, playing}
use Rattle.sig_play_command.proofs.Loads.{play_number, reaches_end, stops_memory}
use Rattle.sig_play_command.proofs.OnePlay.{one_play_outcome}

-- ---- links that hold few items are few

pub few_links : (plan : PlanView) (capacity : ℕ) → IsAccepted plan → 1 ≤ capacity → HoldFew plan.kernel capacity → length plan.links ≤ ITEMS
few_links plan capacity accepted some few =
    let same : length few.links ≡ length plan.links = ap (λ (links : List LinkInfo). length links) (links_once plan.kernel accepted.valid few.links plan.links few.are (plan_links plan accepted)) in
    let within : length plan.links * capacity ≤ ITEMS = subst (λ n. n * capacity ≤ ITEMS) same few.fact in
    let each : length plan.links * 1 ≤ length plan.links * capacity = mul-le-mul_left (length plan.links) some in
    omega (arith, within, each)

-- ---- what a play wrote

module _ (plan : PlanView) (accepted : IsAccepted plan) (flows : List (List ℤ)) (fit : AreFlowsFor plan.kernel flows) (capacity limit : ℕ) (events : List FileEvent) where
  -- there is an end, and what is missing then
  pub end_named : (answer : Ended) → IsEndIn (run_of plan flows capacity limit) answer → IsOfKernel plan.kernel answer.cause
  end_named answer is =
      let some = some_end plan accepted flows fit limit in
      subst (λ (end : Ended). IsOfKernel plan.kernel end.cause) (sym (is some.0 some.1 some.2 some.3)) (end_there plan accepted flows limit some.0 some.1 some.2 some.3)

  module _ {S : Type 0} (took : S → List ℕ → S → Type 0) (out out' : S) (wrote wrote' : ℕ) (clean : Bool) (Said : List ℕ → Type 0) (status : ℕ) where
    -- it came to its end
    pub wrote_whole : (answer : Ended) → IsEndIn (run_of plan flows capacity limit) answer → TookPlay took (run_of plan flows capacity limit) (map happens events) out out'
        → IsTrue clean → Said (end_line plan.kernel answer) → status ≡ end_status answer.cause
        → WritesPlay plan.kernel flows capacity limit events took out out' wrote wrote' clean Said status
    wrote_whole answer is whole flushed said numbered =
        let some = some_end plan accepted flows fit limit in
        let begins = (after_begins (run_of plan flows capacity limit) accepted fit (map happens events) some.0 some.1 some.2 some.3).0 in
        let same : answer ≡ some.2 = is some.0 some.1 some.2 some.3 in
        let taken = whole some.0 some.1 some.2 some.3 begins.0 (sym begins.1) in
        record {
          plan = plan;
          planned = record { accepted = accepted; same = refl };
          trace = some.0;
          place = some.1;
          end = some.2;
          ends = kernel_end plan accepted flows limit some.0 some.1 some.2 some.3;
          rest = begins.0;
          missing = sym begins.1;
          writes = record {
            numbers = inl (numbered ∙ ap (λ (end : Ended). end_status end.cause) same);
            prefix = TookPrefix-whole took out out' _ taken;
            whole = λ other. taken;
            says = λ other. subst (λ (end : Ended). Said (end_line plan.kernel end)) same said;
            flushed = λ other. flushed;
            failed = λ six. absurd (no_six answer.cause (sym numbered ∙ six));
            fault_line = λ six. absurd (no_six answer.cause (sym numbered ∙ six));
          };
        }

    -- a write failed
    pub wrote_part : TookPlay (TookPrefix took) (run_of plan flows capacity limit) (map happens events) out out'
        → Rose wrote wrote' → Said write_line → status ≡ 6
        → WritesPlay plan.kernel flows capacity limit events took out out' wrote wrote' clean Said status
    wrote_part part rose said six =
        let some = some_end plan accepted flows fit limit in
        let begins = (after_begins (run_of plan flows capacity limit) accepted fit (map happens events) some.0 some.1 some.2 some.3).0 in
        record {
          plan = plan;
          planned = record { accepted = accepted; same = refl };
          trace = some.0;
          place = some.1;
          end = some.2;
          ends = kernel_end plan accepted flows limit some.0 some.1 some.2 some.3;
          rest = begins.0;
          missing = sym begins.1;
          writes = record {
            numbers = inr six;
            prefix = part some.0 some.1 some.2 some.3 begins.0 (sym begins.1);
            whole = λ other. absurd (other six);
            says = λ other. absurd (other six);
            flushed = λ other. absurd (other six);
            failed = λ _. rose;
            fault_line = λ _. said;
          };
        }

-- ---- what is promised

module _ (contents : Option Contents) (before at : Option (List ℕ)) (misses misses' faults faults' : ℕ) (program flows events : List ℕ) (settings : Settings) (kernel : Kernel) (values : List (List ℤ)) (happening : List FileEvent)
    (good : IfSome contents (λ held. FindsAccepted settings.pace (held program) (Good kernel))) (few : HoldFew kernel settings.capacity)
    (read : IfSome contents (λ held. FindsFlows (held flows) flows (inputs_of kernel) (Good values)))
    (said : IfSome contents (λ held. FindsEvents (held events) events (Good happening))) (last : IfSome contents (λ held. at ≡ name_where_there held events)) where
  pub performs_play : {S : Type 0} (took : S → List ℕ → S → Type 0) (out out' : S) (wrote wrote' : ℕ) (clean : Bool) (Said : List ℕ → Type 0) (status : ℕ) → took out [] out
      → WritesPlay kernel values settings.capacity settings.instants happening took out out' wrote wrote' clean Said status ⊎ LacksMemory out out' Said status
      → Performs (playing program flows events settings) contents before at misses misses' faults faults' took out out' wrote wrote' clean Said status
  performs_play took out out' wrote wrote' clean Said status nothing (inl play) =
      performs_outcome (playing program flows events settings) contents before at misses misses' faults faults' (one_play_outcome program flows events settings)
      took out out' wrote wrote' clean Said status (played kernel (left_by play.plan values settings.capacity settings.instants happening) play.rest play.end events)
      (inl (is_ended play.end.cause)) (inl (is_ended play.end.cause)) (inr (inl refl))
      (reaches_end contents before at misses misses misses' faults faults faults' program flows events settings kernel good few values read happening
      (played kernel (left_by play.plan values settings.capacity settings.instants happening) play.rest play.end events) said
      (record {
        plan = play.plan;
        planned = play.planned;
        trace = play.trace;
        place = play.place;
        end = play.end;
        ends = play.ends;
        rest = play.rest;
        missing = play.missing;
        is = refl;
      })
      refl last)
      play.writes
  performs_play {S} took out out' wrote wrote' clean Said status nothing (inr lacks) =
      subst (λ (o : S). Performs (playing program flows events settings) contents before at misses misses' faults faults' took out o wrote wrote' clean Said status) (sym lacks.untouched)
      (performs_refusal (playing program flows events settings) contents before at misses misses' faults faults' (one_play_outcome program flows events settings)
      took out wrote wrote' clean Said status OutOfMemory nothing (play_number program flows events)
      (stops_memory contents before at misses misses misses' faults faults faults' program flows events settings kernel good few values read last) lacks.line lacks.numbered)
