-- A play with status 0 or 3 is one of an accepted program over flows of its inputs, with events of a file.
use Rattle.sig_play_command.proofs.Common.{◌≡◌, ◌∙◌, ℕ, ℤ, List, Option, Some, inl, inr, sym, ap, subst, arith, FileEvent, inputs_of, Kernel, Contents, Settings, Absent, AtFile, Bad, Found, Good, Long, Outcome, long_file, long_program, IsDue, IsEnded, FindsAccepted, AtFlows, AtLinks, FindsFlows, AtEvents, FindsEvents, HasPlay, PlayComesTo, PlaysTo}

-- a status of a refusal is none of a play that came to its end
ended_one : (status n : ℕ) → IsEnded status → status ≡ n → (n ≡ 0 → ⊥) → (n ≡ 3 → ⊥) → ⊥
ended_one status n (inl zero) is none three = none (sym is ∙ zero)
ended_one status n (inr three) is none other = other (sym is ∙ three)

module _ (held : Contents) (program flows events : List ℕ) (settings : Settings) (before at : Option (List ℕ)) (status : ℕ) (Took Said : List ℕ → Type 0)
    (due : IsDue (PlayComesTo held program flows events settings) held before at status (λ text line. Took text × Said line)) (ends : IsEnded status) where
  refuses : (n : ℕ) → due.outcome.status ≡ n → (n ≡ 0 → ⊥) → (n ≡ 3 → ⊥) → ⊥
  refuses n is = ended_one status n ends (due.numbered ∙ is)

  refuses_one : (o : Outcome) → due.outcome ≡ o → (o.status ≡ 0 → ⊥) → (o.status ≡ 3 → ⊥) → HasPlay held program flows events settings status Took Said
  refuses_one o is none three = absurd (refuses o.status (ap (λ (p : Outcome). p.status) is) none three)

  abbrev Plays : Kernel → List (List ℤ) → List FileEvent → Outcome → Type 0
  Plays kernel values happening o = PlaysTo kernel values settings.capacity settings.instants events happening o

  module _ (kernel : Kernel) (accepted : FindsAccepted settings.pace (held program) (Good kernel)) where
    module _ (values : List (List ℤ)) (read : FindsFlows (held flows) flows (inputs_of kernel) (Good values)) where
      of_play : (happening : List FileEvent) → FindsEvents (held events) events (Good happening) → Plays kernel values happening due.outcome → HasPlay held program flows events settings status Took Said
      of_play happening said play = record {
        kernel = kernel;
        accepted = accepted;
        values = values;
        read = read;
        happening = happening;
        said = said;
        plan = play.plan;
        planned = play.planned;
        trace = play.trace;
        place = play.place;
        end = play.end;
        ends = play.ends;
        rest = play.rest;
        missing = play.missing;
        numbered = due.numbered ∙ ap (λ (o : Outcome). o.status) play.is;
        text = subst (λ (o : Outcome). Took o.text) play.is due.fact.0;
        line = subst (λ (o : Outcome). Said o.line) play.is due.fact.1;
      }

      of_events : (found : Found (List FileEvent)) → FindsEvents (held events) events found → AtFile 4 (long_file events) events found (λ happening. Plays kernel values happening) due.outcome → HasPlay held program flows events settings status Took Said
      of_events Absent finds is = refuses_one _ is (λ e. omega (arith, e)) (λ e. omega (arith, e))
      of_events Long finds is = refuses_one _ is (λ e. omega (arith, e)) (λ e. omega (arith, e))
      of_events (Bad line) finds is = refuses_one _ is (λ e. omega (arith, e)) (λ e. omega (arith, e))
      of_events (Good happening) finds play = of_play happening finds play

    of_flows : (found : Found (List (List ℤ))) → FindsFlows (held flows) flows (inputs_of kernel) found
        → AtFile 4 (long_file flows) flows found (λ values. AtEvents held events (λ happening. Plays kernel values happening)) due.outcome → HasPlay held program flows events settings status Took Said
    of_flows Absent finds is = refuses_one _ is (λ e. omega (arith, e)) (λ e. omega (arith, e))
    of_flows Long finds is = refuses_one _ is (λ e. omega (arith, e)) (λ e. omega (arith, e))
    of_flows (Bad line) finds is = refuses_one _ is (λ e. omega (arith, e)) (λ e. omega (arith, e))
    of_flows (Good values) finds next = of_events values finds next.0 next.1 next.2

    of_links : AtLinks kernel settings.capacity (Some program) (AtFlows held flows (inputs_of kernel) (λ values. AtEvents held events (λ happening. Plays kernel values happening))) due.outcome
        → HasPlay held program flows events settings status Took Said
    of_links (inl many) = refuses_one _ many.1 (λ e. omega (arith, e)) (λ e. omega (arith, e))
    of_links (inr few) = of_flows few.1.0 few.1.1 few.1.2

  of_program : (found : Found Kernel) → FindsAccepted settings.pace (held program) found
      → AtFile 1 long_program program found (λ kernel. AtLinks kernel settings.capacity (Some program) (AtFlows held flows (inputs_of kernel) (λ values. AtEvents held events (λ happening. Plays kernel values happening)))) due.outcome
      → HasPlay held program flows events settings status Took Said
  of_program Absent finds is = refuses_one _ is (λ e. omega (arith, e)) (λ e. omega (arith, e))
  of_program Long finds is = refuses_one _ is (λ e. omega (arith, e)) (λ e. omega (arith, e))
  of_program (Bad line) finds is = refuses_one _ is (λ e. omega (arith, e)) (λ e. omega (arith, e))
  of_program (Good kernel) finds next = of_links kernel finds next

  pub has_play : HasPlay held program flows events settings status Took Said
  has_play = of_program due.comes.0 due.comes.1 due.comes.2
