-- What the files of a play call for.
use Rattle.sig_play_command.proofs.Common.{◌≡◌, ◌∙◌, ◌≤◌, ℕ, ℤ, List, Option, Some, IfSome, inl, inr, ⊎_elim, refl, sym, ap, subst, arith, inputs_of, Kernel, FileEvent, Contents, name_where_there, Settings, Good, Outcome, HasCount, IsOwn, outcome_of, status_of, IsEnded, Reaches, Stops, begun_after, Refusal, Missing, ReadFault, LongProgram, Program, Budget, TooManyItems, LongFile, Data, LongImage, OutOfMemory, later_count, later_own, told, told_both, FindsAccepted, FindsFlows, HoldFew, IsRunStatus, RunsTo, running, is_ended, AtEvents, FindsEvents, IsAboutEvents, IsAboutPlay, PlayComesTo, PlaysTo, playing}
use Rattle.sig_play_command.proofs.OnePlay.{events_refuse, plays, run_refuses}

-- a refusal of a play has a status of a run
pub play_number : (program flows events : List ℕ) (r : Refusal) → IsAboutPlay program flows events r → IsRunStatus (status_of r)
play_number program flows events (Missing n) about = inr (inr (inr (inr (inr (inl refl)))))
play_number program flows events (ReadFault n) about = inr (inr (inr (inr (inr (inl refl)))))
play_number program flows events LongProgram about = inr (inr (inl refl))
play_number program flows events (Program line) about = inr (inr (inl refl))
play_number program flows events (Budget nodes) about = inr (inr (inr (inr (inr (inr (inr refl))))))
play_number program flows events TooManyItems about = inr (inr (inr (inl refl)))
play_number program flows events (LongFile n) about = inr (inr (inr (inr (inl refl))))
play_number program flows events (Data line) about = inr (inr (inr (inr (inl refl))))
play_number program flows events LongImage about = absurd (⊎_elim (⊎_elim (λ x. x) (⊎_elim (λ x. x) (λ x. x))) (λ x. x) about)
play_number program flows events OutOfMemory about = inr (inr (inr (inr (inr (inr (inl refl))))))

-- a refusal of the event file is none for nodes that do not suffice
no_budget : (events : List ℕ) (r : Refusal) → IsAboutEvents events r → status_of r ≡ 8 → ⊥
no_budget events (Budget nodes) about eight = about
no_budget events other about eight = omega (arith, eight)

-- no refusal is the end of a run
ended_one : (n : ℕ) → IsEnded n → (m : ℕ) → n ≡ m → (m ≡ 0 → ⊥) → (m ≡ 3 → ⊥) → ⊥
ended_one n (inl zero) m is none three = none (sym is ∙ zero)
ended_one n (inr three) m is none other = other (sym is ∙ three)

no_end : (r : Refusal) → IsEnded (status_of r) → ⊥
no_end (Missing n) ends = ended_one 5 ends 5 refl (λ is. omega (arith, is)) (λ is. omega (arith, is))
no_end (ReadFault n) ends = ended_one 5 ends 5 refl (λ is. omega (arith, is)) (λ is. omega (arith, is))
no_end LongProgram ends = ended_one 1 ends 1 refl (λ is. omega (arith, is)) (λ is. omega (arith, is))
no_end (Program line) ends = ended_one 1 ends 1 refl (λ is. omega (arith, is)) (λ is. omega (arith, is))
no_end (Budget nodes) ends = ended_one 8 ends 8 refl (λ is. omega (arith, is)) (λ is. omega (arith, is))
no_end TooManyItems ends = ended_one 2 ends 2 refl (λ is. omega (arith, is)) (λ is. omega (arith, is))
no_end (LongFile n) ends = ended_one 4 ends 4 refl (λ is. omega (arith, is)) (λ is. omega (arith, is))
no_end (Data line) ends = ended_one 4 ends 4 refl (λ is. omega (arith, is)) (λ is. omega (arith, is))
no_end LongImage ends = ended_one 10 ends 10 refl (λ is. omega (arith, is)) (λ is. omega (arith, is))
no_end OutOfMemory ends = ended_one 7 ends 7 refl (λ is. omega (arith, is)) (λ is. omega (arith, is))

not_run : (r : Refusal) (file : Option (List ℕ)) (kernel : Kernel) (values : List (List ℤ)) (limit : ℕ) (flows : List ℕ) → RunsTo kernel values limit flows (outcome_of r file) → ⊥
not_run r file kernel values limit flows run = no_end r (subst IsEnded (sym (ap (λ (o : Outcome). o.status) run.is)) (is_ended run.end.cause))

module _ (contents : Option Contents) (before at : Option (List ℕ)) (m0 m1 m2 f0 f1 f2 : ℕ) (program flows events : List ℕ) (settings : Settings) where
  -- what stops a run over the same program and flows stops the play
  pub stops_run : (r : Refusal) → Stops (running program flows settings) contents before at m0 m1 f0 f1 r → Stops (playing program flows events settings) contents before at m0 m1 f0 f1 r
  stops_run r stops = record {
    about = inl stops.about;
    counted = stops.counted;
    owed = told_both contents _ _ _
        (λ held owes same. λ own. let run = owes own in record {
          file = run.file;
          comes = run_refuses program flows events settings held (outcome_of r run.file) (λ kernel values. not_run r run.file kernel values settings.instants flows) run.comes;
          last = run.last;
        })
        stops.owed stops.owed;
    budget = stops.budget;
    begun = told_both contents _ _ _ (λ held is same. inl is) stops.begun stops.begun;
  }

  module _ (kernel : Kernel) (good : IfSome contents (λ held. FindsAccepted settings.pace (held program) (Good kernel))) (few : HoldFew kernel settings.capacity)
      (values : List (List ℤ)) (read : IfSome contents (λ held. FindsFlows (held flows) flows (inputs_of kernel) (Good values))) where
    pub stops_events : (middle : Option Contents) (r : Refusal) → middle ≡ contents → m0 ≤ m1 → f0 ≤ f1 → IsAboutEvents events r → HasCount middle at m1 m2 f1 f2 r
        → IfSome middle (λ held. IsOwn r f1 f2 → AtEvents held events (λ _ _. ⊥) (outcome_of r (Some events)))
        → IfSome middle (λ held. at ≡ name_where_there held events) → Stops (playing program flows events settings) contents before at m0 m2 f0 f2 r
    stops_events middle r stays le_m le_f about counted refuses last =
        let there : IfSome contents (λ held. at ≡ name_where_there held events) = subst (λ o. IfSome o (λ held. at ≡ name_where_there held events)) stays last in
        let refused : IfSome contents (λ held. IsOwn r f1 f2 → AtEvents held events (λ _ _. ⊥) (outcome_of r (Some events))) =
        subst (λ o. IfSome o (λ held. IsOwn r f1 f2 → AtEvents held events (λ _ _. ⊥) (outcome_of r (Some events)))) stays refuses in
        let both : IfSome contents (λ held. FindsAccepted settings.pace (held program) (Good kernel) × FindsFlows (held flows) flows (inputs_of kernel) (Good values)) =
        told_both contents _ _ _ (λ held finds has. (finds, has)) good read in
        let own_there = told_both contents (λ held. FindsAccepted settings.pace (held program) (Good kernel) × FindsFlows (held flows) flows (inputs_of kernel) (Good values)) _
        (λ held. IsOwn r f0 f2 → PlayComesTo held program flows events settings (outcome_of r (Some events)))
        (λ held finds ends. λ own. events_refuse program flows events settings held kernel finds.0 few values finds.1 (outcome_of r (Some events)) (ends (later_own r f0 f1 f2 le_f own))) both refused in
        record {
          about = inr about;
          counted = later_count contents at m0 m1 m2 f0 f1 f2 le_m le_f r (subst (λ o. HasCount o at m1 m2 f1 f2 r) stays counted);
          owed = told_both contents _ _ _ (λ held comes is. λ own. record { file = Some events; comes = comes own; last = is }) own_there there;
          budget = told contents _ (λ held. λ eight. absurd (no_budget events r about eight));
          begun = told_both contents _ _ _ (λ held is same. inr is) there there;
        }

    -- memory was wanting behind the files
    pub stops_memory : IfSome contents (λ held. at ≡ name_where_there held events) → Stops (playing program flows events settings) contents before at m0 m2 f0 f2 OutOfMemory
    stops_memory last = record {
      about = inl (inl tt);
      counted = tt;
      owed = told contents _ (λ held. λ own. absurd own);
      budget = told contents _ (λ held. λ eight. absurd (omega (arith, eight)));
      begun = told_both contents _ _ _ (λ held is same. inr is) last last;
    }

    -- the play comes to its end
    pub reaches_end : (happening : List FileEvent) (o : Outcome) → IfSome contents (λ held. FindsEvents (held events) events (Good happening))
        → PlaysTo kernel values settings.capacity settings.instants events happening o → o.file ≡ Some events → IfSome contents (λ held. at ≡ name_where_there held events)
        → Reaches (playing program flows events settings) contents before at o
    reaches_end happening o said plays_to file last =
        let both : IfSome contents (λ held. FindsAccepted settings.pace (held program) (Good kernel) × FindsFlows (held flows) flows (inputs_of kernel) (Good values)) =
        told_both contents _ _ _ (λ held finds has. (finds, has)) good read in
        record {
          comes = told_both contents _ _ _ (λ held finds has. plays program flows events settings held kernel finds.0 few values finds.1 happening has o plays_to) both said;
          last = told_both contents _ _ _ (λ held is same. is ∙ ap (begun_after held before) (sym file)) last last;
          begun = told_both contents _ _ _ (λ held is same. inr is) last last;
        }
