-- What the files of a run call for.
use Rattle.sig_loaded.proofs.Common.{◌≡◌, ◌≤◌, ℕ, ℤ, List, Option, Some, IfSome, inl, inr, ⊎_elim, refl, subst, arith, Trace, inputs_of, Kernel, Ended, Contents, name_where_there, Settings, Good, HasCount, IsOwn, outcome_of, status_of, Reaches, Stops, Refusal, Missing, ReadFault, LongProgram, Program, Budget, TooManyItems, LongFile, Data, LongImage, later_count, later_own, told, told_both, AtPlan, FindsAccepted, HoldsBeyondBound, IsAboutPlan, AtFlows, FindsFlows, HoldFew, HoldTooMany, IsAboutFlows, IsAboutRun, IsRunStatus, RunComesTo, RunsTo, ended, running}
use Rattle.sig_outcome.specs.declared.refusal.Refusal.TheVariants.{OutOfMemory}
use Rattle.sig_loaded.proofs.OneRun.{flows_refuse, links_refuse, program_refuses, runs}

-- a refusal of a run has a status of a run
pub run_number : (program flows : List ℕ) (r : Refusal) → IsAboutRun program flows r → IsRunStatus (status_of r)
run_number program flows (Missing n) about = inr (inr (inr (inr (inr (inl refl)))))
run_number program flows (ReadFault n) about = inr (inr (inr (inr (inr (inl refl)))))
run_number program flows LongProgram about = inr (inr (inl refl))
run_number program flows (Program line) about = inr (inr (inl refl))
run_number program flows (Budget nodes) about = inr (inr (inr (inr (inr (inr (inr refl))))))
run_number program flows TooManyItems about = inr (inr (inr (inl refl)))
run_number program flows (LongFile n) about = inr (inr (inr (inr (inl refl))))
run_number program flows (Data line) about = inr (inr (inr (inr (inl refl))))
run_number program flows LongImage about = absurd (⊎_elim (λ x. x) (⊎_elim (λ x. x) (λ x. x)) about)
run_number program flows OutOfMemory about = inr (inr (inr (inr (inr (inr (inl refl))))))

-- a refusal of the flow file is none for nodes that do not suffice
no_budget : (flows : List ℕ) (r : Refusal) → IsAboutFlows flows r → status_of r ≡ 8 → ⊥
no_budget flows (Missing n) about eight = omega (arith, eight)
no_budget flows (ReadFault n) about eight = omega (arith, eight)
no_budget flows LongProgram about eight = omega (arith, eight)
no_budget flows (Program line) about eight = omega (arith, eight)
no_budget flows (Budget nodes) about eight = about
no_budget flows TooManyItems about eight = omega (arith, eight)
no_budget flows (LongFile n) about eight = omega (arith, eight)
no_budget flows (Data line) about eight = omega (arith, eight)
no_budget flows LongImage about eight = omega (arith, eight)
no_budget flows OutOfMemory about eight = omega (arith, eight)

module _ (contents : Option Contents) (before at : Option (List ℕ)) (m0 m1 m2 f0 f1 f2 : ℕ) (program flows : List ℕ) (settings : Settings) where
  pub stops_program : (r : Refusal) → IsAboutPlan program r → HasCount contents at m0 m1 f0 f1 r
      → IfSome contents (λ held. IsOwn r f0 f1 → AtPlan settings.pace held program (λ _ _. ⊥) (outcome_of r (Some program)))
      → IfSome contents (λ held. status_of r ≡ 8 → HoldsBeyondBound settings.pace (held program))
      → IfSome contents (λ held. at ≡ name_where_there held program) → Stops (running program flows settings) contents before at m0 m1 f0 f1 r
  stops_program r about counted refuses budget last = record {
    about = inl about;
    counted = counted;
    owed = told_both contents _ _ _
        (λ held refused is. λ own. record { file = Some program; comes = program_refuses program flows settings held (outcome_of r (Some program)) (refused own); last = is })
        refuses last;
    budget = budget;
    begun = told_both contents _ _ _ (λ held is same. inl is) last last;
  }

  module _ (kernel : Kernel) (good : IfSome contents (λ held. FindsAccepted settings.pace (held program) (Good kernel))) where
    pub stops_items : HoldTooMany kernel settings.capacity → IfSome contents (λ held. at ≡ name_where_there held program) → Stops (running program flows settings) contents before at m0 m1 f0 f1 TooManyItems
    stops_items many last = record {
      about = inr (inl tt);
      counted = tt;
      owed = told_both contents _ _ _
          (λ held finds is. λ own. record { file = Some program; comes = links_refuse program flows settings held kernel finds many; last = is })
          good last;
      budget = told contents _ (λ held. λ eight. absurd (omega (arith, eight)));
      begun = told_both contents _ _ _ (λ held is same. inl is) last last;
    }

    module _ (few : HoldFew kernel settings.capacity) where
      pub stops_flows : (middle : Option Contents) (r : Refusal) → middle ≡ contents → m0 ≤ m1 → f0 ≤ f1 → IsAboutFlows flows r → HasCount middle at m1 m2 f1 f2 r
          → IfSome middle (λ held. IsOwn r f1 f2 → AtFlows held flows (inputs_of kernel) (λ _ _. ⊥) (outcome_of r (Some flows)))
          → IfSome middle (λ held. at ≡ name_where_there held flows) → Stops (running program flows settings) contents before at m0 m2 f0 f2 r
      stops_flows middle r stays le_m le_f about counted refuses last =
          let there : IfSome contents (λ held. at ≡ name_where_there held flows) = subst (λ o. IfSome o (λ held. at ≡ name_where_there held flows)) stays last in
          let refused : IfSome contents (λ held. IsOwn r f1 f2 → AtFlows held flows (inputs_of kernel) (λ _ _. ⊥) (outcome_of r (Some flows))) =
          subst (λ o. IfSome o (λ held. IsOwn r f1 f2 → AtFlows held flows (inputs_of kernel) (λ _ _. ⊥) (outcome_of r (Some flows)))) stays refuses in
          let own_there = told_both contents (λ held. FindsAccepted settings.pace (held program) (Good kernel)) _ (λ held. IsOwn r f0 f2 → RunComesTo held program flows settings (outcome_of r (Some flows)))
          (λ held finds ends. λ own. flows_refuse program flows settings held kernel finds few (outcome_of r (Some flows)) (ends (later_own r f0 f1 f2 le_f own))) good refused in
          record {
            about = inr (inr about);
            counted = later_count contents at m0 m1 m2 f0 f1 f2 le_m le_f r (subst (λ o. HasCount o at m1 m2 f1 f2 r) stays counted);
            owed = told_both contents _ _ _ (λ held comes is. λ own. record { file = Some flows; comes = comes own; last = is }) own_there there;
            budget = told contents _ (λ held. λ eight. absurd (no_budget flows r about eight));
            begun = told_both contents _ _ _ (λ held is same. inr is) there there;
          }

      -- memory was wanting behind both files
      pub stops_memory : IfSome contents (λ held. at ≡ name_where_there held flows) → Stops (running program flows settings) contents before at m0 m2 f0 f2 OutOfMemory
      stops_memory last = record {
        about = inl tt;
        counted = tt;
        owed = told contents _ (λ held. λ own. absurd own);
        budget = told contents _ (λ held. λ eight. absurd (omega (arith, eight)));
        begun = told_both contents _ _ _ (λ held is same. inr is) last last;
      }

      -- the run comes to its end
      pub reaches_end : (values : List (List ℤ)) (trace : Trace) (end : Ended) → IfSome contents (λ held. FindsFlows (held flows) flows (inputs_of kernel) (Good values))
          → RunsTo kernel values settings.instants flows (ended kernel trace end flows) → IfSome contents (λ held. at ≡ name_where_there held flows)
          → Reaches (running program flows settings) contents before at (ended kernel trace end flows)
      reaches_end values trace end read runs_to last = record {
        comes = told_both contents _ _ _ (λ held finds has. runs program flows settings held kernel finds few values has (ended kernel trace end flows) runs_to) good read;
        last = last;
        begun = told_both contents _ _ _ (λ held is same. inr is) last last;
      }
