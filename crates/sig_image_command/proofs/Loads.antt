-- What the files of a build, and of a run of an image, call for.
use Rattle.sig_image_command.proofs.Common.{◌≡◌, ◌≤◌, ℕ, ℤ, false, List, Option, Some, IfSome, inl, inr, refl, ap, subst, arith, ⊤, Contents, name_where_there, Settings, IsAccepted, PlanView, image_bytes, ImageView, IsImageRun, image_of, ImageEnd, Good, done, HasCount, IsOfLength, IsOwn, outcome_of, status_of, Reaches, Stops, Refusal, LongImage, OutOfMemory, count_of_length, later_count, later_own, no_budget_of_length, told, told_both, AtPlan, FindsAccepted, HoldsBeyondBound, IsAboutPlan, AtFlows, FindsFlows, IsAboutFlows, AreFewBytes, AreManyBytes, BuildComesTo, IsKernelImage, building, ExecComesTo, ExecutesTo, executed, executing, inputs_of_image, AtImage, FindsImage, HoldsBeyondVerifying, IsAboutFile}
use Rattle.sig_image_command.proofs.LastBegun.{no_flow_budget}
use Rattle.sig_image_command.proofs.OneBuild.{plan_refuses}
use Rattle.sig_image_command.proofs.OneExec.{executes, image_refuses, inputs_refuse}

-- ---- a build

module _ (contents : Option Contents) (before at : Option (List ℕ)) (misses misses' faults faults' : ℕ) (program : List ℕ) where
  pub stops_plan : (r : Refusal) → IsAboutPlan program r → HasCount contents at misses misses' faults faults' r
      → IfSome contents (λ held. IsOwn r faults faults' → AtPlan false held program (λ _ _. ⊥) (outcome_of r (Some program)))
      → IfSome contents (λ held. status_of r ≡ 8 → HoldsBeyondBound false (held program))
      → IfSome contents (λ held. at ≡ name_where_there held program) → Stops (building program) contents before at misses misses' faults faults' r
  stops_plan r about counted refuses budget last = record {
    about = inl about;
    counted = counted;
    owed = told_both contents _ _ _
        (λ held refused is. λ own. record { file = Some program; comes = plan_refuses program held (outcome_of r (Some program)) (refused own); last = is })
        refuses last;
    budget = budget;
    begun = last;
  }

  module _ (plan : PlanView) (accepted : IsAccepted plan) (good : IfSome contents (λ held. FindsAccepted false (held program) (Good plan.kernel)))
      (last : IfSome contents (λ held. at ≡ name_where_there held program)) where
    of_plan : IsKernelImage plan.kernel (image_of plan)
    of_plan = record { plan = plan; of = record { accepted = accepted; same = refl }; is = refl }

    -- its image is too long, or memory was wanting
    long_refuses : (held : Contents) → FindsAccepted false (held program) (Good plan.kernel) → (r : Refusal) → IsOfLength (AreManyBytes (image_bytes (image_of plan))) r → IsOwn r faults faults'
        → BuildComesTo held program (outcome_of r (Some program))
    long_refuses held finds LongImage is own = (Good plan.kernel, finds, inr (record { image = image_of plan; of = of_plan; fact = (is, refl) }))
    long_refuses held finds OutOfMemory is own = absurd own
    long_refuses held finds other is own = absurd is

    about_long : (r : Refusal) → IsOfLength (AreManyBytes (image_bytes (image_of plan))) r → IsOfLength ⊤ r
    about_long LongImage is = tt
    about_long OutOfMemory is = tt
    about_long other is = is

    pub stops_length : (r : Refusal) → IsOfLength (AreManyBytes (image_bytes (image_of plan))) r → Stops (building program) contents before at misses misses' faults faults' r
    stops_length r is = record {
      about = inr (about_long r is);
      counted = count_of_length (AreManyBytes (image_bytes (image_of plan))) contents at misses misses' faults faults' r is;
      owed = told_both contents _ _ _
          (λ held finds begun. λ own. record { file = Some program; comes = long_refuses held finds r is own; last = begun })
          good last;
      budget = told contents _ (λ held. λ eight. absurd (no_budget_of_length (AreManyBytes (image_bytes (image_of plan))) r is eight));
      begun = last;
    }

    -- or its bytes are due
    pub reaches_image : (bytes : List ℕ) → bytes ≡ image_bytes (image_of plan) → AreFewBytes bytes → Reaches (building program) contents before at (done bytes program)
    reaches_image bytes is few = record {
      comes = told_both contents _ _ _
          (λ held finds begun.
          (Good plan.kernel, finds, inl (record { image = image_of plan; of = of_plan; fact = (subst AreFewBytes is few, ap (λ (b : List ℕ). done b program) is) })))
          good last;
      last = last;
      begun = last;
    }

-- ---- the run of an image

module _ (contents : Option Contents) (before at : Option (List ℕ)) (m0 m1 m2 f0 f1 f2 : ℕ) (file flows : List ℕ) (settings : Settings) where
  pub stops_image : (r : Refusal) → IsAboutFile file r → HasCount contents at m0 m1 f0 f1 r
      → IfSome contents (λ held. IsOwn r f0 f1 → AtImage held file (λ _ _. ⊥) (outcome_of r (Some file)))
      → IfSome contents (λ held. status_of r ≡ 8 → HoldsBeyondVerifying (held file))
      → IfSome contents (λ held. at ≡ name_where_there held file) → Stops (executing file flows settings) contents before at m0 m1 f0 f1 r
  stops_image r about counted refuses budget last = record {
    about = inl about;
    counted = counted;
    owed = told_both contents _ _ _
        (λ held refused is. λ own. record { file = Some file; comes = image_refuses file flows settings held (outcome_of r (Some file)) (refused own); last = is })
        refuses last;
    budget = budget;
    begun = told_both contents _ _ _ (λ held is same. inl is) last last;
  }

  module _ (image : ImageView) (good : IfSome contents (λ held. FindsImage (held file) file (Good image))) where
    pub stops_inputs : (middle : Option Contents) (r : Refusal) → middle ≡ contents → m0 ≤ m1 → f0 ≤ f1 → IsAboutFlows flows r → HasCount middle at m1 m2 f1 f2 r
        → IfSome middle (λ held. IsOwn r f1 f2 → AtFlows held flows (inputs_of_image image) (λ _ _. ⊥) (outcome_of r (Some flows)))
        → IfSome middle (λ held. at ≡ name_where_there held flows) → Stops (executing file flows settings) contents before at m0 m2 f0 f2 r
    stops_inputs middle r same le_m le_f about counted refused last =
        let counts = subst (λ (c : Option Contents). HasCount c at m1 m2 f1 f2 r) same counted in
        let refuses = subst (λ (c : Option Contents). IfSome c (λ held. IsOwn r f1 f2 → AtFlows held flows (inputs_of_image image) (λ _ _. ⊥) (outcome_of r (Some flows)))) same refused in
        let begun = subst (λ (c : Option Contents). IfSome c (λ held. at ≡ name_where_there held flows)) same last in
        let comes = told_both contents (λ held. FindsImage (held file) file (Good image)) _ (λ held. IsOwn r f0 f2 → ExecComesTo held file flows settings (outcome_of r (Some flows)))
        (λ held finds refuse. λ own. inputs_refuse file flows settings held image finds (outcome_of r (Some flows)) (refuse (later_own r f0 f1 f2 le_f own))) good refuses in
        record {
          about = inr about;
          counted = later_count contents at m0 m1 m2 f0 f1 f2 le_m le_f r counts;
          owed = told_both contents _ _ _ (λ held comes_to is. λ own. record { file = Some flows; comes = comes_to own; last = is }) comes begun;
          budget = told contents _ (λ held. λ eight. absurd (no_flow_budget flows r about eight));
          begun = told_both contents _ _ _ (λ held is same. inr is) begun begun;
        }

    module _ (last : IfSome contents (λ held. at ≡ name_where_there held flows)) where
      pub stops_memory : Stops (executing file flows settings) contents before at m0 m2 f0 f2 OutOfMemory
      stops_memory = record {
        about = inl tt;
        counted = tt;
        owed = told contents _ (λ held. λ own. absurd own);
        budget = told contents _ (λ held. λ eight. absurd (omega (arith, eight)));
        begun = told_both contents _ _ _ (λ held is same. inr is) last last;
      }

      pub reaches_end : (values : List (List ℤ)) (text : List ℕ) (end : ImageEnd) → IfSome contents (λ held. FindsFlows (held flows) flows (inputs_of_image image) (Good values))
          → IsImageRun image values settings.instants text end → Reaches (executing file flows settings) contents before at (executed image text end flows)
      reaches_end values text end read runs =
          let is : ExecutesTo image values settings.instants flows (executed image text end flows) = record { text = text; end = end; runs = runs; is = refl } in
          record {
            comes = told_both contents _ _ _ (λ held finds found. executes file flows settings held image finds values found (executed image text end flows) is) good read;
            last = last;
            begun = told_both contents _ _ _ (λ held begun same. inr begun) last last;
          }
