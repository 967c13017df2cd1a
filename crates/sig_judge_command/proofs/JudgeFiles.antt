-- What the files of a program and of a trace call for.
use Rattle.sig_judge_command.proofs.Common.{◌≡◌, ◌≤◌, ◌∙◌, ◌⊎◌, ℕ, List, Option, Some, IfSome, ⊎_elim, inl, inr, refl, sym, ap, subst, arith, string_bytes, Trace, Signal, Contents, name_where_there, FlatBody, IsFirstBadPlace, IsVerdict, TraceAnswer, Verdict, Good, HasCount, IsOfData, IsOwn, outcome_of, status_of, Reaches, Stops, Refusal, Missing, ReadFault, LongProgram, Program, Budget, TooManyItems, LongFile, Data, LongImage, later_count, later_own, told_both, AtFlat, AtTrace, FindsFlat, FindsTrace, IsAboutFlat, IsAboutJudge, IsAboutTrace, IsJudgeStatus, JudgeComesTo, judged, judging}
use Rattle.sig_outcome.specs.declared.refusal.Refusal.TheVariants.{OutOfMemory}
use Rattle.sig_judge_command.proofs.OneVerdict.{flat_refuses, judges, trace_refuses}

-- a refusal of the judge has one of its statuses, which is never 8
pub judge_number : (program traces : List ℕ) (r : Refusal) → IsAboutJudge program traces r → IsJudgeStatus (status_of r)
judge_number program traces (Missing n) about = inr (inr (inr (inr (inl refl))))
judge_number program traces (ReadFault n) about = inr (inr (inr (inr (inl refl))))
judge_number program traces LongProgram about = inr (inr (inl refl))
judge_number program traces (Program line) about = inr (inr (inl refl))
judge_number program traces (Budget nodes) about = absurd (⊎_elim (λ x. x) (λ x. x) about)
judge_number program traces TooManyItems about = absurd (⊎_elim (λ x. x) (λ x. x) about)
judge_number program traces (LongFile n) about = inr (inr (inr (inl refl)))
judge_number program traces (Data line) about = inr (inr (inr (inl refl)))
judge_number program traces LongImage about = absurd (⊎_elim (λ x. x) (λ x. x) about)
judge_number program traces OutOfMemory about = inr (inr (inr (inr (inr refl))))

no_budget : (program traces : List ℕ) (r : Refusal) → IsAboutJudge program traces r → status_of r ≡ 8 → ⊥
no_budget program traces (Missing n) about eight = omega (arith, eight)
no_budget program traces (ReadFault n) about eight = omega (arith, eight)
no_budget program traces LongProgram about eight = omega (arith, eight)
no_budget program traces (Program line) about eight = omega (arith, eight)
no_budget program traces (Budget nodes) about eight = ⊎_elim (λ x. x) (λ x. x) about
no_budget program traces TooManyItems about eight = omega (arith, eight)
no_budget program traces (LongFile n) about eight = omega (arith, eight)
no_budget program traces (Data line) about eight = omega (arith, eight)
no_budget program traces LongImage about eight = omega (arith, eight)
no_budget program traces OutOfMemory about eight = omega (arith, eight)

module _ (contents : Option Contents) (before at : Option (List ℕ)) (m0 m1 m2 f0 f1 f2 : ℕ) (program traces : List ℕ) (r : Refusal) where
  pub stops_flat : IsAboutFlat program r → HasCount contents at m0 m1 f0 f1 r → IfSome contents (λ held. IsOwn r f0 f1 → AtFlat held program (λ _ _. ⊥) (outcome_of r (Some program))) → IfSome contents (λ held. at ≡ name_where_there held program) → Stops (judging program traces) contents before at m0 m1 f0 f1 r
  stops_flat about counted refuses last = record {
    about = inl about;
    counted = counted;
    owed = told_both contents _ _ _
        (λ held refused is. λ own. record { file = Some program; comes = flat_refuses held program traces (outcome_of r (Some program)) (refused own); last = is })
        refuses last;
    budget = told_both contents _ _ _ (λ held is same. λ eight. no_budget program traces r (inl about) eight) last last;
    begun = told_both contents _ _ _ (λ held is same. inl is) last last;
  }

  pub stops_trace : (middle : Option Contents) (flat : FlatBody) → middle ≡ contents → m0 ≤ m1 → f0 ≤ f1 → IfSome contents (λ held. FindsFlat (held program) (Good flat)) → IsAboutTrace traces r → HasCount middle at m1 m2 f1 f2 r → IfSome middle (λ held. IsOwn r f1 f2 → AtTrace held traces flat.signals (λ _ _. ⊥) (outcome_of r (Some traces))) → IfSome middle (λ held. at ≡ name_where_there held traces) → Stops (judging program traces) contents before at m0 m2 f0 f2 r
  stops_trace middle flat stays le_m le_f good about counted refuses last =
      let there : IfSome contents (λ held. at ≡ name_where_there held traces) = subst (λ o. IfSome o (λ held. at ≡ name_where_there held traces)) stays last in
      let refused : IfSome contents (λ held. IsOwn r f1 f2 → AtTrace held traces flat.signals (λ _ _. ⊥) (outcome_of r (Some traces))) =
      subst (λ o. IfSome o (λ held. IsOwn r f1 f2 → AtTrace held traces flat.signals (λ _ _. ⊥) (outcome_of r (Some traces)))) stays refuses in
      let own_there = told_both contents (λ held. FindsFlat (held program) (Good flat)) _ (λ held. IsOwn r f0 f2 → JudgeComesTo held program traces (outcome_of r (Some traces)))
      (λ held is ends. λ own. trace_refuses held program traces flat (outcome_of r (Some traces)) is (ends (later_own r f0 f1 f2 le_f own))) good refused in
      record {
        about = inr about;
        counted = later_count contents at m0 m1 m2 f0 f1 f2 le_m le_f r (subst (λ o. HasCount o at m1 m2 f1 f2 r) stays counted);
        owed = told_both contents _ _ _ (λ held comes is. λ own. record { file = Some traces; comes = comes own; last = is }) own_there there;
        budget = told_both contents _ _ _ (λ held is same. λ eight. no_budget program traces r (inr about) eight) there there;
        begun = told_both contents _ _ _ (λ held is same. inr is) there there;
      }

pub reaches_verdict : (contents middle : Option Contents) (before at : Option (List ℕ)) (program traces : List ℕ) (flat : FlatBody) (trace : Trace) (verdict : Verdict) → middle ≡ contents → IfSome contents (λ held. FindsFlat (held program) (Good flat)) → IfSome middle (λ held. FindsTrace (held traces) traces flat.signals (Good trace)) → IsVerdict flat trace verdict → IfSome middle (λ held. at ≡ name_where_there held traces) → Reaches (judging program traces) contents before at (judged verdict traces)
reaches_verdict contents middle before at program traces flat trace verdict stays good read told last =
    let there : IfSome contents (λ held. at ≡ name_where_there held traces) = subst (λ o. IfSome o (λ held. at ≡ name_where_there held traces)) stays last in
    let finds : IfSome contents (λ held. FindsTrace (held traces) traces flat.signals (Good trace)) = subst (λ o. IfSome o (λ held. FindsTrace (held traces) traces flat.signals (Good trace))) stays read in
    record {
      comes = told_both contents _ _ _ (λ held is has. judges held program traces flat trace verdict is has told) good finds;
      last = there;
      begun = told_both contents _ _ _ (λ held is same. inr is) there there;
    }
