-- A run with status 0 or 3 is one of an accepted program over flows of its inputs.
use Rattle.sig_loaded.proofs.Common.{◌≡◌, ◌∙◌, ◌⊎◌, ℕ, ℤ, List, Option, Some, inl, inr, refl, ap, subst, arith, inputs_of, Kernel, Contents, Settings, Absent, AtFile, Found, Good, Long, Outcome, long_file, long_program, IsDue, IsEnded, FindsAccepted, AtFlows, AtLinks, FindsFlows, HasRun, RunComesTo, RunsTo}
use Rattle.sig_outcome.specs.Outcomes.{Bad}

-- a status of a refusal is none of a run that came to its end
not_ended : (status n : ℕ) → IsEnded status → status ≡ n → (n ≡ 1) ⊎ ((n ≡ 2) ⊎ ((n ≡ 4) ⊎ (n ≡ 5))) → ⊥
not_ended status n (inl zero) is (inl one) = omega (arith, zero, is, one)
not_ended status n (inl zero) is (inr (inl two)) = omega (arith, zero, is, two)
not_ended status n (inl zero) is (inr (inr (inl four))) = omega (arith, zero, is, four)
not_ended status n (inl zero) is (inr (inr (inr five))) = omega (arith, zero, is, five)
not_ended status n (inr three) is (inl one) = omega (arith, three, is, one)
not_ended status n (inr three) is (inr (inl two)) = omega (arith, three, is, two)
not_ended status n (inr three) is (inr (inr (inl four))) = omega (arith, three, is, four)
not_ended status n (inr three) is (inr (inr (inr five))) = omega (arith, three, is, five)

module _ (held : Contents) (program flows : List ℕ) (settings : Settings) (before at : Option (List ℕ)) (status : ℕ) (Took Said : List ℕ → Type 0)
    (due : IsDue (RunComesTo held program flows settings) held before at status (λ text line. Took text × Said line)) (ends : IsEnded status) where
  refuses : (n : ℕ) → due.outcome.status ≡ n → (n ≡ 1) ⊎ ((n ≡ 2) ⊎ ((n ≡ 4) ⊎ (n ≡ 5))) → ⊥
  refuses n is among = not_ended status n ends (due.numbered ∙ is) among

  of_run : (kernel : Kernel) (values : List (List ℤ)) → FindsAccepted settings.pace (held program) (Good kernel) → FindsFlows (held flows) flows (inputs_of kernel) (Good values)
      → RunsTo kernel values settings.instants flows due.outcome → HasRun held program flows settings status Took Said
  of_run kernel values accepted read run = record {
    kernel = kernel;
    accepted = accepted;
    values = values;
    read = read;
    trace = run.trace;
    place = run.place;
    end = run.end;
    ends = run.ends;
    numbered = due.numbered ∙ ap (λ (o : Outcome). o.status) run.is;
    text = subst (λ (o : Outcome). Took o.text) run.is due.fact.0;
    line = subst (λ (o : Outcome). Said o.line) run.is due.fact.1;
  }

  of_flows : (kernel : Kernel) → FindsAccepted settings.pace (held program) (Good kernel) → (found : Found (List (List ℤ))) → FindsFlows (held flows) flows (inputs_of kernel) found
      → AtFile 4 (long_file flows) flows found (λ values. RunsTo kernel values settings.instants flows) due.outcome → HasRun held program flows settings status Took Said
  of_flows kernel accepted Absent finds is = absurd (refuses 5 (ap (λ (o : Outcome). o.status) is) (inr (inr (inr refl))))
  of_flows kernel accepted Long finds is = absurd (refuses 4 (ap (λ (o : Outcome). o.status) is) (inr (inr (inl refl))))
  of_flows kernel accepted (Bad line) finds is = absurd (refuses 4 (ap (λ (o : Outcome). o.status) is) (inr (inr (inl refl))))
  of_flows kernel accepted (Good values) finds run = of_run kernel values accepted finds run

  of_links : (kernel : Kernel) → FindsAccepted settings.pace (held program) (Good kernel)
      → AtLinks kernel settings.capacity (Some program) (AtFlows held flows (inputs_of kernel) (λ values. RunsTo kernel values settings.instants flows)) due.outcome → HasRun held program flows settings status Took Said
  of_links kernel accepted (inl many) = absurd (refuses 2 (ap (λ (o : Outcome). o.status) many.1) (inr (inl refl)))
  of_links kernel accepted (inr few) = of_flows kernel accepted few.1.0 few.1.1 few.1.2

  of_program : (found : Found Kernel) → FindsAccepted settings.pace (held program) found
      → AtFile 1 long_program program found (λ kernel. AtLinks kernel settings.capacity (Some program) (AtFlows held flows (inputs_of kernel) (λ values. RunsTo kernel values settings.instants flows))) due.outcome
      → HasRun held program flows settings status Took Said
  of_program Absent finds is = absurd (refuses 5 (ap (λ (o : Outcome). o.status) is) (inr (inr (inr refl))))
  of_program Long finds is = absurd (refuses 1 (ap (λ (o : Outcome). o.status) is) (inl refl))
  of_program (Bad line) finds is = absurd (refuses 1 (ap (λ (o : Outcome). o.status) is) (inl refl))
  of_program (Good kernel) finds next = of_links kernel finds next

  pub has_run : HasRun held program flows settings status Took Said
  has_run = of_program due.comes.0 due.comes.1 due.comes.2
