-- What is promised of a call follows from what its files gave and what was written.
use Rattle.sig_outcome.proofs.Common.{◌≡◌, ◌∙◌, ◌⊎◌, ◌++◌, ℕ, List, [], Bool, Option, IfSome, inl, inr, ⊎_elim, refl, sym, ap, subst, arith, cases_lt, IsTrue, codes, Rose, raised, Contents, TookPrefix, OneAtMost, Outcome, HasCount, IsOwn, line_of, outcome_of, status_of, IsCut, IsDone, IsDue, IsRefused, MayAnswer, Owes, Performs, Reaches, Stops, Task, Writes, image_line, items_line, memory_line, write_line, Refusal, Missing, ReadFault, LongProgram, Program, Budget, TooManyItems, LongFile, Data, LongImage, OutOfMemory}
use Rattle.sig_outcome.proofs.Refused.{told, told_both}

-- ---- statuses

no_six : (status : ℕ) → IsDone status → status ≡ 6 → ⊥
no_six status (inl (inl is)) six = omega (arith, is, six)
no_six status (inl (inr is)) six = omega (arith, is, six)
no_six status (inr is) six = omega (arith, is, six)

refused_one : (status n : ℕ) → status ≡ n → (n ≡ 0) ⊎ ((n ≡ 3) ⊎ ((n ≡ 9) ⊎ (n ≡ 6))) → IsRefused status → ⊥
refused_one status n same (inl is) refuses = grind (arith, same, is, refuses)
refused_one status n same (inr (inl is)) refuses = grind (arith, same, is, refuses)
refused_one status n same (inr (inr (inl is))) refuses = grind (arith, same, is, refuses)
refused_one status n same (inr (inr (inr is))) refuses = grind (arith, same, is, refuses)

-- a status of a command that was to be done is none of a refused one
pub not_refused : (status : ℕ) → IsDone status ⊎ (status ≡ 6) → IsRefused status → ⊥
not_refused status (inl (inl (inl is))) = refused_one status 0 is (inl refl)
not_refused status (inl (inl (inr is))) = refused_one status 3 is (inr (inl refl))
not_refused status (inl (inr is)) = refused_one status 9 is (inr (inr (inl refl)))
not_refused status (inr is) = refused_one status 6 is (inr (inr (inr refl)))

refused_status : (r : Refusal) → IsRefused (status_of r)
refused_status (Missing name) = inr (inr (inr (inl refl)))
refused_status (ReadFault name) = inr (inr (inr (inl refl)))
refused_status LongProgram = inl refl
refused_status (Program line) = inl refl
refused_status (Budget nodes) = inr (inr (inr (inr (inr (inl refl)))))
refused_status TooManyItems = inr (inl refl)
refused_status (LongFile name) = inr (inr (inl refl))
refused_status (Data line) = inr (inr (inl refl))
refused_status LongImage = inr (inr (inr (inr (inr (inr refl)))))
refused_status OutOfMemory = inr (inr (inr (inr (inl refl))))

memory_said : (r : Refusal) (Said : List ℕ → Type 0) → status_of r ≡ 7 → Said (line_of r ++ codes "\n") → Said memory_line
memory_said (Missing name) Said is line = absurd (omega (arith, is))
memory_said (ReadFault name) Said is line = absurd (omega (arith, is))
memory_said LongProgram Said is line = absurd (omega (arith, is))
memory_said (Program text) Said is line = absurd (omega (arith, is))
memory_said (Budget nodes) Said is line = absurd (omega (arith, is))
memory_said TooManyItems Said is line = absurd (omega (arith, is))
memory_said (LongFile name) Said is line = absurd (omega (arith, is))
memory_said (Data text) Said is line = absurd (omega (arith, is))
memory_said LongImage Said is line = absurd (omega (arith, is))
memory_said OutOfMemory Said is line = line

items_said : (r : Refusal) (Said : List ℕ → Type 0) → status_of r ≡ 2 → Said (line_of r ++ codes "\n") → Said items_line
items_said (Missing name) Said is line = absurd (omega (arith, is))
items_said (ReadFault name) Said is line = absurd (omega (arith, is))
items_said LongProgram Said is line = absurd (omega (arith, is))
items_said (Program text) Said is line = absurd (omega (arith, is))
items_said (Budget nodes) Said is line = absurd (omega (arith, is))
items_said TooManyItems Said is line = line
items_said (LongFile name) Said is line = absurd (omega (arith, is))
items_said (Data text) Said is line = absurd (omega (arith, is))
items_said LongImage Said is line = absurd (omega (arith, is))
items_said OutOfMemory Said is line = absurd (omega (arith, is))

image_said : (r : Refusal) (Said : List ℕ → Type 0) → status_of r ≡ 10 → Said (line_of r ++ codes "\n") → Said image_line
image_said (Missing name) Said is line = absurd (omega (arith, is))
image_said (ReadFault name) Said is line = absurd (omega (arith, is))
image_said LongProgram Said is line = absurd (omega (arith, is))
image_said (Program text) Said is line = absurd (omega (arith, is))
image_said (Budget nodes) Said is line = absurd (omega (arith, is))
image_said TooManyItems Said is line = absurd (omega (arith, is))
image_said (LongFile name) Said is line = absurd (omega (arith, is))
image_said (Data text) Said is line = absurd (omega (arith, is))
image_said LongImage Said is line = line
image_said OutOfMemory Said is line = absurd (omega (arith, is))

module _ (task : Task) (contents : Option Contents) (before at : Option (List ℕ)) (misses misses' faults faults' : ℕ) (once : (held : Contents) → OneAtMost (task.comes held)) where
  -- ---- what was to be done

  may_answer : (status wrote wrote' : ℕ) (held : Contents) (Fact : List ℕ → List ℕ → Type 0) (p : Outcome) → IsDue (task.comes held) held before at status Fact → task.comes held p → status ≡ p.status
  may_answer status wrote wrote' held Fact p due other = due.numbered ∙ ap (λ q. q.status) (once held due.outcome p due.comes other)

  pub performs_ended : {S : Type 0} (took : S → List ℕ → S → Type 0) (out out' : S) (wrote wrote' : ℕ) (clean : Bool) (Said : List ℕ → Type 0) (status : ℕ)
      → task.statuses status → IsDone status ⊎ (status ≡ 6)
      → IfSome contents (λ held. (p : Outcome) → task.comes held p → TookPrefix took out p.text out' × IsDone p.status)
      → (IsDone status → IfSome contents (λ held. IsDue (task.comes held) held before at status (λ text line. took out text out' × Said line)))
      → (IsDone status → IsTrue clean) → IfSome contents (λ held. task.begun held at) → (status ≡ 6 → Rose wrote wrote')
      → (status ≡ 6 → IfSome contents (λ held. IsCut (task.comes held) took out out')) → (status ≡ 6 → Said write_line)
      → Performs task contents before at misses misses' faults faults' took out out' wrote wrote' clean Said status
  performs_ended took out out' wrote wrote' clean Said status allowed ends prefix whole flushed begun failed cut said = record {
    numbers = allowed;
    prefix = told_both contents _ _ _ (λ held p q. λ o comes. (p o comes).0) prefix prefix;
    whole = whole;
    flushed = flushed;
    owed = ⊎_elim
        (λ is. told_both contents _ _ _ (λ held due p. λ o comes. inl (may_answer status wrote wrote' held _ o due comes)) (whole is) prefix)
        (λ six. told_both contents _ _ _ (λ held p q. λ o comes. inr (inr (inl (six, (p o comes).1, failed six)))) prefix prefix)
        ends;
    budget = λ eight. absurd (not_refused status ends (inr (inr (inr (inr (inr (inl eight)))))));
    refused = λ refuses. absurd (not_refused status ends refuses);
    untouched = λ refuses. absurd (not_refused status ends refuses);
    begun = begun;
    failed = failed;
    cut = cut;
    fault_line = said;
    memory_line = λ seven. absurd (not_refused status ends (inr (inr (inr (inr (inl seven))))));
    items_line = λ two. absurd (not_refused status ends (inr (inl two)));
    image_line = λ ten. absurd (not_refused status ends (inr (inr (inr (inr (inr (inr ten)))))));
  }

  pub performs_outcome : {S : Type 0} (took : S → List ℕ → S → Type 0) (out out' : S) (wrote wrote' : ℕ) (clean : Bool) (Said : List ℕ → Type 0) (status : ℕ) (o : Outcome)
      → IsDone o.status → task.statuses o.status → task.statuses 6 → Reaches task contents before at o
      → Writes o.text o.line o.status took out out' wrote wrote' clean Said status
      → Performs task contents before at misses misses' faults faults' took out out' wrote wrote' clean Said status
  performs_outcome took out out' wrote wrote' clean Said status o is_done allowed may_fail reaches writes =
      performs_ended took out out' wrote wrote' clean Said status
      (⊎_elim (λ due. subst task.statuses (sym due) allowed) (λ six. subst task.statuses (sym six) may_fail) writes.numbers)
      (⊎_elim (λ due. inl (subst IsDone (sym due) is_done)) (λ six. inr six) writes.numbers)
      (told_both contents _ _ _
      (λ held comes last. λ p other. let same = once held o p comes other in (
        subst (λ (q : Outcome). TookPrefix took out q.text out') same writes.prefix,
        subst (λ (q : Outcome). IsDone q.status) same is_done,
      ))
      reaches.comes reaches.last)
      (λ ends. told_both contents _ _ _
      (λ held comes last. record {
        outcome = o;
        comes = comes;
        numbered = ⊎_elim (λ due. due) (λ six. absurd (no_six status ends six)) writes.numbers;
        last = last;
        fact = (writes.whole (no_six status ends), writes.says (no_six status ends));
      })
      reaches.comes reaches.last)
      (λ ends. writes.flushed (no_six status ends))
      reaches.begun writes.failed
      (λ six. told_both contents _ _ _
      (λ held comes last. record { outcome = o; comes = comes; due = is_done; prefix = writes.prefix })
      reaches.comes reaches.last)
      writes.fault_line

  -- ---- what was refused

  by_owed : (held : Contents) (r : Refusal) (o : Outcome) → Owes (task.comes held) held before at r → task.comes held o → status_of r ≡ o.status
  by_owed held r o owes comes = ap (λ q. q.status) (once held (outcome_of r owes.file) o owes.comes comes)

  own_status : (told_contents : Option Contents) (held : Contents) (WriteFailed : Type 0) (r : Refusal) (o : Outcome) → HasCount told_contents at misses misses' faults faults' r → (IsOwn r faults faults' → Owes (task.comes held) held before at r) → task.comes held o → MayAnswer o.status (status_of r) (Rose faults faults') WriteFailed
  own_status contents held WriteFailed (Missing name) o count owes comes =
      ⊎_elim
      (λ stays. inl (by_owed held (Missing name) o (owes stays) comes))
      (λ rose. inr (inl (refl, rose)))
      (cases_lt faults' (raised faults))
  own_status contents held WriteFailed (ReadFault name) o count owes comes = inr (inl (refl, count.cause))
  own_status contents held WriteFailed LongProgram o count owes comes = inl (by_owed held LongProgram o (owes tt) comes)
  own_status contents held WriteFailed (Program line) o count owes comes = inl (by_owed held (Program line) o (owes tt) comes)
  own_status contents held WriteFailed (Budget nodes) o count owes comes = inr (inr (inr (inr refl)))
  own_status contents held WriteFailed TooManyItems o count owes comes = inl (by_owed held TooManyItems o (owes tt) comes)
  own_status contents held WriteFailed (LongFile name) o count owes comes = inl (by_owed held (LongFile name) o (owes tt) comes)
  own_status contents held WriteFailed (Data line) o count owes comes = inl (by_owed held (Data line) o (owes tt) comes)
  own_status contents held WriteFailed LongImage o count owes comes = inl (by_owed held LongImage o (owes tt) comes)
  own_status contents held WriteFailed OutOfMemory o count owes comes = inr (inr (inr (inl refl)))

  pub performs_refusal : {S : Type 0} (took : S → List ℕ → S → Type 0) (out : S) (wrote wrote' : ℕ) (clean : Bool) (Said : List ℕ → Type 0) (status : ℕ) (r : Refusal)
      → took out [] out → ((s : Refusal) → task.about s → task.statuses (status_of s)) → Stops task contents before at misses misses' faults faults' r
      → Said (line_of r ++ codes "\n") → status ≡ status_of r
      → Performs task contents before at misses misses' faults faults' took out out wrote wrote' clean Said status
  performs_refusal took out wrote wrote' clean Said status r nothing allowed stops said is =
      let refuses : IsRefused status = subst IsRefused (sym is) (refused_status r) in
      record {
        numbers = subst task.statuses (sym is) (allowed r stops.about);
        prefix = told contents _ (λ held. λ o comes. record { part = []; left = o.text; joined = refl; taken = nothing });
        whole = λ ends. absurd (not_refused status (inl ends) refuses);
        flushed = λ ends. absurd (not_refused status (inl ends) refuses);
        owed = told_both contents _ _ _
            (λ held owes begun. λ o comes. subst (λ n. MayAnswer o.status n (Rose faults faults') (Rose wrote wrote')) (sym is) (own_status contents held (Rose wrote wrote') r o stops.counted owes comes))
            stops.owed stops.begun;
        budget = λ eight. told_both contents _ _ _ (λ held beyond begun. beyond (sym is ∙ eight)) stops.budget stops.begun;
        refused = λ _. record {
          refusal = r;
          numbered = is;
          line = said;
          about = stops.about;
          count = stops.counted;
          owed = λ own. told_both contents _ _ _ (λ held owes begun. owes own) stops.owed stops.begun;
        };
        untouched = λ _. refl;
        begun = stops.begun;
        failed = λ six. absurd (not_refused status (inr six) refuses);
        cut = λ six. absurd (not_refused status (inr six) refuses);
        fault_line = λ six. absurd (not_refused status (inr six) refuses);
        memory_line = λ seven. memory_said r Said (sym is ∙ seven) said;
        items_line = λ two. items_said r Said (sym is ∙ two) said;
        image_line = λ ten. image_said r Said (sym is ∙ ten) said;
      }
