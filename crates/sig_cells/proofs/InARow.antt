-- Runs of instructions that have one guard.
use Rattle.sig_cells.proofs.Common.{◌≡◌, ◌<◌, ◌≤◌, ◌+◌, ◌++◌, ◌⊎◌, ◌∙◌, inl, inr, ℕ, zero, suc, List, [], ◌∷◌, length, length-append, set, Some, same_Some, refl, sym, ap, subst, slice_get, IsTrue, arith, cases_lt, Holds, Node, Ref, Implies, test, AreRuns, IsLeft, IsRun, Run, guards_of}
use Rattle.sig_cells.proofs.GuardsInARow.{as_many, get_push, get_set, guard_there, guards_count, guards_push, guards_set}

module _ (nodes : List Node) where
  -- a run of other runs with the same guards
  pub run_again : (runs others : List Run) → guards_of others ≡ guards_of runs → (place : ℕ) (run : Run) → IsRun nodes runs place run → IsRun nodes others place run
  run_again runs others guards place run is = record {
    held = is.held;
    later = is.later;
    leaves = is.leaves;
    within = let a = is.within in let b = as_many runs others guards in omega (arith, a, b);
    same = λ other from before guard there. is.same other from before guard (ap (λ gs. slice_get gs other) (sym guards) ∙ there);
    implied = λ other from before guard there. is.implied other from before guard (ap (λ gs. slice_get gs other) (sym guards) ∙ there);
  }

  -- with one run more behind them
  module _ (runs : List Run) (last : Run) where
    earlier : (other : ℕ) (guard : Ref) → other < length runs → slice_get (guards_of (runs ++ last ∷ [])) other ≡ Some guard → slice_get (guards_of runs) other ≡ Some guard
    earlier other guard before there = elim (get_push (guards_of runs) last.guard guard other (ap (λ gs. slice_get gs other) (sym (guards_push runs last)) ∙ there)) [
      | inl is ↦ is
      | inr end ↦ absurd (let a = end.0 in let b = guards_count runs in omega (arith, a, b, before))
    ]

    pub run_before : (place : ℕ) (run : Run) → IsRun nodes runs place run → IsRun nodes (runs ++ last ∷ []) place run
    run_before place run is = record {
      held = is.held;
      later = is.later;
      leaves = is.leaves;
      within = let a = is.within in let b = length-append runs (last ∷ []) in omega (arith, a, b);
      same = λ other from before guard there.
          is.same other from before guard (earlier other guard (let a = is.leaves in let b = is.within in omega (arith, a, b, before)) there);
      implied = λ other from before guard there.
          is.implied other from before guard (earlier other guard (let b = is.within in omega (arith, b, before)) there);
    }

    pub runs_push : AreRuns nodes runs → IsRun nodes (runs ++ last ∷ []) (length runs) last → AreRuns nodes (runs ++ last ∷ [])
    runs_push are is = λ place other at. elim (get_push runs last other place at) [
      | inl there ↦ run_before place other (are place other there)
      | inr end ↦ subst (λ n. IsRun nodes (runs ++ last ∷ []) n other) (sym end.0) (subst (λ (r : Run). IsRun nodes (runs ++ last ∷ []) (length runs) r) (sym end.1) is)
    ]

  pub runs_set : (runs : List Run) (place : ℕ) (old run : Run) → slice_get runs place ≡ Some old → run.guard ≡ old.guard → AreRuns nodes runs → IsRun nodes runs place run → AreRuns nodes (set runs place run)
  runs_set runs place old run at_old guard are is = λ n other at.
      run_again runs (set runs place run) (guards_set runs place old run at_old guard) n other
      (elim (get_set runs place run other n at) [
        | inl here ↦ subst (λ m. IsRun nodes runs m other) (sym here.0) (subst (λ (r : Run). IsRun nodes runs place r) (sym here.1) is)
        | inr there ↦ are n other there
      ])

  -- one instruction alone
  pub alone : (runs : List Run) (place : ℕ) (run : Run) → slice_get runs place ≡ Some run → place < length runs → Holds nodes run.guard → run.end ≡ place + 1 → run.skip ≡ place + 1
      → IsRun nodes runs place run
  alone runs place run at below held end skip = record {
    held = held;
    later = omega (arith, end);
    leaves = omega (arith, end, skip);
    within = omega (arith, skip, below);
    same = λ other from before guard there. own other from (omega (arith, before, end)) guard there;
    implied = λ other from before guard there truths holds. subst (λ (g : Ref). IsTrue (test nodes g truths)) (own other from (omega (arith, before, skip)) guard there) holds;
  } where
    own : (other : ℕ) → place ≤ other → other < place + 1 → (guard : Ref) → slice_get (guards_of runs) other ≡ Some guard → guard ≡ run.guard
    own other from before guard there =
        let here : place ≡ other = omega (arith, from, before) in
        same_Some guard run.guard (sym there ∙ ap (slice_get (guards_of runs)) (sym here) ∙ guard_there runs place run at)

  here_or : (a b : ℕ) → a ≤ b → (a ≡ b) ⊎ (a + 1 ≤ b)
  here_or zero zero le = inl refl
  here_or zero (suc b) le = inr (omega arith)
  here_or (suc a) zero le = absurd (omega (arith, le))
  here_or (suc a) (suc b) le = elim (here_or a b (omega (arith, le))) [
    | inl e ↦ inl (ap suc e)
    | inr l ↦ inr (omega (arith, l))
  ]

  module _ (runs : List Run) where
    -- with the next run
    module _ (place : ℕ) (run next : Run) (is : IsRun nodes runs place run) (then_ : IsRun nodes runs (place + 1) next) (same : run.guard ≡ next.guard) where
      one_guard : (other : ℕ) → place ≤ other → other < next.end → (guard : Ref) → slice_get (guards_of runs) other ≡ Some guard → guard ≡ run.guard
      one_guard other from before guard there = elim (here_or place other from) [
        | inl here ↦ is.same other from (let a = is.later in omega (arith, a, here)) guard there
        | inr later ↦ then_.same other later before guard there ∙ sym same
      ]

      pub joined : IsRun nodes runs place (record { guard = run.guard; end = next.end; skip = next.end })
      joined = record {
        held = is.held;
        later = let a = then_.later in omega (arith, a);
        leaves = omega arith;
        within = let a = then_.leaves in let b = then_.within in omega (arith, a, b);
        same = one_guard;
        implied = λ other from before guard there truths holds. subst (λ (g : Ref). IsTrue (test nodes g truths)) (one_guard other from before guard there) holds;
      }

    -- left later, where the next run is done only where this one is
    pub left_later : (place skip : ℕ) (run next : Run) → IsLeft nodes runs place run skip → IsRun nodes runs skip next → Implies nodes next.guard run.guard → IsLeft nodes runs place run next.skip
    left_later place skip run next is then_ implies = record {
      held = is.held;
      later = is.later;
      leaves = let a = is.leaves in let b = then_.later in let d = then_.leaves in omega (arith, a, b, d);
      within = then_.within;
      same = is.same;
      implied = λ other from before guard there. elim (cases_lt other skip) [
        | inl earlier ↦ is.implied other from earlier guard there
        | inr later ↦ (λ truths holds. implies truths (then_.implied other later before guard there truths holds))
      ];
    }
