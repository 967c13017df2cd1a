-- Runs that are done, and those that are passed over, where what is known of a guard tells it.
use Rattle.sig_cells.proofs.Common.{◌≡◌, ◌≤◌, ◌∙◌, if◌then◌else◌, ℕ, Bool, true, false, not, nat_lt, List, length, refl, sym, subst, ap, inl, inr, arith, AreDone, ArePassed, IsRun, IsStretch, IsTest, IsTold, Known, Stretch, Node, Ref, Run, Scope, Test, cases_lt, is_end, test}
use Rattle.std.proofs.lemmas.Bool.{false_from_ne_true}
use Rattle.sig_cells.proofs.GuardsOfOneCondition.{test_end, test_walk}

-- what is read where there is no run
abbrev pub no_run : Run
no_run = record { guard = record { number = 0 }; end = 0; skip = 0 }

module _ (nodes : List Node) (runs : List Run) (known : Known) where
  pub none_passed : (from : ℕ) → ArePassed nodes runs known from from
  none_passed from = λ other later earlier. absurd (omega (arith, later, earlier))

  -- one run more
  pub passed_more : (from place : ℕ) (run : Run) → ArePassed nodes runs known from place → IsRun nodes runs place run → IsTold nodes known (record { guard = run.guard; truth = false })
      → ArePassed nodes runs known from run.skip
  passed_more from place run passed is off = λ other later earlier guard there truths has. elim (cases_lt other place) [
    | inl before ↦ passed other later before guard there truths has
    | inr behind ↦
        false_from_ne_true (test nodes guard truths)
        (λ on. let clash : true ≡ false = sym (is.implied other behind earlier guard there truths on) ∙ off truths has in cc)
  ]

  pub none_done : (from : ℕ) → AreDone nodes runs known from from
  none_done from = λ other later earlier. absurd (omega (arith, later, earlier))

  -- the instructions of one run more are done
  pub done_more : (from place : ℕ) (run : Run) → AreDone nodes runs known from place → IsRun nodes runs place run → IsTold nodes known (record { guard = run.guard; truth = true })
      → AreDone nodes runs known from run.end
  done_more from place run done is on = λ other later earlier guard there truths has. elim (cases_lt other place) [
    | inl before ↦ done other later before guard there truths has
    | inr behind ↦ subst (λ (g : Ref). test nodes g truths ≡ true) (sym (is.same other behind earlier guard there)) (on truths has)
  ]

module _ (scope : Scope) (runs : List Run) (known : Known) where
  -- a walk and the end tell nothing
  untold : (guard : Ref) (b : Bool) → IsTest scope known guard (if b then Test.Walk else Test.End)
  untold guard true = test_walk scope known guard
  untold guard false = test_end scope known guard

  ends : (b : Bool) → is_end (if b then Test.Walk else Test.End) ≡ not b
  ends true = refl
  ends false = refl

  -- instructions that are all done, behind which a walk tells what comes, or the end
  pub walked_stretch : (from to : ℕ) (stretch : Stretch) → from ≤ to → to ≤ length runs → AreDone scope.nodes runs known from to
      → stretch.from ≡ from → stretch.to ≡ to → stretch.place ≡ to → stretch.test ≡ (if nat_lt to (length runs) then Test.Walk else Test.End)
      → IsStretch scope runs known stretch
  walked_stretch from to stretch forth within done begins ends_at here walk = record {
    forth = omega (arith, begins, ends_at, forth);
    done = subst (λ n. AreDone scope.nodes runs known n stretch.to) (sym begins) (subst (AreDone scope.nodes runs known from) (sym ends_at) done);
    beyond = omega (arith, ends_at, here);
    over = subst (ArePassed scope.nodes runs known stretch.to) (ends_at ∙ sym here) (none_passed scope.nodes runs known stretch.to);
    within = omega (arith, here, within);
    told = λ run at. subst (λ (t : Test). IsTest scope known run.guard t) (sym walk) (untold run.guard (nat_lt to (length runs)));
    end = ap is_end walk ∙ ends (nat_lt to (length runs)) ∙ ap (λ n. not (nat_lt n (length runs))) (sym here);
  }

-- where the guard of a run holds, its instructions are done
pub run_done : (nodes : List Node) (runs : List Run) (place : ℕ) (run : Run) → IsRun nodes runs place run → AreDone nodes runs (record { guard = run.guard; truth = true }) place run.end
run_done nodes runs place run is =
    let known : Known = record { guard = run.guard; truth = true } in
    done_more nodes runs known place place run (none_done nodes runs known place) is (λ truths has. has)
