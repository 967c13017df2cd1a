-- What one guard tells of another.
use Rattle.std.specs.Prelude.{◌≡◌}
use Rattle.sig_cells.specs.Prelude.{ℕ, Bool, List, Node, Ref, Holds, Depends, test, truth_of}
use Rattle.sig_cells.specs.declared.implied.Narrowed.{Narrowed}
use Rattle.sig_cells.specs.declared.implied.Pair.{Pair}
use Rattle.sig_cells.specs.declared.implied.Way.{Way}
use Rattle.sig_cells.specs.declared.stretches.Known.{Known}

-- a guard has its truth
abbrev pub HasTruth : List Node → Known → List Bool → Type 0
HasTruth nodes known truths = test nodes known.guard truths ≡ known.truth

-- wherever the one guard has its truth, the other one has its own
abbrev pub IsTold : List Node → Known → Known → Type 0
IsTold nodes known told = (truths : List Bool) → HasTruth nodes known truths → HasTruth nodes told truths

-- a variable has its truth
abbrev pub LeadsOn : Way → List Bool → Type 0
LeadsOn way truths = truth_of truths way.variable ≡ way.truth

-- a function is that of a guard wherever a variable has its truth, and depends on nothing else
pub record IsGuardOn (nodes : List Node) (guard : Ref) (way : Way) (left : Ref) : Type 0 where
  pub held : Holds nodes left
  pub depends : (v : ℕ) → Depends (test nodes left) v → Depends (test nodes guard) v
  pub same : (truths : List Bool) → LeadsOn way truths → test nodes left truths ≡ test nodes guard truths

-- a pair has what is left of the guards of another one wherever a variable has its truth
pub record IsPairOn (nodes : List Node) (pair : Pair) (way : Way) (left : Pair) : Type 0 where
  pub known_truth : left.known.truth ≡ pair.known.truth
  pub told_truth : left.told.truth ≡ pair.told.truth
  pub known : IsGuardOn nodes pair.known.guard way left.known.guard
  pub told : IsGuardOn nodes pair.told.guard way left.told.guard

-- where this pair is told, so is the other one
pub record IsFurther (nodes : List Node) (pair next : Pair) : Type 0 where
  pub known : Holds nodes next.known.guard
  pub told : Holds nodes next.told.guard
  pub leads : IsTold nodes next.known next.told → IsTold nodes pair.known pair.told

-- wherever a guard has its truth, what is left of it has that too, and what is left of another one is that one
pub record IsNarrowed (nodes : List Node) (known : Known) (guard : Ref) (narrowed : Narrowed) : Type 0 where
  pub known_held : Holds nodes narrowed.known.guard
  pub held : Holds nodes narrowed.guard
  pub depends : (v : ℕ) → Depends (test nodes narrowed.guard) v → Depends (test nodes guard) v
  pub has : (truths : List Bool) → HasTruth nodes known truths → HasTruth nodes narrowed.known truths
  pub same : (truths : List Bool) → HasTruth nodes known truths → test nodes narrowed.guard truths ≡ test nodes guard truths
