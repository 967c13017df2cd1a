-- Guards that one condition tells.
use Rattle.sig_cells.proofs.Common.{subst, AreBelow, IfSome, IsNarrowed, IsTest, IsTold, Known, Literal, Narrowed, Test, holds_by, is_end, told_by, IsSide, Depends-Tests, Tests-Depends, IsJoined, ◌<◌, length, slice_index_or, Depends, ◌≡◌, ◌∙◌, ℕ, Bool, true, false, not, List, Some, refl, sym, ap, SigId, Registers, is_true, truth_of, truths_of, Scope, Holds, IsReduced, IsRefOf, IsSide-child, node_of, test, Node, Ref, if◌then◌else◌}
use Rattle.sig_cells.proofs.Guards.{condition_at, truth_at, variable_within}

module _ (nodes : List Node) (reduced : IsReduced nodes) (r : Ref) (held : Holds nodes r) (n : Node) (is : Some n ≡ node_of nodes r) (truths : List Bool) where
  -- a node has the truth of that child to which the truth of its variable leads
  by_child : (b : Bool) → truth_of truths n.variable ≡ b → (c : Ref) → c ≡ (if b then n.high else n.low) → (t : Bool) → IsRefOf nodes (λ _. t) c → test nodes r truths ≡ t
  by_child b at c child t leaf = sym ((IsSide-child nodes reduced r held n is b c child).function truths at) ∙ leaf.function truths

  pub is_variable : IsRefOf nodes (λ _. false) n.low → IsRefOf nodes (λ _. true) n.high → test nodes r truths ≡ truth_of truths n.variable
  is_variable low high = by (truth_of truths n.variable) refl where
    by : (b : Bool) → truth_of truths n.variable ≡ b → test nodes r truths ≡ truth_of truths n.variable
    by true at = by_child true at n.high refl true high ∙ sym at
    by false at = by_child false at n.low refl false low ∙ sym at

  pub is_other : IsRefOf nodes (λ _. true) n.low → IsRefOf nodes (λ _. false) n.high → test nodes r truths ≡ not (truth_of truths n.variable)
  is_other low high = by (truth_of truths n.variable) refl where
    by : (b : Bool) → truth_of truths n.variable ≡ b → test nodes r truths ≡ not (truth_of truths n.variable)
    by true at = by_child true at n.high refl false high ∙ ap not (sym at)
    by false at = by_child false at n.low refl true low ∙ ap not (sym at)

-- what a test tells of what is left of a guard, it tells of the guard
module _ (scope : Scope) (known : Known) (guard : Ref) where
  pub test_narrowed : (left : Narrowed) → IsNarrowed scope.nodes known guard left → (t : Test) → IsTest scope left.known left.guard t → IsTest scope known guard t
  test_narrowed left narrowed t is = record {
    asks = is.asks;
    tells = λ registers on.
        subst (λ b. IfSome (told_by t registers) (λ holds. holds ≡ b)) (narrowed.same (truths_of scope.conditions registers) on)
        (is.tells registers (narrowed.has (truths_of scope.conditions registers) on));
  }

  pub test_always : IsTold scope.nodes known (record { guard = guard; truth = true }) → IsTest scope known guard Test.Always
  test_always told = record {
    asks = tt;
    tells = λ registers on. sym (told (truths_of scope.conditions registers) on);
  }

  pub test_is : (x : SigId) → (x.0 < scope.signals) × ((registers : Registers) → holds_by scope guard registers ≡ is_true (registers x.0)) → IsTest scope known guard (Test.Is x)
  test_is x told = record { asks = told.0; tells = λ registers on. sym (told.1 registers) }

  pub test_is_not : (x : SigId) → (x.0 < scope.signals) × ((registers : Registers) → holds_by scope guard registers ≡ not (is_true (registers x.0))) → IsTest scope known guard (Test.IsNot x)
  test_is_not x told = record { asks = told.0; tells = λ registers on. sym (told.1 registers) }

  pub test_walk : IsTest scope known guard Test.Walk
  test_walk = record { asks = tt; tells = λ registers on. tt }

  pub test_end : IsTest scope known guard Test.End
  test_end = record { asks = tt; tells = λ registers on. tt }

-- a test that is not the end
pub no_end : (t : Test) → (t ≡ Test.End → ⊥) → is_end t ≡ false
no_end Test.End other = absurd (other refl)
no_end any other = refl

-- a guard whose node leads to constants alone
module _ (scope : Scope) (reduced : IsReduced scope.nodes) (among : AreBelow scope.signals scope.conditions) (guard : Ref) (held : Holds scope.nodes guard)
    (told : (v : ℕ) → Depends (test scope.nodes guard) v → v < length scope.conditions) (n : Node) (is : Some n ≡ node_of scope.nodes guard) where
  pub variable_there : n.variable < length scope.conditions
  variable_there = variable_within scope.nodes reduced guard held n is (length scope.conditions) told

  abbrev pub condition : SigId
  condition = slice_index_or scope.conditions n.variable (record { 0 = 0 })

  below : condition.0 < scope.signals
  below = among n.variable condition (condition_at scope.conditions n.variable (record { 0 = 0 }) variable_there)

  pub told_plain : IsRefOf scope.nodes (λ _. false) n.low → IsRefOf scope.nodes (λ _. true) n.high
      → (condition.0 < scope.signals)
      × ((registers : Registers) → test scope.nodes guard (truths_of scope.conditions registers) ≡ is_true (registers condition.0))
  told_plain low high = (
    below,
    λ registers.
        is_variable scope.nodes reduced guard held n is (truths_of scope.conditions registers) low high
        ∙ truth_at scope.conditions registers n.variable (record { 0 = 0 }) variable_there,
  )

  pub told_turned : IsRefOf scope.nodes (λ _. true) n.low → IsRefOf scope.nodes (λ _. false) n.high
      → (condition.0 < scope.signals)
      × ((registers : Registers) → test scope.nodes guard (truths_of scope.conditions registers) ≡ not (is_true (registers condition.0)))
  told_turned low high = (
    below,
    λ registers.
        is_other scope.nodes reduced guard held n is (truths_of scope.conditions registers) low high
        ∙ ap not (truth_at scope.conditions registers n.variable (record { 0 = 0 }) variable_there),
  )

  -- the function of the child to which a truth leads
  abbrev pub child : Bool → Ref
  child b = if b then n.high else n.low

  side : (b : Bool) → IsSide scope.nodes guard n.variable b (child b)
  side b = IsSide-child scope.nodes reduced guard held n is b (child b) refl

  pub child_held : (b : Bool) → Holds scope.nodes (child b)
  child_held b = (side b).holds

  pub child_told : (b : Bool) (v : ℕ) → Depends (test scope.nodes (child b)) v → v < length scope.conditions
  child_told b v depends =
      told v (Depends-Tests scope.nodes reduced guard held v
      ((side b).tests v (Tests-Depends scope.nodes reduced (child b) (side b).holds v depends)))

  module _ (registers : Registers) where
    abbrev truths : List Bool
    truths = truths_of scope.conditions registers

    known : truth_of truths n.variable ≡ is_true (registers condition.0)
    known = truth_at scope.conditions registers n.variable (record { 0 = 0 }) variable_there

    joined_at : (b : Bool) (otherwise : Bool) → IsRefOf scope.nodes (λ _. otherwise) (child (not b)) → (z : Bool) → is_true (registers condition.0) ≡ z
        → test scope.nodes guard truths ≡ (if (if b then z else not z) then test scope.nodes (child b) truths else otherwise)
    joined_at true otherwise leaf true one = sym ((side true).function truths (known ∙ one))
    joined_at true otherwise leaf false one = sym ((side false).function truths (known ∙ one)) ∙ leaf.function truths
    joined_at false otherwise leaf true one = sym ((side true).function truths (known ∙ one)) ∙ leaf.function truths
    joined_at false otherwise leaf false one = sym ((side false).function truths (known ∙ one))

  pub joined_node : (b otherwise : Bool) → IsRefOf scope.nodes (λ _. otherwise) (child (not b)) → (literal : Literal) → literal ≡ record { signal = condition; positive = b }
      → IsJoined scope guard (record { literal = literal; rest = child b; otherwise = otherwise })
  joined_node b otherwise leaf literal is = subst (λ (l : Literal). IsJoined scope guard (record { literal = l; rest = child b; otherwise = otherwise })) (sym is) (record {
    asks = below;
    held = child_held b;
    told = child_told b;
    value = λ registers. joined_at registers b otherwise leaf (is_true (registers condition.0)) refl;
  })
