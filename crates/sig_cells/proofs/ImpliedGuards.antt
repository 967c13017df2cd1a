-- What one guard tells of another.
use Rattle.sig_cells.proofs.Common.{◌≡◌, ◌∙◌, ℕ, Bool, true, false, not, List, Some, refl, sym, ap, if◌then◌else◌, Depends-Tests, HasTruth, Holds, IsFurther, IsGuardOn, IsPairOn, IsReduced, IsSide-child, IsTold, LeadsOn, Node, Pair, Ref, Tests-Depends, Way, node_of, test, truth_of}

no_both : (b : Bool) → not b ≡ b → ⊥
no_both true is = let e : false ≡ true = is in cc
no_both false is = let e : true ≡ false = is in cc

module _ (nodes : List Node) where
  -- what is told on both sides of a variable
  pub both_sides : (pair low high : Pair) (v : ℕ) (a b : Way) → a.variable ≡ v → a.truth ≡ false → b.variable ≡ v → b.truth ≡ true
      → IsPairOn nodes pair a low → IsPairOn nodes pair b high → IsTold nodes low.known low.told → IsTold nodes high.known high.told → IsTold nodes pair.known pair.told
  both_sides pair low high v a b a_is a_low b_is b_high on_low on_high told_low told_high = λ truths has. by truths has (truth_of truths v) refl where
    one : (left : Pair) (way : Way) → IsPairOn nodes pair way left → IsTold nodes left.known left.told → (truths : List Bool) → LeadsOn way truths → HasTruth nodes pair.known truths
        → HasTruth nodes pair.told truths
    one left way on told truths leads has =
        sym (on.told.same truths leads) ∙ told truths (on.known.same truths leads ∙ has ∙ sym on.known_truth) ∙ on.told_truth

    by : (truths : List Bool) → HasTruth nodes pair.known truths → (b : Bool) → truth_of truths v ≡ b → HasTruth nodes pair.told truths
    by truths has true at = one high b on_high told_high truths (ap (truth_of truths) b_is ∙ at ∙ sym b_high) has
    by truths has false at = one low a on_low told_low truths (ap (truth_of truths) a_is ∙ at ∙ sym a_low) has

  -- so a pair is told where one of its sides is told and the other one is
  pub high_further : (pair low high : Pair) (v : ℕ) (a b : Way) → a.variable ≡ v → a.truth ≡ false → b.variable ≡ v → b.truth ≡ true
      → IsPairOn nodes pair a low → IsPairOn nodes pair b high → IsTold nodes low.known low.told → IsFurther nodes pair high
  high_further pair low high v a b a_is a_low b_is b_high on_low on_high told = record {
    known = on_high.known.held;
    told = on_high.told.held;
    leads = λ other. both_sides pair low high v a b a_is a_low b_is b_high on_low on_high told other;
  }

  pub low_further : (pair low high : Pair) (v : ℕ) (a b : Way) → a.variable ≡ v → a.truth ≡ false → b.variable ≡ v → b.truth ≡ true
      → IsPairOn nodes pair a low → IsPairOn nodes pair b high → IsTold nodes high.known high.told → IsFurther nodes pair low
  low_further pair low high v a b a_is a_low b_is b_high on_low on_high told = record {
    known = on_low.known.held;
    told = on_low.told.held;
    leads = λ other. both_sides pair low high v a b a_is a_low b_is b_high on_low on_high other told;
  }

  module _ (reduced : IsReduced nodes) (guard : Ref) (held : Holds nodes guard) (n : Node) (is : Some n ≡ node_of nodes guard) where
    pub child_on : (way : Way) → n.variable ≡ way.variable → (c : Ref) → c ≡ (if way.truth then n.high else n.low) → IsGuardOn nodes guard way c
    child_on way same c child =
        let side = IsSide-child nodes reduced guard held n is way.truth c child in
        record {
          held = side.holds;
          depends = λ v depends. Depends-Tests nodes reduced guard held v (side.tests v (Tests-Depends nodes reduced c side.holds v depends));
          same = λ truths leads. side.function truths (ap (truth_of truths) same ∙ leads);
        }

    -- the truth of the variable of a guard that is another constant on one side
    pub needs_high : (way : Way) → way.variable ≡ n.variable → way.truth ≡ true → (t : Bool) → ((truths : List Bool) → test nodes n.low truths ≡ not t)
        → (truths : List Bool) → test nodes guard truths ≡ t → LeadsOn way truths
    needs_high way same is_true t never truths has = ap (truth_of truths) same ∙ by (truth_of truths n.variable) refl ∙ sym is_true where
      by : (b : Bool) → truth_of truths n.variable ≡ b → b ≡ true
      by true at = refl
      by false at = absurd (no_both t (sym (never truths) ∙ (IsSide-child nodes reduced guard held n is false n.low refl).function truths at ∙ has))

    pub needs_low : (way : Way) → way.variable ≡ n.variable → way.truth ≡ false → (t : Bool) → ((truths : List Bool) → test nodes n.high truths ≡ not t)
        → (truths : List Bool) → test nodes guard truths ≡ t → LeadsOn way truths
    needs_low way same is_false t never truths has = ap (truth_of truths) same ∙ by (truth_of truths n.variable) refl ∙ sym is_false where
      by : (b : Bool) → truth_of truths n.variable ≡ b → b ≡ false
      by false at = refl
      by true at = absurd (no_both t (sym (never truths) ∙ (IsSide-child nodes reduced guard held n is true n.high refl).function truths at ∙ has))
