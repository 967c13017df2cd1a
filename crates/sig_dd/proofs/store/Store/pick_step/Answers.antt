use Rattle.sig_dd.proofs.{◌≡◌, ℕ, Bool, true, false, List, ◌⊎◌, Some, refl, sym, ◌∙◌, arith, eqb-true, eqb-false, Holds, node_of, IsReduced, IsOperand, earlier_of, side_of, AllStartFrom, HasVariable, HoldsAll, IsSide, IsStep, Ref, Node, Operand, Question, Pick, Known, Open, ref_same, constant_below, HasVariable-node, node_numbered_at, IsEarlier, earlier_is, side_is, IsEasier, easier, easier_step, answer_true, answer_false, answer_same, answer_itself, pick_starts, sides_split}
use Rattle.sig_dd.proofs.Easier.{known_true, known_false}
use Rattle.sig_dd.proofs.store.Store.pick_step.Goals as goal

pub returns-then-eq-clause-step : goal.returns-then-eq-clause-step
returns-then-eq-clause-step c =
    answer_true c.args.self.now.nodes c.args.f c.args.g c.args.h (eqb-true _ _ (sym c.if-eq.ensures)) c.requires.1

pub returns-else-eq-clause-step : goal.returns-else-eq-clause-step
returns-else-eq-clause-step c =
    let below = constant_below c.args.self.now.nodes c.operand-first.ensures.store.reduced c.args.f c.requires.0 (sym c.in_default.is ∙ c.operand-first.ensures.operand.node) in
    let apart = eqb-false _ _ (sym c.if-eq.ensures) in
    answer_false c.args.self.now.nodes c.args.f c.args.g c.args.h (omega arith) c.requires.2

module _ (nodes : List Node) (reduced : IsReduced nodes) (f g h i j : Ref) (held : HoldsAll nodes (Pick f g h)) (n : Node) (is : Some n ≡ node_of nodes f)
    (second : ((g ≡ f) × (i ≡ record { number = 1 })) ⊎ (i ≡ g)) (third : ((h ≡ f) × (j ≡ record { number = 0 })) ⊎ (j ≡ h)) where
  -- constants in place of the first function make an easier question
  short : IsEasier nodes (Pick f g h) (Pick f i j)
  short =
      let above = node_numbered_at nodes reduced f held.0 n is in
      easier nodes f above g h i j held (known_true nodes f above g i _ refl second) (known_false nodes f above h j _ refl third)

  same : i ≡ j → IsStep nodes (Pick f g h) (Known i)
  same e = easier_step nodes (Pick f g h) (Pick f i j) short (Known i) (answer_same nodes f i j e short.holds.1)

  itself : i.number ≡ 1 → j.number ≡ 0 → IsStep nodes (Pick f g h) (Known f)
  itself e z = easier_step nodes (Pick f g h) (Pick f i j) short (Known f) (answer_itself nodes f i j e z held.0)

  module _ (a b c : Operand) (is_a : IsOperand nodes f a) (is_b : IsOperand nodes i b) (is_c : IsOperand nodes j c) (u v : ℕ) (u_is : u ≡ earlier_of b.node n.variable) (v_is : v ≡ earlier_of c.node u)
      (low high : Question) (low_is : low ≡ Pick (side_of a.node a.reference v false) (side_of b.node b.reference v false) (side_of c.node c.reference v false))
      (high_is : high ≡ Pick (side_of a.node a.reference v true) (side_of b.node b.reference v true) (side_of c.node c.reference v true)) where
    held_i : Holds nodes i
    held_i = short.holds.1

    held_j : Holds nodes j
    held_j = short.holds.2

    has : HasVariable nodes f n.variable
    has = HasVariable-node nodes reduced f held.0 n is

    early_i : IsEarlier nodes reduced i held_i n.variable u
    early_i = earlier_is nodes reduced i held_i b is_b n.variable u u_is

    early_j : IsEarlier nodes reduced j held_j u v
    early_j = earlier_is nodes reduced j held_j c is_c u v v_is

    starts : AllStartFrom nodes v (Pick f i j)
    starts = pick_starts nodes reduced f i j held.0 held_i held_j n.variable u v has early_i.at_most early_i.starts early_i.one_of early_j.at_most early_j.starts early_j.one_of

    side_a : (x : Bool) → IsSide nodes f v x (side_of a.node a.reference v x)
    side_a x = side_is nodes reduced f held.0 a is_a v x starts.0 _ refl

    side_b : (x : Bool) → IsSide nodes i v x (side_of b.node b.reference v x)
    side_b x = side_is nodes reduced i held_i b is_b v x starts.1 _ refl

    side_c : (x : Bool) → IsSide nodes j v x (side_of c.node c.reference v x)
    side_c x = side_is nodes reduced j held_j c is_c v x starts.2 _ refl

    open_step : IsStep nodes (Pick f g h) (Open (record { variable = v; low = low; high = high }))
    open_step = easier_step nodes (Pick f g h) (Pick f i j) short (Open (record { variable = v; low = low; high = high }))
        (sides_split nodes reduced f i j held.0 held_i held_j n.variable u v has early_i.at_most early_i.starts early_i.one_of early_j.at_most early_j.starts early_j.one_of
        _ _ _ _ _ _ low high low_is high_is (side_a false) (side_b false) (side_c false) (side_a true) (side_b true) (side_c true))

pub returns-then-eq-2-clause-step : goal.returns-then-eq-2-clause-step
returns-then-eq-2-clause-step c =
    same c.args.self.now.nodes c.operand-first.ensures.store.reduced c.args.f c.args.g c.args.h c.unless-g.result c.unless-h.result c.requires c.in-Some.top (sym c.in-Some.is ∙ c.operand-first.ensures.operand.node)
    c.unless-g.ensures c.unless-h.ensures (ref_same c.unless-g.result c.unless-h.result c.if-eq-2.ensures)

pub returns-then-eq-4-clause-step : goal.returns-then-eq-4-clause-step
returns-then-eq-4-clause-step c =
    itself c.args.self.now.nodes c.operand-first.ensures.store.reduced c.args.f c.args.g c.args.h c.unless-g.result c.unless-h.result c.requires c.in-Some.top (sym c.in-Some.is ∙ c.operand-first.ensures.operand.node)
    c.unless-g.ensures c.unless-h.ensures (eqb-true _ _ (sym c.if-eq-3.ensures)) (eqb-true _ _ (sym c.if-eq-4.ensures))

pub returns-clause-step : goal.returns-clause-step
returns-clause-step c =
    open_step c.args.self.now.nodes c.operand-first.ensures.store.reduced c.args.f c.args.g c.args.h c.unless-g.result c.unless-h.result c.requires c.in-Some.top (sym c.in-Some.is ∙ c.operand-first.ensures.operand.node)
    c.unless-g.ensures c.unless-h.ensures c.operand-first.result c.operand-second.result c.operand-third.result
    c.operand-first.ensures.operand c.operand-second.ensures.operand c.operand-third.ensures.operand c.earlier.result c.earlier-variable.result c.earlier.ensures c.earlier-variable.ensures
    c.pick_side.result c.pick_side-2.result c.pick_side.ensures c.pick_side-2.ensures
