use Rattle.sig_judge.proofs.{◌≡◌, ◌<◌, ◌≤◌, ◌⊎◌, true, false, List, None, Some, length, map, take, get_or, sym, ap, subst, ◌∙◌, arith, inr, get_or-set_other, length-map, take_all, length-set, get_or-map, AllZip, FlatExpression, HasPresence, node_expression, Node, AgreesWith, none_agrees, disagreed, all_agree, one_more, zip_more, zip_same}
use Rattle.sig_judge.proofs.equation.agree.Goals as goal

pub returns-in_default : goal.returns-in_default
returns-in_default c =
    let was : c.index_mut.result.now ≡ get_or c.args.operands.now.items c.loop-i.i c.index_mut.result.now = c.index_mut.ensures.value ∙ c.loop-i.invariant.rest c.loop-i.i c.index_mut.result.now (omega arith) in
    let within : c.loop-i.i < length (map node_expression c.args.operands.now.items) = omega (arith, length-map c.args.operands.now.items node_expression) in
    let at = get_or-map node_expression c.args.operands.now.items c.loop-i.i c.index_mut.result.now in
    none_agrees c.args.row.now (map node_expression c.args.operands.now.items) c.loop-i.i (node_expression c.index_mut.result.now) within
    (λ p other h. c.in_default.ensures p other (subst (λ (e : FlatExpression). HasPresence c.args.row.now p e other) (at ∙ ap node_expression (sym was)) h))

pub returns-then-not-agrees : goal.returns-then-not-agrees
returns-then-not-agrees c =
    let was : c.index_mut.result.now ≡ get_or c.args.operands.now.items c.loop-i.i c.index_mut.result.now = c.index_mut.ensures.value ∙ c.loop-i.invariant.rest c.loop-i.i c.index_mut.result.now (omega arith) in
    let within : c.loop-i.i < length (map node_expression c.args.operands.now.items) = omega (arith, length-map c.args.operands.now.items node_expression) in
    let at = get_or-map node_expression c.args.operands.now.items c.loop-i.i c.index_mut.result.now in
    disagreed c.args.row.now node_expression c.args.operands.now.items c.loop-i.operands.items c.loop-i.i c.index_mut.result.now c.loop-i.agreed c.in-Some.present within
    c.loop-i.invariant.some c.loop-i.invariant.done
    (λ p other h. c.in-Some.ensures.1 p other (subst (λ (e : FlatExpression). HasPresence c.args.row.now p e other) (at ∙ ap node_expression (sym was)) h))
    (λ h. let yes : c.agrees.result ≡ true = c.agrees.ensures.1 h in let no : c.agrees.result ≡ false = c.if-not-agrees.true in cc)

pub loop-i-preserved : goal.loop-i-preserved
loop-i-preserved c =
    let was : c.index_mut.result.now ≡ get_or c.args.operands.now.items c.loop-i.i c.index_mut.result.now = c.index_mut.ensures.value ∙ c.loop-i.invariant.rest c.loop-i.i c.index_mut.result.now (omega arith) in
    let choice : (c.loop-i.agreed ≡ None) ⊎ (c.loop-i.agreed ≡ Some c.in-Some.present) = c.agrees.ensures.0 c.if-not-agrees.false in
    let within : c.loop-i.i < length c.args.operands.now.items = omega arith in
    let below : c.loop-i.i < length c.loop-i.operands.items = omega arith in
    record {
      same = length-set c.loop-i.operands.items c.loop-i.i c.presence.new.e ∙ c.loop-i.invariant.same;
      some = inr (omega arith);
      done = zip_more node_expression (AgreesWith c.args.row.now (Some c.in-Some.present)) c.args.operands.now.items c.loop-i.operands.items c.loop-i.i c.index_mut.result.now c.presence.new.e
          (zip_same (AgreesWith c.args.row.now c.loop-i.agreed) (AgreesWith c.args.row.now (Some c.in-Some.present)) (λ e n h. one_more c.args.row.now c.loop-i.agreed c.in-Some.present choice e n h)
          (map node_expression (take c.loop-i.i c.args.operands.now.items)) (map node_expression (take c.loop-i.i c.loop-i.operands.items)) c.loop-i.invariant.done)
          within below
          (subst (λ (n : Node). AgreesWith c.args.row.now (Some c.in-Some.present) (node_expression n) (node_expression c.presence.new.e)) was c.in-Some.ensures);
      rest = λ k d le. get_or-set_other c.loop-i.operands.items c.loop-i.i k c.presence.new.e d (omega arith) ∙ c.loop-i.invariant.rest k d (omega arith);
    }

pub returns : goal.returns
returns c =
    let first : length c.args.operands.now.items ≤ c.loop-i.i = omega arith in
    let second : length c.loop-i.operands.items ≤ c.loop-i.i = omega arith in
    all_agree c.args.row.now c.loop-i.agreed (map node_expression c.args.operands.now.items) (map node_expression c.loop-i.operands.items)
    (subst (λ (xs : List Node). AllZip (AgreesWith c.args.row.now c.loop-i.agreed) (map node_expression xs) (map node_expression c.loop-i.operands.items)) (take_all c.loop-i.i c.args.operands.now.items first)
    (subst (λ (ys : List Node). AllZip (AgreesWith c.args.row.now c.loop-i.agreed) (map node_expression (take c.loop-i.i c.args.operands.now.items)) (map node_expression ys)) (take_all c.loop-i.i c.loop-i.operands.items second) c.loop-i.invariant.done))
