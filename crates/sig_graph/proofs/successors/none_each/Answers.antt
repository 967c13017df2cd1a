use Rattle.sig_graph.proofs.{ℕ, [], ◌∷◌, ◌++◌, sym, ap, subst, ◌∙◌, ◌≡◌, List, length, arith, get_or, length_push, occurs, empty_more}
use Rattle.sig_graph.proofs.successors.none_each.Goals as goal

pub loop-preserved : goal.loop-preserved
loop-preserved c =
    let n = c.loop.invariant.count in
    record {
      count = ap length c.in_ok-push.ensures.items ∙ length_push c.loop.lists.items c.new.result ∙ omega (arith, n);
      none = subst (λ (lists : List (List ℕ)). (p : ℕ) → get_or lists p [] ≡ []) (sym (c.in_ok-push.ensures.items ∙ ap (λ (list : List ℕ). c.loop.lists.items ++ list ∷ []) c.new.ensures)) (empty_more c.loop.lists.items c.loop.invariant.none);
    }

pub returns : goal.returns
returns c =
    let n = c.loop.invariant.count in
    let last = c.loop-test.false in
    let most = c.loop.auto.counter-end in
    record {
      all = omega (arith, n, last, most);
      each = λ p q within. ap (occurs q) (c.loop.invariant.none p);
    }
