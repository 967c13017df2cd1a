use Rattle.sig_dd.proofs.{ℕ, List, [], ◌∷◌, ◌++◌, ◌≡◌, ◌∙◌, sym, ap, subst, arith, length, length_push, get_or, empty_more}
use Rattle.sig_dd.proofs.supports.none_each.Goals as goal

pub loop-preserved : goal.loop-preserved
loop-preserved c =
    let n = c.loop.invariant.count in
    record {
      count = ap length c.in_ok-push.ensures.items ∙ length_push c.loop.lists.items c.new.result ∙ omega (arith, n);
      empty = subst (λ (lists : List (List ℕ)). (i : ℕ) → get_or lists i [] ≡ []) (sym (c.in_ok-push.ensures.items ∙ ap (λ (list : List ℕ). c.loop.lists.items ++ list ∷ []) c.new.ensures)) (empty_more c.loop.lists.items c.loop.invariant.empty);
    }
