use Rattle.sig_parse.proofs.{◌++◌, ap, sym, ◌∙◌, Vec, Global, option_to_list, append-nil}
use Rattle.sig_parse.specs.declared.leaf.Leaf.{Leaf}
use Rattle.sig_parse.proofs.LeafLists.{one_more}
use Rattle.sig_parse.proofs.leaf.leaves.Goals as goal
use Rattle.sig_parse.proofs.leaf.leaves.Goals.{in-Some+in_ok-push, in_default}

pub loop-token-preserved : goal.loop-token-preserved
loop-token-preserved c = one_more c.args.bytes.now c.args.tokens.now c.loop-token.token-index _ c.leaf_at.result c.loop-token.leaves.items _ c.loop-token-test.true c.leaf_at.ensures c.loop-token.invariant
    (elim c.match-leaf_at.branch [
      | in-Some+in_ok-push w ↦ ap (λ (v : Vec Leaf Global). v.items) w.leaves-is ∙ w.in_ok-push.ensures.items ∙ ap (λ o. c.loop-token.leaves.items ++ option_to_list o) (sym w.in-Some.is)
      | in_default w ↦ ap (λ (v : Vec Leaf Global). v.items) w.leaves-is ∙ sym (append-nil c.loop-token.leaves.items) ∙ ap (λ o. c.loop-token.leaves.items ++ option_to_list o) (sym w.in_default.is)
    ])
