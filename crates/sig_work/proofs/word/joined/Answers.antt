use Rattle.sig_work.proofs.{◌≡◌, ◌++◌, ◌∷◌, [], ◌∙◌, ap, List, append_assoc, rules, joined_more, Share}
use Rattle.sig_work.proofs.word.joined.Goals as goal

pub loop-share-preserved : goal.loop-share-preserved
loop-share-preserved c =
    let last : c.loop-share.shares.items ≡ c.pop.new.self.items ++ c.in-Some.share ∷ [] = search rules in (
      search rules,
      c.in-Some.share ∷ c.loop-share.invariant.1,
      c.loop-share.invariant.2 ∙ ap (λ (xs : List Share). xs ++ c.loop-share.invariant.1) last ∙ append_assoc c.pop.new.self.items (c.in-Some.share ∷ []) c.loop-share.invariant.1,
      joined_more c.args.seat c.loop-share.seat c.join.new.self c.loop-share.invariant.1 c.in-Some.share c.loop-share.invariant.3 c.join.ensures.parts c.join.ensures.recorded c.join.ensures.seen,
    )
