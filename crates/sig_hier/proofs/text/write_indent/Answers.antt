use Rattle.sig_hier.proofs.{◌++◌, [], ◌∷◌, ap, ◌∙◌, indent_more}
use Rattle.sig_hier.proofs.text.write_indent.Goals as goal

pub loop-level-preserved : goal.loop-level-preserved
loop-level-preserved c =
    c.in_ok-extend_from_slice.ensures.items ∙ ap (λ xs. xs ++ (32 ∷ 32 ∷ [])) c.loop-level.invariant ∙ indent_more c.args.text.now.items c.loop-level._level
