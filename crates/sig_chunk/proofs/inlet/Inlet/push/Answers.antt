use Rattle.std.proofs.Common.{◌+◌, ◌∙◌, ◌++◌, ◌∷◌, ℤ, [], take, ap, rules}
use Rattle.sig_link.specs.Ends as link
use Rattle.sig_chunk.specs.Chunks.{items_in}
use Rattle.sig_chunk.specs.Ends.{held}
use Rattle.sig_chunk.specs.declared.inlet.Inlet.{Inlet}
use Rattle.sig_chunk.proofs.ChunkLemmas.{handed_with}
use Rattle.sig_chunk.proofs.inlet.Inlet.push.Goals as goal

pub returns-clause-ok : goal.returns-clause-ok
returns-clause-ok g c =
    let noted = c.note.ensures.rest in
    handed_with (link.sent c.note.new.self.put) (link.sent c.push.new.self) _ (held c.args.self.now) c.args.item c.in_ok-push.ensures.ok
    (ap (λ (i : Inlet). take (i.count + 1) c.note.new.self.items) noted ∙ c.note.ensures.items
    ∙ ap (λ (x : ℤ). held c.args.self.now ++ x ∷ []) (search rules))
    ∙ ap (λ (i : Inlet). (items_in (link.sent i.put) ++ held c.args.self.now) ++ c.args.item ∷ []) noted
