use Rattle.sig_solve.proofs.{◌≡◌, ◌↔◌, Bool, List, true, subst, sym, IsTrue, is_present, test, Ref, reading, imaged, present_over, says_present}
use Rattle.sig_solve.proofs.asked.Asked.where_present.Goals as goal

pub image-requires-clause-part : goal.image-requires-clause-part
image-requires-clause-part c = present_over c.args.store.now c.args.self.now c.requires.asked c.args.signal c.requires.signal c.presence-present.result c.presence-present.ensures

pub returns-clause-value : goal.returns-clause-value
returns-clause-value c =
    imaged c.args.store.now c.args.self.now c.requires.asked c.presence-present.result (λ reaction. is_present reaction c.args.signal ≡ true)
    (subst (λ (r : Ref). (ts : List Bool) → IsTrue (test c.args.store.now.nodes r ts) ↔ (is_present (reading c.args.store.now.nodes c.args.self.now.system ts) c.args.signal ≡ true)) (sym c.presence-present.ensures)
    (says_present c.args.store.now c.args.self.now c.requires.asked c.args.signal c.requires.signal))
    c.image.new.store c.image.ensures.kept c.args.forgotten.now c.image.result c.image.ensures.over c.image.ensures.value
