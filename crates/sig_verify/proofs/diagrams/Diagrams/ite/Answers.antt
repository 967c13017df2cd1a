use Rattle.sig_verify.proofs.{[], ◌∷◌, call_follows, call_refused, ite_made}
use Rattle.sig_verify.proofs.diagrams.Diagrams.ite.Goals as goal

pub returns-clause-next : goal.returns-clause-next
returns-clause-next c =
    call_follows c.args.self.now c.count.new.self c.requires.right c.in_ok-count.ensures.store c.in_ok-count.ensures.conditions c.in_ok-count.ensures.counted
    c.ite.new.self c.ite.ensures.store c.ite.ensures.kept c.ite.result (c.args.f ∷ c.args.g ∷ c.args.h ∷ []) [] c.ite.ensures.spends
    (c.requires.f.spans, (c.requires.g.spans, (c.requires.h.spans, tt))) tt

pub returns-clause-value : goal.returns-clause-value
returns-clause-value c =
    ite_made c.args.self.now c.count.new.self c.requires.right c.in_ok-count.ensures.store c.in_ok-count.ensures.conditions c.in_ok-count.ensures.counted
    c.args.f c.args.g c.args.h c.requires.f c.requires.g c.requires.h c.ite.new.self c.ite.result c.ite.ensures.value

pub returns-clause-refused : goal.returns-clause-refused
returns-clause-refused c =
    call_refused c.args.self.now c.count.new.self c.requires.right c.in_ok-count.ensures.store c.in_ok-count.ensures.conditions c.in_ok-count.ensures.counted
    c.ite.new.self c.ite.ensures.store c.ite.ensures.kept c.ite.result (c.args.f ∷ c.args.g ∷ c.args.h ∷ []) [] c.ite.ensures.spends
    (c.requires.f.spans, (c.requires.g.spans, (c.requires.h.spans, tt))) tt
