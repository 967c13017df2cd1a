use Rattle.sig_verify.proofs.{[], ◌∷◌, ◌&&◌, call_follows, call_refused, two_made}
use Rattle.sig_verify.proofs.diagrams.Diagrams.both.Goals as goal

pub returns-clause-next : goal.returns-clause-next
returns-clause-next c =
    call_follows c.args.self.now c.count.new.self c.requires.right c.in_ok-count.ensures.store c.in_ok-count.ensures.conditions c.in_ok-count.ensures.counted
    c.conj.new.self c.conj.ensures.store c.conj.ensures.kept c.conj.result (c.args.f ∷ c.args.g ∷ []) [] c.conj.ensures.spends (c.requires.f.spans, (c.requires.g.spans, tt)) tt

pub returns-clause-value : goal.returns-clause-value
returns-clause-value c =
    two_made c.args.self.now c.count.new.self c.requires.right c.in_ok-count.ensures.store c.in_ok-count.ensures.conditions c.in_ok-count.ensures.counted
    (λ a b. a && b) c.args.f c.args.g c.requires.f c.requires.g c.conj.new.self c.conj.result c.conj.ensures.value

pub returns-clause-refused : goal.returns-clause-refused
returns-clause-refused c =
    call_refused c.args.self.now c.count.new.self c.requires.right c.in_ok-count.ensures.store c.in_ok-count.ensures.conditions c.in_ok-count.ensures.counted
    c.conj.new.self c.conj.ensures.store c.conj.ensures.kept c.conj.result (c.args.f ∷ c.args.g ∷ []) [] c.conj.ensures.spends (c.requires.f.spans, (c.requires.g.spans, tt)) tt
