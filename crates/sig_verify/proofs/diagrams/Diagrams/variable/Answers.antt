use Rattle.sig_verify.proofs.{[], ◌∷◌, call_follows, call_refused, is_variable, variable_made}
use Rattle.sig_verify.proofs.diagrams.Diagrams.variable.Goals as goal

pub returns-clause-next : goal.returns-clause-next
returns-clause-next c =
    call_follows c.args.self.now c.count.new.self c.requires.right c.in_ok-count.ensures.store c.in_ok-count.ensures.conditions c.in_ok-count.ensures.counted
    c.variable.new.self c.variable.ensures.store c.variable.ensures.kept c.variable.result [] (c.args.v ∷ []) c.variable.ensures.spends
    tt (is_variable c.args.self.now.conditions c.args.v c.requires.v, tt)

pub returns-clause-value : goal.returns-clause-value
returns-clause-value c =
    variable_made c.args.self.now c.count.new.self c.requires.right c.in_ok-count.ensures.store c.in_ok-count.ensures.conditions c.in_ok-count.ensures.counted
    c.args.v c.requires.v c.variable.new.self c.variable.result c.variable.ensures.value

pub returns-clause-refused : goal.returns-clause-refused
returns-clause-refused c =
    call_refused c.args.self.now c.count.new.self c.requires.right c.in_ok-count.ensures.store c.in_ok-count.ensures.conditions c.in_ok-count.ensures.counted
    c.variable.new.self c.variable.ensures.store c.variable.ensures.kept c.variable.result [] (c.args.v ∷ []) c.variable.ensures.spends
    tt (is_variable c.args.self.now.conditions c.args.v c.requires.v, tt)
