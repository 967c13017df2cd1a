use Rattle.sig_rel.proofs.{Ok, sym, subst, is_some, Adds, count_one, AreVariables, IsVariableAt, adds_none, adds_variable, variable_refused, no_variable, one_variable}
use Rattle.sig_rel.proofs.substitution.Columns.set_variable.Goals as goal

pub returns-in_err-value-in-Some-clause-adds : goal.returns-in_err-value-in-Some-clause-adds
returns-in_err-value-in-Some-clause-adds c =
    subst (λ o. Adds (count_one (is_some o)) c.args.store.now c.variable.new.self c.from_residual.result) (sym c.in-Some.is)
    (variable_refused c.in-Some.v c.args.store.now c.variable.new.self c.in_err-value-in-Some.ensures.store c.in_err-value-in-Some.ensures.kept c.in_err-value-in-Some.field-0.0 c.from_residual.result c.in_err-value-in-Some.ensures.spends c.from_residual.ensures.1)

pub returns-in_ok-value-in-Some-clause-adds : goal.returns-in_ok-value-in-Some-clause-adds
returns-in_ok-value-in-Some-clause-adds c =
    subst (λ o. Adds (count_one (is_some o)) c.args.store.now c.variable.new.self (Ok tt)) (sym c.in-Some.is)
    (adds_variable c.in-Some.v c.args.store.now c.variable.new.self c.in_ok-value-in-Some.ensures.store c.in_ok-value-in-Some.ensures.kept c.in_ok-value-in-Some.ensures.spends)

pub returns-in_ok-value-in-Some-clause-set : goal.returns-in_ok-value-in-Some-clause-set
returns-in_ok-value-in-Some-clause-set c =
    subst (λ o. AreVariables c.variable.new.self.nodes (IsVariableAt c.args.element o) c.args.self.now c.set.new.self) (sym c.in-Some.is)
    (one_variable c.variable.new.self.nodes c.args.self.now c.set.new.self c.args.element c.in-Some.v c.in_ok-value-in-Some.value c.set.ensures c.in_ok-value-in-Some.ensures.value)

pub returns-in-None-clause-adds : goal.returns-in-None-clause-adds
returns-in-None-clause-adds c =
    subst (λ o. Adds (count_one (is_some o)) c.args.store.now c.args.store.now (Ok tt)) (sym c.in-None.is) (adds_none c.args.store.now c.requires.store)

pub returns-in-None-clause-set : goal.returns-in-None-clause-set
returns-in-None-clause-set c = no_variable c.args.store.now.nodes c.args.element c.args.variable c.args.self.now c.in-None.is
