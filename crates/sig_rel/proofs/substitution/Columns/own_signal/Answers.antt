use Rattle.sig_rel.proofs.{◌+◌, Ok, Err, subst, arith, is_some, Adds, count_one, unknown_of, AreVariables, IsVariableAt, on_ok_weaker, Presence, Truth, adds_err, adds_then, both_made}
use Rattle.sig_rel.proofs.substitution.Columns.own_signal.Goals as goal

pub returns-in_err-set_variable-clause-adds : goal.returns-in_err-set_variable-clause-adds
returns-in_err-set_variable-clause-adds c =
    let least = c.args.least.now in
    let unknowns = c.args.unknowns.now in
    let m = count_one (is_some (unknown_of least unknowns (Presence c.args.signal))) in
    let n = count_one (is_some (unknown_of least unknowns (Truth c.args.signal))) in
    let s = c.set_variable.new.store in
    adds_err m (m + n) c.args.store.now s c.in_err-set_variable.field-0.0 c.from_residual.result
    (subst (λ o. Adds (count_one (is_some o)) c.args.store.now s (Err c.in_err-set_variable.field-0.0)) c.unknown_of-present.ensures c.in_err-set_variable.ensures.adds) (omega arith) c.from_residual.ensures.1

pub set_variable-requires-2-clause-store : goal.set_variable-requires-2-clause-store
set_variable-requires-2-clause-store c = c.in_ok-set_variable.ensures.adds.store

pub set_variable-requires-2-clause-within : goal.set_variable-requires-2-clause-within
set_variable-requires-2-clause-within c =
    let count = c.in_ok-set_variable.ensures.set.count in
    let within = c.requires.within in
    omega (arith, count, within)

pub returns-clause-adds : goal.returns-clause-adds
returns-clause-adds c =
    let least = c.args.least.now in
    let unknowns = c.args.unknowns.now in
    let r = c.args.store.now in
    let s = c.set_variable.new.store in
    let t = c.set_variable-2.new.store in
    adds_then (count_one (is_some (unknown_of least unknowns (Presence c.args.signal)))) (count_one (is_some (unknown_of least unknowns (Truth c.args.signal)))) r s t c.set_variable-2.result
    (subst (λ o. Adds (count_one (is_some o)) r s (Ok tt)) c.unknown_of-present.ensures c.in_ok-set_variable.ensures.adds)
    (subst (λ o. Adds (count_one (is_some o)) s t c.set_variable-2.result) c.unknown_of-truth.ensures c.set_variable-2.ensures.adds)

pub returns-clause-own : goal.returns-clause-own
returns-clause-own c =
    let s = c.set_variable.new.store in
    let t = c.set_variable-2.new.store in
    let first = c.args.self.now in
    let middle = c.set_variable.new.self in
    let last = c.set_variable-2.new.self in
    on_ok_weaker c.set_variable-2.result
    (λ later. both_made s t c.set_variable-2.ensures.adds.kept c.args.least.now c.args.unknowns.now first middle last c.args.signal
    (subst (λ o. AreVariables s.nodes (IsVariableAt (Presence c.args.signal) o) first middle) c.unknown_of-present.ensures c.in_ok-set_variable.ensures.set)
    (subst (λ o. AreVariables t.nodes (IsVariableAt (Truth c.args.signal) o) middle last) c.unknown_of-truth.ensures later)) c.set_variable-2.ensures.set
