use Rattle.sig_dd.proofs.{joins_refused, joins_within, subst, sym, IsTable, IsTable-append}
use Rattle.sig_dd.specs.contracts.question.QuestionPartialEq.TheImpl.{eq-value}
use Rattle.sig_dd.proofs.store.Store.join.Goals as goal

pub returns-then-is_forgotten-clause-added : goal.returns-then-is_forgotten-clause-added
returns-then-is_forgotten-clause-added c vs low high = joins_within vs c.args.self.now c.either_beside.new.self c.either_beside.result (c.either_beside.ensures.spends vs low high)

pub returns-then-is_forgotten-clause-budget : goal.returns-then-is_forgotten-clause-budget
returns-then-is_forgotten-clause-budget c n is vs low high = joins_refused vs c.args.self.now c.either_beside.new.self c.either_beside.result (c.either_beside.ensures.spends vs low high) n is

pub returns-clause-table : goal.returns-clause-table
returns-clause-table c =
    let table = IsTable-append c.args.self.now.nodes _ _ c.args.table.now.others c.requires.table in
    subst (λ ns. IsTable eq-value.it ns c.args.table.now.others) (sym c.node_for.ensures.kept.nodes) table
