use Rattle.sig_dd.proofs.{sym, choice_made, choice_refused, choice_within, operands_span}
use Rattle.sig_dd.proofs.store.Store.choice_by.Goals as goal

pub returns-clause-value : goal.returns-clause-value
returns-clause-value c =
    choice_made c.args.self.now c.variable.new.self c.in_ok-chosen.ensures.kept c.in-Some.v c.in_ok-chosen.chosen c.args.low c.args.high c.in_ok-chosen.ensures.value c.requires.low c.requires.high
    c.args.variable (sym c.in-Some.is) c.ite.new.self c.ite.result c.ite.ensures.value

pub returns-clause-added : goal.returns-clause-added
returns-clause-added c vs one two among =
    let spans = operands_span c.args.self.now c.variable.new.self c.in_ok-chosen.ensures.kept c.in-Some.v c.in_ok-chosen.chosen c.args.low c.args.high c.in_ok-chosen.ensures.value c.requires.low c.requires.high
    vs c.args.variable (sym c.in-Some.is) one two among in
    choice_within c.in-Some.v vs c.args.self.now c.variable.new.self c.ite.new.self c.in_ok-chosen.ensures.spends _ (c.ite.ensures.spends.over vs spans tt)

pub returns-clause-budget : goal.returns-clause-budget
returns-clause-budget c n is vs one two among =
    let spans = operands_span c.args.self.now c.variable.new.self c.in_ok-chosen.ensures.kept c.in-Some.v c.in_ok-chosen.chosen c.args.low c.args.high c.in_ok-chosen.ensures.value c.requires.low c.requires.high
    vs c.args.variable (sym c.in-Some.is) one two among in
    choice_refused c.in-Some.v vs c.args.self.now c.variable.new.self c.ite.new.self c.in_ok-chosen.ensures.spends c.ite.result (c.ite.ensures.spends.over vs spans tt) n is
