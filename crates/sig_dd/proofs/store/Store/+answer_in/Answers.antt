use Rattle.sig_dd.proofs.{◌≡◌, length, Err, ap, sym, subst, arith, rules, append-nil, StoreView, IsAnswer, IsTable, Budget, low_starts, high_starts, question_held, question_answered, IsTable-append, half_tests, second_tests, halves_fit, both_fit, without}
use Rattle.sig_dd.specs.contracts.question.QuestionPartialEq.TheImpl.{eq-value}
use Rattle.sig_dd.proofs.store.Store.+answer_in.Goals as goal

pub returns-in_err-high-clause-added : goal.returns-in_err-high-clause-added
returns-in_err-high-clause-added t c vs only =
    let old = c.args.self.now.nodes in
    let reduced = c.step.ensures.store.reduced in
    let q = c.args.question in
    let s = c.in-Open.split in
    let split = c.in-Open.ensures.step in
    let ws = without s.variable vs in
    let low = c.in_ok-low.ensures.added ws (half_tests old reduced q s.low s.variable _ split.low vs only) in
    let high = c.in_err-high.ensures.added ws (second_tests old c.answer_in.new.self.nodes _ c.in_ok-low.ensures.kept.nodes reduced q s split vs only) in
    let fit = halves_fit old q s split vs only in
    omega arith

pub returns-in_err-high-clause-budget : goal.returns-in_err-high-clause-budget
returns-in_err-high-clause-budget t c n is vs only =
    let old = c.args.self.now.nodes in
    let reduced = c.step.ensures.store.reduced in
    let q = c.args.question in
    let s = c.in-Open.split in
    let split = c.in-Open.ensures.step in
    let ws = without s.variable vs in
    let low = c.in_ok-low.ensures.added ws (half_tests old reduced q s.low s.variable _ split.low vs only) in
    let refused : c.in_err-high.field-0.0 ≡ Budget n = search rules in
    let high = c.in_err-high.ensures.budget n (ap Err refused) ws (second_tests old c.answer_in.new.self.nodes _ c.in_ok-low.ensures.kept.nodes reduced q s split vs only) in
    let fit = halves_fit old q s split vs only in
    omega arith

pub node_for-requires-clause-low_later : goal.node_for-requires-clause-low_later
node_for-requires-clause-low_later t c =
    low_starts c.args.self.now.nodes c.answer_in.new.self.nodes c.answer_in-2.new.self.nodes c.answer_in-2.new.self.nodes _ _ _ c.in_ok-low.ensures.kept.nodes c.in_ok-high.ensures.kept.nodes (sym (append-nil _))
    c.args.question c.in-Open.split c.requires.held c.in-Open.ensures.step c.in_ok-low.low c.in_ok-high.high c.in_ok-low.low c.in_ok-low.ensures.value c.in_ok-high.ensures.value

pub node_for-requires-clause-high_later : goal.node_for-requires-clause-high_later
node_for-requires-clause-high_later t c =
    high_starts c.args.self.now.nodes c.answer_in.new.self.nodes c.answer_in-2.new.self.nodes c.answer_in-2.new.self.nodes _ _ _ c.in_ok-low.ensures.kept.nodes c.in_ok-high.ensures.kept.nodes (sym (append-nil _))
    c.args.question c.in-Open.split c.requires.held c.in-Open.ensures.step c.in_ok-low.low c.in_ok-high.high c.in_ok-low.low c.in_ok-low.ensures.value c.in_ok-high.ensures.value

pub returns-in_err-r-clause-added : goal.returns-in_err-r-clause-added
returns-in_err-r-clause-added t c vs only =
    let room = both_fit c.args.self.now.nodes c.answer_in.new.self.nodes c.answer_in-2.new.self.nodes _ c.in_ok-low.ensures.kept.nodes c.step.ensures.store.reduced
    c.args.question c.in-Open.split c.in-Open.ensures.step c.in_ok-low.ensures.added c.in_ok-high.ensures.added vs only in
    let one = c.node_for.ensures.added in
    omega arith

pub returns-in_err-r-clause-budget : goal.returns-in_err-r-clause-budget
returns-in_err-r-clause-budget t c n is vs only =
    let room = both_fit c.args.self.now.nodes c.answer_in.new.self.nodes c.answer_in-2.new.self.nodes _ c.in_ok-low.ensures.kept.nodes c.step.ensures.store.reduced
    c.args.question c.in-Open.split c.in-Open.ensures.step c.in_ok-low.ensures.added c.in_ok-high.ensures.added vs only in
    let same = ap length c.in_err-r.ensures.refused in
    omega arith

pub keep-requires-clause-held : goal.keep-requires-clause-held
keep-requires-clause-held t c =
    question_held c.args.self.now.nodes c.answer_in.new.self.nodes c.answer_in-2.new.self.nodes c.node_for.new.self.nodes _ _ _ c.in_ok-low.ensures.kept.nodes c.in_ok-high.ensures.kept.nodes c.in_ok-r.ensures.kept.nodes
    c.args.question c.in-Open.split c.requires.held c.in-Open.ensures.step c.in_ok-low.low c.in_ok-high.high c.in_ok-r.r c.in_ok-low.ensures.value c.in_ok-high.ensures.value

pub keep-requires-clause-answer : goal.keep-requires-clause-answer
keep-requires-clause-answer t c =
    question_answered c.args.self.now.nodes c.answer_in.new.self.nodes c.answer_in-2.new.self.nodes c.node_for.new.self.nodes _ _ _ c.in_ok-low.ensures.kept.nodes c.in_ok-high.ensures.kept.nodes c.in_ok-r.ensures.kept.nodes
    c.args.question c.in-Open.split c.requires.held c.in-Open.ensures.step c.in_ok-low.low c.in_ok-high.high c.in_ok-r.r c.in_ok-low.ensures.value c.in_ok-high.ensures.value c.in_ok-r.ensures.value

pub keep-requires-clause-table : goal.keep-requires-clause-table
keep-requires-clause-table t c =
    let table = IsTable-append c.answer_in-2.new.self.nodes _ _ c.answer_in-2.new.table.others c.in_ok-high.ensures.table in
    subst (λ ns. IsTable eq-value.it ns c.answer_in-2.new.table.others) (sym c.in_ok-r.ensures.kept.nodes) table

pub returns-in_err-keep-clause-added : goal.returns-in_err-keep-clause-added
returns-in_err-keep-clause-added t c vs only =
    let room = both_fit c.args.self.now.nodes c.answer_in.new.self.nodes c.answer_in-2.new.self.nodes _ c.in_ok-low.ensures.kept.nodes c.step.ensures.store.reduced
    c.args.question c.in-Open.split c.in-Open.ensures.step c.in_ok-low.ensures.added c.in_ok-high.ensures.added vs only in
    let one = c.node_for.ensures.added in
    let same = ap (λ (s : StoreView). length s.nodes) c.keep.ensures.same in
    omega arith

pub returns-in_err-keep-clause-table : goal.returns-in_err-keep-clause-table
returns-in_err-keep-clause-table t c =
    subst (λ (s : StoreView). IsTable eq-value.it s.nodes c.keep.new.table.others) (sym c.keep.ensures.same) c.keep.ensures.table

pub returns-clause-added : goal.returns-clause-added
returns-clause-added t c vs only =
    let room = both_fit c.args.self.now.nodes c.answer_in.new.self.nodes c.answer_in-2.new.self.nodes _ c.in_ok-low.ensures.kept.nodes c.step.ensures.store.reduced
    c.args.question c.in-Open.split c.in-Open.ensures.step c.in_ok-low.ensures.added c.in_ok-high.ensures.added vs only in
    let one = c.node_for.ensures.added in
    let same = ap (λ (s : StoreView). length s.nodes) c.keep.ensures.same in
    omega arith

pub returns-clause-table : goal.returns-clause-table
returns-clause-table t c =
    subst (λ (s : StoreView). IsTable eq-value.it s.nodes c.keep.new.table.others) (sym c.keep.ensures.same) c.keep.ensures.table

pub returns-clause-value : goal.returns-clause-value
returns-clause-value t c =
    subst (λ (s : StoreView). IsAnswer s.nodes c.args.question c.in_ok-r.r) (sym c.keep.ensures.same)
    (question_answered c.args.self.now.nodes c.answer_in.new.self.nodes c.answer_in-2.new.self.nodes c.node_for.new.self.nodes _ _ _ c.in_ok-low.ensures.kept.nodes c.in_ok-high.ensures.kept.nodes c.in_ok-r.ensures.kept.nodes
    c.args.question c.in-Open.split c.requires.held c.in-Open.ensures.step c.in_ok-low.low c.in_ok-high.high c.in_ok-r.r c.in_ok-low.ensures.value c.in_ok-high.ensures.value c.in_ok-r.ensures.value)
