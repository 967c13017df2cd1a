use Rattle.sig_dd.proofs.{arith, share_of, IsRefOf-answer, IfOk-weaker}
use Rattle.sig_dd.proofs.store.Store.answer_beside.Goals as goal

pub returns-clause-value : goal.returns-clause-value
returns-clause-value c =
    IfOk-weaker c.answer_in.result _ _ (IsRefOf-answer c.args.self.now c.answer_in.new.self c.answer_in.ensures.kept c.args.question c.requires.held) c.answer_in.ensures.value

pub returns-clause-spends : goal.returns-clause-spends
returns-clause-spends c vs only =
    share_of vs c.args.self.now c.answer_in.new.self c.answer_in.result (c.answer_in.ensures.added vs only) c.answer_in.ensures.full (λ n is.
    let full = (c.answer_in.ensures.full n is).1 in
    let budget = c.answer_in.ensures.budget n is vs only in
    omega arith)
