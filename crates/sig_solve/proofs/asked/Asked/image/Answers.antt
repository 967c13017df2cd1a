use Rattle.sig_solve.proofs.{◌+◌, subst, Share, refusal, variables_of, over_spans, product_over, variables_count, IfOk-weaker}
use Rattle.sig_solve.proofs.asked.Asked.image.Goals as goal

pub returns-clause-over : goal.returns-clause-over
returns-clause-over c =
    IfOk-weaker c.meet_without.result _ _
    (λ r is. product_over c.args.store.now c.requires.asked.has_store c.args.self.now.system c.args.self.now.solutions c.args.part c.requires.asked.over c.requires.part c.meet_without.new.self.nodes c.args.forgotten.now r is)
    c.meet_without.ensures.value

pub returns-clause-share : goal.returns-clause-share
returns-clause-share c =
    let vs = variables_of c.args.self.now.system in
    subst (λ n. Share (n + 1) vs c.args.store.now c.meet_without.new.self (refusal c.meet_without.result)) (variables_count c.args.self.now.system)
    (c.meet_without.ensures.spends vs (over_spans c.args.store.now.nodes c.args.self.now.system c.args.self.now.solutions c.requires.asked.over) (over_spans c.args.store.now.nodes c.args.self.now.system c.args.part c.requires.part))
