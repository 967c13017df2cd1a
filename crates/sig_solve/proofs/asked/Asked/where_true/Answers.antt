use Rattle.sig_solve.proofs.{◌≡◌, ◌+◌, ◌&&◌, true, arith, subst, Some, status_at, IsRefOf, test, refusal, Ref, Share-then, truth_at, variables_of, asked_stays, imaged, over_spans, over_two, present_over, says_true, truth_is_over, more_calls, refused}
use Rattle.sig_solve.proofs.asked.Asked.where_true.Goals as goal

pub returns-in_err-holds-clause-share : goal.returns-in_err-holds-clause-share
returns-in_err-holds-clause-share c =
    let n = c.args.self.now.system.variables in
    let vs = variables_of c.args.self.now.system in
    let over = present_over c.args.store.now c.args.self.now c.requires.asked c.args.signal c.requires.signal c.presence.result c.presence.ensures in
    let own = truth_is_over c.args.store.now c.args.self.now c.requires.asked c.args.signal c.requires.signal c.truth.result c.truth.ensures in
    refused (n + 2) vs c.args.store.now c.conj.new.self c.from_residual.result c.in_err-holds.field-0.0 c.from_residual.ensures.1
    (more_calls 1 (n + 2) vs c.args.store.now c.conj.new.self _ (omega arith)
    (c.in_err-holds.ensures.spends.over vs (over_spans c.args.store.now.nodes c.args.self.now.system c.presence.result over, (over_spans c.args.store.now.nodes c.args.self.now.system c.truth.result own, tt)) tt))

pub image-requires-clause-asked : goal.image-requires-clause-asked
image-requires-clause-asked c = asked_stays c.args.store.now c.conj.new.self c.in_ok-holds.ensures.kept c.args.self.now c.in_ok-holds.ensures.store c.requires.asked

pub image-requires-clause-part : goal.image-requires-clause-part
image-requires-clause-part c =
    over_two c.args.store.now.nodes c.conj.new.self.nodes c.args.self.now.system (λ x y. x && y) c.presence.result c.truth.result c.in_ok-holds.holds
    (present_over c.args.store.now c.args.self.now c.requires.asked c.args.signal c.requires.signal c.presence.result c.presence.ensures)
    (truth_is_over c.args.store.now c.args.self.now c.requires.asked c.args.signal c.requires.signal c.truth.result c.truth.ensures) c.in_ok-holds.ensures.value

pub returns-clause-value : goal.returns-clause-value
returns-clause-value c =
    imaged c.conj.new.self c.args.self.now (asked_stays c.args.store.now c.conj.new.self c.in_ok-holds.ensures.kept c.args.self.now c.in_ok-holds.ensures.store c.requires.asked) c.in_ok-holds.holds (λ reaction. status_at reaction c.args.signal ≡ Some true)
    (says_true c.args.store.now c.args.self.now c.requires.asked c.args.signal c.requires.signal c.conj.new.self c.in_ok-holds.ensures.kept c.in_ok-holds.holds
    (subst (λ (r : Ref). IsRefOf c.conj.new.self.nodes (λ ts. test c.args.store.now.nodes r ts && test c.args.store.now.nodes (truth_at c.args.self.now.system c.args.signal) ts) c.in_ok-holds.holds) c.presence.ensures
    (subst (λ (r : Ref). IsRefOf c.conj.new.self.nodes (λ ts. test c.args.store.now.nodes c.presence.result ts && test c.args.store.now.nodes r ts) c.in_ok-holds.holds) c.truth.ensures c.in_ok-holds.ensures.value)))
    c.image.new.store c.image.ensures.kept c.args.forgotten.now c.image.result c.image.ensures.over c.image.ensures.value

pub returns-clause-share : goal.returns-clause-share
returns-clause-share c =
    let n = c.args.self.now.system.variables in
    let vs = variables_of c.args.self.now.system in
    let over = present_over c.args.store.now c.args.self.now c.requires.asked c.args.signal c.requires.signal c.presence.result c.presence.ensures in
    let own = truth_is_over c.args.store.now c.args.self.now c.requires.asked c.args.signal c.requires.signal c.truth.result c.truth.ensures in
    more_calls (1 + (n + 1)) (n + 2) vs c.args.store.now c.image.new.store (refusal c.image.result) (omega arith)
    (Share-then c.args.store.now c.conj.new.self c.image.new.store 1 (n + 1) vs (refusal c.image.result)
    (c.in_ok-holds.ensures.spends.over vs (over_spans c.args.store.now.nodes c.args.self.now.system c.presence.result over, (over_spans c.args.store.now.nodes c.args.self.now.system c.truth.result own, tt)) tt) c.image.ensures.share)
