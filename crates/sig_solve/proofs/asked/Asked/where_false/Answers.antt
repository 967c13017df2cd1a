use Rattle.sig_solve.proofs.{◌≡◌, ◌+◌, ◌&&◌, false, not, arith, subst, None, Some, status_at, IsRefOf, test, refusal, Ref, Share-then, Holds-kept, Keeps-trans, variables_of, asked_stays, imaged, over_one, over_spans, over_two, present_over, says_false, truth_is_over, more_calls, refused, over_kept}
use Rattle.sig_solve.proofs.asked.Asked.where_false.Goals as goal
use Rattle.sig_solve.proofs.asked.Asked.where_false.Goals.{In_ok-falsehood, In_ok-fails}

pub returns-in_err-falsehood-clause-share : goal.returns-in_err-falsehood-clause-share
returns-in_err-falsehood-clause-share c =
    let n = c.args.self.now.system.variables in
    let vs = variables_of c.args.self.now.system in
    let own = truth_is_over c.args.store.now c.args.self.now c.requires.asked c.args.signal c.requires.signal c.truth.result c.truth.ensures in
    refused (n + 3) vs c.args.store.now c.negate.new.self c.from_residual.result c.in_err-falsehood.field-0.0 c.from_residual.ensures.1
    (more_calls 1 (n + 3) vs c.args.store.now c.negate.new.self _ (omega arith) (c.in_err-falsehood.ensures.spends.over vs (over_spans c.args.store.now.nodes c.args.self.now.system c.truth.result own, tt) tt))

pub conj-requires-clause-f : goal.conj-requires-clause-f
conj-requires-clause-f c =
    Holds-kept c.args.store.now c.negate.new.self c.in_ok-falsehood.ensures.kept c.presence.result
    (present_over c.args.store.now c.args.self.now c.requires.asked c.args.signal c.requires.signal c.presence.result c.presence.ensures).held

pub returns-in_err-fails-clause-share : goal.returns-in_err-fails-clause-share
returns-in_err-fails-clause-share c =
    let n = c.args.self.now.system.variables in
    let vs = variables_of c.args.self.now.system in
    let own = truth_is_over c.args.store.now c.args.self.now c.requires.asked c.args.signal c.requires.signal c.truth.result c.truth.ensures in
    let over = over_kept c.args.store.now c.negate.new.self c.in_ok-falsehood.ensures.kept c.args.self.now.system c.presence.result
    (present_over c.args.store.now c.args.self.now c.requires.asked c.args.signal c.requires.signal c.presence.result c.presence.ensures) in
    let lie = over_one c.args.store.now.nodes c.negate.new.self.nodes c.args.self.now.system not c.truth.result c.in_ok-falsehood.falsehood own c.in_ok-falsehood.ensures.value in
    refused (n + 3) vs c.args.store.now c.conj.new.self c.from_residual-in_err-fails.result c.in_err-fails.field-0.0 c.from_residual-in_err-fails.ensures.1
    (more_calls (1 + 1) (n + 3) vs c.args.store.now c.conj.new.self _ (omega arith)
    (Share-then c.args.store.now c.negate.new.self c.conj.new.self 1 1 vs _
    (c.in_ok-falsehood.ensures.spends.over vs (over_spans c.args.store.now.nodes c.args.self.now.system c.truth.result own, tt) tt)
    (c.in_err-fails.ensures.spends.over vs (over_spans c.negate.new.self.nodes c.args.self.now.system c.presence.result over, (over_spans c.negate.new.self.nodes c.args.self.now.system c.in_ok-falsehood.falsehood lie, tt)) tt)))

pub image-requires-clause-asked : goal.image-requires-clause-asked
image-requires-clause-asked c =
    asked_stays c.args.store.now c.conj.new.self (Keeps-trans c.args.store.now c.negate.new.self c.conj.new.self c.in_ok-falsehood.ensures.kept c.in_ok-fails.ensures.kept) c.args.self.now c.in_ok-fails.ensures.store c.requires.asked

pub image-requires-clause-part : goal.image-requires-clause-part
image-requires-clause-part c =
    over_two c.negate.new.self.nodes c.conj.new.self.nodes c.args.self.now.system (λ x y. x && y) c.presence.result c.in_ok-falsehood.falsehood c.in_ok-fails.fails
    (over_kept c.args.store.now c.negate.new.self c.in_ok-falsehood.ensures.kept c.args.self.now.system c.presence.result
    (present_over c.args.store.now c.args.self.now c.requires.asked c.args.signal c.requires.signal c.presence.result c.presence.ensures))
    (over_one c.args.store.now.nodes c.negate.new.self.nodes c.args.self.now.system not c.truth.result c.in_ok-falsehood.falsehood
    (truth_is_over c.args.store.now c.args.self.now c.requires.asked c.args.signal c.requires.signal c.truth.result c.truth.ensures) c.in_ok-falsehood.ensures.value) c.in_ok-fails.ensures.value

pub returns-clause-value : goal.returns-clause-value
returns-clause-value c =
    imaged c.conj.new.self c.args.self.now
    (asked_stays c.args.store.now c.conj.new.self (Keeps-trans c.args.store.now c.negate.new.self c.conj.new.self c.in_ok-falsehood.ensures.kept c.in_ok-fails.ensures.kept) c.args.self.now c.in_ok-fails.ensures.store c.requires.asked)
    c.in_ok-fails.fails (λ reaction. status_at reaction c.args.signal ≡ Some false)
    (says_false c.args.store.now c.args.self.now c.requires.asked c.args.signal c.requires.signal c.negate.new.self c.in_ok-falsehood.ensures.kept c.in_ok-falsehood.falsehood
    (subst (λ (r : Ref). IsRefOf c.negate.new.self.nodes (λ ts. not (test c.args.store.now.nodes r ts)) c.in_ok-falsehood.falsehood) c.truth.ensures c.in_ok-falsehood.ensures.value)
    c.conj.new.self c.in_ok-fails.ensures.kept c.in_ok-fails.fails
    (subst (λ (r : Ref). IsRefOf c.conj.new.self.nodes (λ ts. test c.negate.new.self.nodes r ts && test c.negate.new.self.nodes c.in_ok-falsehood.falsehood ts) c.in_ok-fails.fails) c.presence.ensures c.in_ok-fails.ensures.value))
    c.image.new.store c.image.ensures.kept c.args.forgotten.now c.image.result c.image.ensures.over c.image.ensures.value

pub returns-clause-share : goal.returns-clause-share
returns-clause-share c =
    let n = c.args.self.now.system.variables in
    let vs = variables_of c.args.self.now.system in
    let own = truth_is_over c.args.store.now c.args.self.now c.requires.asked c.args.signal c.requires.signal c.truth.result c.truth.ensures in
    let over = over_kept c.args.store.now c.negate.new.self c.in_ok-falsehood.ensures.kept c.args.self.now.system c.presence.result
    (present_over c.args.store.now c.args.self.now c.requires.asked c.args.signal c.requires.signal c.presence.result c.presence.ensures) in
    let lie = over_one c.args.store.now.nodes c.negate.new.self.nodes c.args.self.now.system not c.truth.result c.in_ok-falsehood.falsehood own c.in_ok-falsehood.ensures.value in
    more_calls (1 + 1 + (n + 1)) (n + 3) vs c.args.store.now c.image.new.store (refusal c.image.result) (omega arith)
    (Share-then c.args.store.now c.conj.new.self c.image.new.store (1 + 1) (n + 1) vs (refusal c.image.result)
    (Share-then c.args.store.now c.negate.new.self c.conj.new.self 1 1 vs None
    (c.in_ok-falsehood.ensures.spends.over vs (over_spans c.args.store.now.nodes c.args.self.now.system c.truth.result own, tt) tt)
    (c.in_ok-fails.ensures.spends.over vs (over_spans c.negate.new.self.nodes c.args.self.now.system c.presence.result over, (over_spans c.negate.new.self.nodes c.args.self.now.system c.in_ok-falsehood.falsehood lie, tt)) tt))
    c.image.ensures.share)
