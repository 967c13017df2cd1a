use Rattle.sig_solve.proofs.{◌≡◌, ◌<◌, ◌↔◌, Bool, List, false, not, length, subst, arith, IsTrue, Err, None, SigId, is_present, IsRefOf, Keeps, test, Share, Ref, Share-then, Keeps-trans, IsOver, IsSolution, reading, IsAskedIn, variables_of, asked_stays, over_one, over_spans, present_over, says_rest, least_possible, missing, rest_met, solutions_say, some_met, more_calls, refused, over_kept}
use Rattle.sig_solve.proofs.StoreLemmas.{asked}
use Rattle.sig_solve.proofs.roots.missing_root.Goals as goal
use Rattle.sig_solve.proofs.roots.missing_root.Goals.{In_ok-x, In_ok-absent, In_ok-rest}

pub first_met-requires-clause-some : goal.first_met-requires-clause-some
first_met-requires-clause-some c =
    some_met c.args.store.now c.args.asked.now c.requires.asked (λ r. Unit {0}) c.args.asked.now.solutions (solutions_say c.args.store.now c.args.asked.now c.requires.asked) c.requires.alive.0 c.requires.alive.1 tt

-- the first signal
within_x : (c : In_ok-x) → c.in_ok-x.x.0 < length c.args.asked.now.frame.kernel.now.signals
within_x c = c.in_ok-x.ensures.value.holds.0

present_x : (c : In_ok-absent) → IsOver c.args.store.now.nodes c.args.asked.now.system c.presence.result
present_x c = present_over c.args.store.now c.args.asked.now c.requires.asked c.in_ok-x.x.0 c.in_ok-x.ensures.value.holds.0 c.presence.result c.presence.ensures

pub negate-requires : goal.negate-requires
negate-requires c = (present_over c.args.store.now c.args.asked.now c.requires.asked c.in_ok-x.x.0 c.in_ok-x.ensures.value.holds.0 c.presence.result c.presence.ensures).held

pub returns-in_err-absent-clause-share : goal.returns-in_err-absent-clause-share
returns-in_err-absent-clause-share c =
    let vs = variables_of c.args.asked.now.system in
    let over = present_over c.args.store.now c.args.asked.now c.requires.asked c.in_ok-x.x.0 c.in_ok-x.ensures.value.holds.0 c.presence.result c.presence.ensures in
    refused 2 vs c.args.store.now c.negate.new.self c.from_residual-in_err-absent.result c.in_err-absent.field-0.0 c.from_residual-in_err-absent.ensures.1
    (more_calls 1 2 vs c.args.store.now c.negate.new.self _ (omega arith) (c.in_err-absent.ensures.spends.over vs (over_spans c.args.store.now.nodes c.args.asked.now.system c.presence.result over, tt) tt))

pub returns-in_err-rest-clause-share : goal.returns-in_err-rest-clause-share
returns-in_err-rest-clause-share c =
    let vs = variables_of c.args.asked.now.system in
    let over = present_over c.args.store.now c.args.asked.now c.requires.asked c.in_ok-x.x.0 c.in_ok-x.ensures.value.holds.0 c.presence.result c.presence.ensures in
    let gone = over_one c.args.store.now.nodes c.negate.new.self.nodes c.args.asked.now.system not c.presence.result c.in_ok-absent.absent over c.in_ok-absent.ensures.value in
    let all = over_kept c.args.store.now c.negate.new.self c.in_ok-absent.ensures.kept c.args.asked.now.system c.args.asked.now.solutions c.requires.asked.over in
    refused 2 vs c.args.store.now c.conj.new.self c.from_residual-in_err-rest.result c.in_err-rest.field-0.0 c.from_residual-in_err-rest.ensures.1
    (Share-then c.args.store.now c.negate.new.self c.conj.new.self 1 1 vs _ (c.in_ok-absent.ensures.spends.over vs (over_spans c.args.store.now.nodes c.args.asked.now.system c.presence.result over, tt) tt)
    (c.in_err-rest.ensures.spends.over vs (over_spans c.negate.new.self.nodes c.args.asked.now.system c.args.asked.now.solutions all, (over_spans c.negate.new.self.nodes c.args.asked.now.system c.in_ok-absent.absent gone, tt)) tt))

-- the solutions without the first signal
kept_rest : (c : In_ok-rest) → Keeps c.args.store.now c.conj.new.self
kept_rest c = Keeps-trans c.args.store.now c.negate.new.self c.conj.new.self c.in_ok-absent.ensures.kept c.in_ok-rest.ensures.kept

asked_rest : (c : In_ok-rest) → IsAskedIn c.conj.new.self c.args.asked.now
asked_rest c = asked_stays c.args.store.now c.conj.new.self (kept_rest c) c.args.asked.now c.in_ok-rest.ensures.store c.requires.asked

rest_says : (c : In_ok-rest) (ts : List Bool) → IsTrue (test c.conj.new.self.nodes c.in_ok-rest.rest ts) ↔ (IsSolution c.conj.new.self.nodes c.args.asked.now.system ts × (is_present (reading c.conj.new.self.nodes c.args.asked.now.system ts) c.in_ok-x.x.0 ≡ false))
rest_says c =
    says_rest c.args.store.now c.args.asked.now c.requires.asked c.in_ok-x.x.0 c.in_ok-x.ensures.value.holds.0 c.negate.new.self c.in_ok-absent.ensures.kept c.in_ok-absent.absent
    (subst (λ (r : Ref). IsRefOf c.negate.new.self.nodes (λ ts. not (test c.args.store.now.nodes r ts)) c.in_ok-absent.absent) c.presence.ensures c.in_ok-absent.ensures.value)
    c.conj.new.self c.in_ok-rest.ensures.kept c.in_ok-rest.rest c.in_ok-rest.ensures.value

calls_rest : (c : In_ok-rest) → Share 2 (variables_of c.args.asked.now.system) c.args.store.now c.conj.new.self None
calls_rest c =
    let vs = variables_of c.args.asked.now.system in
    let over = present_over c.args.store.now c.args.asked.now c.requires.asked c.in_ok-x.x.0 c.in_ok-x.ensures.value.holds.0 c.presence.result c.presence.ensures in
    let gone = over_one c.args.store.now.nodes c.negate.new.self.nodes c.args.asked.now.system not c.presence.result c.in_ok-absent.absent over c.in_ok-absent.ensures.value in
    let all = over_kept c.args.store.now c.negate.new.self c.in_ok-absent.ensures.kept c.args.asked.now.system c.args.asked.now.solutions c.requires.asked.over in
    Share-then c.args.store.now c.negate.new.self c.conj.new.self 1 1 vs None (c.in_ok-absent.ensures.spends.over vs (over_spans c.args.store.now.nodes c.args.asked.now.system c.presence.result over, tt) tt)
    (c.in_ok-rest.ensures.spends.over vs (over_spans c.negate.new.self.nodes c.args.asked.now.system c.args.asked.now.solutions all, (over_spans c.negate.new.self.nodes c.args.asked.now.system c.in_ok-absent.absent gone, tt)) tt)

pub first_met-requires-2-clause-asked : goal.first_met-requires-2-clause-asked
first_met-requires-2-clause-asked c = asked_rest (goal.at.first_met-requires-2-clause-asked c).In_ok-rest

pub first_met-requires-2-clause-some : goal.first_met-requires-2-clause-some
first_met-requires-2-clause-some c =
    let here = (goal.at.first_met-requires-2-clause-some c).In_ok-rest in
    rest_met c.conj.new.self c.args.asked.now (asked_rest here) c.in_ok-x.x.0 c.in_ok-x.ensures.value.holds.0 c.in_ok-rest.rest (rest_says here) c.requires.none

pub returns-in_err-y-clause-share : goal.returns-in_err-y-clause-share
returns-in_err-y-clause-share c =
    let vs = variables_of c.args.asked.now.system in
    let here = (goal.at.returns-in_err-y-clause-share c).In_ok-rest in
    refused 2 vs c.args.store.now c.conj.new.self c.from_residual-in_err-y.result c.in_err-y.field-0.0 c.from_residual-in_err-y.ensures.1
    (asked {T = SigId} 2 vs c.args.store.now c.conj.new.self (calls_rest here) (Err c.in_err-y.field-0.0) c.in_err-y.ensures.no_budget)

pub returns-clause-share : goal.returns-clause-share
returns-clause-share c = calls_rest (goal.at.returns-clause-share c).In_ok-rest

pub returns-clause-value : goal.returns-clause-value
returns-clause-value c =
    let here = (goal.at.returns-clause-value c).In_ok-rest in
    missing c.args.asked.now.frame.kernel.now c.in_ok-x.x.0 c.in_ok-y.y.0 c.requires.none
    (least_possible c.args.store.now c.args.asked.now c.requires.asked (λ r. Unit {0}) c.args.asked.now.solutions (solutions_say c.args.store.now c.args.asked.now c.requires.asked) c.in_ok-x.x.0 c.in_ok-x.ensures.value)
    (least_possible c.conj.new.self c.args.asked.now (asked_rest here) (λ r. is_present r c.in_ok-x.x.0 ≡ false) c.in_ok-rest.rest (rest_says here) c.in_ok-y.y.0 c.in_ok-y.ensures.value)
