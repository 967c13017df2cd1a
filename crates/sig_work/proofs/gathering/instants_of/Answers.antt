use Rattle.sig_work.proofs.{◌≡◌, ◌-◌, ◌∙◌, ap, subst, arith, actor_of, same_member, HasNone, IsAmong, Member}
use Rattle.sig_work.proofs.gathering.instants_of.Goals as goal

pub returns-in-Some : goal.returns-in-Some
returns-in-Some c = λ m one. (
    let last : c.saturating_sub.result ≡ c.args.actors - 1 = omega (arith, c.saturating_sub.ensures) in
    let found : IsAmong c.args.shares.now (c.args.actors - 1) c.in-Some.collector.now = subst (λ k. IsAmong c.args.shares.now k c.in-Some.collector.now) last c.in-Some.ensures.some in
    let same : c.in-Some.collector.now ≡ m = same_member c.args.shares.now (c.args.actors - 1) (c.requires (c.args.actors - 1)) c.in-Some.collector.now m found one in
    let mine : c.saturating_sub-in-Some.result ≡ (actor_of c.in-Some.collector.now.state).instant - 1 = (let e = c.instant.ensures in let f = c.saturating_sub-in-Some.ensures in omega (arith, e, f)) in
    mine ∙ ap (λ (n : Member). (actor_of n.state).instant - 1) same)

pub returns-in-None : goal.returns-in-None
returns-in-None c = λ m one. absurd (
    let last : c.saturating_sub.result ≡ c.args.actors - 1 = omega (arith, c.saturating_sub.ensures) in
    subst (λ k. HasNone c.args.shares.now k) last c.in-None.ensures.none m one)
