use Rattle.sig_play_command.proofs.{◌≡◌, ◌≤◌, ◌∙◌, ap, inl, length, subst, sym, ITEMS, Shows, Given, opening, SaysLine, IsAccepted, PlanView, WritesPlay, few_links}
use Rattle.sig_play_command.proofs.command.play_script.Goals as goal

pub play_through-requires-clause-opening : goal.play_through-requires-clause-opening
play_through-requires-clause-opening g c =
    let plan_is : c.in-Ok.play.core.plan.now ≡ c.args.script.now.loaded.plan = ap (λ (given : Given). given.plan) c.in-Ok.ensures.given in
    subst (λ (plan : PlanView). Shows (opening plan) c.in-Ok.play.core) (sym plan_is) c.in-Ok.ensures.opening

pub play_through-requires-clause-accepted : goal.play_through-requires-clause-accepted
play_through-requires-clause-accepted g c =
    let plan_is : c.in-Ok.play.core.plan.now ≡ c.args.script.now.loaded.plan = ap (λ (given : Given). given.plan) c.in-Ok.ensures.given in
    subst (λ (plan : PlanView). IsAccepted plan) (c.plan.view_is ∙ sym plan_is) c.plan.invariant

pub play_through-requires-clause-links : goal.play_through-requires-clause-links
play_through-requires-clause-links g c =
    let plan_is : c.in-Ok.play.core.plan.now ≡ c.args.script.now.loaded.plan = ap (λ (given : Given). given.plan) c.in-Ok.ensures.given in
    let accepted : IsAccepted c.args.script.now.loaded.plan = subst (λ (plan : PlanView). IsAccepted plan) c.plan.view_is c.plan.invariant in
    subst (λ (plan : PlanView). length plan.links ≤ ITEMS) (sym plan_is) (few_links c.args.script.now.loaded.plan c.args.settings.capacity accepted c.requires.capacity c.requires.few)

pub play_through-requires-clause-kernel : goal.play_through-requires-clause-kernel
play_through-requires-clause-kernel g c =
    let plan_is : c.in-Ok.play.core.plan.now ≡ c.args.script.now.loaded.plan = ap (λ (given : Given). given.plan) c.in-Ok.ensures.given in
    ap (λ (plan : PlanView). plan.kernel) (c.plan.view_is ∙ sym plan_is)

pub returns-in-Ok : goal.returns-in-Ok
returns-in-Ok g c =
    inl (subst (λ (given : Given). WritesPlay given.plan.kernel given.flows given.capacity given.limit c.args.script.now.events.items
    g.S.Sink.took c.args.out.now c.play_through.new.out (g.S.Sink.faults c.args.out.now) (g.S.Sink.faults c.play_through.new.out) (g.S.Sink.clean c.play_through.new.out)
    (SaysLine g.E.Sink.took (g.E.Sink.faults c.args.err.now) (g.E.Sink.faults c.play_through.new.err) c.args.err.now c.play_through.new.err) c.play_through.result)
    c.in-Ok.ensures.given (rw c.deref.ensures.value at c.play_through.ensures))
