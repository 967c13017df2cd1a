use Rattle.sig_step.proofs.{◌<◌, ◌∙◌, ℕ, ap, sym, subst, length, Depends, Holds, test, Ref, PlanView, truths_length, walk_counts, CountsNeeds, seen_in}
use Rattle.sig_step.proofs.state.ClusterState.walk.Goals as goal

-- a guard of the store of a plan: it depends on a variable, it is held, and its walk counts
abbrev DependsIn : Ref → ℕ → PlanView → Type 0
DependsIn guard v plan = Depends (test plan.store.nodes guard) v

abbrev HeldIn : Ref → PlanView → Type 0
HeldIn guard plan = Holds plan.store.nodes guard

abbrev CountsIn : Ref → ℕ → ℕ → PlanView → Type 0
CountsIn guard before after plan = CountsNeeds plan.store.nodes guard before after

pub eval-requires-clause-told : goal.eval-requires-clause-told
eval-requires-clause-told g c = λ v depends.
    subst (λ (n : ℕ). v < n) (sym (ap length (c.truths.ensures ∙ c.requires.told) ∙ truths_length c.args.plan.now.clocks.conditions (seen_in c.args.self.now.values)))
    (c.requires.needs v (subst (DependsIn c.args.slot.guard v) c.plan.view_is depends))

pub returns-then-parent_holds-clause-needs : goal.returns-then-parent_holds-clause-needs
returns-then-parent_holds-clause-needs g c =
    subst (CountsIn c.args.slot.guard c.args.steps.now c.eval.new.steps) c.plan.view_is
    (walk_counts c.plan.inside.store.nodes c.plan.invariant.store.reduced c.args.slot.guard
    (subst (HeldIn c.args.slot.guard) (sym c.plan.view_is) c.requires.held) c.truths.result.now c.args.steps.now c.eval.new.steps c.eval.ensures.counted)
