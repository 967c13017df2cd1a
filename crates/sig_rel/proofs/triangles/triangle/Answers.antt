use Rattle.sig_rel.proofs.{sym, subst, ◌∙◌, AreConditions, conditions_are}
use Rattle.sig_rel.proofs.triangles.triangle.Goals as goal

pub triangle_of-requires-clause-conditions : goal.triangle_of-requires-clause-conditions
triangle_of-requires-clause-conditions c = subst (AreConditions c.args.kernel.now) (sym (c.as_slice.ensures.value ∙ c.in_ok-conditions.ensures)) (conditions_are c.args.kernel.now)
