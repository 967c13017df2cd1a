use Rattle.std.proofs.Common.{sym, subst, ◌∙◌}
use Rattle.sig_rel.specs.Systems.{AreConditions}
use Rattle.sig_rel.proofs.ConditionLists.{conditions_are}
use Rattle.sig_rows_clocks.proofs.relations.system_of.Goals as goal

-- the conditions that were computed are the kernel's
pub free_system-requires-clause-conditions : goal.free_system-requires-clause-conditions
free_system-requires-clause-conditions c = subst (AreConditions c.args.kernel.now) (sym (c.as_slice.ensures.value ∙ c.in_ok-conditions.ensures)) (conditions_are c.args.kernel.now)

pub system-requires-clause-conditions : goal.system-requires-clause-conditions
system-requires-clause-conditions c = subst (AreConditions c.args.kernel.now) (sym (c.as_slice-else-is_free.ensures.value ∙ c.in_ok-conditions.ensures)) (conditions_are c.args.kernel.now)
