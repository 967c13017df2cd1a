use Rattle.sig_scope.proofs.{map, [], declared_of, role_in, item_in, grown}
use Rattle.sig_tree.specs.Syntax.{Declared}
use Rattle.sig_scope.proofs.declared.declared_by.Goals as goal

pub returns : goal.returns
returns c = grown (λ (group : Declared). map (item_in group.kind (role_in c.args.role)) group.items) declared_of [] _ c.args.groups.now _ c.loop-group-test.false c.loop-group.invariant
