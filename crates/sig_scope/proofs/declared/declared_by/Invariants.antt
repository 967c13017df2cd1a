use Rattle.sig_scope.proofs.{declarations_in, item_in, role_in, map, take, ◌≡◌, flat_map}
use Rattle.sig_scope.proofs.declared.declared_by.Given as goal

abbrev pub invariant-loop-group : goal.invariant-loop-group
invariant-loop-group l = declarations_in l.all.items ≡ flat_map (λ group. map (item_in group.kind (role_in l.role)) group.items.items) (take l.group-index l.groups)
