use Rattle.sig_scope.proofs.{declarations_in, item_in, role_in, map, take, ◌++◌, ◌≡◌}
use Rattle.sig_scope.proofs.declared.add_items.Given as goal

abbrev pub invariant-loop-item : goal.invariant-loop-item
invariant-loop-item l = declarations_in l.all.items ≡ declarations_in l.initial.all.items ++ map (item_in l.kind (role_in l.role)) (take l.item-index l.items)
