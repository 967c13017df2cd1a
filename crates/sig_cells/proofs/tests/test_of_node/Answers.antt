use Rattle.sig_cells.proofs.{◌≡◌, Bool, true, false, slice_index_or, sym, subst, SigId, Ref, IsRefOf, scope_of, test_is, test_is_not, told_plain, told_turned, variable_there}
use Rattle.sig_cells.proofs.tests.test_of_node.Goals as goal

abbrev none : SigId
none = record { 0 = 0 }

pub bounds-conditions-node : goal.bounds-conditions-node
bounds-conditions-node c =
    variable_there (scope_of c.args.store.now.nodes c.args.conditions.now c.args.signals) c.constant-yes.ensures.store.reduced c.requires.below c.args._guard c.requires.held c.requires.told
    c.args.node c.requires.node

pub returns-then-plain : goal.returns-then-plain
returns-then-plain c =
    let scope = scope_of c.args.store.now.nodes c.args.conditions.now c.args.signals in
    let guard = c.args._guard in
    let children = c.has_children-plain.ensures c.if-plain.true in
    let leaf = λ (t : Bool) (leaf child : Ref) (same : child ≡ leaf) (is : IsRefOf scope.nodes (λ _. t) leaf). subst (λ (r : Ref). IsRefOf scope.nodes (λ _. t) r) (sym same) is in
    λ known. test_is scope known guard (slice_index_or scope.conditions c.args.node.variable none)
    (told_plain scope c.constant-yes.ensures.store.reduced c.requires.below guard c.requires.held c.requires.told c.args.node c.requires.node
    (leaf false c.constant-no.result c.args.node.low children.0 c.constant-no.ensures.value) (leaf true c.constant-yes.result c.args.node.high children.1 c.constant-yes.ensures.value))

pub returns-then-turned : goal.returns-then-turned
returns-then-turned c =
    let scope = scope_of c.args.store.now.nodes c.args.conditions.now c.args.signals in
    let guard = c.args._guard in
    let children = c.has_children-turned.ensures c.if-turned.true in
    let leaf = λ (t : Bool) (leaf child : Ref) (same : child ≡ leaf) (is : IsRefOf scope.nodes (λ _. t) leaf). subst (λ (r : Ref). IsRefOf scope.nodes (λ _. t) r) (sym same) is in
    λ known. test_is_not scope known guard (slice_index_or scope.conditions c.args.node.variable none)
    (told_turned scope c.constant-yes.ensures.store.reduced c.requires.below guard c.requires.held c.requires.told c.args.node c.requires.node
    (leaf true c.constant-yes.result c.args.node.low children.0 c.constant-yes.ensures.value) (leaf false c.constant-no.result c.args.node.high children.1 c.constant-no.ensures.value))
