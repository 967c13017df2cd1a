use Rattle.sig_part.proofs.{◌≡◌, ◌<◌, ◌↔◌, ◌∙◌, ℕ, List, [], ap, sym, subst, arith, length, map, Contains, Some, slice_get, filter_map, get_or, get_or_read, length_push, length-map, All-map, All, Holds, Ref, SigId, ClocksView, operation_in, Needs, Op, each_more, needs_are, IsSupport, slice_get_within, get_map}
use Rattle.sig_part.proofs.needs.needed_by_each.Goals as goal

pub supports-requires : goal.supports-requires
supports-requires c =
    let guards = c.as_slice.ensures.value ∙ c.in_ok-guards.ensures in
    subst (λ (refs : List Ref). All (Holds c.args.store.now.nodes) refs) (sym guards) (All-map (Holds c.args.store.now.nodes) (λ (op : Op). op.guard) c.args.ops.now c.requires)

pub loop-variables-preserved : goal.loop-variables-preserved
loop-variables-preserved c =
    let inv = c.loop-variables.invariant in
    let conditions = c.args.clocks.now.conditions in
    let nodes = c.args.store.now.nodes in
    let ops = c.args.ops.now in
    let n = c.loop-variables.variables-index in
    let variables = c.variables-item.result in
    let list = c.from.result in
    let guards = c.as_slice.ensures.value ∙ c.in_ok-guards.ensures in
    let lists = c.as_slice-variables-items.ensures.value in
    let read = get_or_read c.as_slice-variables-items.result.now n variables c.loop-variables-test.true c.variables-item.is [] ∙ (λ j. get_or (lists j) n []) in
    let listed = c.from.ensures ∙ c.in_ok-list.ensures ∙ (λ j. filter_map (slice_get ((c.as_slice-in-loop-variables.ensures.value ∙ ap (λ (v : ClocksView). v.conditions) c.clocks.view_is) j)) (c.as_slice-in-loop-variables-2.ensures j)) in
    record {
      count = ap length c.in_ok-push.ensures.items ∙ length_push c.loop-variables.needs.items list ∙ (let count = inv.count in omega (arith, count));
      each = each_more (λ (number : ℕ) (needs : List SigId). (op : Op) → slice_get ops number ≡ Some op → (x : SigId) → Contains needs x ↔ Needs conditions (operation_in nodes op) x)
          c.loop-variables.needs.items c.push.new.self.items list [] n inv.count inv.each
          (λ op get. needs_are nodes conditions op variables list
          ((subst (IsSupport nodes op.guard) (sym read) (c.in_ok-supports.ensures.value.each n op.guard (ap (λ (refs : List Ref). slice_get refs n) guards ∙ get_map (λ (o : Op). o.guard) ops n op get))).exact)
          listed)
          c.in_ok-push.ensures.items;
    }

pub returns : goal.returns
returns c =
    let inv = c.loop-variables.invariant in
    let n = inv.count in
    let last = c.loop-variables-test.false in
    let most = c.loop-variables.auto.variables-index-end in
    let guards = ap length (c.as_slice.ensures.value ∙ c.in_ok-guards.ensures) ∙ length-map c.args.ops.now (λ (op : Op). op.guard) in
    let lists = ap length c.as_slice-variables-items.ensures.value in
    let same = c.in_ok-supports.ensures.value.count in
    record {
      count = omega (arith, n, last, most, guards, lists, same);
      each = λ number op is. inv.each number (omega (arith, slice_get_within c.args.ops.now number op is, last, guards, lists, same)) op is;
    }
