use Rattle.sig_dd.proofs.{◌≡◌, ◌+◌, ◌*◌, ◌++◌, ◌∙◌, ℕ, List, ap, sym, subst, arith, length, take, drop, append-nil, slice_get_within, get_or, Ref, AreMasks, AreTestedBelow, Holds, supported, drop_all, take_all, get_or_from_slice_get}
use Rattle.sig_dd.proofs.store.Store.supports.Goals as goal

-- what is written over a list of the same length is all of it
written : {X : Type 0} (len : ℕ) (new items : List X) → length new ≡ length items → len ≡ length items → take len (new ++ drop (length new) items) ≡ new
written len new items same is =
    ap (λ rest. take len (new ++ rest)) (drop_all (length new) items (omega (arith, same))) ∙ ap (take len) (append-nil new) ∙ take_all len new (omega (arith, same, is))

pub blocks-block-end-requires-clause-held : goal.blocks-block-end-requires-clause-held
blocks-block-end-requires-clause-held c = c.count_of-count.ensures.least (length c.args.self.now.nodes + 2) c.requires

pub blocks-block-end-requires-clause-numbered : goal.blocks-block-end-requires-clause-numbered
blocks-block-end-requires-clause-numbered c =
    let held = c.count_of-count.ensures.least (length c.args.self.now.nodes + 2) c.requires in
    let fits = c.allocator.ensures.numbered in
    omega (arith, held, fits)

pub masks-requires-clause-held : goal.masks-requires-clause-held
masks-requires-clause-held c = c.count_of-count.ensures.least (length c.args.self.now.nodes + 2) c.requires

pub masks-requires-clause-numbered : goal.masks-requires-clause-numbered
masks-requires-clause-numbered c =
    let held = c.count_of-count.ensures.least (length c.args.self.now.nodes + 2) c.requires in
    let fits = c.allocator.ensures.numbered in
    omega (arith, held, fits)

pub loop-block-preserved : goal.loop-block-preserved
loop-block-preserved c =
    let nodes = c.args.self.now.nodes in
    let roots = c.args.roots.now in
    let block = c.loop-block.block in
    let lists = c.loop-block.lists.items in
    let new = c.add_block_each.new.lists in
    let value = c.deref_mut.ensures.value in
    let next : block * 64 + 64 ≡ (block + 1) * 64 = omega arith in
    let masks = subst (AreMasks nodes block) (sym c.as_slice.ensures.value) c.in_ok-masks.ensures.masks in
    let made = c.in_ok-add_block_each.ensures nodes masks (subst (AreTestedBelow nodes (block * 64) roots) (sym value) c.loop-block.invariant) in
    let was = c.loop-block.invariant.count in
    let now = made.count in
    let same : length new ≡ length lists = omega (arith, was, now) in
    let whole = written c.loop-block.lists.len new lists same (sym c.deref_mut.ensures.len ∙ ap length value) in
    subst (AreTestedBelow nodes ((block + 1) * 64) roots) (sym whole) (subst (λ (bound : ℕ). AreTestedBelow nodes bound roots new) next made)

pub returns-clause-value : goal.returns-clause-value
returns-clause-value c =
    let nodes = c.args.self.now.nodes in
    let roots = c.args.roots.now in
    let inv = c.loop-block.invariant in
    let last = c.loop-block-test.false in
    record {
      count = inv.count;
      each = λ i r get.
          let lt = slice_get_within roots i r get in
          let here = get_or_from_slice_get roots i r r get in
          let number = ap (λ (q : Ref). q.number) here in
          let within = c.count_of-count.ensures.within i r lt in
          let held = subst (Holds nodes) here (c.requires i r lt) in
          supported nodes c.allocator.ensures.store.reduced (c.loop-block.block * 64) r held
          (λ v tests. let less = c.blocks-block-end.ensures.all r (omega (arith, number, within)) v tests in omega (arith, less, last))
          (get_or c.loop-block.lists.items i _) (inv.each i r get);
    }
