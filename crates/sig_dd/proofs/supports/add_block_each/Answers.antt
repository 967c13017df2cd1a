use Rattle.sig_dd.proofs.{◌≡◌, ◌<◌, ◌+◌, ◌*◌, ◌∙◌, [], sym, subst, arith, length, get_or, get_or-set_other, Ref, IsTestedBelow, IsMask, length-set, slice_get_within, block_more, get_or_from_slice_get, read_or_empty}
use Rattle.sig_dd.proofs.supports.add_block_each.Goals as goal

pub loop-place-preserved : goal.loop-place-preserved
loop-place-preserved c =
    let inv = c.loop-place.invariant in
    let n = c.loop-place.place in
    let roots = c.args.roots.now in
    let lists = c.loop-place.lists in
    let masks = c.args.masks.now in
    let zero : Ref = record { number = 0 } in
    let lt = c.loop-place-test.true in
    let count = inv.count in
    let within : n < length lists = omega (arith, lt, count) in
    let read = read_or_empty lists n c.index-lists-place.result within c.index-lists-place.is in
    record {
      count = length-set lists n c.add_block.new.self ∙ count;
      done = λ nodes are before. block_more nodes (c.args.block * 64 + 64) roots lists n c.add_block.new.self within (inv.done nodes are before)
          (λ r get.
          let root : get_or roots n zero ≡ r = get_or_from_slice_get roots n r zero get in
          let mask = subst (λ (q : Ref). IsMask nodes c.args.block q (get_or masks (get_or roots n zero).number 0)) root (are (get_or roots n zero) (c.requires.within n zero lt)) in
          let was = subst (IsTestedBelow nodes (c.args.block * 64) r) (sym (inv.left n (omega arith))) (before.each n r get) in
          c.in_ok-add_block.ensures nodes r mask (subst (IsTestedBelow nodes (c.args.block * 64) r) (sym (sym c.index-lists-place.is ∙ read)) was));
      left = λ i least. get_or-set_other lists n i c.add_block.new.self [] (omega (arith, least)) ∙ inv.left i (omega (arith, least));
    }

pub returns : goal.returns
returns c = λ nodes are before.
    let inv = c.loop-place.invariant in
    let last = c.loop-place-test.false in
    record {
      count = inv.count;
      each = λ i r get. inv.done nodes are before i r (let lt = slice_get_within c.args.roots.now i r get in omega (arith, lt, last)) get;
    }
