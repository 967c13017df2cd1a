use Rattle.sig_rel.proofs.{◌≡◌, ◌∙◌, length, sym, ap, subst, range_with_len, length-map, length-range_with_len, written, counted_for, gives, AreFirsts}
use Rattle.sig_rel.proofs.rules.counted_of.Goals as goal

pub without_unexcused-requires : goal.without_unexcused-requires
without_unexcused-requires c = subst (AreFirsts (gives c.args.least.now) c.args.kernel.now) (sym c.deref_mut.ensures.value) c.in_ok-counted.ensures

pub returns : goal.returns
returns c =
    let kernel = c.args.kernel.now in
    let f = counted_for kernel c.args.least.now in
    let range = range_with_len 0 (length kernel.signals) in
    let new = c.without_unexcused.new.firsts in
    let items = c.in_ok-counted.counted.items in
    let value = c.deref_mut.ensures.value in
    let count : length new ≡ length items = ap length c.without_unexcused.ensures ∙ length-map range f ∙ length-range_with_len 0 (length kernel.signals) ∙ sym c.in_ok-counted.ensures.count in
    written c.in_ok-counted.counted.len new items count (sym c.deref_mut.ensures.len ∙ ap length value) ∙ c.without_unexcused.ensures
