use Rattle.sig_dd.proofs.{◌∙◌, ap, sym, subst, arith, length, length_push, AreMasks, Ref, masks_push}
use Rattle.sig_dd.proofs.store.Store.masks.Goals as goal

pub mask_of-requires-clause-masks : goal.mask_of-requires-clause-masks
mask_of-requires-clause-masks c = subst (AreMasks c.args.self.now.nodes c.args.block) (sym c.as_slice.ensures.value) c.loop-number.invariant.masks

pub loop-number-preserved : goal.loop-number-preserved
loop-number-preserved c =
    let inv = c.loop-number.invariant in
    let n = inv.count in
    let r : Ref = record { number = c.loop-number.number } in
    record {
      count = ap length c.in_ok-push.ensures.items ∙ length_push c.loop-number.masks.items c.mask_of.result ∙ omega (arith, n);
      masks = subst (AreMasks c.args.self.now.nodes c.args.block) (sym c.in_ok-push.ensures.items)
          (masks_push c.args.self.now.nodes c.args.block c.loop-number.masks.items inv.masks r (sym n) c.mask_of.result c.mask_of.ensures);
    }
