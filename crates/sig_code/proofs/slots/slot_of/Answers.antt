use Rattle.sig_code.proofs.{List, length, refl, inl, inr, subst, arith, IsWithin, none_found, slot_found, IsLastBelow, Slot}
use Rattle.sig_code.proofs.slots.slot_of.Goals as goal

pub returns-in-Some : goal.returns-in-Some
returns-in-Some c = inl (refl, slot_found c.args.slots.now.items c.args.guard c.in-Some.number (let e = c.as_slice.ensures.value in cc (c.in-Some.ensures)))

pub returns : goal.returns
returns c =
    let slots = c.args.slots.now.items in
    inr (record {
      slot = record { guard = c.args.guard; parent = c.in_ok-parent.parent };
      guarded = refl;
      added = c.in_ok-push.ensures.items;
      place = omega arith;
      none = none_found slots c.args.guard (let e = c.as_slice.ensures.value in let n = c.in_default.is in cc);
      parent =
          let P : List Slot → Type 0 = λ ss. IsLastBelow (IsWithin c.args.store.now.nodes ss c.args.guard) (length ss) c.in_ok-parent.parent in
          subst P c.as_slice-2.ensures.value c.in_ok-parent.ensures;
    })
