use Rattle.sig_solve.proofs.{◌≡◌, ◌<◌, ◌+◌, ◌*◌, inl, inr, ℕ, List, length, get_or, sym, ap, ◌∙◌, subst, arith, None, Some, slice_get, cases_eq, SigId, Kernel, IsFree, Keeps-trans, ForgetsAllBut, variables_of, are_proposed, asked_stays, apart_pinned, refs_apart, refs_same, same_free, all_free, first_pinned, free_is, next_turn, refused, turn_within, slice_get-get_or}
use Rattle.sig_solve.proofs.pinned.find_pinned.Goals as goal

pub known_of-requires : goal.known_of-requires
known_of-requires c = are_proposed c.args.store.now c.args.asked.now c.requires.asked

pub halves-requires-clause-asked : goal.halves-requires-clause-asked
halves-requires-clause-asked c = asked_stays c.args.store.now c.loop-place.store c.loop-place.invariant.kept c.args.asked.now c.loop-place.invariant.store c.requires.asked

pub returns-in_err-high-clause-share : goal.returns-in_err-high-clause-share
returns-in_err-high-clause-share c =
    let m = 5 + 2 * c.args.asked.now.system.variables in
    refused (m * length c.args.conditions.now) (variables_of c.args.asked.now.system) c.args.store.now c.halves.new.store c.from_residual-in_err-high.result c.in_err-high.field-0.0 c.from_residual-in_err-high.ensures.1
    (turn_within m c.loop-place.place (length c.args.conditions.now) (variables_of c.args.asked.now.system) c.args.store.now c.loop-place.store c.halves.new.store _ c.loop-place-test.true c.loop-place.invariant.share c.in_err-high.ensures.share)

pub returns-then-ne-clause-value : goal.returns-then-ne-clause-value
returns-then-ne-clause-value c =
    let d : SigId = record { 0 = 0 } in
    let b = get_or c.args.conditions.now c.loop-place.place d in
    let at = slice_get-get_or c.args.conditions.now c.loop-place.place d c.loop-place-test.true in
    let is = asked_stays c.args.store.now c.halves.new.store (Keeps-trans c.args.store.now c.loop-place.store c.halves.new.store c.loop-place.invariant.kept c.in_ok-high.ensures.kept) c.args.asked.now c.in_ok-high.ensures.store c.requires.asked in
    let but = subst (λ xs. ForgetsAllBut c.args.asked.now.system xs c.in_ok-known.known.forgotten.items) c.in_ok-earlier.ensures.items c.in_ok-known.ensures.1 in
    first_pinned c.args.asked.now.frame.kernel.now c.args.conditions.now c.requires.conditions c.loop-place.place b at c.loop-place.invariant.free
    (apart_pinned c.halves.new.store c.args.asked.now is c.args.conditions.now c.requires.conditions c.loop-place.place b at c.in_ok-known.known.forgotten.items but c.in_ok-high.high c.in_ok-high.low c.in_ok-high.ensures.value
    (refs_apart c.in_ok-high.high c.in_ok-high.low c.ne.result c.ne.ensures c.if-ne.true))

one_more_free : (kernel : Kernel) (conditions : List SigId) (place : ℕ) (d : SigId) → place < length conditions → ((k : ℕ) (c : SigId) → k < place → slice_get conditions k ≡ Some c → IsFree kernel c.0)
    → IsFree kernel (get_or conditions place d).0 → (k : ℕ) (c : SigId) → k < place + 1 → slice_get conditions k ≡ Some c → IsFree kernel c.0
one_more_free kernel conditions place d within before here k c lt is = elim (cases_eq k place) [
  | inl e ↦
      let at : Some (get_or conditions place d) ≡ Some c = sym (slice_get-get_or conditions place d within) ∙ ap (slice_get conditions) (sym e) ∙ is in
      let same : get_or conditions place d ≡ c = cc in
      subst (λ (x : SigId). IsFree kernel x.0) same here
  | inr ne ↦ before k c (omega (arith, lt, ne)) is
]

pub loop-place-preserved : goal.loop-place-preserved
loop-place-preserved c =
    let m = 5 + 2 * c.args.asked.now.system.variables in
    let d : SigId = record { 0 = 0 } in
    let b = get_or c.args.conditions.now c.loop-place.place d in
    let at = slice_get-get_or c.args.conditions.now c.loop-place.place d c.loop-place-test.true in
    let is = asked_stays c.args.store.now c.halves.new.store (Keeps-trans c.args.store.now c.loop-place.store c.halves.new.store c.loop-place.invariant.kept c.in_ok-high.ensures.kept) c.args.asked.now c.in_ok-high.ensures.store c.requires.asked in
    let but = subst (λ xs. ForgetsAllBut c.args.asked.now.system xs c.in_ok-known.known.forgotten.items) c.in_ok-earlier.ensures.items c.in_ok-known.ensures.1 in
    record {
      store = c.in_ok-high.ensures.store;
      kept = Keeps-trans c.args.store.now c.loop-place.store c.halves.new.store c.loop-place.invariant.kept c.in_ok-high.ensures.kept;
      free = one_more_free c.args.asked.now.frame.kernel.now c.args.conditions.now c.loop-place.place d c.loop-place-test.true c.loop-place.invariant.free
          (free_is c.args.asked.now.frame.kernel.now c.args.conditions.now c.requires.conditions c.loop-place.place b at
          (same_free c.halves.new.store c.args.asked.now is c.args.conditions.now c.requires.conditions c.loop-place.place b at c.in_ok-known.known.forgotten.items but c.in_ok-high.high c.in_ok-high.low c.in_ok-high.ensures.value
          (refs_same c.in_ok-high.high c.in_ok-high.low c.ne.result c.ne.ensures c.if-ne.false)));
      share = next_turn m c.loop-place.place (variables_of c.args.asked.now.system) c.args.store.now c.loop-place.store c.halves.new.store None c.loop-place.invariant.share c.in_ok-high.ensures.share;
    }

pub returns-clause-value : goal.returns-clause-value
returns-clause-value c = all_free c.args.asked.now.frame.kernel.now c.args.conditions.now c.requires.conditions (λ k b lt is. c.loop-place.invariant.free k b (omega arith) is)
