use Rattle.sig_solve.proofs.{◌≡◌, List, [], ◌∷◌, ◌++◌, length, take, sym, ap, ◌∙◌, subst, get_or, arith, length_push, take_all, slice_get, SigId, AreFirsts, Precedes, before_place, firsts_begin, firsts_more, firsts_stay, take_next, slice_get-get_or}
use Rattle.sig_solve.proofs.classes.firsts_of.Goals as goal
use Rattle.sig_solve.proofs.classes.firsts_of.Goals.{in-Some, in-None+in_ok-push-in-None}

pub loop-signal-init : goal.loop-signal-init
loop-signal-init c =
    let one : c.push.new.self.items ≡ c.args.root ∷ [] = c.in_ok-push.ensures.items ∙ ap (λ (xs : List SigId). xs ++ c.args.root ∷ []) c.new-firsts.ensures.items in
    record {
      firsts = firsts_begin c.args.frame.now c.args.layers.now c.args.guards.now c.args.root c.push.new.self.items one;
      few = omega (arith, ap length one);
    }

pub place_of-requires : goal.place_of-requires
place_of-requires c = omega (arith, ap length c.as_slice.ensures.value, c.loop-signal.invariant.few, c.loop-signal-test.true, c.requires.few)

pub loop-signal-preserved : goal.loop-signal-preserved
loop-signal-preserved c =
    let d : SigId = record { 0 = 0 } in
    let x = get_or c.args.ordered.now c.loop-signal.signal-index d in
    let at = slice_get-get_or c.args.ordered.now c.loop-signal.signal-index d c.loop-signal-test.true in
    let done = take c.loop-signal.signal-index c.args.ordered.now in
    let next = sym (take_next c.args.ordered.now c.loop-signal.signal-index x at) in
    let order = before_place {R = Precedes c.args.frame.now c.args.layers.now} c.args.ordered.now c.loop-signal.signal-index x c.requires.order at in
    elim c.match-place_of.branch [
      | in-Some w ↦
          let same = ap (λ v. v.items) w.firsts-is in
          record {
            firsts = subst (λ xs. AreFirsts c.args.frame.now c.args.layers.now c.args.guards.now c.args.root xs c.match-place_of.firsts.items) next
                (subst (λ xs. AreFirsts c.args.frame.now c.args.layers.now c.args.guards.now c.args.root (done ++ x ∷ []) xs) (sym same)
                (firsts_stay c.args.frame.now c.args.layers.now c.args.guards.now c.args.root done c.loop-signal.firsts.items x c.loop-signal.invariant.firsts order w.in-Some._place w.in-Some.ensures.0
                (ap (λ (xs : List SigId). slice_get xs w.in-Some._place) (sym c.as_slice.ensures.value) ∙ w.in-Some.ensures.1) w.in-Some.ensures.2));
            few = omega (arith, ap length same, c.loop-signal.invariant.few);
          }
      | in-None+in_ok-push-in-None w ↦
          let same = ap (λ v. v.items) w.firsts-is ∙ w.in_ok-push-in-None.ensures.items in
          record {
            firsts = subst (λ xs. AreFirsts c.args.frame.now c.args.layers.now c.args.guards.now c.args.root xs c.match-place_of.firsts.items) next
                (firsts_more c.args.frame.now c.args.layers.now c.args.guards.now c.args.root done c.loop-signal.firsts.items x c.loop-signal.invariant.firsts order c.match-place_of.firsts.items same
                (λ i e at_i. w.in-None.ensures i e (ap (λ (xs : List SigId). slice_get xs i) c.as_slice.ensures.value ∙ at_i)));
            few = omega (arith, ap length same, length_push c.loop-signal.firsts.items x, c.loop-signal.invariant.few);
          }
    ]

pub returns : goal.returns
returns c = (
  subst (λ xs. AreFirsts c.args.frame.now c.args.layers.now c.args.guards.now c.args.root xs c.loop-signal.firsts.items) (take_all c.loop-signal.signal-index c.args.ordered.now (omega arith)) c.loop-signal.invariant.firsts,
  omega (arith, c.loop-signal.invariant.few),
)
