use Rattle.sig_work.proofs.{◌≡◌, ◌+◌, ◌∙◌, List, sym, subst, arith, seated_more, AreSeated, Share}
use Rattle.sig_work.proofs.handing.seated.Goals as goal

pub loop-preserved : goal.loop-preserved
loop-preserved c = record {
  word = c.seat.ensures.kept.0 ∙ c.loop.invariant.word;
  parts_left = (let kept = c.seat.ensures.kept.1 in let before = c.loop.invariant.parts_left in omega (arith, kept, before));
  none = c.seat.ensures.same.0 ∙ c.loop.invariant.none;
  seated = subst (λ (xs : List Share). AreSeated c.args.halt.now (c.loop.counter + 1) c.args.members xs) (sym c.in_ok-push.ensures.items)
      (seated_more c.args.halt.now c.loop.counter c.args.members c.loop.shares.items _ c.loop.invariant.seated c.in_ok-with_capacity.ensures.items c.in_ok-with_capacity.ensures.capacity
      c.seat.ensures.word.0 c.seat.ensures.knows.0 c.seat.ensures.word.1);
}

pub returns : goal.returns
returns c =
    let all : c.loop.counter ≡ c.args.served = omega (arith, c.loop-test.false, c.loop.auto.counter-end) in
    let left = c.loop.invariant.parts_left in
    subst (λ n. AreSeated c.args.halt.now (n + 1) c.args.members c.push-2.new.self.items) all
    (subst (λ (xs : List Share). AreSeated c.args.halt.now (c.loop.counter + 1) c.args.members xs) (sym c.in_ok-push-2.ensures.items)
    (seated_more c.args.halt.now c.loop.counter c.args.members c.loop.shares.items _ c.loop.invariant.seated c.in_ok-with_capacity-2.ensures.items c.in_ok-with_capacity-2.ensures.capacity
    c.loop.invariant.word c.loop.invariant.none (omega (arith, all, left))))
