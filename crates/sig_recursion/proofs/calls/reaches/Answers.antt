use Rattle.sig_recursion.proofs.{walk_begins, walk_goes, walk_covers, waits_within, start_within, callees_within, callees_are, covered_misses, ◌∙◌, refl, arith}
use Rattle.sig_recursion.proofs.calls.reaches.Goals as goal

pub loop-next-init : goal.loop-next-init
loop-next-init c = let visits = (rw (c.new-waiting.ensures.items, c.as_slice.ensures) at c.in_ok-visit.ensures) in record {
  walk = walk_begins _ _ _ _ _ _ (start_within _ _ c.requires.start) c.requires.covered visits;
  sizes = visits.size ∙ c.requires.sizes;
}

pub index-requires : goal.index-requires
index-requires c =
    let below = waits_within c.args.calls.now.callees.items c.args.start c.args.target c.in-Some.next c.loop-next.visited c.loop-next.waiting.items _ c.loop-next.invariant.walk c.in-Some.ensures.items in
    omega (arith, below, c.args.calls.now.callees.ok.0)

pub visit-requires-in-Some : goal.visit-requires-in-Some
visit-requires-in-Some c =
    let below = waits_within c.args.calls.now.callees.items c.args.start c.args.target c.in-Some.next c.loop-next.visited c.loop-next.waiting.items _ c.loop-next.invariant.walk c.in-Some.ensures.items in
    callees_within c.args.calls.now.callees.items c.in-Some.next _ c.deref.result.now c.requires.graph (c.deref.ensures.value ∙ callees_are c.args.calls.now.callees.items c.in-Some.next c.index.result.now below c.index.ensures) c.loop-next.invariant.sizes

pub loop-next-preserved : goal.loop-next-preserved
loop-next-preserved c =
    let below = waits_within c.args.calls.now.callees.items c.args.start c.args.target c.in-Some.next c.loop-next.visited c.loop-next.waiting.items _ c.loop-next.invariant.walk c.in-Some.ensures.items in
    let visits = (rw c.deref.ensures.value at c.in_ok-visit-2.ensures) in
    record {
      walk = walk_goes _ _ _ _ _ _ _ _ _ _ c.requires.graph c.in-Some.ensures.items c.if-next-target.false (callees_are c.args.calls.now.callees.items c.in-Some.next c.index.result.now below c.index.ensures) c.loop-next.invariant.walk visits;
      sizes = visits.size ∙ c.loop-next.invariant.sizes;
    }

pub returns-clause-found : goal.returns-clause-found
returns-clause-found c = (λ e. absurd cc, λ p. absurd (covered_misses _ _ _ _ _ refl (walk_covers _ _ _ _ _ _ c.loop-next.waiting.ok.0 c.in_default.ensures.cases.0 c.loop-next.invariant.walk) c.loop-next.invariant.walk.begun p))
