use Rattle.sig_solve.proofs.{◌≡◌, ◌≢◌, ◌<◌, ◌+◌, ◌*◌, inl, inr, ℕ, List, length, get_or, set, sym, ap, ◌∙◌, subst, arith, Contains, None, Some, slice_get, length-set, cases_eq, get_or_default, SigId, StoreView, Keeps, Ref, Node, Keeps-trans, variables_of, leaders_of, IsGuard, Frame, guard_stays, are_proposed, asked_stays, get_set_other, leader_at, ordered_leaders, next_turn, refused, turn_within, get_set_same}
use Rattle.sig_solve.proofs.guards.guards_of.Goals as goal

pub places_of-requires-clause-proposed : goal.places_of-requires-clause-proposed
places_of-requires-clause-proposed c = are_proposed c.args.store.now c.args.asked.now c.requires.asked

pub places_of-requires-clause-all : goal.places_of-requires-clause-all
places_of-requires-clause-all c = λ b there. (c.requires.conditions.all b).1 ((c.requires.asked.conditions.all b).0 there)

pub known_of-requires : goal.known_of-requires
known_of-requires c = are_proposed c.args.store.now c.args.asked.now c.requires.asked

pub guard-requires-clause-asked : goal.guard-requires-clause-asked
guard-requires-clause-asked c = asked_stays c.args.store.now c.loop-leader.store c.loop-leader.invariant.kept c.args.asked.now c.loop-leader.invariant.store c.requires.asked

pub guard-requires-clause-signal : goal.guard-requires-clause-signal
guard-requires-clause-signal c = leader_at c.args.asked.now.frame c.requires.asked.parts c.as_slice-leader-items.result.now c.loop-leader.leader-index c.as_slice-leader-items.ensures.value c.loop-leader-test.true

pub index_mut-requires : goal.index_mut-requires
index_mut-requires c =
    let below = leader_at c.args.asked.now.frame c.requires.asked.parts c.as_slice-leader-items.result.now c.loop-leader.leader-index c.as_slice-leader-items.ensures.value c.loop-leader-test.true in
    omega (arith, below, c.loop-leader.invariant.count, c.loop-leader.guards.ok.0)

pub returns-in_err-guard-clause-share : goal.returns-in_err-guard-clause-share
returns-in_err-guard-clause-share c =
    let m = 2 + 2 * c.args.asked.now.system.variables in
    let vs = variables_of c.args.asked.now.system in
    let n = length c.args.asked.now.frame.leaders.items in
    let few : c.loop-leader.leader-index < n = omega (arith, c.loop-leader-test.true, ap length c.as_slice-leader-items.ensures.value) in
    refused (m * n) vs c.args.store.now c.guard.new.store c.from_residual-in_err-guard.result c.in_err-guard.field-0.0 c.from_residual-in_err-guard.ensures.1
    (turn_within m c.loop-leader.leader-index n vs c.args.store.now c.loop-leader.store c.guard.new.store _ few c.loop-leader.invariant.share c.in_err-guard.ensures.share)

-- the guards so far, and one more
one_more_guard : (old new : StoreView) (frame : Frame) (conditions : List SigId) (guards : List Ref) (leaders : List ℕ) (i : ℕ) (guard : Ref) → leaders ≡ leaders_of frame.least.items → i < length leaders → get_or leaders i 0 < length guards → Keeps old new
    → ((k : ℕ) → k < i → (r : Ref) × (slice_get guards (get_or leaders k 0) ≡ Some r) × IsGuard old.nodes frame conditions (get_or leaders k 0) r) → IsGuard new.nodes frame conditions (get_or leaders i 0) guard
    → (k : ℕ) → k < i + 1 → (r : Ref) × (slice_get (set guards (get_or leaders i 0) guard) (get_or leaders k 0) ≡ Some r) × IsGuard new.nodes frame conditions (get_or leaders k 0) r
one_more_guard old new frame conditions guards leaders i guard same within below kept before here k lt = elim (cases_eq k i) [
  | inl e ↦ subst (λ j. (r : Ref) × (slice_get (set guards (get_or leaders i 0) guard) (get_or leaders j 0) ≡ Some r) × IsGuard new.nodes frame conditions (get_or leaders j 0) r) (sym e)
      (guard, get_set_same guards (get_or leaders i 0) guard below, here)
  | inr ne ↦
      let less : k < i = omega (arith, lt, ne) in
      let at = before k less in
      let apart : get_or leaders k 0 ≢ get_or leaders i 0 = (let increasing = ordered_leaders frame.least.items leaders same k i 0 less within in omega (arith, increasing)) in
      (at.0, get_set_other guards (get_or leaders i 0) (get_or leaders k 0) guard at.0 apart at.1, guard_stays old new frame conditions at.0 kept (get_or leaders k 0) at.2)
]

pub loop-leader-preserved : goal.loop-leader-preserved
loop-leader-preserved c =
    let s = get_or c.as_slice-leader-items.result.now c.loop-leader.leader-index 0 in
    let below = leader_at c.args.asked.now.frame c.requires.asked.parts c.as_slice-leader-items.result.now c.loop-leader.leader-index c.as_slice-leader-items.ensures.value c.loop-leader-test.true in
    let m = 2 + 2 * c.args.asked.now.system.variables in
    record {
      store = c.in_ok-guard.ensures.store;
      kept = Keeps-trans c.args.store.now c.loop-leader.store c.guard.new.store c.loop-leader.invariant.kept c.in_ok-guard.ensures.kept;
      count = length-set c.loop-leader.guards.items s c.in_ok-guard.guard ∙ c.loop-leader.invariant.count;
      each = one_more_guard c.loop-leader.store c.guard.new.store c.args.asked.now.frame c.args.conditions.now c.loop-leader.guards.items c.as_slice-leader-items.result.now c.loop-leader.leader-index c.in_ok-guard.guard
          (c.as_slice-leader-items.ensures.value ∙ c.requires.asked.parts.leaders) c.loop-leader-test.true (omega (arith, below, c.loop-leader.invariant.count)) c.in_ok-guard.ensures.kept c.loop-leader.invariant.each c.in_ok-guard.ensures.value;
      share = next_turn m c.loop-leader.leader-index (variables_of c.args.asked.now.system) c.args.store.now c.loop-leader.store c.guard.new.store None c.loop-leader.invariant.share c.in_ok-guard.ensures.share;
    }

at_place : (nodes : List Node) (frame : Frame) (conditions : List SigId) (guards : List Ref) (leaders : List ℕ) → leaders ≡ frame.leaders.items
    → ((k : ℕ) → k < length leaders → (r : Ref) × (slice_get guards (get_or leaders k 0) ≡ Some r) × IsGuard nodes frame conditions (get_or leaders k 0) r)
    → (s : ℕ) → Contains frame.leaders.items s → (r : Ref) × (slice_get guards s ≡ Some r) × IsGuard nodes frame conditions s r
at_place nodes frame conditions guards leaders same each s there =
    let at = subst (λ (xs : List ℕ). Contains xs s) (sym same) there in
    let own : get_or leaders at.0 0 ≡ s = sym (get_or_default leaders at.0 s 0 at.1) ∙ at.2 in
    subst (λ k. (r : Ref) × (slice_get guards k ≡ Some r) × IsGuard nodes frame conditions k r) own (each at.0 at.1)

pub returns-clause-value : goal.returns-clause-value
returns-clause-value c = record {
  count = c.loop-leader.invariant.count;
  each = at_place c.loop-leader.store.nodes c.args.asked.now.frame c.args.conditions.now c.loop-leader.guards.items c.as_slice-leader-items.result.now c.as_slice-leader-items.ensures.value (λ k lt. c.loop-leader.invariant.each k (omega arith));
}
