use Rattle.sig_solve.proofs.{◌≡◌, ◌<◌, ◌+◌, ◌*◌, ℕ, List, [], length, get_or, drop, sym, ap, ◌∙◌, subst, arith, Contains, None, get_or_default, length_push, drop-length, OutOfMemory, Keeps-itself, Keeps-trans, IsAmong, ArePassed, IsOpenAnswer, leader_is, determined_enters, enters_determined, pass_begins, pass_ends, stuck_more, turn_enters, turn_stays, variables_of, asked_stays, next_turn, no_turns, out_of_memory, refused, turn_within}
use Rattle.sig_solve.proofs.layers.pass.Goals as goal
use Rattle.sig_solve.proofs.layers.pass.Goals.{then-branch+in_ok-push, else-branch}

pub loop-class-init : goal.loop-class-init
loop-class-init c = record {
  store = c.requires.asked.has_store;
  kept = Keeps-itself c.args.store.now;
  passed = subst (λ xs. ArePassed c.args.asked.now.frame c.args.round c.args.layers.now xs c.args.waiting.now) (sym c.new-still.ensures.items)
      (pass_begins c.args.asked.now.frame c.requires.asked.parts c.args.round c.args.layers.now c.args.waiting.now c.requires.rounds);
  few = omega (arith, ap length c.new-still.ensures.items);
  stuck = λ e k lt. absurd (omega (arith, lt));
  awaited = c.requires.awaited;
  share = no_turns (3 + 2 * c.args.asked.now.system.variables) (variables_of c.args.asked.now.system) c.args.store.now;
}

pub stays_open-requires-clause-asked : goal.stays_open-requires-clause-asked
stays_open-requires-clause-asked c = asked_stays c.args.store.now c.loop-class.store c.loop-class.invariant.kept c.args.asked.now c.loop-class.invariant.store c.requires.asked

pub stays_open-requires-clause-entered : goal.stays_open-requires-clause-entered
stays_open-requires-clause-entered c = (c.args.round, c.requires.entered)

waiting_is : (waiting : List ℕ) (k : ℕ) → k < length waiting → Contains waiting (get_or waiting k 0)
waiting_is waiting k lt = (k, lt, get_or_default waiting k (get_or waiting k 0) 0 lt)

pub stays_open-requires-clause-class : goal.stays_open-requires-clause-class
stays_open-requires-clause-class c =
    (leader_is c.args.asked.now.frame c.requires.asked.parts (get_or c.args.waiting.now c.loop-class.class-index 0) (c.requires.rounds.left _ (waiting_is c.args.waiting.now c.loop-class.class-index c.loop-class-test.true)).0).0

pub returns-in_err-stays_open-clause-share : goal.returns-in_err-stays_open-clause-share
returns-in_err-stays_open-clause-share c =
    let m = 3 + 2 * c.args.asked.now.system.variables in
    refused (m * length c.args.waiting.now) (variables_of c.args.asked.now.system) c.args.store.now c.stays_open.new.store c.from_residual.result c.in_err-stays_open.field-0.0 c.from_residual.ensures.1
    (turn_within m c.loop-class.class-index (length c.args.waiting.now) (variables_of c.args.asked.now.system) c.args.store.now c.loop-class.store c.stays_open.new.store _ c.loop-class-test.true c.loop-class.invariant.share c.in_err-stays_open.ensures.share)

pub returns-in_err-push-clause-share : goal.returns-in_err-push-clause-share
returns-in_err-push-clause-share c =
    let m = 3 + 2 * c.args.asked.now.system.variables in
    refused (m * length c.args.waiting.now) (variables_of c.args.asked.now.system) c.args.store.now c.stays_open.new.store c.from_residual-in_err-push.result OutOfMemory c.from_residual-in_err-push.ensures.1
    (out_of_memory (m * length c.args.waiting.now) (variables_of c.args.asked.now.system) c.args.store.now c.stays_open.new.store
    (turn_within m c.loop-class.class-index (length c.args.waiting.now) (variables_of c.args.asked.now.system) c.args.store.now c.loop-class.store c.stays_open.new.store None c.loop-class-test.true c.loop-class.invariant.share c.in_ok-stays_open.ensures.share))

pub bounds-layers-class : goal.bounds-layers-class
bounds-layers-class c =
    let lt = (leader_is c.args.asked.now.frame c.requires.asked.parts (get_or c.args.waiting.now c.loop-class.class-index 0) (c.requires.rounds.left _ (waiting_is c.args.waiting.now c.loop-class.class-index c.loop-class-test.true)).0).0 in
    omega (arith, lt, c.loop-class.invariant.passed.count)

pub loop-class-preserved : goal.loop-class-preserved
loop-class-preserved c =
    let m = 3 + 2 * c.args.asked.now.system.variables in
    let x = get_or c.args.waiting.now c.loop-class.class-index 0 in
    let kept = Keeps-trans c.args.store.now c.loop-class.store c.stays_open.new.store c.loop-class.invariant.kept c.in_ok-stays_open.ensures.kept in
    let share = next_turn m c.loop-class.class-index (variables_of c.args.asked.now.system) c.args.store.now c.loop-class.store c.stays_open.new.store None c.loop-class.invariant.share c.in_ok-stays_open.ensures.share in
    let answer = IsOpenAnswer c.args.asked.now.frame.kernel.now (IsAmong c.args.known.now.conditions.items) x in
    elim c.if-branch.branch [
      | then-branch+in_ok-push w ↦
          let same = ap (λ v. v.items) w.still-is ∙ w.in_ok-push.ensures.items in
          let not = subst answer w.if-branch.true c.in_ok-stays_open.ensures.value in
          record {
            store = c.in_ok-stays_open.ensures.store;
            kept = kept;
            passed = turn_stays c.args.asked.now.frame c.requires.asked.parts c.args.round c.loop-class.layers c.loop-class.still.items c.args.waiting.now c.loop-class.class-index c.loop-class-test.true c.loop-class.invariant.passed
                c.if-branch.layers c.if-branch.still.items w.layers-is same (λ enters. not (enters_determined c.args.asked.now.frame.kernel.now c.args.round c.args.known.now.conditions.items c.requires.entered x enters));
            few = omega (arith, ap length same, length_push c.loop-class.still.items x, c.loop-class.invariant.few);
            stuck = stuck_more c.loop-class.still.items c.if-branch.still.items c.args.waiting.now c.loop-class.class-index same c.loop-class.invariant.stuck;
            awaited = c.in_ok-stays_open.ensures.awaited;
            share = share;
          }
      | else-branch w ↦
          let same = ap (λ v. v.items) w.still-is in
          let is = subst answer w.if-branch.false c.in_ok-stays_open.ensures.value in
          record {
            store = c.in_ok-stays_open.ensures.store;
            kept = kept;
            passed = turn_enters c.args.asked.now.frame c.requires.asked.parts c.args.round c.loop-class.layers c.loop-class.still.items c.args.waiting.now c.loop-class.class-index c.loop-class-test.true c.loop-class.invariant.passed
                c.if-branch.layers c.if-branch.still.items w.layers-is same (determined_enters c.args.asked.now.frame.kernel.now c.args.round c.args.known.now.conditions.items c.requires.entered x is);
            few = omega (arith, ap length same, c.loop-class.invariant.few);
            stuck = λ full k lt. absurd (omega (arith, ap length same, full, c.loop-class.invariant.few));
            awaited = c.in_ok-stays_open.ensures.awaited;
            share = share;
          }
    ]

pub returns-clause-value : goal.returns-clause-value
returns-clause-value c =
    let all : c.loop-class.class-index ≡ length c.args.waiting.now = omega arith in
    let none : drop c.loop-class.class-index c.args.waiting.now ≡ [] = ap (λ n. drop n c.args.waiting.now) all ∙ drop-length c.args.waiting.now in (
      pass_ends c.args.asked.now.frame c.requires.asked.parts c.args.round c.loop-class.layers c.loop-class.still.items
          (subst (λ xs. ArePassed c.args.asked.now.frame c.args.round c.loop-class.layers c.loop-class.still.items xs) none c.loop-class.invariant.passed),
      omega (arith, c.loop-class.invariant.few, all),
      λ same s there.
          let at = c.loop-class.invariant.stuck (same ∙ sym all) there.0 (omega (arith, there.1, all)) in
          subst (λ w. Contains c.loop-class.still.items w) (sym (get_or_default c.args.waiting.now there.0 s 0 there.1) ∙ there.2) at,
    )
