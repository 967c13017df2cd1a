use Rattle.sig_solve.proofs.{◌≡◌, ◌<◌, ℕ, List, [], length, map, get_or, drop, sym, ap, ◌∙◌, subst, arith, Contains, get_or_default, length_push, drop-length, Some, SigId, SystemView, is_unknown_to, IsAmong, ArePassed, IsOpenAnswer, leader_is, determined_enters, enters_determined, pass_begins, pass_ends, stuck_more, turn_enters, turn_stays}
use Rattle.sig_solve.proofs.rounds.enter.Goals as goal
use Rattle.sig_solve.proofs.rounds.enter.Goals.{then-is_open+in_ok-push, else-is_open}

pub loop-class-init : goal.loop-class-init
loop-class-init c = record {
  passed = subst (λ xs. ArePassed c.args.frame.now c.args.round c.args.layers.now xs c.args.waiting.now) (sym c.new-still.ensures.items)
      (pass_begins c.args.frame.now c.requires.frame c.args.round c.args.layers.now c.args.waiting.now c.requires.rounds);
  few = omega (arith, ap length c.new-still.ensures.items);
  stuck = λ e k lt. absurd (omega (arith, lt));
}

waiting_is : (waiting : List ℕ) (k : ℕ) → k < length waiting → Contains waiting (get_or waiting k 0)
waiting_is waiting k lt = (k, lt, get_or_default waiting k (get_or waiting k 0) 0 lt)

pub is_open-requires-clause-entered : goal.is_open-requires-clause-entered
is_open-requires-clause-entered c = (c.args.round, c.requires.entered)

pub is_open-requires-clause-unknown : goal.is_open-requires-clause-unknown
is_open-requires-clause-unknown c =
    c.as_slice-unknown.ensures.value ∙ c.in_ok-unknown.ensures
    ∙ ap (λ (xs : List SigId). map (λ (condition : SigId). is_unknown_to c.args.known.now (Some condition)) xs) (c.as_slice.ensures.value ∙ ap (λ (s : SystemView). s.conditions) c.system.view_is)

pub is_open-requires-clause-signal : goal.is_open-requires-clause-signal
is_open-requires-clause-signal c =
    (leader_is c.args.frame.now c.requires.frame (get_or c.args.waiting.now c.loop-class.class-index 0) (c.requires.rounds.left _ (waiting_is c.args.waiting.now c.loop-class.class-index c.loop-class-test.true)).0).0

pub bounds-layers-class : goal.bounds-layers-class
bounds-layers-class c =
    let lt = (leader_is c.args.frame.now c.requires.frame (get_or c.args.waiting.now c.loop-class.class-index 0) (c.requires.rounds.left _ (waiting_is c.args.waiting.now c.loop-class.class-index c.loop-class-test.true)).0).0 in
    omega (arith, lt, c.loop-class.invariant.passed.count)

pub loop-class-preserved : goal.loop-class-preserved
loop-class-preserved c =
    let x = get_or c.args.waiting.now c.loop-class.class-index 0 in
    let answer = IsOpenAnswer c.args.frame.now.kernel.now (IsAmong c.args.known.now) x in
    elim c.if-is_open.branch [
      | then-is_open+in_ok-push w ↦
          let same = ap (λ v. v.items) w.still-is ∙ w.in_ok-push.ensures.items in
          let not = subst answer w.if-is_open.true c.is_open.ensures in
          record {
            passed = turn_stays c.args.frame.now c.requires.frame c.args.round c.loop-class.layers c.loop-class.still.items c.args.waiting.now c.loop-class.class-index c.loop-class-test.true c.loop-class.invariant.passed
                c.if-is_open.layers c.if-is_open.still.items w.layers-is same (λ enters. not (enters_determined c.args.frame.now.kernel.now c.args.round c.args.known.now c.requires.entered x enters));
            few = omega (arith, ap length same, length_push c.loop-class.still.items x, c.loop-class.invariant.few);
            stuck = stuck_more c.loop-class.still.items c.if-is_open.still.items c.args.waiting.now c.loop-class.class-index same c.loop-class.invariant.stuck;
          }
      | else-is_open w ↦
          let same = ap (λ v. v.items) w.still-is in
          let is = subst answer w.if-is_open.false c.is_open.ensures in
          record {
            passed = turn_enters c.args.frame.now c.requires.frame c.args.round c.loop-class.layers c.loop-class.still.items c.args.waiting.now c.loop-class.class-index c.loop-class-test.true c.loop-class.invariant.passed
                c.if-is_open.layers c.if-is_open.still.items w.layers-is same (determined_enters c.args.frame.now.kernel.now c.args.round c.args.known.now c.requires.entered x is);
            few = omega (arith, ap length same, c.loop-class.invariant.few);
            stuck = λ full k lt. absurd (omega (arith, ap length same, full, c.loop-class.invariant.few));
          }
    ]

pub returns : goal.returns
returns c =
    let all : c.loop-class.class-index ≡ length c.args.waiting.now = omega arith in
    let none : drop c.loop-class.class-index c.args.waiting.now ≡ [] = ap (λ n. drop n c.args.waiting.now) all ∙ drop-length c.args.waiting.now in record {
      value = (
        pass_ends c.args.frame.now c.requires.frame c.args.round c.loop-class.layers c.loop-class.still.items
            (subst (λ xs. ArePassed c.args.frame.now c.args.round c.loop-class.layers c.loop-class.still.items xs) none c.loop-class.invariant.passed),
        omega (arith, c.loop-class.invariant.few, all),
        λ same s there.
            let at = c.loop-class.invariant.stuck (same ∙ sym all) there.0 (omega (arith, there.1, all)) in
            subst (λ w. Contains c.loop-class.still.items w) (sym (get_or_default c.args.waiting.now there.0 s 0 there.1) ∙ there.2) at,
      );
    }
