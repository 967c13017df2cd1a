use Rattle.sig_solve.proofs.{◌≡◌, ◌<◌, ◌+◌, ℕ, List, ◌++◌, length, drop, take, filter, sym, ap, ◌∙◌, subst, arith, Contains, suc, SystemView, AreNeeds, AreRounds, AreSettled, has_entered, entered_conditions, leaders_fewer, rounds_begin, rounds_stick, written}
use Rattle.sig_solve.proofs.rounds.rounds_of.Goals as goal

pub overflow_cast-round-end : goal.overflow_cast-round-end
overflow_cast-round-end c =
    let few = leaders_fewer c.args.frame.now c.requires.frame in
    record { fits = omega (arith, few, c.requires.few, c.len-round-end.ensures, c.args.frame.now.leaders.ok.0) }

pub loop-round-init : goal.loop-round-init
loop-round-init c =
    let waiting : c.in_ok-waiting.waiting.items ≡ c.args.frame.now.leaders.items = c.in_ok-waiting.ensures.items ∙ c.as_slice.ensures.value in
    record {
      rounds = rounds_begin c.args.frame.now c.requires.frame c.in_ok-numbers.numbers.items c.in_ok-waiting.waiting.items c.len.result (c.len.ensures ∙ c.args.frame.now.least.ok.0) c.in_ok-numbers.ensures waiting;
      few = omega (arith, ap length waiting);
    }

pub enter-requires-clause-entered : goal.enter-requires-clause-entered
enter-requires-clause-entered c =
    entered_conditions c.args.frame.now c.requires.frame c.loop-round.round c.loop-round.numbers.items c.loop-round.waiting.items c.loop-round.invariant.rounds c.as_slice-conditions.result.now c.as_slice-known.result.now
    (c.as_slice-conditions.ensures.value ∙ ap (λ (s : SystemView). s.conditions) c.system.view_is ∙ c.requires.conditions)
    (c.as_slice-known.ensures.value ∙ c.in_ok-known.ensures ∙ ap (λ xs. filter (has_entered c.args.frame.now xs) c.as_slice-conditions.result.now) c.as_slice-in-loop-round.ensures.value)

pub enter-requires-clause-needs : goal.enter-requires-clause-needs
enter-requires-clause-needs c =
    subst (λ (xs : List (List ℕ)). AreNeeds c.args.store.now.nodes c.args.system.now xs) (sym c.as_slice-needs.ensures.value) c.in_ok-needs.ensures.value

pub enter-requires-clause-few : goal.enter-requires-clause-few
enter-requires-clause-few c =
    let few = leaders_fewer c.args.frame.now c.requires.frame in
    omega (arith, few, c.requires.few, c.loop-round-test.true, c.len-round-end.ensures, c.args.frame.now.leaders.ok.0)

written_numbers : (len : ℕ) (numbers new : List ℕ) (n : ℕ) → len ≡ length numbers → length numbers ≡ n → length new ≡ n → take len (new ++ drop (length new) numbers) ≡ new
written_numbers len numbers new n is own same = written len new numbers (same ∙ sym own) is

pub returns-then-len-clause-value : goal.returns-then-len-clause-value
returns-then-len-clause-value c =
    let is = c.in_ok-still.ensures.value in
    let numbers = written_numbers c.loop-round.numbers.len c.loop-round.numbers.items c.enter.new.layers (length c.args.frame.now.kernel.now.signals) c.loop-round.numbers.ok.0 c.loop-round.invariant.rounds.count is.0.count in
    let few : c.loop-round.round < length c.args.frame.now.leaders.items = omega (arith, c.loop-round-test.true, c.len-round-end.ensures, c.args.frame.now.leaders.ok.0) in
    let waiting = c.as_slice-in-loop-round-2.ensures.value in
    subst (λ xs. AreSettled c.args.frame.now xs c.in_ok-still.still.items) (sym numbers)
    (rounds_stick c.args.frame.now c.requires.frame c.loop-round.round c.loop-round.numbers.items c.loop-round.waiting.items c.enter.new.layers c.in_ok-still.still.items c.loop-round.invariant.rounds is.0 few
    (λ s there. is.2 (sym c.in_ok-still.still.ok.0 ∙ sym c.len-in-loop-round.ensures ∙ c.if-len.true ∙ c.len-in-loop-round-2.ensures ∙ c.loop-round.waiting.ok.0 ∙ sym (ap length waiting)) s (subst (λ (xs : List ℕ). Contains xs s) (sym waiting) there)))

pub loop-round-preserved : goal.loop-round-preserved
loop-round-preserved c =
    let is = c.in_ok-still.ensures.value in
    let numbers = written_numbers c.loop-round.numbers.len c.loop-round.numbers.items c.enter.new.layers (length c.args.frame.now.kernel.now.signals) c.loop-round.numbers.ok.0 c.loop-round.invariant.rounds.count is.0.count in
    let next : suc c.loop-round.round ≡ c.loop-round.round + 1 = omega arith in
    let still : length c.in_ok-still.still.items ≡ c.len-in-loop-round.result = sym c.in_ok-still.still.ok.0 ∙ sym c.len-in-loop-round.ensures in
    let before : length c.loop-round.waiting.items ≡ c.len-in-loop-round-2.result = sym c.loop-round.waiting.ok.0 ∙ sym c.len-in-loop-round-2.ensures in
    record {
      rounds = subst (λ xs. AreRounds c.args.frame.now (c.loop-round.round + 1) xs c.in_ok-still.still.items) (sym numbers) (subst (λ k. AreRounds c.args.frame.now k c.enter.new.layers c.in_ok-still.still.items) next is.0);
      few = omega (arith, is.1, c.if-len.false, still, before, c.loop-round.invariant.few, ap length c.as_slice-in-loop-round-2.ensures.value);
    }
