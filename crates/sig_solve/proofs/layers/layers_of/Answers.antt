use Rattle.sig_solve.proofs.{◌≡◌, ◌<◌, ◌≤◌, ◌+◌, ◌*◌, ℕ, Bool, List, [], ◌∷◌, ◌++◌, length, true, false, get_or, drop, take, refl, sym, ap, ◌∙◌, subst, arith, Contains, None, suc, Err, mul-le-mul_left, OutOfMemory, Share, Share-none, Guide, Keeps-itself, Keeps-trans, ForgetsAllBut, variables_of, AreRounds, AreSettled, has_entered, AreAwaited, are_proposed, asked_stays, none_awaited as awaiting_begins, entered_conditions, leaders_fewer, rounds_begin, rounds_stick, more_calls, next_turn, no_turns, out_of_memory, refused, written}
use Rattle.sig_solve.proofs.StoreLemmas.{asked}
use Rattle.sig_solve.proofs.layers.layers_of.Goals as goal

pub overflow_cast-round-end : goal.overflow_cast-round-end
overflow_cast-round-end c =
    let few = leaders_fewer c.args.asked.now.frame c.requires.asked.parts in
    let signals = c.requires.asked.valid.parts.signals in
    record { fits = omega (arith, few, signals, c.len-round-end.ensures, c.args.asked.now.frame.leaders.ok.0) }

pub loop-round-init : goal.loop-round-init
loop-round-init c =
    let waiting : c.in_ok-waiting.waiting.items ≡ c.args.asked.now.frame.leaders.items = c.in_ok-waiting.ensures.items ∙ c.as_slice.ensures.value in
    record {
      store = c.requires.asked.has_store;
      kept = Keeps-itself c.args.store.now;
      rounds = rounds_begin c.args.asked.now.frame c.requires.asked.parts c.in_ok-numbers.numbers.items c.in_ok-waiting.waiting.items c.len.result (c.len.ensures ∙ c.args.asked.now.frame.least.ok.0) c.in_ok-numbers.ensures waiting;
      awaited = awaiting_begins c.args.store.now.nodes c.args.asked.now c.len-2.result c.in_ok-awaited.awaited.items (c.len-2.ensures ∙ c.args.asked.now.frame.least.ok.0 ∙ c.requires.asked.parts.least.count) c.in_ok-awaited.ensures;
      few = omega (arith, ap length waiting);
      share = no_turns ((3 + 2 * c.args.asked.now.system.variables) * length c.args.asked.now.frame.leaders.items) (variables_of c.args.asked.now.system) c.args.store.now;
    }

pub returns-in_err-numbers-clause-share : goal.returns-in_err-numbers-clause-share
returns-in_err-numbers-clause-share c =
    let n = length c.args.asked.now.frame.leaders.items in
    let m = (3 + 2 * c.args.asked.now.system.variables) * n * n in
    let vs = variables_of c.args.asked.now.system in
    let s = c.args.store.now in
    refused m vs s s c.from_residual.result OutOfMemory c.from_residual.ensures.1 (out_of_memory m vs s s (more_calls 0 m vs s s None (omega arith) (Share-none s vs)))

pub returns-in_err-waiting-clause-share : goal.returns-in_err-waiting-clause-share
returns-in_err-waiting-clause-share c =
    let n = length c.args.asked.now.frame.leaders.items in
    let m = (3 + 2 * c.args.asked.now.system.variables) * n * n in
    let vs = variables_of c.args.asked.now.system in
    let s = c.args.store.now in
    refused m vs s s c.from_residual-in_err-waiting.result OutOfMemory c.from_residual-in_err-waiting.ensures.1 (out_of_memory m vs s s (more_calls 0 m vs s s None (omega arith) (Share-none s vs)))

pub returns-in_err-guide-clause-share : goal.returns-in_err-guide-clause-share
returns-in_err-guide-clause-share c =
    let n = length c.args.asked.now.frame.leaders.items in
    let m = (3 + 2 * c.args.asked.now.system.variables) * n * n in
    let vs = variables_of c.args.asked.now.system in
    let s = c.args.store.now in
    refused m vs s s c.from_residual-in_err-guide.result c.in_err-guide.field-0.0 c.from_residual-in_err-guide.ensures.1
    (asked {T = Guide} m vs s s (more_calls 0 m vs s s None (omega arith) (Share-none s vs)) (Err c.in_err-guide.field-0.0) c.in_err-guide.ensures.no_budget)

pub returns-in_err-awaited-clause-share : goal.returns-in_err-awaited-clause-share
returns-in_err-awaited-clause-share c =
    let n = length c.args.asked.now.frame.leaders.items in
    let m = (3 + 2 * c.args.asked.now.system.variables) * n * n in
    let vs = variables_of c.args.asked.now.system in
    let s = c.args.store.now in
    refused m vs s s c.from_residual-in_err-awaited.result OutOfMemory c.from_residual-in_err-awaited.ensures.1 (out_of_memory m vs s s (more_calls 0 m vs s s None (omega arith) (Share-none s vs)))

-- the calls so far are within those of all rounds
so_far : (m : ℕ) (k n : ℕ) (vs : List ℕ) (s t : _) → k ≤ n → Share (m * k) vs s t None → Share (m * n) vs s t None
so_far m k n vs s t le share = more_calls (m * k) (m * n) vs s t None (mul-le-mul_left m le) share

pub returns-in_err-entered-clause-share : goal.returns-in_err-entered-clause-share
returns-in_err-entered-clause-share c =
    let n = length c.args.asked.now.frame.leaders.items in
    let m = (3 + 2 * c.args.asked.now.system.variables) * n in
    refused (m * n) (variables_of c.args.asked.now.system) c.args.store.now c.loop-round.store c.from_residual-in_err-entered.result OutOfMemory c.from_residual-in_err-entered.ensures.1
    (out_of_memory (m * n) (variables_of c.args.asked.now.system) c.args.store.now c.loop-round.store
    (so_far m c.loop-round.round n (variables_of c.args.asked.now.system) c.args.store.now c.loop-round.store (omega (arith, c.loop-round.invariant.few)) c.loop-round.invariant.share))

pub returns-in_err-known-clause-share : goal.returns-in_err-known-clause-share
returns-in_err-known-clause-share c =
    let n = length c.args.asked.now.frame.leaders.items in
    let m = (3 + 2 * c.args.asked.now.system.variables) * n in
    refused (m * n) (variables_of c.args.asked.now.system) c.args.store.now c.loop-round.store c.from_residual-in_err-known.result OutOfMemory c.from_residual-in_err-known.ensures.1
    (out_of_memory (m * n) (variables_of c.args.asked.now.system) c.args.store.now c.loop-round.store
    (so_far m c.loop-round.round n (variables_of c.args.asked.now.system) c.args.store.now c.loop-round.store (omega (arith, c.loop-round.invariant.few)) c.loop-round.invariant.share))

pub pass-requires-clause-asked : goal.pass-requires-clause-asked
pass-requires-clause-asked c = asked_stays c.args.store.now c.loop-round.store c.loop-round.invariant.kept c.args.asked.now c.loop-round.invariant.store c.requires.asked

pub known_of-requires : goal.known_of-requires
known_of-requires c = are_proposed c.args.store.now c.args.asked.now c.requires.asked

pub pass-requires-clause-known : goal.pass-requires-clause-known
pass-requires-clause-known c = subst (λ xs. ForgetsAllBut c.args.asked.now.system xs c.in_ok-known.known.forgotten.items) (sym c.in_ok-known.ensures.0) c.in_ok-known.ensures.1

pub pass-requires-clause-entered : goal.pass-requires-clause-entered
pass-requires-clause-entered c =
    entered_conditions c.args.asked.now.frame c.requires.asked.parts c.loop-round.round c.loop-round.numbers.items c.loop-round.waiting.items c.loop-round.invariant.rounds c.args.conditions.now c.in_ok-known.known.conditions.items c.requires.conditions
    (c.in_ok-known.ensures.0 ∙ c.in_ok-entered.ensures ∙ ap (λ xs. Rattle.std.proofs.Common.filter (has_entered c.args.asked.now.frame xs) c.args.conditions.now) c.as_slice-in-loop-round.ensures.value)

pub pass-requires-clause-few : goal.pass-requires-clause-few
pass-requires-clause-few c =
    let few = leaders_fewer c.args.asked.now.frame c.requires.asked.parts in
    let signals = c.requires.asked.valid.parts.signals in
    omega (arith, few, signals, c.loop-round-test.true, c.len-round-end.ensures, c.args.asked.now.frame.leaders.ok.0)

-- the calls of one more round
one_round : (u n k w : ℕ) (vs : List ℕ) (r s t : _) (why : _) → w ≤ n → Share ((3 + 2 * u) * n * k) vs r s None → Share ((3 + 2 * u) * w) vs s t why → Share ((3 + 2 * u) * n * (k + 1)) vs r t why
one_round u n k w vs r s t why le before call =
    next_turn ((3 + 2 * u) * n) k vs r s t why before (more_calls ((3 + 2 * u) * w) ((3 + 2 * u) * n) vs s t why (mul-le-mul_left (3 + 2 * u) le) call)

pub returns-in_err-still-clause-share : goal.returns-in_err-still-clause-share
returns-in_err-still-clause-share c =
    let u = c.args.asked.now.system.variables in
    let n = length c.args.asked.now.frame.leaders.items in
    let vs = (variables_of c.args.asked.now.system) in
    let few : c.loop-round.round + 1 ≤ n = omega (arith, c.loop-round-test.true, c.len-round-end.ensures, c.args.asked.now.frame.leaders.ok.0) in
    refused ((3 + 2 * u) * n * n) vs c.args.store.now c.pass.new.store c.from_residual-in_err-still.result c.in_err-still.field-0.0 c.from_residual-in_err-still.ensures.1
    (more_calls ((3 + 2 * u) * n * (c.loop-round.round + 1)) ((3 + 2 * u) * n * n) vs c.args.store.now c.pass.new.store _ (mul-le-mul_left ((3 + 2 * u) * n) few)
    (one_round u n c.loop-round.round (length c.as_slice-in-loop-round-2.result.now) vs c.args.store.now c.loop-round.store c.pass.new.store _ (omega (arith, c.loop-round.invariant.few, ap length c.as_slice-in-loop-round-2.ensures.value))
    c.loop-round.invariant.share c.in_err-still.ensures.share))

written_numbers : (len : ℕ) (numbers new : List ℕ) (n : ℕ) → len ≡ length numbers → length numbers ≡ n → length new ≡ n → take len (new ++ drop (length new) numbers) ≡ new
written_numbers len numbers new n is own same = written len new numbers (same ∙ sym own) is

pub returns-then-len-clause-value : goal.returns-then-len-clause-value
returns-then-len-clause-value c =
    let is = c.in_ok-still.ensures.value in
    let numbers = written_numbers c.loop-round.numbers.len c.loop-round.numbers.items c.pass.new.layers (length c.args.asked.now.frame.kernel.now.signals) c.loop-round.numbers.ok.0 c.loop-round.invariant.rounds.count is.0.count in
    let few : c.loop-round.round < length c.args.asked.now.frame.leaders.items = omega (arith, c.loop-round-test.true, c.len-round-end.ensures, c.args.asked.now.frame.leaders.ok.0) in
    let waiting = c.as_slice-in-loop-round-2.ensures.value in
    subst (λ xs. AreSettled c.args.asked.now.frame xs c.in_ok-still.still.items) (sym numbers)
    (rounds_stick c.args.asked.now.frame c.requires.asked.parts c.loop-round.round c.loop-round.numbers.items c.loop-round.waiting.items c.pass.new.layers c.in_ok-still.still.items c.loop-round.invariant.rounds is.0 few
    (λ s there. is.2 (sym c.in_ok-still.still.ok.0 ∙ sym c.len-in-loop-round.ensures ∙ c.if-len.true ∙ c.len-in-loop-round-2.ensures ∙ c.loop-round.waiting.ok.0 ∙ sym (ap length waiting)) s (subst (λ (xs : List ℕ). Contains xs s) (sym waiting) there)))

pub returns-then-len-clause-share : goal.returns-then-len-clause-share
returns-then-len-clause-share c =
    let u = c.args.asked.now.system.variables in
    let n = length c.args.asked.now.frame.leaders.items in
    let vs = (variables_of c.args.asked.now.system) in
    let few : c.loop-round.round + 1 ≤ n = omega (arith, c.loop-round-test.true, c.len-round-end.ensures, c.args.asked.now.frame.leaders.ok.0) in
    more_calls ((3 + 2 * u) * n * (c.loop-round.round + 1)) ((3 + 2 * u) * n * n) vs c.args.store.now c.pass.new.store None (mul-le-mul_left ((3 + 2 * u) * n) few)
    (one_round u n c.loop-round.round (length c.as_slice-in-loop-round-2.result.now) vs c.args.store.now c.loop-round.store c.pass.new.store None (omega (arith, c.loop-round.invariant.few, ap length c.as_slice-in-loop-round-2.ensures.value))
    c.loop-round.invariant.share c.in_ok-still.ensures.share)

pub loop-round-preserved : goal.loop-round-preserved
loop-round-preserved c =
    let u = c.args.asked.now.system.variables in
    let n = length c.args.asked.now.frame.leaders.items in
    let vs = (variables_of c.args.asked.now.system) in
    let is = c.in_ok-still.ensures.value in
    let numbers = written_numbers c.loop-round.numbers.len c.loop-round.numbers.items c.pass.new.layers (length c.args.asked.now.frame.kernel.now.signals) c.loop-round.numbers.ok.0 c.loop-round.invariant.rounds.count is.0.count in
    let waits = written c.loop-round.awaited.len c.pass.new.awaited c.loop-round.awaited.items (c.in_ok-still.ensures.awaited.count ∙ sym c.loop-round.invariant.awaited.count) c.loop-round.awaited.ok.0 in
    let next : suc c.loop-round.round ≡ c.loop-round.round + 1 = omega arith in
    let still : length c.in_ok-still.still.items ≡ c.len-in-loop-round.result = sym c.in_ok-still.still.ok.0 ∙ sym c.len-in-loop-round.ensures in
    let before : length c.loop-round.waiting.items ≡ c.len-in-loop-round-2.result = sym c.loop-round.waiting.ok.0 ∙ sym c.len-in-loop-round-2.ensures in
    record {
      store = c.in_ok-still.ensures.store;
      kept = Keeps-trans c.args.store.now c.loop-round.store c.pass.new.store c.loop-round.invariant.kept c.in_ok-still.ensures.kept;
      rounds = subst (λ xs. AreRounds c.args.asked.now.frame (c.loop-round.round + 1) xs c.in_ok-still.still.items) (sym numbers) (subst (λ k. AreRounds c.args.asked.now.frame k c.pass.new.layers c.in_ok-still.still.items) next is.0);
      awaited = subst (AreAwaited c.pass.new.store.nodes c.args.asked.now) (sym waits) c.in_ok-still.ensures.awaited;
      few = omega (arith, is.1, c.if-len.false, still, before, c.loop-round.invariant.few, ap length c.as_slice-in-loop-round-2.ensures.value);
      share = one_round u n c.loop-round.round (length c.as_slice-in-loop-round-2.result.now) vs c.args.store.now c.loop-round.store c.pass.new.store None (omega (arith, c.loop-round.invariant.few, ap length c.as_slice-in-loop-round-2.ensures.value))
          c.loop-round.invariant.share c.in_ok-still.ensures.share;
    }

pub returns-in_err-entered-clause-store : goal.returns-in_err-entered-clause-store
returns-in_err-entered-clause-store c = c.loop-round.invariant.store

pub returns-in_err-entered-clause-kept : goal.returns-in_err-entered-clause-kept
returns-in_err-entered-clause-kept c = c.loop-round.invariant.kept

pub returns-in_err-known-clause-store : goal.returns-in_err-known-clause-store
returns-in_err-known-clause-store c = c.loop-round.invariant.store

pub returns-in_err-known-clause-kept : goal.returns-in_err-known-clause-kept
returns-in_err-known-clause-kept c = c.loop-round.invariant.kept

pub returns-in_err-still-clause-store : goal.returns-in_err-still-clause-store
returns-in_err-still-clause-store c = c.in_err-still.ensures.store

pub returns-in_err-still-clause-kept : goal.returns-in_err-still-clause-kept
returns-in_err-still-clause-kept c = Keeps-trans c.args.store.now c.loop-round.store c.pass.new.store c.loop-round.invariant.kept c.in_err-still.ensures.kept

pub returns-then-len-clause-store : goal.returns-then-len-clause-store
returns-then-len-clause-store c = c.in_ok-still.ensures.store

pub returns-then-len-clause-kept : goal.returns-then-len-clause-kept
returns-then-len-clause-kept c = Keeps-trans c.args.store.now c.loop-round.store c.pass.new.store c.loop-round.invariant.kept c.in_ok-still.ensures.kept

pub returns-clause-store : goal.returns-clause-store
returns-clause-store c = c.loop-round.invariant.store

pub returns-clause-kept : goal.returns-clause-kept
returns-clause-kept c = c.loop-round.invariant.kept
