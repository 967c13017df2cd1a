use Rattle.sig_rel.proofs.{◌≡◌, ◌+◌, ◌<◌, Ok, Err, length, subst, sym, arith, is_some, Adds, IsUnknownWhere, classes_below, count_one, truths_below, unknown_of, AreVariables, Presence, Truth, adds_err, adds_more, adds_none, adds_then, are_own, below_more, own_more, own_within, no_variables}
use Rattle.sig_rel.proofs.substitution.Columns.own.Goals as goal

pub loop-signal-init : goal.loop-signal-init
loop-signal-init c = record {
  adds = adds_none c.args.store.now c.requires.store;
  own = no_variables c.args.store.now.nodes (IsUnknownWhere (λ n. n < 0) c.args.least.now c.args.unknowns.now) c.args.self.now (λ e v is. let lt = is.0 in omega (arith, lt));
}

pub own_signal-requires-clause-store : goal.own_signal-requires-clause-store
own_signal-requires-clause-store c = c.loop-signal.invariant.adds.store

pub own_signal-requires-clause-within : goal.own_signal-requires-clause-within
own_signal-requires-clause-within c =
    let lt = c.loop-signal-test.true in
    let count = c.loop-signal.invariant.own.count in
    let long = c.requires.fresh.rows in
    omega (arith, lt, count, long)

pub returns-in_err-own_signal-clause-adds : goal.returns-in_err-own_signal-clause-adds
returns-in_err-own_signal-clause-adds c =
    let least = c.args.least.now in
    let unknowns = c.args.unknowns.now in
    let k = c.loop-signal.signal in
    let why = c.in_err-own_signal.field-0.0 in
    let lt = c.loop-signal-test.true in
    let presences = c.requires.presences in
    let truths = c.requires.truths in
    let m = classes_below least k + truths_below unknowns.truth.items k in
    let n = count_one (is_some (unknown_of least unknowns (Presence k))) + count_one (is_some (unknown_of least unknowns (Truth k))) in
    let more = own_more least unknowns k (omega (arith, lt, presences)) (omega (arith, lt, truths)) in
    let within = own_within least unknowns (k + 1) (omega (arith, lt)) in
    adds_err (m + n) (classes_below least (length least) + truths_below unknowns.truth.items (length unknowns.truth.items)) c.args.store.now c.own_signal.new.store why c.from_residual.result
    (adds_then m n c.args.store.now c.loop-signal.store c.own_signal.new.store (Err why) c.loop-signal.invariant.adds c.in_err-own_signal.ensures.adds)
    (omega (arith, more, within)) c.from_residual.ensures.1

pub loop-signal-preserved : goal.loop-signal-preserved
loop-signal-preserved c =
    let least = c.args.least.now in
    let unknowns = c.args.unknowns.now in
    let k = c.loop-signal.signal in
    let lt = c.loop-signal-test.true in
    let presences = c.requires.presences in
    let truths = c.requires.truths in
    let m = classes_below least k + truths_below unknowns.truth.items k in
    let n = count_one (is_some (unknown_of least unknowns (Presence k))) + count_one (is_some (unknown_of least unknowns (Truth k))) in
    record {
      adds = subst (λ o. Adds o c.args.store.now c.own_signal.new.store (Ok tt)) (sym (own_more least unknowns k (omega (arith, lt, presences)) (omega (arith, lt, truths))))
          (adds_then m n c.args.store.now c.loop-signal.store c.own_signal.new.store (Ok tt) c.loop-signal.invariant.adds c.in_ok-own_signal.ensures.adds);
      own = below_more c.loop-signal.store c.own_signal.new.store c.in_ok-own_signal.ensures.adds.kept least unknowns c.args.self.now c.loop-signal.self c.own_signal.new.self k c.loop-signal.invariant.own c.in_ok-own_signal.ensures.own;
    }

pub returns-clause-adds : goal.returns-clause-adds
returns-clause-adds c =
    let least = c.args.least.now in
    let unknowns = c.args.unknowns.now in
    let k = c.loop-signal.signal in
    adds_more (classes_below least k + truths_below unknowns.truth.items k) (classes_below least (length least) + truths_below unknowns.truth.items (length unknowns.truth.items)) c.args.store.now c.loop-signal.store (Ok tt)
    c.loop-signal.invariant.adds (own_within least unknowns k c.loop-signal.auto.signal-end)

pub returns-clause-own : goal.returns-clause-own
returns-clause-own c =
    let least = c.args.least.now in
    let le = c.loop-signal.auto.signal-end in
    let past = c.loop-signal-test.false in
    let same : c.loop-signal.signal ≡ length least = omega (arith, le, past) in
    are_own c.args.store.now c.loop-signal.store c.loop-signal.invariant.adds.kept least c.args.unknowns.now c.args.self.now c.loop-signal.self c.requires.presences c.requires.truths c.requires.fresh
    (subst (λ count. AreVariables c.loop-signal.store.nodes (IsUnknownWhere (λ n. n < count) least c.args.unknowns.now) c.args.self.now c.loop-signal.self) same c.loop-signal.invariant.own)
