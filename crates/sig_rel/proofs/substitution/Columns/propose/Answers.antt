use Rattle.sig_rel.proofs.{◌+◌, Ok, Err, length, get_or, arith, get_at, IsProposalBelow, adds_err, adds_more, adds_none, adds_then, all_proposed, one_proposed, no_variables}
use Rattle.sig_rel.proofs.substitution.Columns.propose.Goals as goal

pub loop-v-init : goal.loop-v-init
loop-v-init c = record {
  adds = adds_none c.args.store.now c.requires.store;
  proposed = no_variables c.args.store.now.nodes (IsProposalBelow c.args.conditions.now 0) c.args.self.now (λ e v is. let lt = is.0 in omega (arith, lt));
}

pub set_variable-requires-clause-store : goal.set_variable-requires-clause-store
set_variable-requires-clause-store c = c.loop-v.invariant.adds.store

pub set_variable-requires-clause-within : goal.set_variable-requires-clause-within
set_variable-requires-clause-within c =
    let at = get_at c.args.conditions.now c.loop-v.v (record { 0 = 0 }) c.loop-v-test.true in
    let within = c.requires.within c.loop-v.v (get_or c.args.conditions.now c.loop-v.v (record { 0 = 0 })) at in
    let count = c.loop-v.invariant.proposed.count in
    omega (arith, within, count)

pub returns-in_err-set_variable-clause-adds : goal.returns-in_err-set_variable-clause-adds
returns-in_err-set_variable-clause-adds c =
    let k = c.loop-v.v in
    let why = c.in_err-set_variable.field-0.0 in
    let lt = c.loop-v-test.true in
    adds_err (k + 1) (length c.args.conditions.now) c.args.store.now c.set_variable.new.store why c.from_residual.result
    (adds_then k 1 c.args.store.now c.loop-v.store c.set_variable.new.store (Err why) c.loop-v.invariant.adds c.in_err-set_variable.ensures.adds) (omega (arith, lt)) c.from_residual.ensures.1

pub loop-v-preserved : goal.loop-v-preserved
loop-v-preserved c =
    let k = c.loop-v.v in
    let at = get_at c.args.conditions.now k (record { 0 = 0 }) c.loop-v-test.true in
    let condition = get_or c.args.conditions.now k (record { 0 = 0 }) in
    record {
      adds = adds_then k 1 c.args.store.now c.loop-v.store c.set_variable.new.store (Ok tt) c.loop-v.invariant.adds c.in_ok-set_variable.ensures.adds;
      proposed = one_proposed c.loop-v.store c.set_variable.new.store c.in_ok-set_variable.ensures.adds.kept c.args.self.now c.loop-v.self c.set_variable.new.self c.args.conditions.now k condition at
          c.requires.once c.loop-v.invariant.proposed c.in_ok-set_variable.ensures.set;
    }

pub returns-clause-adds : goal.returns-clause-adds
returns-clause-adds c =
    let le = c.loop-v.auto.v-end in
    adds_more c.loop-v.v (length c.args.conditions.now) c.args.store.now c.loop-v.store (Ok tt) c.loop-v.invariant.adds (omega (arith, le))

pub returns-clause-proposed : goal.returns-clause-proposed
returns-clause-proposed c =
    let past = c.loop-v-test.false in
    all_proposed c.loop-v.store.nodes c.args.self.now c.loop-v.self c.args.conditions.now c.loop-v.v (omega (arith, past)) c.loop-v.invariant.proposed
