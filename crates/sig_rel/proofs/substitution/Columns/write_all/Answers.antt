use Rattle.sig_rel.proofs.{◌*◌, ◌+◌, Err, Ok, arith, get_or, refl, subst, take, take_all, IsPartlyWritten, SpanColumns, no_ref, steps, Presence, made_none, makes_err, makes_wider, element_at, has_row, made_more, next_written, steps_within, none_written, partly_more}
use Rattle.sig_rel.proofs.substitution.Columns.write_all.Goals as goal

pub loop-element-init : goal.loop-element-init
loop-element-init c =
    let s = c.args.store.now in
    record {
      made = made_none (3 * steps c.args.rules.now (take 0 c.args.list.now)) (SpanColumns s.nodes c.args.self.now) s no_ref tt c.requires.store tt (λ vs wide. tt);
      written = none_written c.args.kernel.now c.args.rules.now s.nodes c.args.self.now c.requires.hold c.requires.count c.requires.plain;
    }

pub write-requires-clause-store : goal.write-requires-clause-store
write-requires-clause-store c = c.loop-element.invariant.made.store

pub write-requires-clause-hold : goal.write-requires-clause-hold
write-requires-clause-hold c = c.loop-element.invariant.written.held

pub write-requires-clause-within : goal.write-requires-clause-within
write-requires-clause-within c =
    let own = c.args.list.now in
    let k = c.loop-element.element-index in
    has_row c.args.kernel.now c.args.rules.now c.args.list.now c.loop-element.self c.requires.order c.loop-element.invariant.written.count k (get_or own k (Presence 0))
    (element_at own c.args.list.now k (Presence 0) refl c.loop-element-test.true)

pub returns-in_err-write-clause-made : goal.returns-in_err-write-clause-made
returns-in_err-write-clause-made c =
    let own = c.args.list.now in
    let rules = c.args.rules.now in
    let list = c.args.list.now in
    let k = c.loop-element.element-index in
    let r = c.args.store.now in
    let s = c.loop-element.store in
    let t = c.write.new.store in
    let wide = SpanColumns r.nodes c.args.self.now in
    let e = c.in_err-write.field-0.0 in
    let within = steps_within rules list (k + 1) in
    makes_err (3 * steps rules (take (k + 1) list)) (3 * steps rules list) wide wide r t no_ref no_ref e c.from_residual.result
    (made_more c.args.kernel.now rules list k (get_or own k (Presence 0)) c.args.self.now r s t c.loop-element.self (Err e)
    (element_at own list k (Presence 0) refl c.loop-element-test.true) c.loop-element.invariant.made c.loop-element.invariant.written c.in_err-write.ensures.made)
    (omega (arith, within)) (λ vs has. has) c.from_residual.ensures.1

pub loop-element-preserved : goal.loop-element-preserved
loop-element-preserved c =
    let own = c.args.list.now in
    let kernel = c.args.kernel.now in
    let rules = c.args.rules.now in
    let list = c.args.list.now in
    let k = c.loop-element.element-index in
    let element = get_or own k (Presence 0) in
    let r = c.args.store.now in
    let s = c.loop-element.store in
    let t = c.write.new.store in
    let at = element_at own list k (Presence 0) refl c.loop-element-test.true in
    let so_far = c.loop-element.invariant.written in
    record {
      made = made_more kernel rules list k element c.args.self.now r s t c.loop-element.self (Ok tt) at c.loop-element.invariant.made so_far c.in_ok-write.ensures.made;
      written = next_written kernel rules r.nodes t.nodes c.args.self.now c.write.new.self list k element at
          (partly_more kernel rules list c.requires.order r.nodes c.args.self.now s t c.in_ok-write.ensures.made.kept
          c.loop-element.self c.write.new.self k element at so_far c.in_ok-write.ensures.written);
    }

pub returns-clause-made : goal.returns-clause-made
returns-clause-made c =
    let rules = c.args.rules.now in
    let list = c.args.list.now in
    let k = c.loop-element.element-index in
    let wide = SpanColumns c.args.store.now.nodes c.args.self.now in
    let within = steps_within rules list k in
    makes_wider (3 * steps rules (take k list)) (3 * steps rules list) wide wide c.args.store.now c.loop-element.store no_ref (Ok tt) c.loop-element.invariant.made (omega (arith, within)) (λ vs has. has)

pub returns-clause-written : goal.returns-clause-written
returns-clause-written c =
    let list = c.args.list.now in
    let k = c.loop-element.element-index in
    let past = c.loop-element-test.false in
    subst (IsPartlyWritten c.args.kernel.now c.args.rules.now c.args.store.now.nodes c.loop-element.store.nodes c.args.self.now c.loop-element.self) (take_all k list (omega (arith, past))) c.loop-element.invariant.written
