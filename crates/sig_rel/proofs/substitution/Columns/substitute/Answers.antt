use Rattle.sig_rel.proofs.{◌+◌, ◌*◌, Ok, Err, length, ap, sym, subst, arith, on_ok_weaker, allowance, Adds, numbers_of, substituting, AreOwnColumns, classes_below, truths_below, IsOrderOfWriting, Makes, IsPartlyWritten, SpanColumns, no_ref, steps, adds_err, adds_makes, adds_more, adds_then, own_columns_count, own_columns_hold, own_columns_plain, own_columns_span, within_share_of_own, few_steps, columns_substituted}
use Rattle.sig_rel.proofs.substitution.Columns.substitute.Goals as goal

pub returns-in_err-own-clause-adds : goal.returns-in_err-own-clause-adds
returns-in_err-own-clause-adds c u counts =
    let kernel = c.args.kernel.now in
    let unknowns = c.args.unknowns.now in
    let rules = c.args.schedule.now.rules in
    let least = rules.least.items in
    let order = c.requires.schedule.order in
    let m = classes_below least (length least) + truths_below unknowns.truth.items (length unknowns.truth.items) in
    let s = steps rules c.args.schedule.now.list.items in
    let enough = within_share_of_own kernel least order.named.are_least c.requires.unknowns.0 unknowns c.requires.unknowns.1 c.requires.within s u (few_steps kernel rules c.args.schedule.now.list.items order) counts in
    let adds = subst (λ ls. Adds (classes_below ls (length ls) + truths_below unknowns.truth.items (length unknowns.truth.items)) c.args.store.now c.own.new.store (Err c.in_err-own.field-0.0)) c.as_slice.ensures.value c.in_err-own.ensures.adds in
    adds_err m (substituting kernel u) c.args.store.now c.own.new.store c.in_err-own.field-0.0 c.from_residual.result adds (omega (arith, enough)) c.from_residual.ensures.1

pub own-requires-clause-few : goal.own-requires-clause-few
own-requires-clause-few c =
    let same = ap length c.as_slice.ensures.value in
    let order = c.requires.schedule.order in
    let long = order.named.are_least.count in
    let limit = c.requires.valid.parts.signals in
    omega (arith, same, long, limit)

pub write_all-requires-clause-order : goal.write_all-requires-clause-order
write_all-requires-clause-order c = subst (IsOrderOfWriting c.args.kernel.now c.args.schedule.now.rules) (sym c.as_slice-2.ensures.value) c.requires.schedule.order

pub write_all-requires-clause-hold : goal.write_all-requires-clause-hold
write_all-requires-clause-hold c =
    let rules = c.args.schedule.now.rules in
    let order = c.requires.schedule.order in
    own_columns_hold c.args.kernel.now rules.least.items order.named.are_least c.requires.unknowns.0 c.args.unknowns.now c.requires.unknowns.1 c.requires.within c.own.new.store.nodes c.own.new.self
    (subst (λ ls. AreOwnColumns c.own.new.store.nodes ls c.args.unknowns.now c.own.new.self) c.as_slice.ensures.value c.in_ok-own.ensures.own)

pub write_all-requires-clause-count : goal.write_all-requires-clause-count
write_all-requires-clause-count c =
    let rules = c.args.schedule.now.rules in
    let order = c.requires.schedule.order in
    own_columns_count c.args.kernel.now rules.least.items order.named.are_least c.requires.unknowns.0 c.args.unknowns.now c.requires.unknowns.1 c.requires.within c.own.new.store.nodes c.own.new.self
    (subst (λ ls. AreOwnColumns c.own.new.store.nodes ls c.args.unknowns.now c.own.new.self) c.as_slice.ensures.value c.in_ok-own.ensures.own)

pub write_all-requires-clause-plain : goal.write_all-requires-clause-plain
write_all-requires-clause-plain c =
    let rules = c.args.schedule.now.rules in
    let order = c.requires.schedule.order in
    own_columns_plain c.args.kernel.now rules.least.items order.named.are_least c.requires.unknowns.0 c.args.unknowns.now c.requires.unknowns.1 c.requires.within c.own.new.store.nodes c.own.new.self
    (subst (λ ls. AreOwnColumns c.own.new.store.nodes ls c.args.unknowns.now c.own.new.self) c.as_slice.ensures.value c.in_ok-own.ensures.own)

pub returns-clause-adds : goal.returns-clause-adds
returns-clause-adds c u counts =
    let kernel = c.args.kernel.now in
    let unknowns = c.args.unknowns.now in
    let rules = c.args.schedule.now.rules in
    let list = c.args.schedule.now.list.items in
    let least = rules.least.items in
    let order = c.requires.schedule.order in
    let r = c.args.store.now in
    let s = c.own.new.store in
    let t = c.write_all.new.store in
    let middle = c.own.new.self in
    let m = classes_below least (length least) + truths_below unknowns.truth.items (length unknowns.truth.items) in
    let n = steps rules list in
    let vs = numbers_of unknowns in
    let own = subst (λ ls. AreOwnColumns s.nodes ls unknowns middle) c.as_slice.ensures.value c.in_ok-own.ensures.own in
    let adds = subst (λ ls. Adds (classes_below ls (length ls) + truths_below unknowns.truth.items (length unknowns.truth.items)) r s (Ok tt)) c.as_slice.ensures.value c.in_ok-own.ensures.adds in
    let made = subst (λ es. Makes (3 * steps rules es) (SpanColumns s.nodes middle) s t no_ref c.write_all.result) c.as_slice-2.ensures.value c.write_all.ensures.made in
    let span = own_columns_span kernel least order.named.are_least c.requires.unknowns.0 unknowns c.requires.unknowns.1 c.requires.within s.nodes middle own in
    adds_more (m + 3 * n * allowance vs) (substituting kernel u) r t c.write_all.result
    (adds_then m (3 * n * allowance vs) r s t c.write_all.result adds (adds_makes (3 * n) (SpanColumns s.nodes middle) s t vs span c.write_all.result made))
    (within_share_of_own kernel least order.named.are_least c.requires.unknowns.0 unknowns c.requires.unknowns.1 c.requires.within n u (few_steps kernel rules list order) counts)

pub returns-clause-substituted : goal.returns-clause-substituted
returns-clause-substituted c =
    let kernel = c.args.kernel.now in
    let unknowns = c.args.unknowns.now in
    let rules = c.args.schedule.now.rules in
    let list = c.args.schedule.now.list.items in
    let least = rules.least.items in
    let sched = c.requires.schedule in
    let s = c.own.new.store in
    let t = c.write_all.new.store in
    let middle = c.own.new.self in
    let last = c.write_all.new.self in
    let own = subst (λ ls. AreOwnColumns s.nodes ls unknowns middle) c.as_slice.ensures.value c.in_ok-own.ensures.own in
    let held = own_columns_hold kernel least sched.order.named.are_least c.requires.unknowns.0 unknowns c.requires.unknowns.1 c.requires.within s.nodes middle own in
    let span = own_columns_span kernel least sched.order.named.are_least c.requires.unknowns.0 unknowns c.requires.unknowns.1 c.requires.within s.nodes middle own in
    on_ok_weaker c.write_all.result
    (λ told.
    let written = subst (IsPartlyWritten kernel rules s.nodes t.nodes middle last) c.as_slice-2.ensures.value told in
    record {
      held = written.held;
      span = written.spans (numbers_of unknowns) span;
      are = columns_substituted kernel c.requires.valid rules list sched.order sched.all_classes sched.all_truths c.requires.unknowns.0 unknowns c.requires.unknowns.1 s t c.write_all.ensures.made.kept middle last held own written;
    }) c.write_all.ensures.written
