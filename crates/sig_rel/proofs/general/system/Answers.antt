use Rattle.sig_rel.proofs.{◌-◌, ℕ, List, Result, Ok, Err, subst, arith, DdAnswer, Keeps-trans, Makes, left_refs, SpanColumns, Left, lacked_within_share, left_within_share, made_within_share, substituted_within_share, IsLeft, asking, made_system}
use Rattle.sig_rel.proofs.general.system.Goals as goal

pub returns-in_err-substitute-clause-store : goal.returns-in_err-substitute-clause-store
returns-in_err-substitute-clause-store c = let own = c.in_ok-unknowns.ensures.unknowns in (c.in_err-substitute.ensures.adds own.0 own.1.counted).store

pub returns-in_err-substitute-clause-kept : goal.returns-in_err-substitute-clause-kept
returns-in_err-substitute-clause-kept c = let own = c.in_ok-unknowns.ensures.unknowns in (c.in_err-substitute.ensures.adds own.0 own.1.counted).kept

pub returns-in_err-substitute-clause-share : goal.returns-in_err-substitute-clause-share
returns-in_err-substitute-clause-share c =
    substituted_within_share c.args.kernel.now c.in_ok-schedule.schedule.rules.least.items c.in_ok-schedule.ensures.order.named.are_least c.args.store.now c.substitute.new.store c.in_err-substitute.field-0.0
    c.from_residual-in_err-substitute.result c.in_err-substitute.ensures.adds c.from_residual-in_err-substitute.ensures.1

pub left-requires-clause-store : goal.left-requires-clause-store
left-requires-clause-store c = let own = c.in_ok-unknowns.ensures.unknowns in (c.in_ok-substitute.ensures.adds own.0 own.1.counted).store

pub returns-in_err-left-clause-kept : goal.returns-in_err-left-clause-kept
returns-in_err-left-clause-kept c =
    let own = c.in_ok-unknowns.ensures.unknowns in
    Keeps-trans c.args.store.now c.substitute.new.store c.left.new.store (c.in_ok-substitute.ensures.adds own.0 own.1.counted).kept c.in_err-left.ensures.made.kept

pub returns-in_err-left-clause-share : goal.returns-in_err-left-clause-share
returns-in_err-left-clause-share c =
    let kernel = c.args.kernel.now in
    let unknowns = c.in_ok-unknowns.unknowns in
    let lie = c.in_ok-unknowns.ensures.within in
    let least = c.in_ok-schedule.schedule.rules.least.items in
    let s = c.substitute.new.store in
    let t = c.left.new.store in
    let columns = c.substitute.new.self in
    let why = c.in_err-left.field-0.0 in
    left_within_share kernel least c.in_ok-schedule.ensures.order.named.are_least (SpanColumns s.nodes columns) unknowns.first (unknowns.end - unknowns.first) c.in_ok-substitute.ensures.substituted.span
    (λ u is. let few = lie.few u is in omega (arith, few)) left_refs (asking kernel least) (omega arith) c.args.store.now s t why c.from_residual-in_err-left.result c.in_ok-substitute.ensures.adds
    (subst (λ (xs : List ℕ). Makes (asking kernel xs) (SpanColumns s.nodes columns) s t left_refs (let result : Result Left DdAnswer = Err why in result)) c.as_slice-2.ensures.value c.in_err-left.ensures.made)
    c.from_residual-in_err-left.ensures.1

pub returns-in_err-system_with-clause-kept : goal.returns-in_err-system_with-clause-kept
returns-in_err-system_with-clause-kept c =
    let own = c.in_ok-unknowns.ensures.unknowns in
    Keeps-trans c.args.store.now c.substitute.new.store c.left.new.store (c.in_ok-substitute.ensures.adds own.0 own.1.counted).kept c.in_ok-left.ensures.made.kept

pub returns-in_err-system_with-clause-share : goal.returns-in_err-system_with-clause-share
returns-in_err-system_with-clause-share c =
    let kernel = c.args.kernel.now in
    let unknowns = c.in_ok-unknowns.unknowns in
    let lie = c.in_ok-unknowns.ensures.within in
    let least = c.in_ok-schedule.schedule.rules.least.items in
    let s = c.substitute.new.store in
    let t = c.left.new.store in
    let columns = c.substitute.new.self in
    let left = c.in_ok-left.left in
    lacked_within_share kernel least c.in_ok-schedule.ensures.order.named.are_least (SpanColumns s.nodes columns) unknowns.first (unknowns.end - unknowns.first) c.in_ok-substitute.ensures.substituted.span
    (λ u is. let few = lie.few u is in omega (arith, few)) left_refs (asking kernel least) (omega arith) c.args.store.now s t left c.from_residual-in_err-system_with.result c.in_ok-substitute.ensures.adds
    (subst (λ (xs : List ℕ). Makes (asking kernel xs) (SpanColumns s.nodes columns) s t left_refs (let result : Result Left DdAnswer = Ok left in result)) c.as_slice-2.ensures.value c.in_ok-left.ensures.made)
    c.from_residual-in_err-system_with.ensures.1

pub returns-clause-kept : goal.returns-clause-kept
returns-clause-kept c =
    let own = c.in_ok-unknowns.ensures.unknowns in
    Keeps-trans c.args.store.now c.substitute.new.store c.left.new.store (c.in_ok-substitute.ensures.adds own.0 own.1.counted).kept c.in_ok-left.ensures.made.kept

pub returns-clause-system : goal.returns-clause-system
returns-clause-system c =
    let kernel = c.args.kernel.now in
    let s = c.substitute.new.store in
    let t = c.left.new.store in
    let columns = c.substitute.new.self in
    let left = c.in_ok-left.left in
    let is : IsLeft kernel c.as_slice-2.result.now columns s t left = record { made = c.in_ok-left.ensures.made; residue = c.in_ok-left.ensures.residue; speaks = c.in_ok-left.ensures.speaks } in
    made_system kernel c.requires.valid c.args.conditions.now c.requires.conditions c.in_ok-schedule.schedule c.in_ok-schedule.ensures c.in_ok-unknowns.unknowns c.in_ok-unknowns.ensures.unknowns c.in_ok-unknowns.ensures.within
    s t columns c.in_ok-substitute.ensures.substituted left (subst (λ (xs : List ℕ). IsLeft kernel xs columns s t left) c.as_slice-2.ensures.value is) c.in_ok-system_with.field-0 c.in_ok-system_with.ensures

pub returns-clause-share : goal.returns-clause-share
returns-clause-share c =
    let kernel = c.args.kernel.now in
    let unknowns = c.in_ok-unknowns.unknowns in
    let lie = c.in_ok-unknowns.ensures.within in
    let least = c.in_ok-schedule.schedule.rules.least.items in
    let s = c.substitute.new.store in
    let t = c.left.new.store in
    let columns = c.substitute.new.self in
    let left = c.in_ok-left.left in
    made_within_share kernel least c.in_ok-schedule.ensures.order.named.are_least (SpanColumns s.nodes columns) unknowns.first (unknowns.end - unknowns.first) c.in_ok-substitute.ensures.substituted.span
    (λ u is. let few = lie.few u is in omega (arith, few)) left_refs (asking kernel least) (omega arith) c.args.store.now s t left c.in_ok-system_with.field-0 c.in_ok-substitute.ensures.adds
    (subst (λ (xs : List ℕ). Makes (asking kernel xs) (SpanColumns s.nodes columns) s t left_refs (let result : Result Left DdAnswer = Ok left in result)) c.as_slice-2.ensures.value c.in_ok-left.ensures.made)
