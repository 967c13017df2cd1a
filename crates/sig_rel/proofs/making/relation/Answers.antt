use Rattle.sig_rel.proofs.{◌+◌, ◌-◌, ◌*◌, Ok, Err, length, ap, subst, arith, list_all, Agree, test, Equation, Keeps-trans, Adds, AreOwnColumns, classes_below, truths_below, is_met, itself, SpanColumns, values_at, left_within_share, made_within_share, substituted_within_share, own_adds, own_columns_hold, own_columns_span, is_relation}
use Rattle.sig_rel.proofs.making.relation.Goals as goal

pub own-requires-clause-few : goal.own-requires-clause-few
own-requires-clause-few c =
    let same = ap length c.as_slice-2.ensures.value in
    let are = c.in_ok-least.ensures in
    let long = are.count in
    let limit = c.requires.valid.parts.signals in
    omega (arith, same, long, limit)

pub returns-in_err-own-clause-share : goal.returns-in_err-own-clause-share
returns-in_err-own-clause-share c =
    let kernel = c.args.kernel.now in
    let least = c.in_ok-least.least.items in
    let own = c.in_ok-unknowns.ensures.unknowns in
    let r = c.args.store.now in
    let s = c.own.new.store in
    let u = c.in_ok-unknowns.unknowns in
    let why = c.in_err-own.field-0.0 in
    let adds = subst (λ ls. Adds (classes_below ls (length ls) + truths_below u.truth.items (length u.truth.items)) r s (Err why)) c.as_slice-2.ensures.value c.in_err-own.ensures.adds in
    substituted_within_share kernel least c.in_ok-least.ensures r s why c.from_residual-in_err-own.result
    (own_adds kernel least c.in_ok-least.ensures own.0 u own.1 c.in_ok-unknowns.ensures.within r s (Err why) adds) c.from_residual-in_err-own.ensures.1

pub residue-requires-clause-hold : goal.residue-requires-clause-hold
residue-requires-clause-hold c =
    let own = c.in_ok-unknowns.ensures.unknowns in
    own_columns_hold c.args.kernel.now c.in_ok-least.least.items c.in_ok-least.ensures own.0 c.in_ok-unknowns.unknowns own.1 c.in_ok-unknowns.ensures.within c.own.new.store.nodes c.own.new.self
    (subst (λ ls. AreOwnColumns c.own.new.store.nodes ls c.in_ok-unknowns.unknowns c.own.new.self) c.as_slice-2.ensures.value c.in_ok-own.ensures.own)

pub returns-in_err-whole-clause-kept : goal.returns-in_err-whole-clause-kept
returns-in_err-whole-clause-kept c = Keeps-trans c.args.store.now c.own.new.store c.residue.new.store c.in_ok-own.ensures.adds.kept c.in_err-whole.ensures.made.kept

pub returns-in_err-whole-clause-share : goal.returns-in_err-whole-clause-share
returns-in_err-whole-clause-share c =
    let kernel = c.args.kernel.now in
    let least = c.in_ok-least.least.items in
    let own = c.in_ok-unknowns.ensures.unknowns in
    let lie = c.in_ok-unknowns.ensures.within in
    let r = c.args.store.now in
    let s = c.own.new.store in
    let t = c.residue.new.store in
    let u = c.in_ok-unknowns.unknowns in
    let columns = c.own.new.self in
    let adds = subst (λ ls. Adds (classes_below ls (length ls) + truths_below u.truth.items (length u.truth.items)) r s (Ok tt)) c.as_slice-2.ensures.value c.in_ok-own.ensures.adds in
    let are = subst (λ ls. AreOwnColumns s.nodes ls u columns) c.as_slice-2.ensures.value c.in_ok-own.ensures.own in
    left_within_share kernel least c.in_ok-least.ensures (SpanColumns s.nodes columns) u.first (u.end - u.first) (own_columns_span kernel least c.in_ok-least.ensures own.0 u own.1 lie s.nodes columns are)
    (λ v is. let few = lie.few v is in omega (arith, few)) itself (11 * length kernel.equations) (omega arith) r s t c.in_err-whole.field-0.0 c.from_residual-in_err-whole.result
    (own_adds kernel least c.in_ok-least.ensures own.0 u own.1 lie r s (Ok tt) adds) c.in_err-whole.ensures.made c.from_residual-in_err-whole.ensures.1

pub returns-clause-kept : goal.returns-clause-kept
returns-clause-kept c = Keeps-trans c.args.store.now c.own.new.store c.residue.new.store c.in_ok-own.ensures.adds.kept c.in_ok-whole.ensures.made.kept

pub returns-clause-relation : goal.returns-clause-relation
returns-clause-relation c =
    let kernel = c.args.kernel.now in
    let least = c.in_ok-least.least.items in
    let own = c.in_ok-unknowns.ensures.unknowns in
    let s = c.own.new.store in
    let t = c.residue.new.store in
    let u = c.in_ok-unknowns.unknowns in
    let columns = c.own.new.self in
    let are = subst (λ ls. AreOwnColumns s.nodes ls u columns) c.as_slice-2.ensures.value c.in_ok-own.ensures.own in
    let value = subst (λ ls. Agree (test t.nodes c.in_ok-whole.whole) (λ truths. list_all (λ (equation : Equation). is_met kernel.signals ls (values_at s.nodes columns truths) equation.form) kernel.equations))
    c.as_slice-3.ensures.value c.in_ok-whole.ensures.value in
    (own.0, is_relation kernel c.requires.valid least c.in_ok-least.ensures own.0 u own.1 c.in_ok-unknowns.ensures.within s t columns are (11 * length kernel.equations) c.in_ok-whole.whole c.in_ok-whole.ensures.made value)

pub returns-clause-share : goal.returns-clause-share
returns-clause-share c =
    let kernel = c.args.kernel.now in
    let least = c.in_ok-least.least.items in
    let own = c.in_ok-unknowns.ensures.unknowns in
    let lie = c.in_ok-unknowns.ensures.within in
    let r = c.args.store.now in
    let s = c.own.new.store in
    let t = c.residue.new.store in
    let u = c.in_ok-unknowns.unknowns in
    let columns = c.own.new.self in
    let adds = subst (λ ls. Adds (classes_below ls (length ls) + truths_below u.truth.items (length u.truth.items)) r s (Ok tt)) c.as_slice-2.ensures.value c.in_ok-own.ensures.adds in
    let are = subst (λ ls. AreOwnColumns s.nodes ls u columns) c.as_slice-2.ensures.value c.in_ok-own.ensures.own in
    made_within_share kernel least c.in_ok-least.ensures (SpanColumns s.nodes columns) u.first (u.end - u.first) (own_columns_span kernel least c.in_ok-least.ensures own.0 u own.1 lie s.nodes columns are)
    (λ v is. let few = lie.few v is in omega (arith, few)) itself (11 * length kernel.equations) (omega arith) r s t c.in_ok-whole.whole _
    (own_adds kernel least c.in_ok-least.ensures own.0 u own.1 lie r s (Ok tt) adds) c.in_ok-whole.ensures.made
