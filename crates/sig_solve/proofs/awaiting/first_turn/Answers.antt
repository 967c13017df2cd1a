use Rattle.sig_solve.proofs.{◌≡◌, ◌↔◌, IsTrue, sym, subst, arith, None, Some, Implies, IsAmong, IsOpenAnswer, Overlap, Ref, present_over, varies_open}
use Rattle.sig_solve.proofs.awaiting.first_turn.Goals as goal

pub presence-present-requires : goal.presence-present-requires
presence-present-requires c = let lt = c.requires.signal in let count = c.requires.asked.is_system.presences in omega (arith, lt, count)

pub overlap-requires-clause-g : goal.overlap-requires-clause-g
overlap-requires-clause-g c = (present_over c.args.store.now c.args.asked.now c.requires.asked c.args.signal c.requires.signal c.presence-present.result c.presence-present.ensures).held

pub within-requires-clause-g : goal.within-requires-clause-g
within-requires-clause-g c = (present_over c.args.store.now c.args.asked.now c.requires.asked c.args.signal c.requires.signal c.presence-present.result c.presence-present.ensures).held

pub returns-clause-value : goal.returns-clause-value
returns-clause-value c =
    let nodes = c.args.store.now.nodes in
    let asked = c.args.asked.now in
    subst (IsOpenAnswer asked.frame.kernel.now (IsAmong c.args._known.now.conditions.items) c.args.signal) (sym c.is_some_alone.ensures)
    (varies_open c.args.store.now asked c.requires.asked c.args.signal c.requires.signal c.args._known.now.conditions.items c.requires.none c.in_ok-some.some c.in_ok-all.all
    (subst (λ (r : Ref). IsTrue c.in_ok-some.some ↔ Overlap nodes asked.solutions r) c.presence-present.ensures c.in_ok-some.ensures.value)
    (subst (λ (r : Ref). IsTrue c.in_ok-all.all ↔ Implies nodes asked.solutions r) c.presence-present.ensures c.in_ok-all.ensures.value))

pub returns-clause-awaits : goal.returns-clause-awaits
returns-clause-awaits c v is = absurd (let no : None ≡ Some v = is in cc)
