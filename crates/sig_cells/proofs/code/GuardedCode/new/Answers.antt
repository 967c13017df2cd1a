use Rattle.sig_cells.proofs.{◌≡◌, ◌∙◌, List, length, ap, sym, subst, SigId, AreBelow, AreRuns, AreWays, AskAmong, IsFirst, Run, asks_among, guards_count, scope_of}
use Rattle.sig_cells.proofs.code.GuardedCode.new.Goals as goal

pub first_of-first-requires-clause-runs : goal.first_of-first-requires-clause-runs
first_of-first-requires-clause-runs c = subst (AreRuns c.args.store.now.nodes) (sym c.as_slice-made.ensures.value) c.in_ok-runs.ensures.each

pub first_of-first-requires-clause-told : goal.first_of-first-requires-clause-told
first_of-first-requires-clause-told c =
    subst (AskAmong c.args.store.now.nodes c.args.conditions.now) (sym c.as_slice-made.ensures.value)
    (asks_among c.args.store.now.nodes c.args.conditions.now c.args.guards.now c.in_ok-runs.runs.items c.in_ok-runs.ensures.guards c.requires.guards.told)

pub ways_of-requires-clause-runs : goal.ways_of-requires-clause-runs
ways_of-requires-clause-runs c = subst (AreRuns c.args.store.now.nodes) (sym c.as_slice-made.ensures.value) c.in_ok-runs.ensures.each

pub ways_of-requires-clause-told : goal.ways_of-requires-clause-told
ways_of-requires-clause-told c =
    subst (AskAmong c.args.store.now.nodes c.args.conditions.now) (sym c.as_slice-made.ensures.value)
    (asks_among c.args.store.now.nodes c.args.conditions.now c.args.guards.now c.in_ok-runs.runs.items c.in_ok-runs.ensures.guards c.requires.guards.told)

pub returns-clause-code : goal.returns-clause-code
returns-clause-code c = λ inputs cells room within.
    let nodes = c.args.store.now.nodes in
    let signals = c.args.signals in
    let runs = c.in_ok-runs.runs.items in
    let copied : c.in_ok-from_slice.field-0.items ≡ c.args.conditions.now = c.in_ok-from_slice.ensures.items in
    let made : c.as_slice-made.result.now ≡ runs = c.as_slice-made.ensures.value in
    record {
      room = room;
      instructions = c.in_ok-instructions.ensures.within inputs cells within;
      below = subst (AreBelow signals) (sym copied) c.requires.below;
      count = sym (guards_count runs) ∙ ap length c.in_ok-runs.ensures.guards ∙ c.requires.count ∙ ap length (sym c.in_ok-instructions.ensures.listed);
      runs = c.in_ok-runs.ensures.each;
      told = subst (λ (cs : List SigId). AskAmong nodes cs runs) (sym copied)
          (asks_among nodes c.args.conditions.now c.args.guards.now runs c.in_ok-runs.ensures.guards c.requires.guards.told);
      first = subst (λ (cs : List SigId). IsFirst (scope_of nodes cs signals) runs c.first_of-first.result) (sym copied)
          (subst (λ (rs : List Run). IsFirst (scope_of nodes c.args.conditions.now signals) rs c.first_of-first.result) made c.first_of-first.ensures);
      ways = subst (λ (cs : List SigId). AreWays (scope_of nodes cs signals) runs c.in_ok-ways.ways.items) (sym copied)
          (subst (λ (rs : List Run). AreWays (scope_of nodes c.args.conditions.now signals) rs c.in_ok-ways.ways.items) made c.in_ok-ways.ensures);
    }
