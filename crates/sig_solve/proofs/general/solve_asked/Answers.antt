use Rattle.sig_solve.proofs.{◌+◌, ◌*◌, length, None, HasClocks, AreClocks, conditions_of, Share-then, Keeps-trans, variables_of, store_refusal, asked_stays, solved, with_clocks}
use Rattle.sig_solve.proofs.general.solve_asked.Goals as goal

pub all_layers-requires-clause-asked : goal.all_layers-requires-clause-asked
all_layers-requires-clause-asked c = asked_stays c.args.store.now c.root_of.new.store c.in_ok-root.ensures.kept c.args.asked.now c.in_ok-root.ensures.store c.requires.asked

pub free_conditions-requires-clause-asked : goal.free_conditions-requires-clause-asked
free_conditions-requires-clause-asked c =
    asked_stays c.args.store.now c.all_layers.new.store (Keeps-trans c.args.store.now c.root_of.new.store c.all_layers.new.store c.in_ok-root.ensures.kept c.in_ok-layers.ensures.kept) c.args.asked.now c.in_ok-layers.ensures.store c.requires.asked

pub clocks-requires-clause-asked : goal.clocks-requires-clause-asked
clocks-requires-clause-asked c =
    asked_stays c.args.store.now c.free_conditions.new.store
    (Keeps-trans c.args.store.now c.all_layers.new.store c.free_conditions.new.store (Keeps-trans c.args.store.now c.root_of.new.store c.all_layers.new.store c.in_ok-root.ensures.kept c.in_ok-layers.ensures.kept) c.in_ok-ordered.ensures.kept)
    c.args.asked.now c.in_ok-ordered.ensures.store c.requires.asked

pub clocks-requires-clause-has : goal.clocks-requires-clause-has
clocks-requires-clause-has c = record {
  alive = c.in_ok-root.ensures.value.1;
  root = (c.in_ok-root.root.0, c.in_ok-root.ensures.value.0);
  solved = solved c.args.asked.now.frame c.requires.asked.parts c.in_ok-layers.layers.items c.in_ok-layers.ensures.value;
  free = c.in_ok-ordered.ensures.value.2;
}

pub returns-clause-kept : goal.returns-clause-kept
returns-clause-kept c =
    Keeps-trans c.args.store.now c.free_conditions.new.store c.clocks.new.store
    (Keeps-trans c.args.store.now c.all_layers.new.store c.free_conditions.new.store (Keeps-trans c.args.store.now c.root_of.new.store c.all_layers.new.store c.in_ok-root.ensures.kept c.in_ok-layers.ensures.kept) c.in_ok-ordered.ensures.kept)
    c.clocks.ensures.kept

pub returns-clause-clocks : goal.returns-clause-clocks
returns-clause-clocks c =
    let has : HasClocks c.args.asked.now.frame.kernel.now = record {
      alive = c.in_ok-root.ensures.value.1;
      root = (c.in_ok-root.root.0, c.in_ok-root.ensures.value.0);
      solved = solved c.args.asked.now.frame c.requires.asked.parts c.in_ok-layers.layers.items c.in_ok-layers.ensures.value;
      free = c.in_ok-ordered.ensures.value.2;
    } in
    with_clocks (HasClocks c.args.asked.now.frame.kernel.now) (AreClocks c.args.asked.now.frame.kernel.now c.clocks.new.store.nodes) c.clocks.result has c.clocks.ensures.value

pub returns-clause-share : goal.returns-clause-share
returns-clause-share c =
    let n = length c.args.asked.now.frame.leaders.items in
    let u = c.args.asked.now.system.variables in
    let k = length (conditions_of c.args.asked.now.frame.kernel.now) in
    let vs = variables_of c.args.asked.now.system in
    Share-then c.args.store.now c.free_conditions.new.store c.clocks.new.store (2 + (3 + 2 * u) * n * n + (5 + 2 * u) * k) ((2 + 2 * u) * n) vs (store_refusal c.clocks.result)
    (Share-then c.args.store.now c.all_layers.new.store c.free_conditions.new.store (2 + (3 + 2 * u) * n * n) ((5 + 2 * u) * k) vs None
    (Share-then c.args.store.now c.root_of.new.store c.all_layers.new.store 2 ((3 + 2 * u) * n * n) vs None c.in_ok-root.ensures.share c.in_ok-layers.ensures.share) c.in_ok-ordered.ensures.share)
    c.clocks.ensures.share
