use Rattle.sig_solve.proofs.{◌≤◌, ◌+◌, ◌*◌, length, None, IsStore, Keeps, Share, variables_of, AreAwaited, AreRounds}
use Rattle.sig_solve.proofs.layers.layers_of.Given as goal

abbrev pub invariant-loop-round : goal.invariant-loop-round
invariant-loop-round l = record {
  store : IsStore l.store;
  kept : Keeps l.initial.store l.store;
  rounds : AreRounds l.asked.frame l.round l.numbers.items l.waiting.items;
  awaited : AreAwaited l.store.nodes l.asked l.awaited.items;
  few : length l.waiting.items + l.round ≤ length l.asked.frame.leaders.items;
  share : Share ((3 + 2 * l.asked.system.variables) * length l.asked.frame.leaders.items * l.round) (variables_of l.asked.system) l.initial.store l.store None;
}
