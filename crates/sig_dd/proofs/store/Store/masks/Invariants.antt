-- the masks of so many references
use Rattle.sig_dd.proofs.{◌≡◌, length, AreMasks}
use Rattle.sig_dd.proofs.store.Store.masks.Given as goal

abbrev pub invariant-loop-number : goal.invariant-loop-number
invariant-loop-number l = record {
  count : length l.masks.items ≡ l.number;
  masks : AreMasks l.self.nodes l.block l.masks.items;
}
