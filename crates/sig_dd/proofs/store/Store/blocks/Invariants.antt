-- the references so far test no variable past the blocks
use Rattle.sig_dd.proofs.{◌<◌, ◌≤◌, ◌*◌, ◌^◌, ℕ, Ref, Tests, diagram}
use Rattle.sig_dd.proofs.store.Store.blocks.Given as goal

abbrev pub invariant-loop-number : goal.invariant-loop-number
invariant-loop-number l = record {
  few : l.blocks ≤ 2 ^ 26;
  all : (r : Ref) → r.number < l.number → (v : ℕ) → Tests (diagram l.self.nodes r) v → v < l.blocks * 64;
}
