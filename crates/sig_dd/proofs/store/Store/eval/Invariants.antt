use Rattle.sig_dd.proofs.{◌≡◌, ℕ, ◌+◌, ◌<◌, length, Depends, visited, Holds, diagram, test}
use Rattle.sig_dd.proofs.store.Store.eval.Given as goal

-- the walk keeps the value, goes to earlier nodes, and counts each
abbrev pub invariant-loop-n : goal.invariant-loop-n
invariant-loop-n g l = record {
  held : Holds l.self.nodes l.r;
  value : test l.self.nodes l.r l.truths ≡ test l.self.nodes l.fn.f l.truths;
  told : (v : ℕ) → Depends (test l.self.nodes l.r) v → v < length l.truths;
  counted : l.steps + visited (diagram l.self.nodes l.r) l.truths ≡ l.fn.steps + visited (diagram l.self.nodes l.fn.f) l.truths;
}

abbrev pub decreases-loop-n : goal.decreases-loop-n
decreases-loop-n g l = l.r.number
