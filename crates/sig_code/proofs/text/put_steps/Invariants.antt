use Rattle.sig_code.proofs.{◌≡◌, ◌++◌, take, enumerate_from, flat_map, step_text}
use Rattle.sig_code.proofs.text.put_steps.Given as goal

abbrev pub invariant-loop-index : goal.invariant-loop-index
invariant-loop-index l = l.text.items ≡ l.initial.text.items ++ flat_map (step_text l.kernel l.ops) (enumerate_from 0 (take l.index l.steps))
