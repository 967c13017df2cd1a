use Rattle.sig_code.proofs.{◌≡◌, ◌++◌, take, enumerate_from, flat_map, actor_text}
use Rattle.sig_code.proofs.text.put_actors.Given as goal

abbrev pub invariant-loop-actor : goal.invariant-loop-actor
invariant-loop-actor l = l.text.items ≡ l.initial.text.items ++ flat_map (actor_text l.kernel l.ops) (enumerate_from 0 (take l.actor l.codes))
