use Rattle.sig_recursion.proofs.{◌≤◌, take, All, rank_of}
use Rattle.sig_recursion.proofs.ranks.falls_to.Given as goal

abbrev pub invariant-loop-callee : goal.invariant-loop-callee
invariant-loop-callee l = All (λ callee. rank_of l.ranks callee ≤ rank_of l.ranks l.caller) (take l.callee-index l.callees)
