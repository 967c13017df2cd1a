-- the equations are those that the body led to over the instants so far
use Rattle.sig_judge.proofs.{map, take, flat_equation_of, Leads, equation_of, without_prefix}
use Rattle.sig_judge.proofs.verdict.verdict_on.Given as goal

abbrev pub invariant-loop-i : goal.invariant-loop-i
invariant-loop-i l = Leads (map without_prefix (map flat_equation_of l.flat.body.items)) (take l.i l.trace.rows.items) (map equation_of l.body.items)
