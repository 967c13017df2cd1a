use Rattle.sig_lex.proofs.{in_order, ends_once}
use Rattle.sig_lex.proofs.laws.slices_in_order.Goals as goal

pub returns-clause-order : goal.returns-clause-order
returns-clause-order c = in_order

pub returns-clause-last : goal.returns-clause-last
returns-clause-last c = ends_once
