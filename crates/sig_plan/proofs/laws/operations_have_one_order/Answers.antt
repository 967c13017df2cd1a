use Rattle.sig_plan.proofs.{length, Precedes, kept_order, none_before_itself, same_order, stands_once, stands_somewhere}
use Rattle.sig_plan.proofs.laws.operations_have_one_order.Goals as goal

pub returns : goal.returns
returns c = record {
  one = λ conditions operations a b is other. same_order (Precedes conditions operations) (length operations) a b is other;
  each = λ conditions operations order is i lt. stands_somewhere (Precedes conditions operations) (length operations) order is i lt;
  once = λ conditions operations order is i j lt_i lt_j same. stands_once (Precedes conditions operations) (length operations) order is i j lt_i lt_j same;
  before = λ conditions operations order is j lt p edge. kept_order (Precedes conditions operations) (length operations) order is j lt p edge;
  acyclic = λ conditions operations order is i lt cycle. none_before_itself (Precedes conditions operations) (length operations) order is i lt cycle;
}
