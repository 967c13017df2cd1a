use Rattle.sig_flat.proofs.{one_row, both_row, delay_row, when_row, constant_row, default_row, clock_row, pos}
use Rattle.sig_flat.proofs.laws.equations_mean_operators.Goals as goal

pub returns-clause-one : goal.returns-clause-one
returns-clause-one c = one_row

pub returns-clause-both : goal.returns-clause-both
returns-clause-both c = both_row

pub returns-clause-delay : goal.returns-clause-delay
returns-clause-delay c = delay_row

pub returns-clause-when : goal.returns-clause-when
returns-clause-when c = when_row

pub returns-clause-constant_when : goal.returns-clause-constant_when
returns-clause-constant_when c = constant_row

pub returns-clause-unary_when : goal.returns-clause-unary_when
returns-clause-unary_when c = λ memory instant b y. constant_row memory instant (pos 1) b y

pub returns-clause-default : goal.returns-clause-default
returns-clause-default c = default_row

pub returns-clause-clock : goal.returns-clause-clock
returns-clause-clock c = clock_row
