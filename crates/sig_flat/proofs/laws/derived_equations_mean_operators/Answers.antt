use Rattle.sig_flat.proofs.{plus_row, meet_row, less_row, cell_row}
use Rattle.sig_flat.proofs.laws.derived_equations_mean_operators.Goals as goal

pub returns-clause-plus : goal.returns-clause-plus
returns-clause-plus c = plus_row

pub returns-clause-meet : goal.returns-clause-meet
returns-clause-meet c = meet_row

pub returns-clause-cell : goal.returns-clause-cell
returns-clause-cell c = cell_row

pub returns-clause-less : goal.returns-clause-less
returns-clause-less c = less_row
