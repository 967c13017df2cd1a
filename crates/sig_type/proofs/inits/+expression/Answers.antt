use Rattle.sig_type.proofs.{finds_then, missing_same, true_trivially}
use Rattle.sig_type.proofs.inits.+expression.Goals as goal

pub returns-in-Binary : goal.returns-in-Binary
returns-in-Binary t c = rw (c.in-Binary.is, ← c.deref-in-Binary.ensures, ← c.deref-in-Binary-2.ensures) (finds_then c.expression-in-Binary.ensures c.expression-in-Binary-2.ensures)

pub returns-in-Delay : goal.returns-in-Delay
returns-in-Delay t c = rw (c.in-Delay.is, ← c.deref-in-Delay.ensures) (finds_then c.expression-in-Delay.ensures (missing_same _ _ true_trivially c.own_init.ensures))

pub returns-in-Cell : goal.returns-in-Cell
returns-in-Cell t c = rw (c.in-Cell.is, ← c.deref-in-Cell.ensures, ← c.deref-in-Cell-2.ensures) (finds_then c.expression-in-Cell.ensures c.expression-in-Cell-2.ensures)
