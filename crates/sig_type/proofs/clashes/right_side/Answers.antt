use Rattle.sig_type.proofs.{finds_then, finds_later}
use Rattle.sig_type.proofs.clashes.right_side.Goals as goal

pub returns-in-Value : goal.returns-in-Value
returns-in-Value c = rw c.in-Value.is (finds_then (rw c.expression-kind.ensures.kind at c.left_sides.ensures) (finds_later c.new-inside.ensures c.expression-kind.ensures.clashes c.append.ensures))

pub returns-in-Some : goal.returns-in-Some
returns-in-Some c = rw (c.in-Call.is, ← c.as_bytes.ensures, ← c.in-Some.ensures, ← c.deref.ensures.value, ← c.deref-in-Some.ensures.value) c.call.ensures
