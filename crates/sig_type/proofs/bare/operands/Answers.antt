use Rattle.sig_type.proofs.{finds_then, finds_same}
use Rattle.sig_type.proofs.bare.operands.Goals as goal

pub returns : goal.returns
returns c = rw (← c.is_constant-left_is.ensures, ← c.is_constant-right_is.ensures, ← c.place_of.ensures, ← c.place_of-2.ensures) (finds_then (finds_same _ c.refuses_first.ensures c.ask.ensures)
    (finds_then (finds_same _ c.are_both.ensures c.ask-2.ensures) (finds_same _ c.refuses_second.ensures c.ask-3.ensures)))
