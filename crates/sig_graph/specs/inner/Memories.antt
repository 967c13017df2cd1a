-- The read and the store of one delay.
use Rattle.std.specs.Prelude.{◌==◌}
use Rattle.sig_graph.specs.Prelude.{Bool, false, Option, None, Some, EqId, OpKind, DelayRead, Store}

abbrev pub is_equation : Option EqId → EqId → Bool
is_equation None e = false
is_equation (Some d) e = d.0 == e.0

-- an operation of the first kind, of an equation, reads the memory into which one of the second kind stores
abbrev pub keeps_memory : OpKind → Option EqId → OpKind → Bool
keeps_memory DelayRead equation (Store e) = is_equation equation e
keeps_memory _ equation _ = false
