-- What operators are at an instant that meets the equations of a kernel.
use Rattle.sig_flat.specs.Prelude.{List, AllByRecursion, Instant, Bounded, seen_at, Memory, Meets, Form, Operand, Sig, Const, Found, Signal, Constant}

-- an instant meets equations of these forms, with what delays remember
abbrev pub AreMet : Memory → Instant → List Form → Type 0
AreMet memory instant forms = AllByRecursion (Meets Bounded memory instant) forms

-- what an operand of an equation is at an instant
abbrev pub found_at : Instant → Operand → Found
found_at instant (Sig x) = Signal (seen_at instant x.0)
found_at instant (Const constant) = Constant constant
