use Rattle.std.specs.Result.{IfOk}
use Rattle.sig_file.proofs.{Bool, Err, IsTrue, Ok, OnOk, Result}
use Rattle.sig_file.proofs.parts.add_behind.Goals as goal

-- what holds after each success holds after one that says yes
told : {E : Type 0} (P : Type 0) (result : Result Bool E) → OnOk result P → IfOk result (λ may. IsTrue may → P)
told P (Ok may) holds = λ yes. holds
told P (Err e) holds = tt

pub returns-clause-known : goal.returns-clause-known
returns-clause-known c = told _ c.add.result (c.add.ensures.added c.args.before.now c.requires)
