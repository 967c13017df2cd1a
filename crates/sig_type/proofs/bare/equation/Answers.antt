use Rattle.sig_type.proofs.bare.equation.Goals as goal

pub returns-in-Def : goal.returns-in-Def
returns-in-Def c = rw c.in-Def.is (c.right_side.ensures c.in-Def.field-0.items)
