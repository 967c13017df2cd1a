use Rattle.sig_kinds.proofs.kinds.add_equation.Goals as goal

pub returns-in-Def : goal.returns-in-Def
returns-in-Def c = rw c.in-Def.is (c.add_right.ensures c.in-Def.field-0.items)
