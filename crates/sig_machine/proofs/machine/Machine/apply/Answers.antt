use Rattle.sig_machine.proofs.{◌≡◌, ◌∙◌, ℤ, List, [], ◌∷◌, ap, rules, FitsSigned, w64, to_z-of_z, function_of, operand_in, answered, registers_of, of_many, two_of}
use Rattle.sig_model.specs.Operating.{computed}
use Rattle.sig_machine.proofs.machine.Machine.apply.Goals as goal

pub returns-in-len2 : goal.returns-in-len2
returns-in-len2 c =
    let values = λ (vs : List ℤ). answered (computed c.args.e (function_of c.args.function) vs) in
    let x = c.operand-in-len2.result in
    let y = c.operand-in-len2-2.result in
    let fx : FitsSigned w64 x = search rules in
    let fy : FitsSigned w64 y = search rules in
    let is : c.computed_of_two.result ≡ values (x ∷ y ∷ []) = rw (to_z-of_z w64 x fx, to_z-of_z w64 y fy) at c.computed_of_two.ensures in
    is ∙ ap values (two_of (operand_in (registers_of c.args.self.now)) c.args.operands.now _ x y c.in-len2.len_at_least c.in-len2.len_below
    c.operand-in-len2.ensures c.operand-in-len2-2.ensures)

pub returns-in_default-2 : goal.returns-in_default-2
returns-in_default-2 c = ap answered (of_many c.args.e c.args.function (operand_in (registers_of c.args.self.now)) c.args.operands.now c.in_default.len_at_least)
