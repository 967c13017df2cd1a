-- The lines of operations, in the order in which they are written.
use Rattle.std.specs.Prelude.{◌++◌, ℕ, List, [], Some, codes}
use Rattle.sig_kernel.specs.declared.equation.Operand.{Operand}
use Rattle.sig_c.specs.Written.{Scope, name_at}
use Rattle.sig_c.specs.Layout.{expression_text, operand_bytes, address_text, refusal_text}
use Rattle.sig_c_step.specs.Translation.{operand}

-- x = ..;
abbrev pub set_line : (margin : List ℕ) → Scope → (y : ℕ) → (bytes : List ℕ) → List ℕ
set_line margin scope y bytes = margin ++ ((name_at scope.variables y ++ (codes " = " ++ (bytes ++ codes ";"))) ++ (codes "\n" ++ []))

-- two operands with a mark between them
abbrev pub joined_bytes : Scope → (mark : List ℕ) → (a b : Operand) → List ℕ
joined_bytes scope mark a b = operand_bytes scope (operand a) ++ (codes " " ++ (mark ++ (codes " " ++ operand_bytes scope (operand b))))

-- if (helper(a, b, &x)) { return k; }
abbrev pub check_line : (margin : List ℕ) → Scope → (helper : List ℕ) → (a b : Operand) → (x code : ℕ) → List ℕ
check_line margin scope helper a b x code =
    margin ++ ((codes "if (" ++ (helper ++ (codes "(" ++ (expression_text scope (operand a) ++ (codes ", " ++ (expression_text scope (operand b)
    ++ (address_text scope (Some x) ++ refusal_text code))))))) ++ (codes "\n" ++ []))
