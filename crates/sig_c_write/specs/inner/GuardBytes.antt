-- A guard in the order in which it is written: by what the children of its node are.
use Rattle.std.specs.Prelude.{◌++◌, ◌&&◌, ℕ, zero, suc, Bool, true, false, not, List, [], if◌then◌else◌, codes}
use Rattle.sig_c.specs.SmallC.{Expression}
use Rattle.sig_c.specs.Written.{Scope}
use Rattle.sig_c.specs.Layout.{expression_text, operand_bytes}
use Rattle.sig_c_write.specs.declared.guards.Child.{Child}
use Rattle.sig_c_write.specs.declared.guards.Child.TheVariants.{Never, Always, Inner}

-- as an operand, or alone
abbrev pub guard_bytes : Scope → (inner : Bool) → Expression → List ℕ
guard_bytes scope true e = operand_bytes scope e
guard_bytes scope false e = expression_text scope e

abbrev pub child_of : ℕ → Child
child_of zero = Never
child_of (suc zero) = Always
child_of (suc (suc n)) = Inner

abbrev pub is_constant : Child → Bool
is_constant Inner = false
is_constant other = true

-- the condition, or its denial, is all
abbrev pub is_single : (low high : Child) → Bool
is_single low high = is_constant low && is_constant high

abbrev pub denial : (low high : Child) → List ℕ
denial Never Never = codes "!"
denial Never Always = []
denial Never Inner = []
denial Always Never = codes "!"
denial Always Always = []
denial Always Inner = codes "!"
denial Inner Never = codes "!"
denial Inner Always = []
denial Inner Inner = []

abbrev pub mark : (low high : Child) → List ℕ
mark Never Never = []
mark Never Always = []
mark Never Inner = codes " && "
mark Always Never = []
mark Always Always = []
mark Always Inner = codes " || "
mark Inner Never = codes " && "
mark Inner Always = codes " || "
mark Inner Inner = codes " ? "

abbrev pub bracket : (inner : Bool) → (low high : Child) → List ℕ → List ℕ
bracket inner low high bytes = if inner && not (is_single low high) then bytes else []

abbrev pub between : (low high : Child) → List ℕ
between Inner Inner = codes " : "
between low high = []

-- what is written of a child
abbrev pub part : Child → List ℕ → List ℕ
part Inner bytes = bytes
part other bytes = []

abbrev pub beginning : Scope → (inner : Bool) → (low high : Child) → (w : Expression) → List ℕ
beginning scope inner low high w = bracket inner low high (codes "(") ++ (denial low high ++ (operand_bytes scope w ++ mark low high))

abbrev pub node_bytes : Scope → (inner : Bool) → (low high : Child) → (w : Expression) → (l h : List ℕ) → List ℕ
node_bytes scope inner low high w l h =
    beginning scope inner low high w ++ (part high h ++ (between low high ++ (part low l ++ bracket inner low high (codes ")"))))
