-- Functions of lists of values.
use Rattle.sig_values.proofs.Common.{◌≡◌, ◌<◌, ◌≤◌, ℤ, pos, List, [], ◌∷◌, length, map, get_or, refl, sym, ap, ◌∙◌, arith, EqId, function_of, FunOp, Id, Neg, Not, And, Or, Xor, Eq, Ne, Lt, Le, Gt, Ge, Add, Sub, Mul, Div, Mod, Operand, Gives, computed}

-- no function takes three values
of_three : (e : EqId) (function : FunOp) (a b c : ℤ) (more : List ℤ) → computed e (function_of function) (a ∷ b ∷ c ∷ more) ≡ Gives (pos 0)
of_three e Id a b c more = refl
of_three e Neg a b c more = refl
of_three e Not a b c more = refl
of_three e And a b c more = refl
of_three e Or a b c more = refl
of_three e Xor a b c more = refl
of_three e Eq a b c more = refl
of_three e Ne a b c more = refl
of_three e Lt a b c more = refl
of_three e Le a b c more = refl
of_three e Gt a b c more = refl
of_three e Ge a b c more = refl
of_three e Add a b c more = refl
of_three e Sub a b c more = refl
of_three e Mul a b c more = refl
of_three e Div a b c more = refl
of_three e Mod a b c more = refl

pub of_many : (e : EqId) (function : FunOp) (f : Operand → ℤ) (operands : List Operand) → 3 ≤ length operands
    → Gives (pos 0) ≡ computed e (function_of function) (map f operands)
of_many e function f [] h = absurd (omega arith)
of_many e function f (a ∷ []) h = absurd (omega arith)
of_many e function f (a ∷ b ∷ []) h = absurd (omega arith)
of_many e function f (a ∷ b ∷ c ∷ more) h = sym (of_three e function (f a) (f b) (f c) (map f more))

-- the values of two operands
pub two_of : (f : Operand → ℤ) (operands : List Operand) (d : Operand) (x y : ℤ) → 2 ≤ length operands → length operands < 3
    → x ≡ f (get_or operands 0 d) → y ≡ f (get_or operands 1 d) → x ∷ y ∷ [] ≡ map f operands
two_of f [] d x y low high first second = absurd (omega arith)
two_of f (a ∷ []) d x y low high first second = absurd (omega arith)
two_of f (a ∷ b ∷ []) d x y low high first second = ap (λ z. z ∷ y ∷ []) first ∙ ap (λ z. f a ∷ z ∷ []) second
two_of f (a ∷ b ∷ c ∷ more) d x y low high first second = absurd (omega arith)
