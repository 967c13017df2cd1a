-- The functions of values, which expressions and kernels have in common. Truths are 0 and 1.
use Rattle.std.specs.Prelude.{◌≡◌, ◌≢◌, ◌⊎◌, ℕ, ℤ, pos, negsuc, zero, suc, ◌+ℤ◌, ◌-ℤ◌, ◌*ℤ◌, neg_ℤ, ◌<ℤ◌, ◌≤ℤ◌, int_div, List, [], ◌∷◌, ⊤}
use Rattle.sig_base.specs.Traces.{Range, Bounded, Unbounded}

pub data Function : Type 0 where
  Identity : Function
  Negative : Function
  Not : Function
  And : Function
  Or : Function
  Xor : Function
  Equal : Function
  NotEqual : Function
  Less : Function
  LessEqual : Function
  Greater : Function
  GreaterEqual : Function
  Sum : Function
  Difference : Function
  Product : Function
  Quotient : Function
  Remainder : Function

-- a value that is true exactly where a statement holds
abbrev pub Tells : ℤ → Type 0 → Type 0
Tells v Statement = (Statement × (v ≡ pos 1)) ⊎ ((Statement → ⊥) × (v ≡ pos 0))

-- what may be a divisor: not 0 among the integers of 64 bits, else every number
abbrev pub MayDivide : Range → ℤ → Type 0
MayDivide Bounded divisor = divisor ≢ pos 0
MayDivide Unbounded divisor = ⊤

-- the quotient, truncated toward zero, and 0 where the divisor is 0
abbrev pub quotient : ℤ → ℤ → ℤ
quotient a divisor = int_div a divisor

-- the remainder that the quotient leaves, and 0 where the divisor is 0
abbrev pub remainder : ℤ → ℤ → ℤ
remainder a (pos zero) = pos 0
remainder a (pos (suc n)) = a -ℤ (quotient a (pos (suc n)) *ℤ pos (suc n))
remainder a (negsuc n) = a -ℤ (quotient a (negsuc n) *ℤ negsuc n)

-- the value that a function gives of its operands' values, before it is asked whether that is one of the range
abbrev pub Gives : Range → Function → List ℤ → ℤ → Type 0
Gives range Identity (a ∷ []) v = v ≡ a
Gives range Negative (a ∷ []) v = v ≡ neg_ℤ a
Gives range Not (a ∷ []) v = Tells v (a ≢ pos 1)
Gives range And (a ∷ b ∷ []) v = Tells v ((a ≡ pos 1) × (b ≡ pos 1))
Gives range Or (a ∷ b ∷ []) v = Tells v ((a ≡ pos 1) ⊎ (b ≡ pos 1))
Gives range Xor (a ∷ b ∷ []) v = Tells v (a ≢ b)
Gives range Equal (a ∷ b ∷ []) v = Tells v (a ≡ b)
Gives range NotEqual (a ∷ b ∷ []) v = Tells v (a ≢ b)
Gives range Less (a ∷ b ∷ []) v = Tells v (a <ℤ b)
Gives range LessEqual (a ∷ b ∷ []) v = Tells v (a ≤ℤ b)
Gives range Greater (a ∷ b ∷ []) v = Tells v (b <ℤ a)
Gives range GreaterEqual (a ∷ b ∷ []) v = Tells v (b ≤ℤ a)
Gives range Sum (a ∷ b ∷ []) v = v ≡ a +ℤ b
Gives range Difference (a ∷ b ∷ []) v = v ≡ a -ℤ b
Gives range Product (a ∷ b ∷ []) v = v ≡ a *ℤ b
Gives range Quotient (a ∷ b ∷ []) v = MayDivide range b × (v ≡ quotient a b)
Gives range Remainder (a ∷ b ∷ []) v = MayDivide range b × (v ≡ remainder a b)
Gives range function operands v = ⊥

-- how many operands a function has
abbrev pub operand_count : Function → ℕ
operand_count Identity = 1
operand_count Negative = 1
operand_count Not = 1
operand_count function = 2
