-- The rows of functions, and what is decided of a value that is present.
use Rattle.sig_judge.proofs.Common.{◌≡◌, ℤ, pos, negsuc, zero, suc, ◌+ℤ◌, ◌-ℤ◌, ◌*ℤ◌, true, Option, None, Some, refl, sym, subst, arith, option_map, int_div, int_rem, ints, quot-rem, Seen as SeenAt, Function, And as FunctionAnd, Or as FunctionOr, Xor as FunctionXor, NotEqual, Less as FunctionLess, LessEqual, Greater, GreaterEqual, Sum, Difference, Product, Quotient, Remainder, remainder, BinOp, Default, When, Plus, Meet, Eq, Ne, Lt, Le, Gt, Ge, Add, Sub, Mul, Div, Mod, is_function, Operand, Constant, AppliesToBoth, Combines, DecidesSeen, DecidesValue, seen_of, Value}
use Rattle.sig_base.specs.Functions.{Equal}
use Rattle.sig_tree.specs.declared.expr.BinOp.TheVariants.{Less, Or, Xor, And}
use Rattle.sig_tree.specs.Operators.{Signal}
use Rattle.sig_judge.specs.declared.trace.Seen.{Seen}

-- an operator that is a function is the function of its row
abbrev IsRow : BinOp → Function → Type 0
IsRow op f = (x y : Operand) (v : SeenAt) → (Combines op x y v → AppliesToBoth f x y v) × (AppliesToBoth f x y v → Combines op x y v)

row_of : (op : BinOp) → is_function op ≡ true → (f : Function) × IsRow op f
row_of Default h = cc
row_of When h = cc
row_of Plus h = cc
row_of Meet h = cc
row_of Less h = cc
row_of Or h = (FunctionOr, λ x y v. ((λ a. a), (λ a. a)))
row_of Xor h = (FunctionXor, λ x y v. ((λ a. a), (λ a. a)))
row_of And h = (FunctionAnd, λ x y v. ((λ a. a), (λ a. a)))
row_of Eq h = (Equal, λ x y v. ((λ a. a), (λ a. a)))
row_of Ne h = (NotEqual, λ x y v. ((λ a. a), (λ a. a)))
row_of Lt h = (FunctionLess, λ x y v. ((λ a. a), (λ a. a)))
row_of Le h = (LessEqual, λ x y v. ((λ a. a), (λ a. a)))
row_of Gt h = (Greater, λ x y v. ((λ a. a), (λ a. a)))
row_of Ge h = (GreaterEqual, λ x y v. ((λ a. a), (λ a. a)))
row_of Add h = (Sum, λ x y v. ((λ a. a), (λ a. a)))
row_of Sub h = (Difference, λ x y v. ((λ a. a), (λ a. a)))
row_of Mul h = (Product, λ x y v. ((λ a. a), (λ a. a)))
row_of Div h = (Quotient, λ x y v. ((λ a. a), (λ a. a)))
row_of Mod h = (Remainder, λ x y v. ((λ a. a), (λ a. a)))

-- what decides a value decides what the signal is
pub value_seen : (P Q : SeenAt → Type 0) → ((v : SeenAt) → P v → Q v) → ((v : SeenAt) → Q v → P v) → (r : Option ℤ) → DecidesValue P r → DecidesSeen Q (option_map Value r)
value_seen P Q to from None h = λ v q. h v (from v q)
value_seen P Q to from (Some value) h = to (Some value) h

-- a function of two that are present, of which one may be a constant
pub both_present : (op : BinOp) → is_function op ≡ true → (a b : ℤ) (r : Option ℤ) → DecidesValue (Combines op (Signal (Some a)) (Signal (Some b))) r → DecidesSeen (Combines op (Signal (Some a)) (Signal (Some b))) (option_map Value r)
both_present op is a b r h = value_seen _ _ (λ v p. p) (λ v p. p) r h

pub constant_behind : (op : BinOp) → is_function op ≡ true → (a d : ℤ) (r : Option ℤ) → DecidesValue (Combines op (Signal (Some a)) (Signal (Some d))) r → DecidesSeen (Combines op (Signal (Some a)) (Constant d)) (option_map Value r)
constant_behind op is a d r h =
    let row = (row_of op is).1 in
    value_seen (Combines op (Signal (Some a)) (Signal (Some d))) (Combines op (Signal (Some a)) (Constant d))
    (λ v p. (row (Signal (Some a)) (Constant d) v).1 ((row (Signal (Some a)) (Signal (Some d)) v).0 p))
    (λ v p. (row (Signal (Some a)) (Signal (Some d)) v).1 ((row (Signal (Some a)) (Constant d) v).0 p)) r h

pub constant_before : (op : BinOp) → is_function op ≡ true → (c b : ℤ) (r : Option ℤ) → DecidesValue (Combines op (Signal (Some c)) (Signal (Some b))) r → DecidesSeen (Combines op (Constant c) (Signal (Some b))) (option_map Value r)
constant_before op is c b r h =
    let row = (row_of op is).1 in
    value_seen (Combines op (Signal (Some c)) (Signal (Some b))) (Combines op (Constant c) (Signal (Some b)))
    (λ v p. (row (Constant c) (Signal (Some b)) v).1 ((row (Signal (Some c)) (Signal (Some b)) v).0 p))
    (λ v p. (row (Signal (Some c)) (Signal (Some b)) v).1 ((row (Constant c) (Signal (Some b)) v).0 p)) r h

-- the same, as the code finds it
abbrev Finds : BinOp → Operand → Operand → Option Seen → Type 0
Finds op x y r = DecidesSeen (Combines op x y) r

pub both_given : (op : BinOp) → is_function op ≡ true → (x y : Seen) (a b : ℤ) → x ≡ Value a → y ≡ Value b → (r : Option ℤ) → DecidesValue (Combines op (Signal (Some a)) (Signal (Some b))) r
    → (s : Option Seen) → s ≡ option_map Value r → Finds op (Signal (seen_of x)) (Signal (seen_of y)) s
both_given op is x y a b ex ey r h s es =
    subst (λ u. Finds op (Signal (seen_of u)) (Signal (seen_of y)) s) (sym ex)
    (subst (λ u. Finds op (Signal (Some a)) (Signal (seen_of u)) s) (sym ey)
    (subst (Finds op (Signal (Some a)) (Signal (Some b))) (sym es) (both_present op is a b r h)))

pub behind_given : (op : BinOp) → is_function op ≡ true → (x : Seen) (a d : ℤ) → x ≡ Value a → (r : Option ℤ) → DecidesValue (Combines op (Signal (Some a)) (Signal (Some d))) r
    → (s : Option Seen) → s ≡ option_map Value r → Finds op (Signal (seen_of x)) (Constant d) s
behind_given op is x a d ex r h s es =
    subst (λ u. Finds op (Signal (seen_of u)) (Constant d) s) (sym ex)
    (subst (Finds op (Signal (Some a)) (Constant d)) (sym es) (constant_behind op is a d r h))

pub before_given : (op : BinOp) → is_function op ≡ true → (y : Seen) (c b : ℤ) → y ≡ Value b → (r : Option ℤ) → DecidesValue (Combines op (Signal (Some c)) (Signal (Some b))) r
    → (s : Option Seen) → s ≡ option_map Value r → Finds op (Constant c) (Signal (seen_of y)) s
before_given op is y c b ey r h s es =
    subst (λ u. Finds op (Constant c) (Signal (seen_of u)) s) (sym ey)
    (subst (Finds op (Constant c) (Signal (Some b))) (sym es) (constant_before op is c b r h))

-- what a division leaves
left_over : (a q r : ℤ) → q +ℤ r ≡ a → r ≡ a -ℤ q
left_over a q r e = omega (arith, ints)

pub remainder_is : (a d : ℤ) → (d ≡ pos 0 → ⊥) → int_rem a d ≡ remainder a d
remainder_is a (pos zero) some = absurd (some refl)
remainder_is a (pos (suc n)) some = left_over a (int_div a (pos (suc n)) *ℤ pos (suc n)) (int_rem a (pos (suc n))) (quot-rem a (pos (suc n)))
remainder_is a (negsuc n) some = left_over a (int_div a (negsuc n) *ℤ negsuc n) (int_rem a (negsuc n)) (quot-rem a (negsuc n))
