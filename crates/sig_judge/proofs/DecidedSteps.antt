-- Whether an expression has a meaning at an instant, and whether an equation holds there, is decided: by what the operands
-- are, instant by instant.
use Rattle.sig_judge.proofs.Common.{◌≡◌, ◌⊎◌, ◌+◌, true, ℕ, ℤ, pos, List, [], ◌∷◌, length, None, Some, refl, ap, subst, inl, inr, arith, AllZip, zip_left, FitsSigned, w64, Instant, Seen, Function, Quotient, Remainder, Bounded, FlatExpression, FlatEquation, Defines, Equal, Operand, Constant, EquationSteps, BodySteps, Combines, AppliesToBoth, BreaksAt, Add, Default, Div, Eq, Ge, Gt, Le, Lt, Meet, Mod, Mul, Ne, Plus, Sub, When, BinOp}
use Rattle.std.proofs.Math.Decide.{map_dec}
use Rattle.std.specs.Ordering.{int_eq}
use Rattle.std.proofs.lemmas.Bool.Decides.{Decides-int_eq}
use Rattle.sig_lists.proofs.Decided.{dec_option, dec_truth}
use Rattle.sig_base.specs.Functions.{Gives, Negative, Not as FunctionNot, Or as FunctionOr, Xor as FunctionXor, And as FunctionAnd, Less as FunctionLess, LessEqual, Greater, GreaterEqual, Equal as FunctionEqual, NotEqual, Sum, Difference, Product, operand_count}
use Rattle.sig_base.specs.Traces.{Unbounded, has_64_bits, seen_at}
use Rattle.sig_base.proofs.FunctionLemmas.{some_value}
use Rattle.sig_base.proofs.TraceLemmas.{fits_by_test}
use Rattle.sig_tree.specs.declared.expr.BinOp.TheVariants.{Less, Or, Xor, And}
use Rattle.sig_tree.specs.declared.expr.UnOp.{UnOp}
use Rattle.sig_tree.specs.declared.expr.UnOp.TheVariants.{Clock, Neg, Not, When as UnaryWhen}
use Rattle.sig_tree.specs.FlatSyntax.{Sig, Const, Unary, Binary, Delay, Cell}
use Rattle.sig_tree.specs.Operators.{AppliesToOne, Changes, OfBoth, OfOne, Samples, Signal, Yields, both_of, clock_of, delayed, either_of, held, merged, sampled, without}
use Rattle.sig_tree.specs.Steps.{Steps, kept}
use Rattle.sig_tree.proofs.DecidedKinds.{dec_all}
use Rattle.sig_tree.proofs.EquationLaws.{zip_made}
use Rattle.sig_tree.proofs.OneMeaning.{OneValue, same_signal}
use Rattle.sig_tree.proofs.StepLaws.{first_is, step_first}

-- ---- values

dec_integer : (a b : ℤ) → Dec (a ≡ b)
dec_integer a b = map_dec (λ is. grind (arith, Decides-int_eq a b, is)) (λ e. grind (arith, Decides-int_eq a b, e)) (dec_truth (int_eq a b) true)

dec_fits : (v : ℤ) → Dec (FitsSigned w64 v)
dec_fits v = map_dec (fits_by_test v).0 (fits_by_test v).1 (dec_truth (has_64_bits v) true)

-- ---- functions

unbounded : (function : Function) (operands : List ℤ) (v : ℤ) → Gives Bounded function operands v → Gives Unbounded function operands v
unbounded Quotient (a ∷ b ∷ []) v gives = (tt, gives.1)
unbounded Remainder (a ∷ b ∷ []) v gives = (tt, gives.1)
unbounded function operands v gives = gives

dec_bounded : (function : Function) (operands : List ℤ) (v : ℤ) → Gives Unbounded function operands v → Dec (Gives Bounded function operands v)
dec_bounded Quotient (a ∷ b ∷ []) v gives = elim (dec_integer b (pos 0)) [ yes none ↦ no (λ divides. divides.0 none) | no some ↦ yes (some, gives.1) ]
dec_bounded Remainder (a ∷ b ∷ []) v gives = elim (dec_integer b (pos 0)) [ yes none ↦ no (λ divides. divides.0 none) | no some ↦ yes (some, gives.1) ]
dec_bounded function operands v gives = yes gives

module _ (one : OneValue) where
  module _ (function : Function) (operands : List ℤ) where
    by_value : (v : ℤ) → Gives Unbounded function operands v → Dec (Gives Bounded function operands v) → Dec (FitsSigned w64 v) → Dec ((seen : Seen) × Yields function operands seen)
    by_value v gives (yes bounded) (yes fits) = yes (Some v, (v, refl, bounded, fits))
    by_value v gives (yes bounded) (no out) = no (λ found. out (subst (λ (w : ℤ). FitsSigned w64 w) (one Bounded function operands found.1.0 v found.1.2 bounded) found.1.3))
    by_value v gives (no none) fits = no (λ found. none (subst (λ (w : ℤ). Gives Bounded function operands w)
        (one Unbounded function operands found.1.0 v (unbounded function operands found.1.0 found.1.2) gives) found.1.2))

    dec_yields : length operands ≡ operand_count function → Dec ((seen : Seen) × Yields function operands seen)
    dec_yields count = let value = some_value function operands count in by_value value.0 value.1 (dec_bounded function operands value.0 value.1) (dec_fits value.0)

  dec_one : (function : Function) (x : Operand) → operand_count function ≡ 1 → Dec ((v : Seen) × AppliesToOne function x v)
  dec_one function (Signal None) count = yes (None, refl)
  dec_one function (Signal (Some x)) count = dec_yields function (x ∷ []) (omega (arith, count))
  dec_one function (Constant c) count = no (λ found. found.1)

  dec_two : (function : Function) (x y : Operand) → operand_count function ≡ 2 → Dec ((v : Seen) × AppliesToBoth function x y v)
  dec_two function (Signal None) (Signal None) count = yes (None, refl)
  dec_two function (Signal None) (Signal (Some y)) count = no (λ found. found.1)
  dec_two function (Signal None) (Constant d) count = yes (None, refl)
  dec_two function (Signal (Some x)) (Signal None) count = no (λ found. found.1)
  dec_two function (Signal (Some x)) (Signal (Some y)) count = dec_yields function (x ∷ y ∷ []) (omega (arith, count))
  dec_two function (Signal (Some x)) (Constant d) count = dec_yields function (x ∷ d ∷ []) (omega (arith, count))
  dec_two function (Constant c) (Signal None) count = yes (None, refl)
  dec_two function (Constant c) (Signal (Some y)) count = dec_yields function (c ∷ y ∷ []) (omega (arith, count))
  dec_two function (Constant c) (Constant d) count = no (λ found. found.1)

  -- ---- operators

  dec_of_one : (f : Seen → Seen) (x : Operand) → Dec ((v : Seen) × OfOne f x v)
  dec_of_one f (Signal x) = yes (f x, refl)
  dec_of_one f (Constant c) = no (λ found. found.1)

  dec_of_both : (f : Seen → Seen → Seen) (x y : Operand) → Dec ((v : Seen) × OfBoth f x y v)
  dec_of_both f (Signal x) (Signal y) = yes (f x y, refl)
  dec_of_both f (Signal x) (Constant d) = no (λ found. found.1)
  dec_of_both f (Constant c) y = no (λ found. found.1)

  dec_samples : (x y : Operand) → Dec ((v : Seen) × Samples x y v)
  dec_samples (Signal x) (Signal b) = yes (sampled x b, refl)
  dec_samples (Constant c) (Signal b) = yes (sampled (Some c) b, refl)
  dec_samples (Signal x) (Constant d) = no (λ found. found.1)
  dec_samples (Constant c) (Constant d) = no (λ found. found.1)

  dec_changes : (op : UnOp) (x : Operand) → Dec ((v : Seen) × Changes op x v)
  dec_changes Not x = dec_one FunctionNot x refl
  dec_changes Neg x = dec_one Negative x refl
  dec_changes UnaryWhen x = dec_of_one (sampled (Some (pos 1))) x
  dec_changes Clock x = dec_of_one clock_of x

  dec_combines : (op : BinOp) (x y : Operand) → Dec ((v : Seen) × Combines op x y v)
  dec_combines Default x y = dec_of_both merged x y
  dec_combines When x y = dec_samples x y
  dec_combines Plus x y = dec_of_both either_of x y
  dec_combines Meet x y = dec_of_both both_of x y
  dec_combines Less x y = dec_of_both without x y
  dec_combines Or x y = dec_two FunctionOr x y refl
  dec_combines Xor x y = dec_two FunctionXor x y refl
  dec_combines And x y = dec_two FunctionAnd x y refl
  dec_combines Eq x y = dec_two FunctionEqual x y refl
  dec_combines Ne x y = dec_two NotEqual x y refl
  dec_combines Lt x y = dec_two FunctionLess x y refl
  dec_combines Le x y = dec_two LessEqual x y refl
  dec_combines Gt x y = dec_two Greater x y refl
  dec_combines Ge x y = dec_two GreaterEqual x y refl
  dec_combines Add x y = dec_two Sum x y refl
  dec_combines Sub x y = dec_two Difference x y refl
  dec_combines Mul x y = dec_two Product x y refl
  dec_combines Div x y = dec_two Quotient x y refl
  dec_combines Mod x y = dec_two Remainder x y refl

  -- ---- expressions at an instant

  module _ (now : Instant) where
    abbrev Goes : FlatExpression → Type 0
    Goes e = (o : Operand) × (next : FlatExpression) × Steps e now o next

    step_one : (e : FlatExpression) (o p : Operand) (next other : FlatExpression) → Steps e now o next → Steps e now p other → o ≡ p
    step_one e o p next other first second = first_is one [] now e p other second o (step_first [] now e o next first)

    unary_goes : (op : UnOp) (operand : FlatExpression) (at : _) → Dec (Goes operand) → Dec (Goes (Unary op operand at))
    unary_goes op operand at (no none) = no (λ found. none (found.2.0, found.2.1, found.2.2))
    unary_goes op operand at (yes s) = by (dec_changes op s.0) where
      by : Dec ((v : Seen) × Changes op s.0 v) → Dec (Goes (Unary op operand at))
      by (yes v) = yes (Signal v.0, Unary op s.1 at, (s.0, s.1, s.2, v.0, v.1, refl, refl))
      by (no none) = no (λ found. none (found.2.3, subst (λ (x : Operand). Changes op x found.2.3) (step_one operand found.2.0 s.0 found.2.1 s.1 found.2.2 s.2) found.2.4))

    binary_goes : (op : BinOp) (left right : FlatExpression) (at : _) → Dec (Goes left) → Dec (Goes right) → Dec (Goes (Binary op left right at))
    binary_goes op left right at (no none) other = no (λ found. none (found.2.0, found.2.2, found.2.4))
    binary_goes op left right at (yes s) (no none) = no (λ found. none (found.2.1, found.2.3, found.2.5))
    binary_goes op left right at (yes s) (yes t) = by (dec_combines op s.0 t.0) where
      by : Dec ((v : Seen) × Combines op s.0 t.0 v) → Dec (Goes (Binary op left right at))
      by (yes v) = yes (Signal v.0, Binary op s.1 t.1 at, (s.0, t.0, s.1, t.1, s.2, t.2, v.0, v.1, refl, refl))
      by (no none) = no (λ found. none (
        found.2.6,
        subst (λ (y : Operand). Combines op s.0 y found.2.6) (step_one right found.2.1 t.0 found.2.3 t.1 found.2.5 t.2)
            (subst (λ (x : Operand). Combines op x found.2.1 found.2.6) (step_one left found.2.0 s.0 found.2.2 s.1 found.2.4 s.2) found.2.7),
      ))

    delay_by : (operand : FlatExpression) (init : ℤ) (at : _) (o : Operand) (rest : FlatExpression) → Steps operand now o rest → Dec (Goes (Delay operand init at))
    delay_by operand init at (Signal x) rest s = yes (Signal (delayed init x), Delay rest (kept init x) at, (x, rest, s, refl, refl))
    delay_by operand init at (Constant c) rest s = no (λ found. let e : Signal found.2.0 ≡ Constant c = step_one operand (Signal found.2.0) (Constant c) found.2.1 rest found.2.2 s in cc)

    delay_goes : (operand : FlatExpression) (init : ℤ) (at : _) → Dec (Goes operand) → Dec (Goes (Delay operand init at))
    delay_goes operand init at (no none) = no (λ found. none (Signal found.2.0, found.2.1, found.2.2))
    delay_goes operand init at (yes s) = delay_by operand init at s.0 s.1 s.2

    cell_by : (operand truth : FlatExpression) (init : ℤ) (at : _) (o p : Operand) (rest others : FlatExpression) → Steps operand now o rest → Steps truth now p others → Dec (Goes (Cell operand truth init at))
    cell_by operand truth init at (Signal x) (Signal b) rest others s t = yes (Signal (held init x b), Cell rest others (kept init (held init x b)) at, (x, b, rest, others, s, t, refl, refl))
    cell_by operand truth init at (Signal x) (Constant d) rest others s t = no (λ found. let e : Signal found.2.1 ≡ Constant d = step_one truth (Signal found.2.1) (Constant d) found.2.3 others found.2.5 t in cc)
    cell_by operand truth init at (Constant c) p rest others s t = no (λ found. let e : Signal found.2.0 ≡ Constant c = step_one operand (Signal found.2.0) (Constant c) found.2.2 rest found.2.4 s in cc)

    cell_goes : (operand truth : FlatExpression) (init : ℤ) (at : _) → Dec (Goes operand) → Dec (Goes truth) → Dec (Goes (Cell operand truth init at))
    cell_goes operand truth init at (no none) other = no (λ found. none (Signal found.2.0, found.2.2, found.2.4))
    cell_goes operand truth init at (yes s) (no none) = no (λ found. none (Signal found.2.1, found.2.3, found.2.5))
    cell_goes operand truth init at (yes s) (yes t) = cell_by operand truth init at s.0 t.0 s.1 t.1 s.2 t.2

    dec_goes : (e : FlatExpression) → Dec (Goes e)
    dec_goes (Sig signal at) = yes (Signal (seen_at now signal), Sig signal at, (refl, refl))
    dec_goes (Const value kind at) = yes (Constant value, Const value kind at, (refl, refl))
    dec_goes (Unary op operand at) = unary_goes op operand at (dec_goes operand)
    dec_goes (Binary op left right at) = binary_goes op left right at (dec_goes left) (dec_goes right)
    dec_goes (Delay operand init at) = delay_goes operand init at (dec_goes operand)
    dec_goes (Cell operand truth init at) = cell_goes operand truth init at (dec_goes operand) (dec_goes truth)

    -- ---- an expression that is a signal's, absent or with a value

    dec_same : (o : Operand) (x : Seen) → Dec (o ≡ Signal x)
    dec_same (Signal y) x = map_dec (ap Signal) (same_signal y x) (dec_option dec_integer y x)
    dec_same (Constant c) x = no (λ e. cc)

    dec_seen : (e : FlatExpression) (x : Seen) → Dec ((rest : FlatExpression) × Steps e now (Signal x) rest)
    dec_seen e x = at (dec_goes e) where
      by : (s : Goes e) → Dec (s.0 ≡ Signal x) → Dec ((rest : FlatExpression) × Steps e now (Signal x) rest)
      by s (yes same) = yes (s.1, subst (λ (o : Operand). Steps e now o s.1) same s.2)
      by s (no other) = no (λ found. other (step_one e s.0 (Signal x) s.1 found.0 s.2 found.1))

      at : Dec (Goes e) → Dec ((rest : FlatExpression) × Steps e now (Signal x) rest)
      at (no none) = no (λ found. none (Signal x, found.0, found.1))
      at (yes s) = by s (dec_same s.0 x)

    abbrev IsPresent : FlatExpression → FlatExpression → Type 0
    IsPresent e rest = (v : ℤ) × Steps e now (Signal (Some v)) rest

    dec_present : (e : FlatExpression) → Dec ((rest : FlatExpression) × IsPresent e rest)
    dec_present e = at (dec_goes e) where
      by : (o : Operand) (next : FlatExpression) → Steps e now o next → Dec ((rest : FlatExpression) × IsPresent e rest)
      by (Signal (Some v)) next s = yes (next, (v, s))
      by (Signal None) next s = no (λ found. let e : Signal None ≡ Signal (Some found.1.0) = step_one e (Signal None) (Signal (Some found.1.0)) next found.0 s found.1.1 in cc)
      by (Constant c) next s = no (λ found. let e : Constant c ≡ Signal (Some found.1.0) = step_one e (Constant c) (Signal (Some found.1.0)) next found.0 s found.1.1 in cc)

      at : Dec (Goes e) → Dec ((rest : FlatExpression) × IsPresent e rest)
      at (no none) = no (λ found. none (Signal (Some found.1.0), found.0, found.1.1))
      at (yes s) = by s.0 s.1 s.2

    -- ---- equations

    abbrev IsAbsent : FlatExpression → FlatExpression → Type 0
    IsAbsent e rest = Steps e now (Signal None) rest

    dec_row : (R : FlatExpression → FlatExpression → Type 0) → ((e : FlatExpression) → Dec ((rest : FlatExpression) × R e rest)) → (es : List FlatExpression) → Dec ((rests : List FlatExpression) × AllZip R es rests)
    dec_row R decide es = map_dec (zip_made (λ (e : FlatExpression). (rest : FlatExpression) × R e rest) R (λ e found. found) es)
        (λ found. zip_left (λ (e : FlatExpression). (rest : FlatExpression) × R e rest) R (λ e rest is. (rest, is)) es found.0 found.1)
        (dec_all (λ (e : FlatExpression). (rest : FlatExpression) × R e rest) decide es)

    equal_by : (operands : List FlatExpression) (prefix : _) → Dec ((rests : List FlatExpression) × AllZip IsAbsent operands rests) → Dec ((rests : List FlatExpression) × AllZip IsPresent operands rests)
        → Dec ((next : FlatEquation) × EquationSteps now (Equal operands prefix) next)
    equal_by operands prefix (yes absent) present = yes (Equal absent.0 prefix, (absent.0, inl absent.1, refl))
    equal_by operands prefix (no some) (yes present) = yes (Equal present.0 prefix, (present.0, inr present.1, refl))
    equal_by operands prefix (no some) (no none) = no (λ found. elim found.1.1 [ inl absent ↦ some (found.1.0, absent) | inr present ↦ none (found.1.0, present) ])

    dec_equation : (q : FlatEquation) → Dec ((next : FlatEquation) × EquationSteps now q next)
    dec_equation (Defines signal e prefix) = map_dec (λ found. (Defines signal found.0 prefix, (found.0, found.1, refl))) (λ found. (found.1.0, found.1.1)) (dec_seen e (seen_at now signal))
    dec_equation (Equal operands prefix) = equal_by operands prefix (dec_row IsAbsent (λ e. dec_seen e None) operands) (dec_row IsPresent dec_present operands)

    -- all equations hold at the instant, or there is a first one that does not
    pub body_or_broken : (equations : List FlatEquation) → ((nexts : List FlatEquation) × BodySteps now equations nexts) ⊎ ((index : ℕ) × BreaksAt now equations index)
    body_or_broken [] = inl ([], tt)
    body_or_broken (q ∷ qs) = by (dec_equation q) (body_or_broken qs) where
      by : Dec ((next : FlatEquation) × EquationSteps now q next) → ((nexts : List FlatEquation) × BodySteps now qs nexts) ⊎ ((index : ℕ) × BreaksAt now qs index)
          → ((nexts : List FlatEquation) × BodySteps now (q ∷ qs) nexts) ⊎ ((index : ℕ) × BreaksAt now (q ∷ qs) index)
      by (yes s) (inl rest) = inl (s.0 ∷ rest.0, (s.1, rest.1))
      by (yes s) (inr broken) = let b = broken.1 in
          inr (
            broken.0 + 1,
            record {
              earlier = q ∷ b.earlier;
              broken = b.broken;
              later = b.later;
              equations_are = ap (λ (es : List FlatEquation). q ∷ es) b.equations_are;
              index_is = omega (arith, b.index_is);
              nexts = s.0 ∷ b.nexts;
              steps = (s.1, b.steps);
              breaks = b.breaks;
            },
          )
      by (no none) rest = inr (0, record { earlier = []; broken = q; later = qs; equations_are = refl; index_is = refl; nexts = []; steps = tt; breaks = λ next s. none (next, s) })
