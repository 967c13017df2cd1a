-- What an operation writes is of its signal's kind, and has the truth that an abstract reaction gives to the signal.
use Rattle.sig_meaning_laws.proofs.Common.{◌≡◌, ◌⊎◌, inl, inr, ℕ, zero, suc, ℤ, pos, Bool, true, false, not, int_le, int_lt, ◌&&◌, ◌||◌, List, [], ◌∷◌, length, refl, ap, sym, subst, ◌∙◌, arith, None, Some, is_some, slice_get, int_eq, and_parts, false≢true, or-false, Function, Not as Negation, And as Conjunction, Or as Disjunction, Xor as Exclusive, Equal, NotEqual, Less, LessEqual, Greater, GreaterEqual, operand_count, IsValue, Unbounded, Kind, Integer, Boolean, Signal, truth_of_value, Reaction, Status, are_statuses, compares, is_status_of, same_status, same_truth, status_at, truth_function, where_true, boolean_row, equality_rows, handed_row, kind_bit, one_operand, sort_of, two_operands, truths_are_same, function_of, function_rows, is_kind, keeps_to_one, kind_is, operands_are, Sort, AnInteger, Truth, FunOp, Id, Neg, Eq, Ne, Lt, Le, Gt, Ge, Operand, is_one, result_of, truth_value}
use Rattle.sig_base.specs.declared.ids.Kind.TheVariants.{Event}
use Rattle.sig_kernel.specs.declared.equation.FunOp.TheVariants.{Not, And, Or, Xor}

-- ---- statuses

pub statuses_equal : (a b : Status) → same_status a b ≡ true → a ≡ b
statuses_equal None None is = refl
statuses_equal (Some a) (Some b) is = ap Some (truths_are_same a b is)
statuses_equal _ _ is = absurd (false≢true is)

pub some_status : (s : Status) → is_some s ≡ true → (t : Bool) × (s ≡ Some t)
some_status None is = absurd (false≢true is)
some_status (Some t) is = (t, refl)

pub no_status : (s : Status) → is_some s ≡ false → s ≡ None
no_status None is = refl
no_status (Some t) is = absurd (false≢true (sym is))

pub sampled : (b x : Status) (t : Bool) → where_true b x ≡ Some t → (b ≡ Some true) × (x ≡ Some t)
sampled (Some true) x t is = (refl, is)
sampled _ x t is = absurd (let e = is in cc)

pub status_fits : (signals : List Signal) (a : Reaction) (x : ℕ) (signal : Signal) → are_statuses signals a ≡ true → slice_get signals x ≡ Some signal → is_status_of signal.kind (status_at a x) ≡ true
status_fits [] a x signal are is = absurd (let e = is in cc)
status_fits (s ∷ signals) [] x signal are is = absurd (false≢true are)
status_fits (s ∷ signals) (status ∷ a) zero signal are is =
    let e : Some s ≡ Some signal = is in
    let one : s ≡ signal = cc in
    subst (λ (z : Signal). is_status_of z.kind status ≡ true) one (and_parts (is_status_of s.kind status) (are_statuses signals a) are).0
status_fits (s ∷ signals) (status ∷ a) (suc x) signal are is = status_fits signals a x signal (and_parts (is_status_of s.kind status) (are_statuses signals a) are).1 is

-- only a boolean may be false
pub plain : (kind : Kind) (t : Bool) (v : ℤ) → is_status_of kind (Some t) ≡ true → (kind ≡ Boolean → t ≡ int_eq v (pos 1)) → t ≡ truth_of_value kind v
plain Boolean t v is free = free refl
plain _ t v is free = truths_are_same t true is

-- ---- functions

bit : (b : Bool) → (truth_value b ≡ pos 0) ⊎ (truth_value b ≡ pos 1)
bit true = inr refl
bit false = inl refl

abbrev IsBit : ℤ → Type 0
IsBit v = (v ≡ pos 0) ⊎ (v ≡ pos 1)

-- where the operands are two
two_bits : (function : Function) (F : ℤ → ℤ → Bool) → ((a b : ℤ) → result_of function (a ∷ b ∷ []) ≡ truth_value (F a b)) → (values : List ℤ) → length values ≡ 2 → IsBit (result_of function values)
two_bits function F is (a ∷ b ∷ []) count = subst IsBit (sym (is a b)) (bit (F a b))
two_bits function F is _ count = absurd (omega (arith, count))

one_bit : (values : List ℤ) → length values ≡ 1 → IsBit (result_of Negation values)
one_bit (a ∷ []) count = bit (not (is_one a))
one_bit _ count = absurd (omega (arith, count))

module _ (signals : List Signal) where
  row_of_two : (operands : List Operand) (s t : Sort) → operands_are signals operands (s ∷ t ∷ []) ≡ true → length operands ≡ 2
  row_of_two operands s t fits = let two = two_operands signals operands s t fits in ap length two.2 ∙ omega arith

  row_of_one : (operands : List Operand) (s : Sort) → operands_are signals operands (s ∷ []) ≡ true → length operands ≡ 1
  row_of_one operands s fits = let one = one_operand signals operands s fits in ap length one.1 ∙ omega arith

  integer_row : (target : Kind) (fits : Bool) → ((is_kind target Integer && fits) || false) ≡ true → (target ≡ Integer) × (fits ≡ true)
  integer_row Integer fits is = (refl, sym (or-false fits) ∙ is)
  integer_row _ fits is = absurd (false≢true is)

  equality_count : (target : Kind) (operands : List Operand) → ((target ≡ Boolean) × ((operands_are signals operands (AnInteger ∷ AnInteger ∷ []) ≡ true) ⊎ (operands_are signals operands (Truth ∷ Truth ∷ []) ≡ true))) → length operands ≡ 2
  equality_count target operands (is, inl row) = row_of_two operands AnInteger AnInteger row
  equality_count target operands (is, inr row) = row_of_two operands Truth Truth row

  abbrev Ints : List Operand → Bool
  Ints operands = operands_are signals operands (AnInteger ∷ AnInteger ∷ [])

  abbrev Trues : List Operand → Bool
  Trues operands = operands_are signals operands (Truth ∷ Truth ∷ [])

  -- as many operands as the function has
  pub operands_counted : (target : Kind) (op : FunOp) (operands : List Operand) → keeps_to_one signals target operands (function_rows op) ≡ true → length operands ≡ operand_count (function_of op)
  operands_counted target Id operands fits = row_of_one operands (sort_of target) (handed_row signals target operands fits)
  operands_counted target Neg operands fits = row_of_one operands AnInteger (integer_row target (operands_are signals operands (AnInteger ∷ [])) fits).1
  operands_counted target Not operands fits = row_of_one operands Truth (boolean_row target (operands_are signals operands (Truth ∷ [])) fits).1
  operands_counted target And operands fits = row_of_two operands Truth Truth (boolean_row target (Trues operands) fits).1
  operands_counted target Or operands fits = row_of_two operands Truth Truth (boolean_row target (Trues operands) fits).1
  operands_counted target Xor operands fits = row_of_two operands Truth Truth (boolean_row target (Trues operands) fits).1
  operands_counted target Eq operands fits = equality_count target operands (equality_rows target (Ints operands) (Trues operands) fits)
  operands_counted target Ne operands fits = equality_count target operands (equality_rows target (Ints operands) (Trues operands) fits)
  operands_counted target Lt operands fits = row_of_two operands AnInteger AnInteger (boolean_row target (Ints operands) fits).1
  operands_counted target Le operands fits = row_of_two operands AnInteger AnInteger (boolean_row target (Ints operands) fits).1
  operands_counted target Gt operands fits = row_of_two operands AnInteger AnInteger (boolean_row target (Ints operands) fits).1
  operands_counted target Ge operands fits = row_of_two operands AnInteger AnInteger (boolean_row target (Ints operands) fits).1
  operands_counted target _ operands fits = row_of_two operands AnInteger AnInteger (integer_row target (Ints operands) fits).1

  -- the result for a boolean is a truth, or that of an operand that is handed on
  pub boolean_result : (op : FunOp) (operands : List Operand) (values : List ℤ) → keeps_to_one signals Boolean operands (function_rows op) ≡ true → length values ≡ length operands
      → (op ≡ Id) ⊎ IsBit (result_of (function_of op) values)
  boolean_result Id operands values fits count = inl refl
  boolean_result Not operands values fits count = inr (one_bit values (count ∙ operands_counted Boolean Not operands fits))
  boolean_result And operands values fits count = inr (two_bits Conjunction (λ a b. is_one a && is_one b) (λ a b. refl) values (count ∙ operands_counted Boolean And operands fits))
  boolean_result Or operands values fits count = inr (two_bits Disjunction (λ a b. is_one a || is_one b) (λ a b. refl) values (count ∙ operands_counted Boolean Or operands fits))
  boolean_result Xor operands values fits count = inr (two_bits Exclusive (λ a b. not (int_eq a b)) (λ a b. refl) values (count ∙ operands_counted Boolean Xor operands fits))
  boolean_result Eq operands values fits count = inr (two_bits Equal int_eq (λ a b. refl) values (count ∙ operands_counted Boolean Eq operands fits))
  boolean_result Ne operands values fits count = inr (two_bits NotEqual (λ a b. not (int_eq a b)) (λ a b. refl) values (count ∙ operands_counted Boolean Ne operands fits))
  boolean_result Lt operands values fits count = inr (two_bits Less int_lt (λ a b. refl) values (count ∙ operands_counted Boolean Lt operands fits))
  boolean_result Le operands values fits count = inr (two_bits LessEqual int_le (λ a b. refl) values (count ∙ operands_counted Boolean Le operands fits))
  boolean_result Gt operands values fits count = inr (two_bits Greater (λ a b. int_lt b a) (λ a b. refl) values (count ∙ operands_counted Boolean Gt operands fits))
  boolean_result Ge operands values fits count = inr (two_bits GreaterEqual (λ a b. int_le b a) (λ a b. refl) values (count ∙ operands_counted Boolean Ge operands fits))
  boolean_result _ operands values fits count = absurd (false≢true fits)

  -- an event is handed on
  pub event_result : (op : FunOp) (operands : List Operand) → keeps_to_one signals Event operands (function_rows op) ≡ true → op ≡ Id
  event_result Id operands fits = refl
  event_result _ operands fits = absurd (false≢true fits)

  -- where a function of truths does not compare integers, it has a truth
  of_one_truth : (op : FunOp) (F : Bool → Bool) → ((x : Bool) → truth_function op (x ∷ []) ≡ Some (F x)) → (truths : List Bool) → length truths ≡ 1 → (t : Bool) × (truth_function op truths ≡ Some t)
  of_one_truth op F is (x ∷ []) count = (F x, is x)
  of_one_truth op F is _ count = absurd (omega (arith, count))

  of_two_truths : (op : FunOp) (F : Bool → Bool → Bool) → ((x y : Bool) → truth_function op (x ∷ y ∷ []) ≡ Some (F x y)) → (truths : List Bool) → length truths ≡ 2 → (t : Bool) × (truth_function op truths ≡ Some t)
  of_two_truths op F is (x ∷ y ∷ []) count = (F x y, is x y)
  of_two_truths op F is _ count = absurd (omega (arith, count))

  pub truth_told : (op : FunOp) (operands : List Operand) (truths : List Bool) → keeps_to_one signals Boolean operands (function_rows op) ≡ true → compares signals op operands ≡ false → length truths ≡ length operands
      → (t : Bool) × (truth_function op truths ≡ Some t)
  truth_told Id operands truths fits differs count = of_one_truth Id (λ x. x) (λ x. refl) truths (count ∙ operands_counted Boolean Id operands fits)
  truth_told Not operands truths fits differs count = of_one_truth Not not (λ x. refl) truths (count ∙ operands_counted Boolean Not operands fits)
  truth_told And operands truths fits differs count = of_two_truths And ◌&&◌ (λ x y. refl) truths (count ∙ operands_counted Boolean And operands fits)
  truth_told Or operands truths fits differs count = of_two_truths Or ◌||◌ (λ x y. refl) truths (count ∙ operands_counted Boolean Or operands fits)
  truth_told Xor operands truths fits differs count = of_two_truths Xor (λ x y. not (same_truth x y)) (λ x y. refl) truths (count ∙ operands_counted Boolean Xor operands fits)
  truth_told Eq operands truths fits differs count = of_two_truths Eq same_truth (λ x y. refl) truths (count ∙ operands_counted Boolean Eq operands fits)
  truth_told Ne operands truths fits differs count = of_two_truths Ne (λ x y. not (same_truth x y)) (λ x y. refl) truths (count ∙ operands_counted Boolean Ne operands fits)
  truth_told Lt operands truths fits differs count = absurd (false≢true (sym differs))
  truth_told Le operands truths fits differs count = absurd (false≢true (sym differs))
  truth_told Gt operands truths fits differs count = absurd (false≢true (sym differs))
  truth_told Ge operands truths fits differs count = absurd (false≢true (sym differs))
  truth_told _ operands truths fits differs count = absurd (false≢true fits)

-- ---- values that are handed on

pub handed_value : (target kind : Kind) (v : ℤ) → kind_is (sort_of target) kind ≡ true → IsValue Unbounded kind v → IsValue Unbounded target v
handed_value Integer kind v fits is = tt
handed_value Boolean kind v fits is = kind_bit Unbounded kind v fits is
handed_value Event Event v fits is = is
handed_value Event _ v fits is = absurd (false≢true fits)
