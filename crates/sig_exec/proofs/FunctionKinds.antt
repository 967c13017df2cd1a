-- The values of functions are of the kinds of the signals that they define.
use Rattle.sig_exec.proofs.Common.{◌≡◌, inl, inr, suc, ℤ, Bool, true, false, List, [], ◌∷◌, length, Option, None, Some, refl, sym, ap, subst, ◌∙◌, IsTrue, ◌&&◌, ◌||◌, Gives, Tells, Bounded, Instant, IsValue, has_64_bits, Kind, Boolean, Event, Integer, fits_by_test, HaveValues, function_of, constant_is, value_is, FunOp, Id, Not, And, Or, Xor, Eq, Ne, Lt, Le, Gt, Ge, Operand, Const, Sig, value_of, are_operands, kind_at, operand_is, sort_of, ImageSignal}
use Rattle.sig_file.specs.Images.{operand_count}
use Rattle.sig_exec.proofs.KeptKinds.{Kinded, register_kind, taken}

not_so : {B : Type 0} → false ≡ true → B
not_so {B} e = absurd (let f : false ≡ true = e in cc)

last_false : (a : Bool) → (a || false) ≡ true → a ≡ true
last_false true given = refl
last_false false given = not_so given

first_true : (a : Bool) → (a && true) ≡ true → a ≡ true
first_true true given = refl
first_true false given = not_so given

told : (v : ℤ) (Statement : Type 0) → Tells v Statement → IsValue Bounded Boolean v
told v Statement (inl holds) = inr holds.1
told v Statement (inr fails) = inl fails.1

-- as many values as operands
as_many : (registers : Instant) (operands : List Operand) (values : List ℤ) → HaveValues registers operands values → length values ≡ length operands
as_many registers [] [] have = refl
as_many registers [] (v ∷ values) have = absurd have
as_many registers (Sig x ∷ operands) [] have = absurd have
as_many registers (Const c ∷ operands) [] have = absurd have
as_many registers (Sig x ∷ operands) (v ∷ values) have = ap suc (as_many registers operands values have.1)
as_many registers (Const c ∷ operands) (v ∷ values) have = ap suc (as_many registers operands values have.1)

one : {A : Type 0} (values : List A) → length values ≡ 1 → (a : A) × (values ≡ a ∷ [])
one [] count = absurd (let e : 0 ≡ 1 = count in cc)
one (a ∷ []) count = (a, refl)
one {A} (a ∷ b ∷ values) count = absurd (let e : suc (suc (length values)) ≡ 1 = count in cc)

two : {A : Type 0} (values : List A) → length values ≡ 2 → (a b : A) × (values ≡ a ∷ b ∷ [])
two [] count = absurd (let e : 0 ≡ 2 = count in cc)
two {A} (a ∷ []) count = absurd (let e : 1 ≡ 2 = count in cc)
two (a ∷ b ∷ []) count = (a, b, refl)
two {A} (a ∷ b ∷ c ∷ values) count = absurd (let e : suc (suc (suc (length values))) ≡ 2 = count in cc)

module _ (signals : List ImageSignal) (registers : Instant) (are : Kinded signals registers) where
  -- the value of an operand
  constant_value : (kind : Kind) (c : ℤ) → constant_is (sort_of kind) c ≡ true → value_is kind c ≡ true
  constant_value Integer c is = is
  constant_value other c is = is

  operand_value : (kind : Kind) (operand : Operand) (v : ℤ) → operand_is signals operand (sort_of kind) ≡ true → HaveValues registers (operand ∷ []) (v ∷ []) → IsValue Bounded kind v
  operand_value kind (Sig x) v fits have = let (from, is, all) = taken kind (kind_at signals x.0) fits in all v (register_kind signals registers x.0 from v are is have.0)
  operand_value kind (Const c) v fits have = subst (λ (w : ℤ). IsValue Bounded kind w) have.0 (value_of kind c (constant_value kind c fits))

  -- what is handed on
  handed : (kind : Kind) (operands : List Operand) (values : List ℤ) (v : ℤ) → length operands ≡ 1 → ((operand : Operand) → operands ≡ operand ∷ [] → operand_is signals operand (sort_of kind) ≡ true)
      → HaveValues registers operands values → Gives Bounded (function_of Id) values v → IsValue Bounded kind v
  handed kind operands values v count fits have gives =
      let (operand, is) = one operands count in
      let (a, are_values) = one values (as_many registers operands values have ∙ count) in
      let here : HaveValues registers (operand ∷ []) (a ∷ []) = subst (λ (l : List ℤ). HaveValues registers (operand ∷ []) l) are_values (subst (λ (l : List Operand). HaveValues registers l values) is have) in
      let same : v ≡ a = subst (λ (l : List ℤ). Gives Bounded (function_of Id) l v) are_values gives in
      subst (λ (w : ℤ). IsValue Bounded kind w) (sym same) (operand_value kind operand a (fits operand is) here)

  -- a truth of one value, and of two
  from_one : (op : FunOp) (operands : List Operand) (values : List ℤ) (v : ℤ) → length operands ≡ 1 → HaveValues registers operands values
      → ((a : ℤ) → Gives Bounded (function_of op) (a ∷ []) v → IsValue Bounded Boolean v) → Gives Bounded (function_of op) values v → IsValue Bounded Boolean v
  from_one op operands values v count have tells gives =
      let (a, are_values) = one values (as_many registers operands values have ∙ count) in
      tells a (subst (λ (l : List ℤ). Gives Bounded (function_of op) l v) are_values gives)

  from_two : (op : FunOp) (operands : List Operand) (values : List ℤ) (v : ℤ) → length operands ≡ 2 → HaveValues registers operands values
      → ((a b : ℤ) → Gives Bounded (function_of op) (a ∷ b ∷ []) v → IsValue Bounded Boolean v) → Gives Bounded (function_of op) values v → IsValue Bounded Boolean v
  from_two op operands values v count have tells gives =
      let (a, b, are_values) = two values (as_many registers operands values have ∙ count) in
      tells a b (subst (λ (l : List ℤ). Gives Bounded (function_of op) l v) are_values gives)

  handed_truth : (operands : List Operand) (operand : Operand) → IsTrue (are_operands signals Id (Some Boolean) operands) → operands ≡ operand ∷ [] → operand_is signals operand (sort_of Boolean) ≡ true
  handed_truth operands operand fits is =
      first_true (operand_is signals operand (sort_of Boolean)) (last_false _ (subst (λ (l : List Operand). IsTrue (are_operands signals Id (Some Boolean) l)) is fits))

  handed_event : (operands : List Operand) (operand : Operand) → IsTrue (are_operands signals Id (Some Event) operands) → operands ≡ operand ∷ [] → operand_is signals operand (sort_of Event) ≡ true
  handed_event operands operand fits is =
      first_true (operand_is signals operand (sort_of Event)) (last_false _ (subst (λ (l : List Operand). IsTrue (are_operands signals Id (Some Event) l)) is fits))

  truth_kind : (op : FunOp) (operands : List Operand) (values : List ℤ) (v : ℤ) → IsTrue (are_operands signals op (Some Boolean) operands) → length operands ≡ operand_count op
      → HaveValues registers operands values → Gives Bounded (function_of op) values v → IsValue Bounded Boolean v
  truth_kind Id operands values v fits count have gives = handed Boolean operands values v count (λ operand is. handed_truth operands operand fits is) have gives
  truth_kind Not operands values v fits count have gives = from_one Not operands values v count have (λ a tells. told v _ tells) gives
  truth_kind And operands values v fits count have gives = from_two And operands values v count have (λ a b tells. told v _ tells) gives
  truth_kind Or operands values v fits count have gives = from_two Or operands values v count have (λ a b tells. told v _ tells) gives
  truth_kind Xor operands values v fits count have gives = from_two Xor operands values v count have (λ a b tells. told v _ tells) gives
  truth_kind Eq operands values v fits count have gives = from_two Eq operands values v count have (λ a b tells. told v _ tells) gives
  truth_kind Ne operands values v fits count have gives = from_two Ne operands values v count have (λ a b tells. told v _ tells) gives
  truth_kind Lt operands values v fits count have gives = from_two Lt operands values v count have (λ a b tells. told v _ tells) gives
  truth_kind Le operands values v fits count have gives = from_two Le operands values v count have (λ a b tells. told v _ tells) gives
  truth_kind Gt operands values v fits count have gives = from_two Gt operands values v count have (λ a b tells. told v _ tells) gives
  truth_kind Ge operands values v fits count have gives = from_two Ge operands values v count have (λ a b tells. told v _ tells) gives
  truth_kind other operands values v fits count have gives = not_so fits

  event_kind : (op : FunOp) (operands : List Operand) (values : List ℤ) (v : ℤ) → IsTrue (are_operands signals op (Some Event) operands) → length operands ≡ operand_count op
      → HaveValues registers operands values → Gives Bounded (function_of op) values v → IsValue Bounded Event v
  event_kind Id operands values v fits count have gives = handed Event operands values v count (λ operand is. handed_event operands operand fits is) have gives
  event_kind other operands values v fits count have gives = not_so fits

  -- the value of a function
  pub function_kind : (op : FunOp) (target : Option Kind) (operands : List Operand) (values : List ℤ) (v : ℤ) → IsTrue (are_operands signals op target operands) → length operands ≡ operand_count op
      → HaveValues registers operands values → Gives Bounded (function_of op) values v → has_64_bits v ≡ true → (kind : Kind) × (target ≡ Some kind) × IsValue Bounded kind v
  function_kind op None operands values v fits count have gives small = not_so fits
  function_kind op (Some Integer) operands values v fits count have gives small = (Integer, refl, (fits_by_test v).0 small)
  function_kind op (Some Boolean) operands values v fits count have gives small = (Boolean, refl, truth_kind op operands values v fits count have gives)
  function_kind op (Some Event) operands values v fits count have gives small = (Event, refl, event_kind op operands values v fits count have gives)
