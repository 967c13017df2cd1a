-- The statements of an operation do what the operation does.
use Rattle.std.proofs.Common.{◌≡◌, ◌≢◌, inl, inr, ◌<◌, ◌-◌, ◌&&◌, ◌||◌, ℕ, suc, ℤ, pos, Bool, true, false, List, [], ◌∷◌, Option, Some, None, refl, sym, ap, subst, ◌∙◌, arith, length, IsTrue, get_or, if◌then◌else◌, slice_get, slice_index_or, slice_set}
use Rattle.std.specs.List.{list_any}
use Rattle.std.proofs.lemmas.Bool.{cases_lt}
use Rattle.std.proofs.lemmas.Int.{ints}
use Rattle.std.proofs.lemmas.List.{get_or_past}
use Rattle.std.proofs.lemmas.Option.{slice_get_within, get_or_from_slice_get}
use Rattle.sig_base.specs.Functions.{Gives}
use Rattle.sig_base.specs.Traces.{Bounded, IsValue, has_64_bits, seen_at}
use Rattle.sig_base.specs.declared.ids.Kind.{Kind}
use Rattle.sig_base.specs.declared.ids.Kind.TheVariants.{Integer, Boolean, Event}
use Rattle.sig_base.specs.declared.ids.SigId.{SigId}
use Rattle.sig_kernel.specs.KernelTraces.{HaveValues, function_of}
use Rattle.sig_kernel.specs.Table.{function_rows, row}
use Rattle.sig_kernel.specs.declared.equation.FunOp.{FunOp}
use Rattle.sig_kernel.specs.declared.equation.FunOp.TheVariants as fun
use Rattle.sig_kernel.specs.declared.equation.Operand.{Operand}
use Rattle.sig_kernel.specs.declared.equation.Operand.TheVariants.{Sig, Const}
use Rattle.sig_kernel.specs.declared.table.Sort.{Sort}
use Rattle.sig_kernel.specs.declared.table.Sort.TheVariants as sort
use Rattle.sig_file.specs.ImageRuns.{State, Does, written}
use Rattle.sig_file.specs.Images.{ImageView, IsImage, IsFunction, MayDo, are_operands, begins_row, kind_at, memory_at, memory_in, operand_is, scope_of}
use Rattle.sig_file.specs.declared.images.ImageMemory.{ImageMemory}
use Rattle.sig_file.specs.declared.images.ImageOpKind.{ImageOpKind}
use Rattle.sig_file.specs.declared.images.ImageOpKind.TheVariants as does
use Rattle.sig_exec.proofs.FunctionKinds.{function_kind}
use Rattle.sig_exec.proofs.Places.{signal_of}
use Rattle.sig_exec.proofs.KeptKinds.{AreValues, accepted, alike, flow_kind, given, kind_there, memory_kind, no, none_is, register_kind}
use Rattle.sig_c.specs.SmallC.{Place, Variable, Field, Expression, Number, Get, Not, Binary, Equal, NotEqual, Less, LessEqual, Greater, GreaterEqual, And, Or, Helper, Add, Subtract, Multiply, Quotient, Remainder, Statement, Set, When, Check, Ask, Return, Statements, none, more, Width, Truth, Wide, Prototype}
use Rattle.sig_c.specs.Meaning.{Memory, Outcome, GoesOn, Returned, Undefined, Functions, and_then, asked, answered, chosen, denied, fitted, helped, may_ask, takes_address, is_width, int_same, is_wide, may_hold, received, run, run_check, run_one, set, truth, value, with_result, with_value}
use Rattle.sig_c.specs.Helpers.{body_of, called}
use Rattle.sig_c.specs.Answers.{Answers, MayBeGiven, result_of}
use Rattle.sig_c.proofs.HelperAnswers.{helper_answers}
use Rattle.sig_c_step.specs.Translation.{asking, comes, compared, computing, doing, helper_for, is_called_by, joined, marking, next, one, operand, taken, width_of_kind}
use Rattle.sig_c_step.proofs.FunctionValues.{HasBits, HasValue, HaveBits, IsTruth, and_is, at_least_is, at_most_is, equal_is, greater_than_is, less_than_is, not_equal_is, not_is, one_value, or_is, row_bits, same_is, truth_operand, two_values, value_bits}
use Rattle.sig_c_step.proofs.StateKinds.{AreKinded, as_many, bits_of, held}
use Rattle.sig_c_step.proofs.Likeness.{IsLike, like_read, like_stored, like_written, marked, output_told, value_in}

-- the types of variables and fields are those of the image
pub record AreWidths (image : ImageView) (widths : Place → Width) : Type 0 where
  pub signal : (x : ℕ) (kind : Kind) → kind_at image.signals x ≡ Some kind → widths (Variable x) ≡ width_of_kind kind
  pub comes_too : (y : ℕ) → y < image.outputs → widths (Variable (comes image y)) ≡ Truth
  pub next_too : (n : ℕ) (kind : Kind) → memory_at image.memories n ≡ Some kind → widths (Variable (next image n)) ≡ width_of_kind kind
  pub field : (n : ℕ) (kind : Kind) → memory_at image.memories n ≡ Some kind → widths (Field n) ≡ width_of_kind kind

-- the function of an input or an output of a kind takes what one of that kind does
pub record HasPrototype (prototypes : List Prototype) (n : ℕ) (kind : Kind) : Type 0 where
  pub prototype : Prototype
  pub at : slice_get prototypes n ≡ Some prototype
  pub takes : prototype.takes ≡ taken kind

-- the functions that an operation calls are there
pub record MayCall (image : ImageView) (call : Functions) (kind : ImageOpKind) : Type 0 where
  pub helpers : (helper : Helper) → is_called_by helper kind ≡ true → (v w : ℤ) → call.helper helper v w ≡ called (body_of helper) v w
  pub reads : (x : SigId) (of : Kind) → kind ≡ does.Read x → kind_at image.signals x.0 ≡ Some of → HasPrototype call.inputs x.0 of

-- the function of an input is called as its prototype has it
abbrev pub address_of : ℕ → Kind → Option ℕ
address_of x Integer = Some x
address_of x Boolean = Some x
address_of x Event = None

module _ (image : ImageView) (widths : Place → Width) (are : AreWidths image widths) where
  takes_so : (x : ℕ) (kind : Kind) → kind_at image.signals x ≡ Some kind → takes_address widths (taken kind) (address_of x kind) ≡ true
  takes_so x Integer is = ap (is_width Wide) (are.signal x Integer is)
  takes_so x Boolean is = ap (is_width Truth) (are.signal x Boolean is)
  takes_so x Event is = refl

  pub asks_so : (prototypes : List Prototype) (x : ℕ) (kind : Kind) → kind_at image.signals x ≡ Some kind → HasPrototype prototypes x kind → may_ask widths (slice_get prototypes x) (address_of x kind) ≡ true
  asks_so prototypes x kind is has =
      ap (λ (p : Option Prototype). may_ask widths p (address_of x kind)) has.at ∙ ap (λ (t : Option Width). takes_address widths t (address_of x kind)) has.takes ∙ takes_so x kind is

pub run_then : (call : Functions) (widths : Place → Width) (a b : Statements) (m : Memory) → run call widths (joined a b) m ≡ and_then (run call widths a m) (run call widths b)
run_then call widths none b m = refl
run_then call widths (more statement rest) b m = by (run_one call widths statement m) (λ n. run_then call widths rest b n) where
  by : (o : Outcome) → ((n : Memory) → run call widths (joined rest b) n ≡ and_then (run call widths rest n) (run call widths b))
      → and_then o (run call widths (joined rest b)) ≡ and_then (and_then o (run call widths rest)) (run call widths b)
  by (GoesOn n) others = others n
  by (Returned k n) others = refl
  by Undefined others = refl

-- ---- the kinds of functions of numbers

integer_row : (image : ImageView) (operands : List Operand) (sorts : List Sort) (o : Option Kind) (kind : Kind) → o ≡ Some kind
    → list_any (begins_row image.signals kind operands) (row sorts Integer ∷ []) ≡ true → o ≡ Some Integer
integer_row image operands sorts o Integer is fits = is
integer_row image operands sorts o Boolean is fits = no fits
integer_row image operands sorts o Event is fits = no fits

-- the operands of a function have 64 bits where they are constants
pub operand_bits : (image : ImageView) (op : FunOp) (operands : List Operand) (o : Option Kind) → IsTrue (are_operands image.signals op o operands) → HaveBits operands
operand_bits image op operands None fits = no fits
operand_bits image op operands (Some kind) fits = row_bits image.signals kind operands (function_rows op) fits

-- where a function has a helper, what it defines is an integer
pub integer_target : (image : ImageView) (op : FunOp) (helper : Helper) (operands : List Operand) (o : Option Kind) → helper_for op ≡ Some helper → IsTrue (are_operands image.signals op o operands) → o ≡ Some Integer
integer_target image op helper operands None has fits = no fits
integer_target image fun.Neg helper operands (Some kind) has fits = integer_row image operands (sort.Integer ∷ []) (Some kind) kind refl fits
integer_target image fun.Add helper operands (Some kind) has fits = integer_row image operands (sort.Integer ∷ sort.Integer ∷ []) (Some kind) kind refl fits
integer_target image fun.Sub helper operands (Some kind) has fits = integer_row image operands (sort.Integer ∷ sort.Integer ∷ []) (Some kind) kind refl fits
integer_target image fun.Mul helper operands (Some kind) has fits = integer_row image operands (sort.Integer ∷ sort.Integer ∷ []) (Some kind) kind refl fits
integer_target image fun.Div helper operands (Some kind) has fits = integer_row image operands (sort.Integer ∷ sort.Integer ∷ []) (Some kind) kind refl fits
integer_target image fun.Mod helper operands (Some kind) has fits = integer_row image operands (sort.Integer ∷ sort.Integer ∷ []) (Some kind) kind refl fits
integer_target image op helper operands (Some kind) has fits = none_is helper has

some_within : {A : Type 0} (xs : List (Option A)) (x : ℕ) (v : A) → get_or xs x None ≡ Some v → x < length xs
some_within xs x v is = elim (cases_lt x (length xs)) [
  | inl lt ↦ lt
  | inr past ↦ absurd (let e : None ≡ Some v = sym (get_or_past xs x None past) ∙ is in cc e)
]

-- an input has given its next value
abbrev after_reading : Memory → ℕ → List ℤ → Memory
after_reading m x rest = record m { flows = slice_set m.flows x rest }

module _ (image : ImageView) (widths : Place → Width) (are : AreWidths image widths) (call : Functions) (before : Memory) where
  -- ---- statements

  -- a place of a kind is set to a value of the kind
  pub sets_at : (m : Memory) (x : Place) (kind : Kind) (e : Expression) (v : ℤ) → widths x ≡ width_of_kind kind → IsValue Bounded kind v → value widths e m ≡ Some v
      → run_one call widths (Set x e) m ≡ GoesOn (with_value x v m)
  sets_at m x kind e v is of has =
      ap (λ (o : Option ℤ). with_result o (set widths x m)) has
      ∙ ap (λ (w : Width). if may_hold w v then GoesOn (with_value x v m) else Undefined) is
      ∙ ap (λ (b : Bool). if b then GoesOn (with_value x v m) else Undefined) (held kind v of)

  sets : (m : Memory) (y : ℕ) (kind : Kind) (e : Expression) (v : ℤ) → kind_at image.signals y ≡ Some kind → IsValue Bounded kind v → value widths e m ≡ Some v
      → run_one call widths (Set (Variable y) e) m ≡ GoesOn (with_value (Variable y) v m)
  sets m y kind e v is of has = sets_at m (Variable y) kind e v (are.signal y kind is) of has

  -- an output comes
  marks : (m : Memory) (y : ℕ) → run call widths (marking image y) m ≡ GoesOn (marked image y m)
  marks m y = elim (output_told image y) [
    | inl e ↦ let from = e.1 in let below = e.2 in
        subst (λ (b : Bool). run call widths (if b then one (Set (Variable (comes image (y - image.inputs))) (Number (pos 1))) else none) m
        ≡ GoesOn (if b then with_value (Variable (comes image (y - image.inputs))) (pos 1) m else m)) (sym e.0)
        (ap (λ (w : Width). and_then (if may_hold w (pos 1) then GoesOn (with_value (Variable (comes image (y - image.inputs))) (pos 1) m) else Undefined) (run call widths none))
        (are.comes_too (y - image.inputs) (omega (arith, from, below))))
    | inr e ↦ subst (λ (b : Bool). run call widths (if b then one (Set (Variable (comes image (y - image.inputs))) (Number (pos 1))) else none) m
        ≡ GoesOn (if b then with_value (Variable (comes image (y - image.inputs))) (pos 1) m else m)) (sym e.0) refl
  ]

  then_marks : (statements : Statements) (m after : Memory) (y : ℕ) → run call widths statements m ≡ GoesOn after → run call widths (joined statements (marking image y)) m ≡ GoesOn (marked image y after)
  then_marks statements m after y goes = run_then call widths statements (marking image y) m ∙ ap (λ (o : Outcome). and_then o (run call widths (marking image y))) goes ∙ marks after y

  just : (statement : Statement) (m after : Memory) → run_one call widths statement m ≡ GoesOn after → run call widths (one statement) m ≡ GoesOn after
  just statement m after goes = ap (λ (o : Outcome). and_then o (run call widths none)) goes

  -- the statements lead to a memory that is like the next state
  pub record Follows (statements : Statements) (t : State) (m : Memory) : Type 0 where
    pub after : Memory
    pub goes : run call widths statements m ≡ GoesOn after
    pub like : IsLike image before t after

  module _ (s : State) (m : Memory) (like : IsLike image before s m) (kinded : AreKinded image s) where
    there : (x : ℕ) (v : ℤ) → seen_at s.registers x ≡ Some v → m.values (Variable x) ≡ Some v
    there x v is =
        let w = some_within s.registers x v is in
        let c = as_many image s kinded in
        like.signals x (omega (arith, w, c)) ∙ ap (λ (o : Option ℤ). Some (value_in o)) is

    fits_bits : (v : ℤ) → has_64_bits v ≡ true → fitted v ≡ Some v
    fits_bits v is = ap (λ (b : Bool). if b then Some v else None) is

    pub operand_there : (a : Operand) (v : ℤ) → HasBits a → HasValue s.registers a v → value widths (operand a) m ≡ Some v
    operand_there (Sig x) v bits has = there x.0 v has
    operand_there (Const c) v bits has = fits_bits c bits ∙ ap Some has

    -- the signal is written by statements
    writes : (statements : Statements) (y : SigId) (kind : Kind) (v : ℤ) (t : State) → kind_at image.signals y.0 ≡ Some kind
        → run call widths statements m ≡ GoesOn (with_value (Variable y.0) v m) → y.0 < length image.signals → t ≡ written y v s → Follows (joined statements (marking image y.0)) t m
    writes statements y kind v t is goes within leads = record {
      after = marked image y.0 (with_value (Variable y.0) v m);
      goes = then_marks statements m (with_value (Variable y.0) v m) y.0 goes;
      like = subst (λ (u : State). IsLike image before u (marked image y.0 (with_value (Variable y.0) v m))) (sym leads) (like_written image before s m like y v within (as_many image s kinded));
    }

    -- ---- helpers

    -- the call of a helper writes its result where it has 64 bits, and else returns
    checks : (helper : Helper) (a b : Expression) (v w : ℤ) (y code : ℕ) → ((i j : ℤ) → call.helper helper i j ≡ called (body_of helper) i j) → kind_at image.signals y ≡ Some Integer
        → value widths a m ≡ Some v → value widths b m ≡ Some w → has_64_bits v ≡ true → has_64_bits w ≡ true → MayBeGiven helper w
        → run call widths (one (Check helper a b y code)) m ≡ (if has_64_bits (result_of helper v w) then GoesOn (with_value (Variable y) (result_of helper v w) m) else Returned code m)
    checks helper a b v w y code is_called wide first second small_v small_w may =
        ap (λ (o : Outcome). and_then o (run call widths none))
        (ap (λ (o : Option ℤ). run_check call.helper widths helper y code m o (value widths b m)) first
        ∙ ap (λ (o : Option ℤ). run_check call.helper widths helper y code m (Some v) o) second
        ∙ ap (λ (t : Width). if is_wide t then helped widths y code m (call.helper helper v w) else Undefined) (are.signal y Integer wide)
        ∙ ap (helped widths y code m) (is_called v w))
        ∙ by (helper_answers helper v w small_v small_w may)
      where
        by : Answers (called (body_of helper) v w) (result_of helper v w)
            → and_then (helped widths y code m (called (body_of helper) v w)) (run call widths none)
            ≡ (if has_64_bits (result_of helper v w) then GoesOn (with_value (Variable y) (result_of helper v w) m) else Returned code m)
        by (inl (small, it)) =
            ap (λ (o : Outcome). and_then (helped widths y code m o) (run call widths none)) it.returns
            ∙ ap (λ (o : Option ℤ). and_then (received widths y m o (answered code 0)) (run call widths none)) it.writes
            ∙ ap (λ (t : Width). and_then (and_then (if may_hold t (result_of helper v w) then GoesOn (with_value (Variable y) (result_of helper v w) m) else Undefined) (answered code 0)) (run call widths none)) (are.signal y Integer wide)
            ∙ ap (λ (q : Bool). and_then (and_then (if q then GoesOn (with_value (Variable y) (result_of helper v w) m) else Undefined) (answered code 0)) (run call widths none)) small
            ∙ ap (λ (q : Bool). if q then GoesOn (with_value (Variable y) (result_of helper v w) m) else Returned code m) (sym small)
        by (inr (large, it)) =
            ap (λ (o : Outcome). and_then (helped widths y code m o) (run call widths none)) it.returns
            ∙ ap (λ (o : Option ℤ). and_then (received widths y m o (answered code 1)) (run call widths none)) it.leaves
            ∙ ap (λ (q : Bool). if q then GoesOn (with_value (Variable y) (result_of helper v w) m) else Returned code m) (sym large)

    pub checked : (helper : Helper) (a b : Expression) (v w r : ℤ) (y code : ℕ) (small : Bool) → ((i j : ℤ) → call.helper helper i j ≡ called (body_of helper) i j) → kind_at image.signals y ≡ Some Integer
        → value widths a m ≡ Some v → value widths b m ≡ Some w → has_64_bits v ≡ true → has_64_bits w ≡ true → MayBeGiven helper w → r ≡ result_of helper v w → has_64_bits r ≡ small
        → run call widths (one (Check helper a b y code)) m ≡ (if small then GoesOn (with_value (Variable y) r m) else Returned code m)
    checked helper a b v w r y code small is_called wide first second small_v small_w may same is =
        checks helper a b v w y code is_called wide first second small_v small_w may
        ∙ ap (λ (z : ℤ). if has_64_bits z then GoesOn (with_value (Variable y) z m) else Returned code m) (sym same)
        ∙ ap (λ (q : Bool). if q then GoesOn (with_value (Variable y) r m) else Returned code m) is

    -- ---- functions

    -- the values of two operands
    pub two_given : (op : FunOp) (a b : Operand) (values : List ℤ) (v : ℤ) → HaveValues s.registers (a ∷ b ∷ []) values → Gives Bounded (function_of op) values v
        → (x w : ℤ) × HasValue s.registers a x × HasValue s.registers b w × Gives Bounded (function_of op) (x ∷ w ∷ []) v
    two_given op a b values v have gives =
        let (x, w, are_values, has_a, has_b) = two_values s.registers a b values have in
        (x, w, has_a, has_b, subst (λ (l : List ℤ). Gives Bounded (function_of op) l v) are_values gives)

    pub one_given : (op : FunOp) (a : Operand) (values : List ℤ) (v : ℤ) → HaveValues s.registers (a ∷ []) values → Gives Bounded (function_of op) values v
        → (x : ℤ) × HasValue s.registers a x × Gives Bounded (function_of op) (x ∷ []) v
    one_given op a values v have gives =
        let (x, are_values, has) = one_value s.registers a values have in
        (x, has, subst (λ (l : List ℤ). Gives Bounded (function_of op) l v) are_values gives)

    pub bits : (a : Operand) (v : ℤ) → HasBits a → HasValue s.registers a v → has_64_bits v ≡ true
    bits a v fits has = value_bits image.signals s.registers a v kinded.registers fits has

    -- the test of a divisor
    pub divisor_is : (b : Operand) (w : ℤ) (code : ℕ) (z : Bool) → value widths (operand b) m ≡ Some w → int_same w (pos 0) ≡ z
        → run_one call widths (When (Binary Equal (operand b) (Number (pos 0))) (one (Return code))) m ≡ (if z then Returned code m else GoesOn m)
    divisor_is b w code z has is = rw has (rw is (by z)) where
      by : (q : Bool) → chosen Undefined (Some (truth q)) (Returned code m) (GoesOn m) ≡ (if q then Returned code m else GoesOn m)
      by true = refl
      by false = refl

    apart_is : (w : ℤ) → w ≢ pos 0 → int_same w (pos 0) ≡ false
    apart_is w apart = by (int_same w (pos 0)) refl where
      by : (b : Bool) → int_same w (pos 0) ≡ b → int_same w (pos 0) ≡ false
      by true e = absurd (apart (same_is w (pos 0) e))
      by false e = e

    pub zero_is : (w : ℤ) → w ≡ pos 0 → int_same w (pos 0) ≡ true
    zero_is w zero_too = ap (λ (z : ℤ). int_same z (pos 0)) zero_too

    -- after the test of a divisor that is not 0
    pub divides : (b : Operand) (w : ℤ) (code : ℕ) (rest : Statements) → value widths (operand b) m ≡ Some w → w ≢ pos 0
        → run call widths (more (When (Binary Equal (operand b) (Number (pos 0))) (one (Return code))) rest) m ≡ run call widths rest m
    divides b w code rest has apart = ap (λ (o : Outcome). and_then o (run call widths rest)) (divisor_is b w code false has (apart_is w apart))

    connective_row : (kind : Kind) (a b : Operand) → list_any (begins_row image.signals kind (a ∷ b ∷ [])) (row (sort.Truth ∷ sort.Truth ∷ []) Boolean ∷ []) ≡ true
        → (operand_is image.signals a sort.Truth ≡ true) × (operand_is image.signals b sort.Truth ≡ true)
    connective_row Boolean a b fits = by (operand_is image.signals a sort.Truth) (operand_is image.signals b sort.Truth) fits where
      by : (p q : Bool) → (p && (q && true)) || false ≡ true → (p ≡ true) × (q ≡ true)
      by true true given = (refl, refl)
      by true false given = no given
      by false q given = no given
    connective_row kind a b fits = no fits

    truths : (op : FunOp) (o : Option Kind) (a b : Operand) (x w : ℤ) → function_rows op ≡ row (sort.Truth ∷ sort.Truth ∷ []) Boolean ∷ [] → IsTrue (are_operands image.signals op o (a ∷ b ∷ []))
        → HasValue s.registers a x → HasValue s.registers b w → IsTruth x × IsTruth w
    truths op None a b x w rows fits has_a has_b = no fits
    truths op (Some kind) a b x w rows fits has_a has_b =
        let (one_is, two_is) = connective_row kind a b (subst (λ r. list_any (begins_row image.signals kind (a ∷ b ∷ [])) r ≡ true) rows fits) in
        (truth_operand image.signals s.registers a x kinded.registers one_is has_a, truth_operand image.signals s.registers b w kinded.registers two_is has_b)

    truth_row : (o : Option Kind) (a : Operand) (x : ℤ) → IsTrue (are_operands image.signals fun.Not o (a ∷ [])) → HasValue s.registers a x → IsTruth x
    truth_row (Some Boolean) a x fits has = truth_operand image.signals s.registers a x kinded.registers (by (operand_is image.signals a sort.Truth) fits) has where
      by : (p : Bool) → (p && true) || false ≡ true → p ≡ true
      by true given = refl
      by false given = no given
    truth_row o a x fits has = no fits

    module _ (y : SigId) (code : ℕ) (v : ℤ) (values : List ℤ) where
      module _ (kind : Kind) (is : kind_at image.signals y.0 ≡ Some kind) (of : IsValue Bounded kind v) (small : has_64_bits v ≡ true) where
        puts : (e : Expression) → value widths e m ≡ Some v → run call widths (one (Set (Variable y.0) e)) m ≡ GoesOn (with_value (Variable y.0) v m)
        puts e has = just (Set (Variable y.0) e) m (with_value (Variable y.0) v m) (sets m y.0 kind e v is of has)

        does_function : (op : FunOp) (operands : List Operand) → IsFunction image.signals y.0 op operands → MayCall image call (does.Fun y op operands) → HaveValues s.registers operands values
            → Gives Bounded (function_of op) values v → run call widths (computing y.0 code op operands) m ≡ GoesOn (with_value (Variable y.0) v m)
        does_function fun.Id (a ∷ []) fit calls have gives =
            let has_bits = operand_bits image fun.Id (a ∷ []) (kind_at image.signals y.0) fit.fit in
            let (x, has, same) = one_given fun.Id a values v have gives in
            puts (operand a) (operand_there a x has_bits.0 has ∙ ap Some (sym same))
        does_function fun.Not (a ∷ []) fit calls have gives =
            let has_bits = operand_bits image fun.Not (a ∷ []) (kind_at image.signals y.0) fit.fit in
            let (x, has, tells) = one_given fun.Not a values v have gives in
            puts (Not (operand a)) (ap denied (operand_there a x has_bits.0 has) ∙ not_is x v (truth_row (kind_at image.signals y.0) a x fit.fit has) tells)
        does_function fun.And (a ∷ b ∷ []) fit calls have gives =
            let has_bits = operand_bits image fun.And (a ∷ b ∷ []) (kind_at image.signals y.0) fit.fit in
            let (x, w, has_a, has_b, tells) = two_given fun.And a b values v have gives in
            let (one_is, two_is) = truths fun.And (kind_at image.signals y.0) a b x w refl fit.fit has_a has_b in
            puts (Binary And (operand a) (operand b)) (rw (operand_there a x has_bits.0 has_a) (rw (operand_there b w has_bits.1.0 has_b) (and_is Truth x w v one_is two_is tells)))
        does_function fun.Or (a ∷ b ∷ []) fit calls have gives =
            let has_bits = operand_bits image fun.Or (a ∷ b ∷ []) (kind_at image.signals y.0) fit.fit in
            let (x, w, has_a, has_b, tells) = two_given fun.Or a b values v have gives in
            let (one_is, two_is) = truths fun.Or (kind_at image.signals y.0) a b x w refl fit.fit has_a has_b in
            puts (Binary Or (operand a) (operand b)) (rw (operand_there a x has_bits.0 has_a) (rw (operand_there b w has_bits.1.0 has_b) (or_is Truth x w v one_is two_is tells)))
        does_function fun.Xor (a ∷ b ∷ []) fit calls have gives =
            let has_bits = operand_bits image fun.Xor (a ∷ b ∷ []) (kind_at image.signals y.0) fit.fit in
            let (x, w, has_a, has_b, tells) = two_given fun.Xor a b values v have gives in
            puts (compared NotEqual false a b) (not_equal_is widths m s.registers a b x w v has_a has_b (operand_there a x has_bits.0 has_a) (operand_there b w has_bits.1.0 has_b) tells)
        does_function fun.Eq (a ∷ b ∷ []) fit calls have gives =
            let has_bits = operand_bits image fun.Eq (a ∷ b ∷ []) (kind_at image.signals y.0) fit.fit in
            let (x, w, has_a, has_b, tells) = two_given fun.Eq a b values v have gives in
            puts (compared Equal true a b) (equal_is widths m s.registers a b x w v has_a has_b (operand_there a x has_bits.0 has_a) (operand_there b w has_bits.1.0 has_b) tells)
        does_function fun.Ne (a ∷ b ∷ []) fit calls have gives =
            let has_bits = operand_bits image fun.Ne (a ∷ b ∷ []) (kind_at image.signals y.0) fit.fit in
            let (x, w, has_a, has_b, tells) = two_given fun.Ne a b values v have gives in
            puts (compared NotEqual false a b) (not_equal_is widths m s.registers a b x w v has_a has_b (operand_there a x has_bits.0 has_a) (operand_there b w has_bits.1.0 has_b) tells)
        does_function fun.Lt (a ∷ b ∷ []) fit calls have gives =
            let has_bits = operand_bits image fun.Lt (a ∷ b ∷ []) (kind_at image.signals y.0) fit.fit in
            let (x, w, has_a, has_b, tells) = two_given fun.Lt a b values v have gives in
            puts (compared Less false a b) (less_than_is widths m s.registers a b x w v has_a has_b (operand_there a x has_bits.0 has_a) (operand_there b w has_bits.1.0 has_b) tells)
        does_function fun.Le (a ∷ b ∷ []) fit calls have gives =
            let has_bits = operand_bits image fun.Le (a ∷ b ∷ []) (kind_at image.signals y.0) fit.fit in
            let (x, w, has_a, has_b, tells) = two_given fun.Le a b values v have gives in
            puts (compared LessEqual true a b) (at_most_is widths m s.registers a b x w v has_a has_b (operand_there a x has_bits.0 has_a) (operand_there b w has_bits.1.0 has_b) tells)
        does_function fun.Gt (a ∷ b ∷ []) fit calls have gives =
            let has_bits = operand_bits image fun.Gt (a ∷ b ∷ []) (kind_at image.signals y.0) fit.fit in
            let (x, w, has_a, has_b, tells) = two_given fun.Gt a b values v have gives in
            puts (compared Greater false a b) (greater_than_is widths m s.registers a b x w v has_a has_b (operand_there a x has_bits.0 has_a) (operand_there b w has_bits.1.0 has_b) tells)
        does_function fun.Ge (a ∷ b ∷ []) fit calls have gives =
            let has_bits = operand_bits image fun.Ge (a ∷ b ∷ []) (kind_at image.signals y.0) fit.fit in
            let (x, w, has_a, has_b, tells) = two_given fun.Ge a b values v have gives in
            puts (compared GreaterEqual true a b) (at_least_is widths m s.registers a b x w v has_a has_b (operand_there a x has_bits.0 has_a) (operand_there b w has_bits.1.0 has_b) tells)
        does_function fun.Neg (a ∷ []) fit calls have gives =
            let has_bits = operand_bits image fun.Neg (a ∷ []) (kind_at image.signals y.0) fit.fit in
            let (x, has, same) = one_given fun.Neg a values v have gives in
            checked Subtract (Number (pos 0)) (operand a) (pos 0) x v y.0 code true (calls.helpers Subtract refl) (integer_target image fun.Neg Subtract (a ∷ []) (kind_at image.signals y.0) refl fit.fit)
            refl (operand_there a x has_bits.0 has) refl (bits a x has_bits.0 has) tt (omega (arith, ints, same)) small
        does_function fun.Add (a ∷ b ∷ []) fit calls have gives =
            let has_bits = operand_bits image fun.Add (a ∷ b ∷ []) (kind_at image.signals y.0) fit.fit in
            let (x, w, has_a, has_b, same) = two_given fun.Add a b values v have gives in
            checked Add (operand a) (operand b) x w v y.0 code true (calls.helpers Add refl) (integer_target image fun.Add Add (a ∷ b ∷ []) (kind_at image.signals y.0) refl fit.fit)
            (operand_there a x has_bits.0 has_a) (operand_there b w has_bits.1.0 has_b) (bits a x has_bits.0 has_a) (bits b w has_bits.1.0 has_b) tt same small
        does_function fun.Sub (a ∷ b ∷ []) fit calls have gives =
            let has_bits = operand_bits image fun.Sub (a ∷ b ∷ []) (kind_at image.signals y.0) fit.fit in
            let (x, w, has_a, has_b, same) = two_given fun.Sub a b values v have gives in
            checked Subtract (operand a) (operand b) x w v y.0 code true (calls.helpers Subtract refl) (integer_target image fun.Sub Subtract (a ∷ b ∷ []) (kind_at image.signals y.0) refl fit.fit)
            (operand_there a x has_bits.0 has_a) (operand_there b w has_bits.1.0 has_b) (bits a x has_bits.0 has_a) (bits b w has_bits.1.0 has_b) tt same small
        does_function fun.Mul (a ∷ b ∷ []) fit calls have gives =
            let has_bits = operand_bits image fun.Mul (a ∷ b ∷ []) (kind_at image.signals y.0) fit.fit in
            let (x, w, has_a, has_b, same) = two_given fun.Mul a b values v have gives in
            checked Multiply (operand a) (operand b) x w v y.0 code true (calls.helpers Multiply refl) (integer_target image fun.Mul Multiply (a ∷ b ∷ []) (kind_at image.signals y.0) refl fit.fit)
            (operand_there a x has_bits.0 has_a) (operand_there b w has_bits.1.0 has_b) (bits a x has_bits.0 has_a) (bits b w has_bits.1.0 has_b) tt same small
        does_function fun.Div (a ∷ b ∷ []) fit calls have gives =
            let has_bits = operand_bits image fun.Div (a ∷ b ∷ []) (kind_at image.signals y.0) fit.fit in
            let (x, w, has_a, has_b, same) = two_given fun.Div a b values v have gives in
            divides b w code (one (Check Quotient (operand a) (operand b) y.0 (suc code))) (operand_there b w has_bits.1.0 has_b) same.0
            ∙ checked Quotient (operand a) (operand b) x w v y.0 (suc code) true (calls.helpers Quotient refl) (integer_target image fun.Div Quotient (a ∷ b ∷ []) (kind_at image.signals y.0) refl fit.fit)
            (operand_there a x has_bits.0 has_a) (operand_there b w has_bits.1.0 has_b) (bits a x has_bits.0 has_a) (bits b w has_bits.1.0 has_b) same.0 same.1 small
        does_function fun.Mod (a ∷ b ∷ []) fit calls have gives =
            let has_bits = operand_bits image fun.Mod (a ∷ b ∷ []) (kind_at image.signals y.0) fit.fit in
            let (x, w, has_a, has_b, same) = two_given fun.Mod a b values v have gives in
            divides b w code (one (Check Remainder (operand a) (operand b) y.0 code)) (operand_there b w has_bits.1.0 has_b) same.0
            ∙ checked Remainder (operand a) (operand b) x w v y.0 code true (calls.helpers Remainder refl) (integer_target image fun.Mod Remainder (a ∷ b ∷ []) (kind_at image.signals y.0) refl fit.fit)
            (operand_there a x has_bits.0 has_a) (operand_there b w has_bits.1.0 has_b) (bits a x has_bits.0 has_a) (bits b w has_bits.1.0 has_b) same.0 same.1 small
        does_function op operands fit calls have gives = absurd (omega (arith, fit.count))

    -- ---- what an operation does

    within_signals : (x : ℕ) (kind : Kind) → kind_at image.signals x ≡ Some kind → x < length image.signals
    within_signals x kind is = signal_of image.signals x (λ e. none_is kind (sym e ∙ is))

    within_memories : (n : ℕ) (kind : Kind) → memory_at image.memories n ≡ Some kind → n < length image.memories
    within_memories n kind is = by (slice_get image.memories n) refl where
      by : (o : Option ImageMemory) → slice_get image.memories n ≡ o → n < length image.memories
      by None e = none_is kind (sym (ap memory_in e) ∙ is)
      by (Some memory) e = slice_get_within image.memories n memory e

    -- what is left of an input
    pub flow_is : (x : ℕ) (flow : List ℤ) → slice_get s.flows x ≡ Some flow → slice_index_or m.flows x [] ≡ flow
    flow_is x flow is = ap (λ (l : List (List ℤ)). slice_index_or l x []) like.flows ∙ get_or_from_slice_get s.flows x flow [] is

    -- then it gives what is left
    pub asked_so : (x code : ℕ) (kind : Kind) (flow : List ℤ) → kind_at image.signals x ≡ Some kind → HasPrototype call.inputs x kind → slice_get s.flows x ≡ Some flow
        → run_one call widths (Ask x (address_of x kind) code) m ≡ asked widths x (address_of x kind) code m flow
    asked_so x code kind flow is has there_is =
        ap (λ (b : Bool). if b then asked widths x (address_of x kind) code m (slice_index_or m.flows x []) else Undefined) (asks_so image widths are call.inputs x kind is has)
        ∙ ap (asked widths x (address_of x kind) code m) (flow_is x flow there_is)

    -- the input takes its next value
    asks : (x code : ℕ) (kind : Kind) (v : ℤ) (rest : List ℤ) → kind_at image.signals x ≡ Some kind → IsValue Bounded kind v → slice_get s.flows x ≡ Some (v ∷ rest) → HasPrototype call.inputs x kind
        → run call widths (asking x code (kind_at image.signals x)) m ≡ GoesOn (with_value (Variable x) v (after_reading m x rest))
    asks x code kind v rest is of there_is has = subst (λ (o : Option Kind). run call widths (asking x code o) m ≡ GoesOn (with_value (Variable x) v (after_reading m x rest))) (sym is) (by kind is of has) where
      takes : (k : Kind) → address_of x k ≡ Some x → kind_at image.signals x ≡ Some k → IsValue Bounded k v → HasPrototype call.inputs x k → run call widths (one (Ask x (Some x) code)) m ≡ GoesOn (with_value (Variable x) v (after_reading m x rest))
      takes k address is_kind is_value its =
          ap (λ (a : Option ℕ). and_then (run_one call widths (Ask x a code) m) (run call widths none)) (sym address)
          ∙ ap (λ (o : Outcome). and_then o (run call widths none)) (asked_so x code k (v ∷ rest) is_kind its there_is)
          ∙ ap (λ (a : Option ℕ). and_then (asked widths x a code m (v ∷ rest)) (run call widths none)) address
          ∙ ap (λ (w : Width). and_then (if may_hold w v then GoesOn (with_value (Variable x) v (after_reading m x rest)) else Undefined) (run call widths none)) (are.signal x k is_kind)
          ∙ ap (λ (b : Bool). and_then (if b then GoesOn (with_value (Variable x) v (after_reading m x rest)) else Undefined) (run call widths none)) (held k v is_value)

      by : (k : Kind) → kind_at image.signals x ≡ Some k → IsValue Bounded k v → HasPrototype call.inputs x k → run call widths (asking x code (Some k)) m ≡ GoesOn (with_value (Variable x) v (after_reading m x rest))
      by Integer is_kind is_value its = takes Integer refl is_kind is_value its
      by Boolean is_kind is_value its = takes Boolean refl is_kind is_value its
      by Event is_kind is_value its =
          ap (λ (o : Outcome). and_then o (run call widths (one (Set (Variable x) (Number (pos 1)))))) (asked_so x code Event (v ∷ rest) is_kind its there_is)
          ∙ just (Set (Variable x) (Number (pos 1))) (after_reading m x rest) (with_value (Variable x) (pos 1) (after_reading m x rest)) (sets (after_reading m x rest) x Event (Number (pos 1)) (pos 1) is_kind refl refl)
          ∙ ap (λ (w : ℤ). GoesOn (with_value (Variable x) w (after_reading m x rest))) (sym is_value)

    pub does_is : (code : ℕ) (kind : ImageOpKind) (t : State) → IsImage image → MayDo (scope_of image) kind → MayCall image call kind → Does kind s t → Follows (doing image code kind) t m
    does_is code (does.Read x) t right may calls (v, rest, is, e) =
        let interface = right.interface in
        let inside : x.0 < length image.signals = omega (arith, may, interface) in
        let (kind, of_kind) = kind_there image.signals x.0 inside in
        let values : AreValues kind (v ∷ rest) = flow_kind image.signals s.flows x.0 kind (v ∷ rest) kinded.flows of_kind is in
        let left : Memory = after_reading m x.0 rest in
        let behind : State = record s { flows = slice_set s.flows x.0 rest } in
        record {
          after = marked image x.0 (with_value (Variable x.0) v left);
          goes = then_marks (asking x.0 code (kind_at image.signals x.0)) m (with_value (Variable x.0) v left) x.0 (asks x.0 code kind v rest of_kind values.0 is (calls.reads x kind refl of_kind));
          like = subst (λ (u : State). IsLike image before u (marked image x.0 (with_value (Variable x.0) v left))) (sym e)
              (like_written image before behind left (like_read image before s m like x.0 rest) x v inside (as_many image s kinded));
        }
    does_is code (does.Fun y op operands) t right may calls (v, (values, have, gives), small, e) =
        let (kind, is, of) = function_kind image.signals s.registers kinded.registers op (kind_at image.signals y.0) operands values v may.fit may.count have gives small in
        writes (computing y.0 code op operands) y kind v t is (does_function y code v values kind is of small op operands may calls have gives) (within_signals y.0 kind is) e
    does_is code (does.Copy y x) t right may calls (v, is, e) =
        let (to, from, target, source, goes) = accepted (kind_at image.signals y.0) (kind_at image.signals x.0) may in
        let of : IsValue Bounded to v = goes v (register_kind image.signals s.registers x.0 from v kinded.registers source is) in
        writes (one (Set (Variable y.0) (Get (Variable x.0)))) y to v t target (just (Set (Variable y.0) (Get (Variable x.0))) m (with_value (Variable y.0) v m) (sets m y.0 to (Get (Variable x.0)) v target of (there x.0 v is)))
        (within_signals y.0 to target) e
    does_is code (does.Const y v) t right may calls e =
        let (kind, target, of) = given (kind_at image.signals y.0) v may in
        writes (one (Set (Variable y.0) (Number v))) y kind v t target (just (Set (Variable y.0) (Number v)) m (with_value (Variable y.0) v m) (sets m y.0 kind (Number v) v target of (fits_bits v (bits_of kind v of))))
        (within_signals y.0 kind target) e
    does_is code (does.DelayRead y n) t right may calls (v, is, e) =
        let (kind, target, source) = alike (kind_at image.signals y.0) (memory_at image.memories n) may in
        let of : IsValue Bounded kind v = memory_kind image.memories s.memories n kind v kinded.memories source is in
        let has : m.values (Variable (next image n)) ≡ Some v = like.memories n (within_memories n kind source) ∙ ap Some (get_or_from_slice_get s.memories n v (pos 0) is) in
        writes (one (Set (Variable y.0) (Get (Variable (next image n))))) y kind v t target
        (just (Set (Variable y.0) (Get (Variable (next image n)))) m (with_value (Variable y.0) v m) (sets m y.0 kind (Get (Variable (next image n))) v target of has)) (within_signals y.0 kind target) e
    does_is code (does.Store n x) t right may calls (v, is, e) =
        let (to, from, target, source, goes) = accepted (memory_at image.memories n) (kind_at image.signals x.0) may in
        let of : IsValue Bounded to v = goes v (register_kind image.signals s.registers x.0 from v kinded.registers source is) in
        record {
          after = with_value (Variable (next image n)) v m;
          goes = just (Set (Variable (next image n)) (Get (Variable x.0))) m (with_value (Variable (next image n)) v m)
              (sets_at m (Variable (next image n)) to (Get (Variable x.0)) v (are.next_too n to target) of (there x.0 v is));
          like = subst (λ (u : State). IsLike image before u (with_value (Variable (next image n)) v m)) (sym e) (like_stored image before s m like n v (within_memories n to target) kinded.count);
        }
