-- Why the longest trace is not longer: the named cause, and its place.
use Rattle.std.specs.Prelude.{◌≡◌, ◌<◌, ◌≤◌, ◌+◌, ◌*◌, ◌⊎◌, ◌∷◌, ◌++◌}
use Rattle.sig_model.specs.Prelude.{ℕ, ℤ, true, false, List, [], length, slice_get, slice_index_or, Option, None, Some, Instant, Trace, Unbounded, IsLongest, IsPrefixOf, flow_of, is_silent, seen_at, EqId, SigId, Place, HaveValues, IsKernelTrace, IsTraceIn, function_of, Equation, Fun, FunOp, Operand, Kernel, Operation, operations_in, PlanView, numbers_of, Cause, Exhausted, Overflow, ZeroDivisor, Limit, Ended, Read, Compute}
use Rattle.sig_model.specs.Results.{divides_by_zero, has_64_bits}

-- one of two lists begins the other
abbrev pub AgreeSoFar : List ℤ → List ℤ → Type 0
AgreeSoFar a b = IsPrefixOf a b ⊎ IsPrefixOf b a

-- A trace goes on by an instant that is not silent, its integers being all whole numbers, and the flows of its inputs agree
-- with those given as far as these go.
pub record GoesOn (kernel : Kernel) (flows : List (List ℤ)) (trace : Trace) (instant : Instant) : Type 0 where
  pub is : IsTraceIn Unbounded kernel (trace ++ instant ∷ [])
  pub speaks : is_silent instant ≡ false
  pub inputs : (input : ℕ) → input < length flows → AgreeSoFar (flow_of input (trace ++ instant ∷ [])) (slice_index_or flows input [])

-- the instant takes a value of an input past the end of its flow
abbrev pub IsPastEnd : List (List ℤ) → Trace → Instant → SigId → Type 0
IsPastEnd flows trace instant x = length (slice_index_or flows x.0 []) < length (flow_of x.0 (trace ++ instant ∷ []))

-- at the instant an equation gives a result of a function of values
pub record Computes (kernel : Kernel) (instant : Instant) (e : EqId) : Type 0 where
  pub equation : Equation
  pub is : slice_get kernel.equations e.0 ≡ Some equation
  pub target : SigId
  pub function : FunOp
  pub operands : List Operand
  pub form : equation.form ≡ Fun target function operands
  pub values : List ℤ
  pub have : HaveValues instant operands values
  pub result : ℤ
  pub gives : seen_at instant target.0 ≡ Some result

-- An instant that follows a trace has a fault: it takes a value that an input has not, or a result is outside 64 bits, or a
-- divisor is 0.
abbrev pub HasFault : Kernel → List (List ℤ) → Trace → Instant → Cause → Type 0
HasFault kernel flows trace instant (Exhausted x) = IsPastEnd flows trace instant x
HasFault kernel flows trace instant (Overflow e) = (at : Computes kernel instant e) × (has_64_bits at.result ≡ false)
HasFault kernel flows trace instant (ZeroDivisor e) = (at : Computes kernel instant e) × (divides_by_zero (function_of at.function) at.values ≡ true)
HasFault kernel flows trace instant Limit = ⊥

-- the operation that meets a fault: the one that reads the input or computes the equation
abbrev pub Meets : Operation → Cause → Type 0
Meets p (Exhausted x) = p.kind ≡ Read x
Meets p (Overflow e) = (p.kind ≡ Compute) × (p.equation ≡ Some e)
Meets p (ZeroDivisor e) = (p.kind ≡ Compute) × (p.equation ≡ Some e)
Meets p Limit = ⊥

-- the operation at a place of the compiled order meets a fault
pub record MeetsAt (operations : List Operation) (order : List ℕ) (place : ℕ) (cause : Cause) : Type 0 where
  pub number : ℕ
  pub ordered : slice_get order place ≡ Some number
  pub operation : Operation
  pub is : slice_get operations number ≡ Some operation
  pub meets : Meets operation cause

-- A cause: every instant by which the trace goes on has this fault, and the operation at this place of the order meets it.
pub record IsCauseAt (kernel : Kernel) (operations : List Operation) (order : List ℕ) (flows : List (List ℤ)) (trace : Trace) (place : ℕ) (cause : Cause) : Type 0 where
  pub at : MeetsAt operations order place cause
  pub every : (instant : Instant) → GoesOn kernel flows trace instant → HasFault kernel flows trace instant cause

-- the position of the operation at a place of the order, in an instant
abbrev pub place_at : ℕ → ℕ → Place
place_at instant place = record { instant = instant; pos = 2 * place }

-- the first cause in the compiled order, with the place where it is met
pub record IsFirstCause (kernel : Kernel) (operations : List Operation) (order : List ℕ) (flows : List (List ℤ)) (trace : Trace) (cause : Cause) (place : Place) : Type 0 where
  pub first : ℕ
  pub is : IsCauseAt kernel operations order flows trace first cause
  pub least : (other : ℕ) (another : Cause) → IsCauseAt kernel operations order flows trace other another → first ≤ other
  pub met : place ≡ place_at (length trace + 1) first

-- The named cause of a longest trace, with its place: the limit, which has no place, where the trace has as many instants
-- as are allowed, and else the first cause.
abbrev pub IsNamedCause : Kernel → List Operation → List ℕ → List (List ℤ) → ℕ → Trace → Cause → Option Place → Type 0
IsNamedCause kernel operations order flows limit trace cause None = (length trace ≡ limit) × (cause ≡ Limit)
IsNamedCause kernel operations order flows limit trace cause (Some place) =
    (length trace < limit) × IsFirstCause kernel operations order flows trace cause place

-- The end of a run of a plan: the longest trace, the number of its instants, and its named cause with the place of that.
pub record IsEnd (plan : PlanView) (flows : List (List ℤ)) (limit : ℕ) (trace : Trace) (place : Option Place) (ended : Ended) : Type 0 where
  pub longest : IsLongest (IsKernelTrace plan.kernel) flows limit trace
  pub instants : ended.instants ≡ length trace
  pub cause : IsNamedCause plan.kernel (operations_in plan.store.nodes plan.ops) (numbers_of plan.order) flows limit trace ended.cause place
