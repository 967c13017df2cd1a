-- Which operations precede which, and the compiled order.
use Rattle.std.specs.Prelude.{◌≡◌, ◌<◌, ◌⊎◌}
use Rattle.sig_plan.specs.Prelude.{ℕ, Bool, true, List, length, take, slice_index, slice_get, Some, Contains, EqId, SigId, IsLeast, Depends}
use Rattle.sig_plan.specs.Operations.{Operation}
use Rattle.sig_plan.specs.declared.op.OpKind.TheVariants.{DelayRead, Store}

-- the operation writes the signal
abbrev pub Writes : Operation → SigId → Type 0
Writes p x = p.writes ≡ Some x

-- some proposal makes both guards true
abbrev pub DoneTogether : Operation → Operation → Type 0
DoneTogether p q = (proposal : List Bool) × (p.guard proposal ≡ true) × (q.guard proposal ≡ true)

-- q reads what p writes, and both are done for some proposal
pub record Feeds (p q : Operation) : Type 0 where
  pub signal : SigId
  pub writes : Writes p signal
  pub reads : Contains q.reads signal
  pub together : DoneTogether p q

-- a guard needs a condition of the condition order: the truth of the condition makes a difference
pub record Needs (conditions : List SigId) (q : Operation) (condition : SigId) : Type 0 where
  pub variable : ℕ
  pub is : slice_get conditions variable ≡ Some condition
  pub depends : Depends q.guard variable

-- q's guard needs the condition that p writes
pub record Decides (conditions : List SigId) (p q : Operation) : Type 0 where
  pub condition : SigId
  pub writes : Writes p condition
  pub needs : Needs conditions q condition

-- q is the store and p the read of one delay
pub record Keeps (p q : Operation) : Type 0 where
  pub delay : EqId
  pub read : p.kind ≡ DelayRead
  pub of : p.equation ≡ Some delay
  pub store : q.kind ≡ Store delay

-- p comes before q for one of three reasons
abbrev pub ComesBefore : List SigId → Operation → Operation → Type 0
ComesBefore conditions p q = Feeds p q ⊎ (Decides conditions p q ⊎ Keeps p q)

-- of a list of operations, that of number i precedes that of number j
pub record Precedes (conditions : List SigId) (operations : List Operation) (i j : ℕ) : Type 0 where
  pub p : Operation
  pub q : Operation
  pub is : slice_get operations i ≡ Some p
  pub other : slice_get operations j ≡ Some q
  pub before : ComesBefore conditions p q

-- the transitive closure of a relation
pub data Reaches (R : ℕ → ℕ → Type 0) : ℕ → ℕ → Type 0 where
  directly : (i j : ℕ) → R i j → Reaches R i j
  onward : (i j k : ℕ) → R i j → Reaches R j k → Reaches R i k

-- of so many numbers one can be taken next: it is not taken yet, and all that precede it are
pub record IsReady (R : ℕ → ℕ → Type 0) (count : ℕ) (taken : List ℕ) (i : ℕ) : Type 0 where
  pub within : i < count
  pub left : Contains taken i → ⊥
  pub free : (p : ℕ) → R p i → Contains taken p

-- The numbers below a count are taken in order: at each place the least that is not taken yet and all of whose
-- predecessors are taken.
pub record IsOrdered (R : ℕ → ℕ → Type 0) (count : ℕ) (order : List ℕ) : Type 0 where
  pub all : length order ≡ count
  pub each : (k : ℕ) → k < count → IsLeast (IsReady R count (take k order)) (slice_index order k)

-- an operation that writes the signal precedes itself, directly or through others
pub record IsOnCycle (conditions : List SigId) (operations : List Operation) (signal : ℕ) : Type 0 where
  pub number : ℕ
  pub p : Operation
  pub writes : SigId
  pub is : slice_get operations number ≡ Some p
  pub target : Writes p writes
  pub named : writes.0 ≡ signal
  pub cycle : Reaches (Precedes conditions operations) number number

-- there is a cycle, and x is the least signal that an operation of one writes
abbrev pub IsCycle : List SigId → List Operation → ℕ → Type 0
IsCycle conditions operations x = IsLeast (IsOnCycle conditions operations) x

-- no operation precedes itself, directly or through others
abbrev pub HasNoCycle : List SigId → List Operation → Type 0
HasNoCycle conditions operations = (i : ℕ) → Reaches (Precedes conditions operations) i i → ⊥

-- the compiled order of operations
abbrev pub IsCompiledOrder : List SigId → List Operation → List ℕ → Type 0
IsCompiledOrder conditions operations order = IsOrdered (Precedes conditions operations) (length operations) order
