-- The operations of a kernel: what is done at an instant, each under a guard.
use Rattle.std.specs.Prelude.{◌≡◌, ◌+◌, ◌&&◌, ◌∷◌, ◌++◌}
use Rattle.sig_plan.specs.Prelude.{ℕ, Bool, false, not, List, [], All, map, Option, None, Some, slice_get, filter_map, range_with_len, EqId, SigId, Signal, ClocksView, guard_of, signal_id, Holds, test, Node, Ref, Equation, Form, Fun, Delay, When, WhenConst, Default, Sync, Event, Operand, Sig, Const, Kernel}
use Rattle.sig_plan.specs.declared.op.Op.{Op}
use Rattle.sig_plan.specs.declared.op.OpKind.{OpKind}
use Rattle.sig_plan.specs.declared.op.OpKind.TheVariants.{Read, Compute, Left, Right, DelayRead, Store}

-- A guard is a function of proposals, which are one truth for each condition.
abbrev pub Guard : Type 0
Guard = List Bool → Bool

-- an operation
pub record Operation : Type 0 where
  pub kind : OpKind
  -- the proposals for which it is done
  pub guard : Guard
  -- the signal that it writes, and those that it reads
  pub writes : Option SigId
  pub reads : List SigId
  pub equation : Option EqId
  -- the cluster that does it
  pub cluster : ℕ

-- the clock function of each signal
abbrev pub Presence : Type 0
Presence = SigId → Guard

-- where one is true and another one is not
abbrev pub without : Guard → Guard → Guard
without v u proposal = v proposal && not (u proposal)

-- the cluster of a signal
abbrev pub cluster_of : Option Signal → ℕ
cluster_of None = 0
cluster_of (Some signal) = signal.cluster

abbrev pub cluster_at : List Signal → SigId → ℕ
cluster_at signals x = cluster_of (slice_get signals x.0)

abbrev pub signal_in : Operand → Option SigId
signal_in (Sig x) = Some x
signal_in (Const constant) = None

-- the signals among operands
abbrev pub signals_of : List Operand → List SigId
signals_of operands = filter_map signal_in operands

-- the operation of an input
abbrev pub read_of : List Signal → Presence → SigId → Operation
read_of signals presence x = record {
  kind = Read x;
  guard = presence x;
  writes = Some x;
  reads = [];
  equation = None;
  cluster = cluster_at signals x;
}

-- an operation of an equation that writes the signal y
abbrev pub writing : List Signal → EqId → OpKind → Guard → SigId → List SigId → Operation
writing signals number kind guard y reads = record {
  kind = kind;
  guard = guard;
  writes = Some y;
  reads = reads;
  equation = Some number;
  cluster = cluster_at signals y;
}

-- the operations of a default: the left one where u is present, and the right one where v is and u is not
abbrev pub default_of : List Signal → Presence → EqId → SigId → SigId → SigId → List Operation
default_of signals presence number y u v =
    writing signals number Left (presence u) y (u ∷ []) ∷ writing signals number Right (without (presence v) (presence u)) y (v ∷ []) ∷ []

-- the operations that write what an equation of this form defines
abbrev pub writes_of : List Signal → Presence → EqId → Form → List Operation
writes_of signals presence number (Fun y op operands) = writing signals number Compute (presence y) y (signals_of operands) ∷ []
writes_of signals presence number (When y x b) = writing signals number Compute (presence y) y (x ∷ []) ∷ []
writes_of signals presence number (WhenConst y constant b) = writing signals number Compute (presence y) y [] ∷ []
writes_of signals presence number (Event y x) = writing signals number Compute (presence y) y [] ∷ []
writes_of signals presence number (Default y u v) = default_of signals presence number y u v
writes_of signals presence number (Delay y x initial) = writing signals number DelayRead (presence y) y [] ∷ []
writes_of signals presence number (Sync x y) = []

-- the operation that stores into the memory of a delay, which belongs to the cluster of the signal that the delay defines
abbrev pub store_of : List Signal → Presence → EqId → SigId → SigId → Operation
store_of signals presence number y x = record {
  kind = Store number;
  guard = presence x;
  writes = None;
  reads = x ∷ [];
  equation = Some number;
  cluster = cluster_at signals y;
}

abbrev pub stores_of : List Signal → Presence → EqId → Form → List Operation
stores_of signals presence number (Delay y x initial) = store_of signals presence number y x ∷ []
stores_of signals presence number _ = []

abbrev pub equation_id : ℕ → EqId
equation_id number = record { 0 = number }

-- what is made of each equation and its number, in order; the first has the number n
abbrev pub of_each : (EqId → Form → List Operation) → ℕ → List Equation → List Operation
of_each make n [] = []
of_each make n (equation ∷ equations) = make (equation_id n) equation.form ++ of_each make (n + 1) equations

-- The operations of a kernel whose signals have these clock functions: those of the inputs, then those of the equations
-- but the stores, then the stores. The place of an operation is its number.
abbrev pub operations_of : Kernel → Presence → List Operation
operations_of kernel presence =
    map (λ number. read_of kernel.signals presence (signal_id number)) (range_with_len 0 kernel.inputs)
    ++ of_each (writes_of kernel.signals presence) 0 kernel.equations
    ++ of_each (stores_of kernel.signals presence) 0 kernel.equations

-- the function of a guard, where there is one
abbrev pub function_in : List Node → Option Ref → Guard
function_in nodes None proposal = false
function_in nodes (Some guard) proposal = test nodes guard proposal

-- the clock functions that the guards of a kernel's clocks are
abbrev pub presence_in : List Node → ClocksView → Presence
presence_in nodes clocks x = function_in nodes (guard_of clocks x.0)

-- what an operation is whose guard is held by a store
abbrev pub operation_in : List Node → Op → Operation
operation_in nodes op = record {
  kind = op.kind;
  guard = test nodes op.guard;
  writes = op.writes;
  reads = op.reads;
  equation = op.eq;
  cluster = op.actor;
}

abbrev pub operations_in : List Node → List Op → List Operation
operations_in nodes ops = map (operation_in nodes) ops

-- These are the operations of a kernel with these clocks, and their guards are held by the store.
pub record AreOperations (kernel : Kernel) (nodes : List Node) (clocks : ClocksView) (ops : List Op) : Type 0 where
  pub held : All (λ op. Holds nodes op.guard) ops
  pub are : operations_in nodes ops ≡ operations_of kernel (presence_in nodes clocks)
