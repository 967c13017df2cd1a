-- The image of a plan: its operations in compiled order, and the nodes of their guards by their first visit.
use Rattle.sig_file.specs.Prelude.{ℕ, suc, pos, Bool, true, false, List, [], map, take, slice_get, Option, None, Some, Integer, SigId, Span, Diagram, diagram}
use Rattle.std.specs.Prelude.{◌+◌, if◌then◌else◌, ◌∷◌, count_by, filter_map, unwrap_or}
use Rattle.sig_dd.specs.Diagram.{Constant, Choice}
use Rattle.sig_base.specs.declared.ids.EqId.{EqId}
use Rattle.sig_base.specs.declared.signal.Signal.{Signal}
use Rattle.sig_kernel.specs.Table.{kind_at}
use Rattle.sig_kernel.specs.declared.equation.Equation.{Equation}
use Rattle.sig_kernel.specs.declared.equation.Form.{Form}
use Rattle.sig_kernel.specs.declared.equation.Form.TheVariants.{Fun, Delay, When, WhenConst, Default, Event as EventOf}
use Rattle.sig_kernel.specs.declared.kernel.Kernel.{Kernel}
use Rattle.sig_plan.specs.Plans.{PlanView}
use Rattle.sig_plan.specs.declared.op.Op.{Op}
use Rattle.sig_plan.specs.declared.op.OpKind.{OpKind}
use Rattle.sig_plan.specs.declared.op.OpKind.TheVariants.{Read, Compute, Left, Right, DelayRead, Store}
use Rattle.sig_file.specs.Images.{ImageView, is_node}
use Rattle.sig_file.specs.declared.images.ImageMemory.{ImageMemory}
use Rattle.sig_file.specs.declared.images.ImageNode.{ImageNode}
use Rattle.sig_file.specs.declared.images.ImageOp.{ImageOp}
use Rattle.sig_file.specs.declared.images.ImageOpKind.{ImageOpKind}
use Rattle.sig_file.specs.declared.images.ImageOpKind.TheVariants as does
use Rattle.sig_file.specs.declared.images.ImageSignal.{ImageSignal}

-- ---- signals and memories

abbrev pub image_signal : Signal → ImageSignal
image_signal signal = record { kind = signal.kind; name = signal.name }

-- the memory of a delay has the kind of the signal that the delay defines
abbrev pub memory_of : List Signal → Form → Option ImageMemory
memory_of signals (Delay y x initial) = Some (record { kind = unwrap_or (kind_at signals y) Integer; init = initial })
memory_of signals other = None

-- those of the delays, in the order of the equations
abbrev pub memories_of : Kernel → List ImageMemory
memories_of kernel = filter_map (λ equation. memory_of kernel.signals equation.form) kernel.equations

abbrev pub is_delay : Form → Bool
is_delay (Delay y x initial) = true
is_delay other = false

-- the number of a delay's memory: how many delays stand before it
abbrev pub memory_number : List Equation → ℕ → ℕ
memory_number equations n = count_by (λ equation. is_delay equation.form) (take n equations)

-- ---- operations

-- what an operation of this kind of an equation does, whose memory, if it has one, has this number
abbrev pub does_of : ℕ → OpKind → Form → Option ImageOpKind
does_of m Compute (Fun y op operands) = Some (does.Fun y op operands)
does_of m Compute (When y x b) = Some (does.Copy y x)
does_of m Compute (WhenConst y constant b) = Some (does.Const y constant)
does_of m Compute (EventOf y x) = Some (does.Const y (pos 1))
does_of m Left (Default y u v) = Some (does.Copy y u)
does_of m Right (Default y u v) = Some (does.Copy y v)
does_of m DelayRead (Delay y x initial) = Some (does.DelayRead y m)
does_of m (Store number) (Delay y x initial) = Some (does.Store m x)
does_of m kind form = None

abbrev pub op_with : ℕ → Span → Option ImageOpKind → Option ImageOp
op_with guard at None = None
op_with guard at (Some kind) = Some (record { kind = kind; guard = guard; at = at })

abbrev pub read_at : ℕ → SigId → Option Signal → Option ImageOp
read_at guard x None = None
read_at guard x (Some signal) = op_with guard signal.at (Some (does.Read x))

abbrev pub equation_at : ℕ → ℕ → OpKind → Option Equation → Option ImageOp
equation_at guard m kind None = None
equation_at guard m kind (Some equation) = op_with guard equation.at (does_of m kind equation.form)

abbrev pub equation_numbered : Kernel → ℕ → OpKind → Option EqId → Option ImageOp
equation_numbered kernel guard kind None = None
equation_numbered kernel guard kind (Some e) = equation_at guard (memory_number kernel.equations e.0) kind (slice_get kernel.equations e.0)

-- an operation of a plan under this guard, at the place of its signal where it reads an input, and else of its equation
abbrev pub image_op : Kernel → ℕ → OpKind → Option EqId → Option ImageOp
image_op kernel guard (Read x) equation = read_at guard x (slice_get kernel.signals x.0)
image_op kernel guard other equation = equation_numbered kernel guard other equation

-- ---- nodes

-- the place of the first node with this variable and these children, and the length where there is none
abbrev pub place_of : ℕ → ℕ → ℕ → List ImageNode → ℕ
place_of variable low high [] = 0
place_of variable low high (node ∷ nodes) = if is_node variable low high node then 0 else suc (place_of variable low high nodes)

-- nodes with one more at their end, unless it is among them
abbrev pub with_node : ℕ → ℕ → ℕ → List ImageNode → List ImageNode
with_node variable low high [] = record { variable = variable; low = low; high = high } ∷ []
with_node variable low high (node ∷ nodes) = if is_node variable low high node then node ∷ nodes else node ∷ with_node variable low high nodes

-- The nodes so far with those of a diagram: the child for false is visited first, then the child for true, then the node. And the
-- number of the diagram: 0 and 1 for the constants, n + 2 for node n.
abbrev pub visited : Diagram → List ImageNode → List ImageNode × ℕ
visited (Constant false) nodes = (nodes, 0)
visited (Constant true) nodes = (nodes, 1)
visited (Choice variable low high) nodes =
    let one = visited low nodes in
    let other = visited high one.0 in
    (with_node variable one.1 other.1 other.0, place_of variable one.1 other.1 other.0 + 2)

-- an operation, where there is one, before others
abbrev pub before : Option ImageOp → List ImageOp → List ImageOp
before None ops = ops
before (Some op) ops = op ∷ ops

-- the nodes so far with those of these operations' guards, and the operations
abbrev pub made_of : PlanView → List Op → List ImageNode → List ImageNode × List ImageOp
made_of plan [] nodes = (nodes, [])
made_of plan (op ∷ ops) nodes =
    let guard = visited (diagram plan.store.nodes op.guard) nodes in
    let others = made_of plan ops guard.0 in
    (others.0, before (image_op plan.kernel guard.1 op.kind op.eq) others.1)

-- the operations of a plan in compiled order
abbrev pub ordered : PlanView → List Op
ordered plan = filter_map (λ number. slice_get plan.ops number.0) plan.order

-- The image of a plan.
abbrev pub image_of : PlanView → ImageView
image_of plan =
    let made = made_of plan (ordered plan) [] in
    record {
      signals = map image_signal plan.kernel.signals;
      inputs = plan.kernel.inputs;
      outputs = plan.kernel.outputs;
      conditions = plan.clocks.conditions;
      memories = memories_of plan.kernel;
      nodes = made.0;
      ops = made.1;
    }
