-- The text of a plan's code: for each actor a line with its number, and then a line for each step with the step's index, its
-- position and what it does.
use Rattle.std.specs.Prelude.{◌≡◌, ◌++◌}
use Rattle.sig_code.specs.Prelude.{ℕ, List, [], codes, slice_get, Option, None, Some, decimal, enumerate_from, flat_map, SigId, Signal, Equation, Form, Delay, Kernel, CodeView, IsAccepted, PlanView, Step, StepKind, Do, Send, Receive, Report, Collect, Commit, Op, OpKind, Read, Compute, Left, Right, DelayRead, Store}

abbrev pub name_of : Option Signal → List ℕ
name_of None = []
name_of (Some signal) = signal.name

abbrev pub name_at : List Signal → Option SigId → List ℕ
name_at signals None = []
name_at signals (Some x) = name_of (slice_get signals x.0)

-- the signal that a delay defines
abbrev pub delayed_by : Form → Option SigId
delayed_by (Delay y x initial) = Some y
delayed_by _ = None

abbrev pub delayed_in : Option Equation → Option SigId
delayed_in None = None
delayed_in (Some equation) = delayed_by equation.form

-- what an operation does, and the name of the signal: of a store, that which its delay defines, and of another operation, that
-- which it writes
abbrev pub act_text : Kernel → OpKind → Option SigId → List ℕ
act_text kernel (Read x) writes = codes "read " ++ name_at kernel.signals writes
act_text kernel Compute writes = codes "compute " ++ name_at kernel.signals writes
act_text kernel Left writes = codes "left " ++ name_at kernel.signals writes
act_text kernel Right writes = codes "right " ++ name_at kernel.signals writes
act_text kernel DelayRead writes = codes "delay " ++ name_at kernel.signals writes
act_text kernel (Store number) writes = codes "store " ++ name_at kernel.signals (delayed_in (slice_get kernel.equations number.0))

abbrev pub op_text : Kernel → Option Op → List ℕ
op_text kernel None = []
op_text kernel (Some op) = act_text kernel op.kind op.writes

abbrev pub what_text : Kernel → List Op → StepKind → List ℕ
what_text kernel ops (Do op) = op_text kernel (slice_get ops op.0)
what_text kernel ops (Send link) = codes "send " ++ decimal link
what_text kernel ops (Receive link) = codes "receive " ++ decimal link
what_text kernel ops (Report link) = codes "report " ++ decimal link
what_text kernel ops (Collect link) = codes "collect " ++ decimal link
what_text kernel ops Commit = codes "commit"

-- the line of a step with its index
abbrev pub step_text : Kernel → List Op → ℕ × Step → List ℕ
step_text kernel ops (index, step) =
    decimal index ++ (codes " " ++ (decimal step.pos ++ (codes " " ++ (what_text kernel ops step.kind ++ codes "\n"))))

-- the lines of an actor's code
abbrev pub actor_text : Kernel → List Op → ℕ × CodeView → List ℕ
actor_text kernel ops (actor, code) =
    codes "actor " ++ (decimal actor ++ (codes "\n" ++ flat_map (step_text kernel ops) (enumerate_from 0 code.steps)))

-- the text of a plan's code
abbrev pub code_text_of : PlanView → List ℕ
code_text_of plan = flat_map (actor_text plan.kernel plan.ops) (enumerate_from 0 plan.codes)

-- the text of the code of a kernel's accepted plan
pub record IsCodeText (kernel : Kernel) (text : List ℕ) : Type 0 where
  pub plan : PlanView
  pub accepted : IsAccepted plan
  pub of : plan.kernel ≡ kernel
  pub says : text ≡ code_text_of plan
