-- The operations of the image of an accepted program have places whose lines and columns have 32 bits.
use Rattle.sig_image_command.proofs.Common.{◌≤◌, ◌+◌, ◌<◌, ◌^◌, ◌∷◌, ℕ, zero, suc, false, List, [], Option, None, Some, length, slice_get, sym, subst, arith, AllByRecursion, IfSome, All-from_recursion, EqId, SigId, PROGRAM_BYTES, Signal, Span, Equation, Kernel, PlanView, Op, OpKind, Read, IsKernelText, AtPlacesOfKernel, IsWithin, ImageView, before, does_of, equation_at, equation_numbered, image_of, image_op, made_of, memory_number, op_with, ordered, read_at, visited, HasPlace, HavePlaces, ImageNode, ImageOp, ImageOpKind, IsAcceptedAs, diagram, IsKernelImage, all_so}
use Rattle.sig_file.specs.declared.images.ImageOpKind.TheVariants as does

-- a place whose line and column have 32 bits
record IsPlace (at : Span) : Type 0 where
  line : at.line < 2 ^ 32
  col : at.col < 2 ^ 32

-- what is found in a list of which it holds
found : {A : Type 0} (P : A → Type 0) (xs : List A) (n : ℕ) → AllByRecursion P xs → IfSome (slice_get xs n) P
found P [] n all = tt
found P (x ∷ xs) zero all = all.0
found P (x ∷ xs) (suc n) all = found P xs n all.1

-- an operation has the place of its signal or of its equation
op_placed : (guard : ℕ) (at : Span) (kind : Option ImageOpKind) → IsPlace at → IfSome (op_with guard at kind) HasPlace
op_placed guard at None place = tt
op_placed guard at (Some kind) place = record { line = place.line; col = place.col }

read_placed : (guard : ℕ) (x : SigId) (signal : Option Signal) → IfSome signal (λ (s : Signal). IsPlace s.at) → IfSome (read_at guard x signal) HasPlace
read_placed guard x None place = tt
read_placed guard x (Some signal) place = op_placed guard signal.at (Some (does.Read x)) place

equation_placed : (guard m : ℕ) (kind : OpKind) (equation : Option Equation) → IfSome equation (λ (q : Equation). IsPlace q.at) → IfSome (equation_at guard m kind equation) HasPlace
equation_placed guard m kind None place = tt
equation_placed guard m kind (Some equation) place = op_placed guard equation.at (does_of m kind equation.form) place

module _ (kernel : Kernel) (places : AtPlacesOfKernel IsPlace kernel) where
  numbered_placed : (guard : ℕ) (kind : OpKind) (e : Option EqId) → IfSome (equation_numbered kernel guard kind e) HasPlace
  numbered_placed guard kind None = tt
  numbered_placed guard kind (Some e) = equation_placed guard (memory_number kernel.equations e.0) kind (slice_get kernel.equations e.0)
      (found (λ (q : Equation). IsPlace q.at) kernel.equations e.0 places.equations)

  image_op_placed : (guard : ℕ) (kind : OpKind) (e : Option EqId) → IfSome (image_op kernel guard kind e) HasPlace
  image_op_placed guard (Read x) e = read_placed guard x (slice_get kernel.signals x.0) (found (λ (s : Signal). IsPlace s.at) kernel.signals x.0 places.signals)
  image_op_placed guard other e = numbered_placed guard other e

-- all operations of an image
before_placed : (op : Option ImageOp) (ops : List ImageOp) → IfSome op HasPlace → AllByRecursion HasPlace ops → AllByRecursion HasPlace (before op ops)
before_placed None ops place all = all
before_placed (Some op) ops place all = (place, all)

made_placed : (plan : PlanView) → AtPlacesOfKernel IsPlace plan.kernel → (ops : List Op) (nodes : List ImageNode) → AllByRecursion HasPlace (made_of plan ops nodes).1
made_placed plan places [] nodes = tt
made_placed plan places (op ∷ ops) nodes =
    let guard = visited (diagram plan.store.nodes op.guard) nodes in
    before_placed (image_op plan.kernel guard.1 op.kind op.eq) (made_of plan ops guard.0).1 (image_op_placed plan.kernel places guard.1 op.kind op.eq) (made_placed plan places ops guard.0)

image_placed : (plan : PlanView) → AtPlacesOfKernel IsPlace plan.kernel → HavePlaces (image_of plan).ops
image_placed plan places = All-from_recursion HasPlace (image_of plan).ops (made_placed plan places (ordered plan) [])

-- a place in a text within the limit
in_text : (size : ℕ) → size ≤ PROGRAM_BYTES → (at : Span) → IsWithin size at → IsPlace at
in_text size short at within =
    let few : size ≤ 1048576 = short in
    let line : at.line ≤ size + 1 = within.line in
    let col : at.col ≤ size + 1 = within.col in
    record { line = omega (arith, few, line); col = omega (arith, few, col) }

kernel_placed : (size : ℕ) (kernel : Kernel) → size ≤ PROGRAM_BYTES → AtPlacesOfKernel (IsWithin size) kernel → AtPlacesOfKernel IsPlace kernel
kernel_placed size kernel short within = record {
  signals = all_so (λ (s : Signal). IsWithin size s.at) (λ (s : Signal). IsPlace s.at) (λ s is. in_text size short s.at is) kernel.signals within.signals;
  equations = all_so (λ (q : Equation). IsWithin size q.at) (λ (q : Equation). IsPlace q.at) (λ q is. in_text size short q.at is) kernel.equations within.equations;
}

-- the image of an accepted program
pub places_of_kernel : ((text : List ℕ) (kernel : Kernel) → IsKernelText text kernel → AtPlacesOfKernel (IsWithin (length text)) kernel)
    → (bytes : List ℕ) (kernel : Kernel) (image : ImageView) → length bytes ≤ PROGRAM_BYTES → IsAcceptedAs false bytes kernel → IsKernelImage kernel image → HavePlaces image.ops
places_of_kernel places bytes kernel image short accepted of =
    let own = accepted.has.has.text in
    let text : IsKernelText bytes kernel = subst (IsKernelText bytes) (sym accepted.has.becomes) own in
    let placed : AtPlacesOfKernel IsPlace of.plan.kernel = subst (AtPlacesOfKernel IsPlace) (sym of.of.same) (kernel_placed (length bytes) kernel short (places bytes kernel text)) in
    subst (λ (i : ImageView). HavePlaces i.ops) (sym of.is) (image_placed of.plan placed)
