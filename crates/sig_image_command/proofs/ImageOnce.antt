-- The accepted plans of a kernel have one image: their guards have one diagram each, whatever the stores.
use Rattle.sig_image_command.proofs.Common.{◌≡◌, ◌∙◌, ◌∷◌, ℕ, zero, suc, List, [], Option, None, Some, All, map, slice_get, refl, sym, ap, filter_map, cons_option, All-head, All-tail, EqId, Diagram, Holds, IsReduced, diagram, Node, proper, one_diagram, IsValid, Kernel, IsAcceptedKernel, Operation, operation_in, operations_in, IsAccepted, PlanView, Op, OpId, OpKind, same_conditions, same_ids, same_operations, some_plan, ImageView, before, image_of, image_op, image_signal, made_of, memories_of, ordered, visited, ImageNode, ImageOp, IsKernelImage}

-- ---- what an image takes of an operation: its guard's diagram, its kind and its equation

abbrev Taken : Type 0
Taken = Diagram × (OpKind × Option EqId)

abbrev taken : List Node → Op → Taken
taken nodes op = (diagram nodes op.guard, (op.kind, op.eq))

abbrev made_from : Kernel → List Taken → List ImageNode → List ImageNode × List ImageOp
made_from kernel [] nodes = (nodes, [])
made_from kernel (op ∷ ops) nodes =
    let guard = visited op.0 nodes in
    let others = made_from kernel ops guard.0 in
    (others.0, before (image_op kernel guard.1 op.1.0 op.1.1) others.1)

made_is : (plan : PlanView) (ops : List Op) (nodes : List ImageNode) → made_of plan ops nodes ≡ made_from plan.kernel (map (taken plan.store.nodes) ops) nodes
made_is plan [] nodes = refl
made_is plan (op ∷ ops) nodes =
    let guard = visited (diagram plan.store.nodes op.guard) nodes in
    ap (λ (others : List ImageNode × List ImageOp). (others.0, before (image_op plan.kernel guard.1 op.kind op.eq) others.1)) (made_is plan ops guard.0)

-- ---- operations of two stores

module _ (nodes others : List Node) (reduced : IsReduced nodes) (reduced_too : IsReduced others) where
  -- equal operations are taken as one
  taken_once : (x y : Op) → Holds nodes x.guard → Holds others y.guard → operation_in nodes x ≡ operation_in others y → taken nodes x ≡ taken others y
  taken_once x y held held_too same =
      let kind : x.kind ≡ y.kind = ap (λ (o : Operation). o.kind) same in
      let equation : x.eq ≡ y.eq = ap (λ (o : Operation). o.equation) same in
      let guard = one_diagram (diagram nodes x.guard) (diagram others y.guard) (proper nodes reduced x.guard held) (proper others reduced_too y.guard held_too)
      (λ truths. ap (λ (o : Operation). o.guard truths) same) in
      λ j. (guard j, (kind j, equation j))

  -- at one place there are two such operations or none
  abbrev AreOne : Option Op → Option Op → Type 0
  AreOne None None = Unit {0}
  AreOne None (Some y) = ⊥
  AreOne (Some x) None = ⊥
  AreOne (Some x) (Some y) = taken nodes x ≡ taken others y

  one_at : (xs ys : List Op) → All (λ op. Holds nodes op.guard) xs → All (λ op. Holds others op.guard) ys → operations_in nodes xs ≡ operations_in others ys
      → (i : ℕ) → AreOne (slice_get xs i) (slice_get ys i)
  one_at [] [] held held_too same i = tt
  one_at [] (y ∷ ys) held held_too same i = absurd cc
  one_at (x ∷ xs) [] held held_too same i = absurd cc
  one_at (x ∷ xs) (y ∷ ys) held held_too same zero =
      let first : operation_in nodes x ≡ operation_in others y = cc in
      taken_once x y (All-head (λ op. Holds nodes op.guard) x xs held) (All-head (λ op. Holds others op.guard) y ys held_too) first
  one_at (x ∷ xs) (y ∷ ys) held held_too same (suc i) =
      let rest : operations_in nodes xs ≡ operations_in others ys = cc in
      one_at xs ys (All-tail (λ op. Holds nodes op.guard) x xs held) (All-tail (λ op. Holds others op.guard) y ys held_too) rest i

  one_more : (o p : Option Op) (xs ys : List Op) → AreOne o p → map (taken nodes) xs ≡ map (taken others) ys → map (taken nodes) (cons_option o xs) ≡ map (taken others) (cons_option p ys)
  one_more None None xs ys one rest = rest
  one_more None (Some y) xs ys one rest = absurd one
  one_more (Some x) None xs ys one rest = absurd one
  one_more (Some x) (Some y) xs ys one rest = λ j. one j ∷ rest j

  one_order : (xs ys : List Op) → ((i : ℕ) → AreOne (slice_get xs i) (slice_get ys i)) → (order : List OpId)
      → map (taken nodes) (filter_map (λ number. slice_get xs number.0) order) ≡ map (taken others) (filter_map (λ number. slice_get ys number.0) order)
  one_order xs ys each [] = refl
  one_order xs ys each (id ∷ ids) =
      one_more (slice_get xs id.0) (slice_get ys id.0) (filter_map (λ number. slice_get xs number.0) ids) (filter_map (λ number. slice_get ys number.0) ids)
      (each id.0) (one_order xs ys each ids)

-- ---- the image

pub one_image : (a b : PlanView) → IsAccepted a → IsAccepted b → a.kernel ≡ b.kernel → image_of a ≡ image_of b
one_image a b one other kernels =
    let each = one_at a.store.nodes b.store.nodes one.store.reduced other.store.reduced a.ops b.ops one.operations.held other.operations.held (same_operations a b one other kernels) in
    let own : map (taken a.store.nodes) (ordered a) ≡ map (taken b.store.nodes) (filter_map (λ number. slice_get b.ops number.0) a.order) =
    one_order a.store.nodes b.store.nodes one.store.reduced other.store.reduced a.ops b.ops each a.order in
    let all : map (taken a.store.nodes) (ordered a) ≡ map (taken b.store.nodes) (ordered b) =
    own ∙ ap (λ (order : List OpId). map (taken b.store.nodes) (filter_map (λ number. slice_get b.ops number.0) order)) (same_ids a b one other kernels) in
    let same : made_of a (ordered a) [] ≡ made_of b (ordered b) [] =
    made_is a (ordered a) [] ∙ (λ j. made_from (kernels j) (all j) []) ∙ sym (made_is b (ordered b) []) in
    let conditions = same_conditions a b one other kernels in
    λ j. record {
      signals = map image_signal (kernels j).signals;
      inputs = (kernels j).inputs;
      outputs = (kernels j).outputs;
      conditions = conditions j;
      memories = memories_of (kernels j);
      nodes = (same j).0;
      ops = (same j).1;
    }

pub image_once : (kernel : Kernel) (a b : ImageView) → IsKernelImage kernel a → IsKernelImage kernel b → a ≡ b
image_once kernel a b x y = x.is ∙ one_image x.plan y.plan x.of.accepted y.of.accepted (x.of.same ∙ sym y.of.same) ∙ sym y.is

pub some_image : (kernel : Kernel) → IsValid kernel → IsAcceptedKernel kernel → (image : ImageView) × IsKernelImage kernel image
some_image kernel valid accepted =
    let plan = some_plan kernel valid accepted in
    (image_of plan.0, record { plan = plan.0; of = plan.1; is = refl })
