-- The text of a kernel's code is one.
use Rattle.sig_code.proofs.Common.{◌≡◌, ◌<◌, ◌+◌, ◌++◌, ℕ, List, [], ◌∷◌, length, refl, sym, ap, ◌∙◌, subst, arith, suc, Option, None, Some, true, codes, slice_get, decimal, enumerate_from, flat_map, act_text, actor_text, code_text_of, op_text, step_text, what_text, Node, Kernel, CodeView, Instruction, instructions_of, Operation, operations_in, IsAccepted, PlanView, numbers_of, Step, StepKind, Do, Op, same_actors, same_instructions, same_operations, IsCodeText, slice_get-get_or, slice_get_within}

-- ---- texts of lists

-- two lists whose elements have the same texts, each at its number
same_texts : {X Y : Type 0} (f : ℕ × X → List ℕ) (g : ℕ × Y → List ℕ) (n : ℕ) (xs : List X) (ys : List Y) → length xs ≡ length ys
    → ((k : ℕ) (x : X) (y : Y) → slice_get xs k ≡ Some x → slice_get ys k ≡ Some y → f (n + k, x) ≡ g (n + k, y)) → flat_map f (enumerate_from n xs) ≡ flat_map g (enumerate_from n ys)
same_texts f g n [] [] count each = refl
same_texts f g n (x ∷ xs) (y ∷ ys) count each =
    let here : n + 0 ≡ n = omega arith in
    let first : f (n, x) ≡ g (n, y) = ap (λ m. f (m, x)) (sym here) ∙ each 0 x y refl refl ∙ ap (λ m. g (m, y)) here in
    let rest = same_texts f g (n + 1) xs ys (omega (arith, count)) (λ k a b at_a at_b.
    let next : n + 1 + k ≡ n + suc k = omega arith in
    ap (λ m. f (m, a)) next ∙ each (suc k) a b at_a at_b ∙ ap (λ m. g (m, b)) (sym next)) in
    λ j. first j ++ rest j
same_texts f g n _ _ count each = absurd (omega (arith, count))

-- what an operation is shown as
text_in : Kernel → Option Operation → List ℕ
text_in kernel None = []
text_in kernel (Some p) = act_text kernel p.kind p.writes

op_text_is : (kernel : Kernel) (nodes : List Node) (ops : List Op) (i : ℕ) → op_text kernel (slice_get ops i) ≡ text_in kernel (slice_get (operations_in nodes ops) i)
unfolding text_in
op_text_is kernel nodes (op ∷ ops) (suc i) = op_text_is kernel nodes ops i
op_text_is kernel nodes _ _ = refl

module _ (kernel : Kernel) (nodes others : List Node) (ops other_ops : List Op) (same : operations_in nodes ops ≡ operations_in others other_ops) where
  same_what : (kind : StepKind) → what_text kernel ops kind ≡ what_text kernel other_ops kind
  same_what (Do op) = op_text_is kernel nodes ops op.0 ∙ ap (λ (os : List Operation). text_in kernel (slice_get os op.0)) same ∙ sym (op_text_is kernel others other_ops op.0)
  same_what _ = refl

  same_step : (index : ℕ) (a b : Step) → a.kind ≡ b.kind → a.pos ≡ b.pos → step_text kernel ops (index, a) ≡ step_text kernel other_ops (index, b)
  same_step index a b kind position =
      let what : what_text kernel ops a.kind ≡ what_text kernel other_ops b.kind = ap (what_text kernel ops) kind ∙ same_what b.kind in
      λ j. decimal index ++ (codes " " ++ (decimal (position j) ++ (codes " " ++ (what j ++ codes "\n"))))

  -- two codes of the same instructions have one text
  same_actor : (actor : ℕ) (instructions : List Instruction) (a b : CodeView)
      → length a.steps ≡ length instructions → length b.steps ≡ length instructions
      → ((k : ℕ) (instruction : Instruction) (step : Step) → slice_get instructions k ≡ Some instruction → slice_get a.steps k ≡ Some step → (step.kind ≡ instruction.kind) × (step.pos ≡ instruction.position))
      → ((k : ℕ) (instruction : Instruction) (step : Step) → slice_get instructions k ≡ Some instruction → slice_get b.steps k ≡ Some step → (step.kind ≡ instruction.kind) × (step.pos ≡ instruction.position))
      → actor_text kernel ops (actor, a) ≡ actor_text kernel other_ops (actor, b)
  same_actor actor instructions a b count_a count_b of_a of_b =
      let lines = same_texts (step_text kernel ops) (step_text kernel other_ops) 0 a.steps b.steps (count_a ∙ sym count_b) (λ k step other at_a at_b.
      let within : k < length instructions = omega (arith, slice_get_within a.steps k step at_a, count_a) in
      let is = slice_get-get_or instructions k (record { kind = step.kind; position = 0; guard = λ proposal. true }) within in
      let one = of_a k _ step is at_a in
      let two = of_b k _ other is at_b in
      same_step (0 + k) step other (one.0 ∙ sym two.0) (one.1 ∙ sym two.1)) in
      λ j. codes "actor " ++ (decimal actor ++ (codes "\n" ++ lines j))

-- ---- the text of the code

module _ (a b : PlanView) (one : IsAccepted a) (other : IsAccepted b) (kernels : a.kernel ≡ b.kernel) where
  pub code_once : code_text_of a ≡ code_text_of b
  code_once = same_texts (actor_text a.kernel a.ops) (actor_text b.kernel b.ops) 0 a.codes b.codes (same_actors a b one other kernels) each where
    instructions : (actor : ℕ) → instructions_of (operations_in a.store.nodes a.ops) (numbers_of a.order) one.parts actor ≡ instructions_of (operations_in b.store.nodes b.ops) (numbers_of b.order) other.parts actor
    instructions actor = same_instructions a b one other kernels actor

    each : (k : ℕ) (x y : CodeView) → slice_get a.codes k ≡ Some x → slice_get b.codes k ≡ Some y → actor_text a.kernel a.ops (0 + k, x) ≡ actor_text b.kernel b.ops (0 + k, y)
    each k x y at_x at_y =
        let code = one.codes.each k x at_x in
        let code' = subst (λ (is : List Instruction). length y.steps ≡ length is) (sym (instructions k)) (other.codes.each k y at_y).count in
        same_actor a.kernel a.store.nodes b.store.nodes a.ops b.ops (same_operations a b one other kernels) (0 + k) (instructions_of (operations_in a.store.nodes a.ops) (numbers_of a.order) one.parts k) x y
        code.count code'
        (λ i instruction step is at_step. let does = code.steps i instruction step is at_step in (does.kind, does.position))
        (λ i instruction step is at_step. let does = (other.codes.each k y at_y).steps i instruction step (subst (λ (xs : List Instruction). slice_get xs i ≡ Some instruction) (instructions k) is) at_step in (does.kind, does.position))
        ∙ ap (λ (kernel : Kernel). actor_text kernel b.ops (0 + k, y)) kernels

pub code_text_once : (kernel : Kernel) (a b : List ℕ) → IsCodeText kernel a → IsCodeText kernel b → a ≡ b
code_text_once kernel a b one other = one.says ∙ code_once one.plan other.plan one.accepted other.accepted (one.of ∙ sym other.of) ∙ sym other.says
