-- The operations and the nodes of a plan's image.
use Rattle.sig_file.proofs.Common.{◌≡◌, ℕ, zero, suc, ◌+◌, ◌<◌, true, List, [], ◌∷◌, ◌++◌, length, map, slice_get, Option, Some, None, refl, sym, ap, subst, ◌∙◌, arith, append-nil, append_assoc, All, AllByRecursion, slice_get-map, option_map, list_any, length-append, diagram, is_signal, IfSome, filter_map, cons_option, All-cons, All-nil, get_or_from_slice_get, EqId, OpId, SigId, Span, Signal, Tests, proper, Depends-tests, IsProper, form_fits, operands_of, Equation, Form, Delay, Default, Sync, Kernel, of_operation, Operation, Presence, operation_in, operations_in, operations_of, presence_in, stores_of, without, writes_of, writing, IsAccepted, PlanView, Op, OpKind, Read, Left, Right, guard_alone, guard_held, each_operation, only, Each, IsNodeBehind, IsOperation, MayDo, Scope, scope_of, before, does_of, equation_at, equation_numbered, image_of, image_op, image_signal, made_of, memories_of, memory_number, memory_of, op_with, ordered, read_at, visited, HasPlace, HavePlaces, ImageMemory, ImageNode, ImageOp, ImageOpKind, slice_get_within, at_each}
use Rattle.sig_clock.specs.Conditions.{signal_id}
use Rattle.sig_file.proofs.PlanFunctions.{does_right}
use Rattle.sig_file.proofs.PlanMemories.{memory_there}
use Rattle.sig_file.proofs.PlanNodes.{number_below, visited_right}
use Rattle.sig_file.proofs.PlanSignals.{each_from}

-- ---- what an operation does

-- under this guard it does what it may
IsUnder : Scope → ℕ → ImageOp → Type 0
IsUnder scope guard op = (op.guard ≡ guard) × MayDo scope op.kind

module _ (scope : Scope) (guard : ℕ) where
  with_right : (at : Span) (o : Option ImageOpKind) → IfSome o (MayDo scope) → IfSome (op_with guard at o) (IsUnder scope guard)
  unfolding IsUnder
  with_right at None may = tt
  with_right at (Some kind) may = (refl, may)

  read_right : (x : SigId) (o : Option Signal) → x.0 < scope.inputs → IfSome (read_at guard x o) (IsUnder scope guard)
  unfolding IsUnder
  read_right x None lt = tt
  read_right x (Some signal) lt = (refl, lt)

  module _ (kernel : Kernel) (signals : scope.signals ≡ map image_signal kernel.signals) (memories : scope.memories ≡ memories_of kernel)
      (fits : (k : ℕ) (d : Equation) → slice_get kernel.equations k ≡ Some d → form_fits kernel.signals d.form ≡ true)
      (speak : (k : ℕ) (d : Equation) → slice_get kernel.equations k ≡ Some d → list_any is_signal (operands_of d.form) ≡ true) where
    equation_by : (kind : OpKind) (n : ℕ) (o : Option Equation) → slice_get kernel.equations n ≡ o → IfSome (equation_at guard (memory_number kernel.equations n) kind o) (IsUnder scope guard)
    equation_by kind n None here = tt
    equation_by kind n (Some d) here =
        with_right d.at (does_of (memory_number kernel.equations n) kind d.form)
        (does_right kernel.signals scope signals (memory_number kernel.equations n) kind d.form (fits n d here) (speak n d here)
        (λ y x initial is. ap (λ (ms : List ImageMemory). slice_get ms (memory_number kernel.equations n)) memories
        ∙ memory_there kernel.signals kernel.equations n d y x initial here is ∙ ap (memory_of kernel.signals) (sym is)))

    numbered : (kind : OpKind) (eq : Option EqId) → IfSome (equation_numbered kernel guard kind eq) (IsUnder scope guard)
    numbered kind None = tt
    numbered kind (Some e) = equation_by kind e.0 (slice_get kernel.equations e.0) refl

    op_right : (kind : OpKind) (eq : Option EqId) → ((x : SigId) → kind ≡ Read x → x.0 < scope.inputs) → IfSome (image_op kernel guard kind eq) (IsUnder scope guard)
    op_right (Read x) eq reads = read_right x (slice_get kernel.signals x.0) (reads x refl)
    op_right other eq reads = numbered other eq

-- ---- operations of a plan

-- the guard's diagram is reduced and ordered, over conditions, and what it reads is an input
record IsGood (plan : PlanView) (op : Op) : Type 0 where
  pub proper : IsProper (diagram plan.store.nodes op.guard)
  pub within : (v : ℕ) → Tests (diagram plan.store.nodes op.guard) v → v < length plan.clocks.conditions
  pub reads : (x : SigId) → op.kind ≡ Read x → x.0 < plan.kernel.inputs

ReadsInput : Kernel → Operation → Type 0
ReadsInput kernel p = (x : SigId) → p.kind ≡ Read x → x.0 < kernel.inputs

module _ (kernel : Kernel) (presence : Presence) where
  writes_read : (number : EqId) (form : Form) → Unit {0} → All (ReadsInput kernel) (writes_of kernel.signals presence number form)
  unfolding ReadsInput
  writes_read number (Default y a b) u =
      All-cons (ReadsInput kernel) (writing kernel.signals number Left (presence a) y (a ∷ [])) (writing kernel.signals number Right (without (presence b) (presence a)) y (b ∷ []) ∷ [])
      (λ x e. absurd cc) (only (ReadsInput kernel) _ (λ x e. absurd cc))
  writes_read number (Sync y a) u = All-nil (ReadsInput kernel)
  writes_read number other u = only (ReadsInput kernel) _ (λ x e. absurd cc)

  stores_read : (number : EqId) (form : Form) → Unit {0} → All (ReadsInput kernel) (stores_of kernel.signals presence number form)
  unfolding ReadsInput
  stores_read number (Delay y a initial) u = only (ReadsInput kernel) _ (λ x e. absurd cc)
  stores_read number other u = All-nil (ReadsInput kernel)

  inputs_read : All (ReadsInput kernel) (operations_of kernel presence)
  unfolding ReadsInput
  inputs_read = each_operation (ReadsInput kernel) kernel presence (λ number form. Unit {0}) (λ k d lt. tt)
      (λ number lt x e. (let same : signal_id number ≡ x = cc in subst (λ (z : SigId). z.0 < kernel.inputs) same lt)) writes_read stores_read

all_at : {A : Type 0} (P : A → Type 0) (xs : List A) → All P xs → (n : ℕ) (x : A) → slice_get xs n ≡ Some x → P x
all_at P xs all n x e = subst P (get_or_from_slice_get xs n x x e) (all n x (slice_get_within xs n x e))

op_good : (plan : PlanView) → IsAccepted plan → (n : ℕ) (op : Op) → slice_get plan.ops n ≡ Some op → IsGood plan op
unfolding ReadsInput
op_good plan accepted n op e =
    let is = of_operation n op e in
    let held = guard_held plan accepted op.guard is in
    let its = proper plan.store.nodes accepted.store.reduced op.guard held in
    let there : slice_get (operations_in plan.store.nodes plan.ops) n ≡ Some (operation_in plan.store.nodes op) = slice_get-map (operation_in plan.store.nodes) plan.ops n ∙ ap (option_map (operation_in plan.store.nodes)) e in
    let among = subst (λ (os : List Operation). slice_get os n ≡ Some (operation_in plan.store.nodes op)) accepted.operations.are there in
    let presence = presence_in plan.store.nodes plan.clocks in
    record {
      proper = its;
      within = λ v tests. guard_alone plan accepted op.guard is v (Depends-tests (diagram plan.store.nodes op.guard) v its tests);
      reads = all_at (ReadsInput plan.kernel) (operations_of plan.kernel presence) (inputs_read plan.kernel presence) n (operation_in plan.store.nodes op) among;
    }

one_taken : {A : Type 0} (P : A → Type 0) (o : Option A) (xs : List A) → IfSome o P → AllByRecursion P xs → AllByRecursion P (cons_option o xs)
one_taken P None xs one all = all
one_taken P (Some x) xs one all = (one, all)

if_some : {A : Type 0} (P : A → Type 0) (o : Option A) → ((x : A) → o ≡ Some x → P x) → IfSome o P
if_some P None f = tt
if_some P (Some x) f = f x refl

all_taken : (P : Op → Type 0) (ops : List Op) → ((n : ℕ) (op : Op) → slice_get ops n ≡ Some op → P op) → (order : List OpId) → AllByRecursion P (filter_map (λ (number : OpId). slice_get ops number.0) order)
all_taken P ops each [] = tt
all_taken P ops each (number ∷ order) =
    one_taken P (slice_get ops number.0) (filter_map (λ (number : OpId). slice_get ops number.0) order) (if_some P (slice_get ops number.0) (λ op e. each number.0 op e)) (all_taken P ops each order)

-- ---- all operations

record IsDone (plan : PlanView) (nodes : List ImageNode) (made : List ImageNode × List ImageOp) : Type 0 where
  pub more : List ImageNode
  pub grown : made.0 ≡ nodes ++ more
  pub right : Each (IsNodeBehind (length plan.clocks.conditions)) [] made.0

record MayBe (scope : Scope) (count : ℕ) (op : ImageOp) : Type 0 where
  pub guard : op.guard < count + 2
  pub kind : MayDo scope op.kind

one_before : (P : ImageOp → Type 0) (o : Option ImageOp) (ops : List ImageOp) → IfSome o P → AllByRecursion P ops → AllByRecursion P (before o ops)
one_before P None ops one all = all
one_before P (Some op) ops one all = (one, all)

under_may : (scope : Scope) (guard count : ℕ) (o : Option ImageOp) → guard < count + 2 → IfSome o (IsUnder scope guard) → IfSome o (MayBe scope count)
unfolding IsUnder
under_may scope guard count None lt under = tt
under_may scope guard count (Some op) lt under = record { guard = omega (arith, lt, under.0); kind = under.1 }

module _ (plan : PlanView) where
  nodes_done : (ops : List Op) → AllByRecursion (IsGood plan) ops → (nodes : List ImageNode) → Each (IsNodeBehind (length plan.clocks.conditions)) [] nodes → IsDone plan nodes (made_of plan ops nodes)
  nodes_done [] good nodes each = record { more = []; grown = sym (append-nil nodes); right = each }
  nodes_done (op ∷ ops) good nodes each =
      let guard = visited_right (length plan.clocks.conditions) (diagram plan.store.nodes op.guard) good.0.proper good.0.within nodes each in
      let rest = nodes_done ops good.1 (visited (diagram plan.store.nodes op.guard) nodes).0 guard.right in
      record {
        more = guard.more ++ rest.more;
        grown = rest.grown ∙ ap (λ (ns : List ImageNode). ns ++ rest.more) guard.grown ∙ append_assoc nodes guard.more rest.more;
        right = rest.right;
      }

  module _ (scope : Scope) (signals : scope.signals ≡ map image_signal plan.kernel.signals) (memories : scope.memories ≡ memories_of plan.kernel) (inputs : scope.inputs ≡ plan.kernel.inputs)
      (fits : (k : ℕ) (d : Equation) → slice_get plan.kernel.equations k ≡ Some d → form_fits plan.kernel.signals d.form ≡ true)
      (speak : (k : ℕ) (d : Equation) → slice_get plan.kernel.equations k ≡ Some d → list_any is_signal (operands_of d.form) ≡ true) where
    ops_done : (ops : List Op) → AllByRecursion (IsGood plan) ops → (nodes : List ImageNode) → Each (IsNodeBehind (length plan.clocks.conditions)) [] nodes
        → AllByRecursion (MayBe scope (length (made_of plan ops nodes).0)) (made_of plan ops nodes).1
    ops_done [] good nodes each = tt
    ops_done (op ∷ ops) good nodes each =
        let all = visited (diagram plan.store.nodes op.guard) nodes in
        let guard = visited_right (length plan.clocks.conditions) (diagram plan.store.nodes op.guard) good.0.proper good.0.within nodes each in
        let rest = nodes_done ops good.1 all.0 guard.right in
        let below = number_below all.0 all.1 (diagram plan.store.nodes op.guard) guard.shown in
        let grown : length (made_of plan ops all.0).0 ≡ length all.0 + length rest.more = ap (λ (ns : List ImageNode). length ns) rest.grown ∙ length-append all.0 rest.more in
        one_before (MayBe scope (length (made_of plan ops all.0).0)) (image_op plan.kernel all.1 op.kind op.eq) (made_of plan ops all.0).1
        (under_may scope all.1 (length (made_of plan ops all.0).0) (image_op plan.kernel all.1 op.kind op.eq) (omega (arith, below, grown))
        (op_right scope all.1 plan.kernel signals memories fits speak op.kind op.eq (λ x e. subst (λ n. x.0 < n) (sym inputs) (good.0.reads x e))))
        (ops_done ops good.1 all.0 guard.right)

recursion_at : {A : Type 0} (P : A → Type 0) (xs : List A) (n : ℕ) (x : A) → AllByRecursion P xs → slice_get xs n ≡ Some x → P x
recursion_at P [] n x all e = absurd cc
recursion_at P (y ∷ xs) zero x all e = let same : y ≡ x = cc in subst P same all.0
recursion_at P (y ∷ xs) (suc n) x all e = recursion_at P xs n x all.1 e

module _ (plan : PlanView) (accepted : IsAccepted plan) where
  all_good : AllByRecursion (IsGood plan) (ordered plan)
  all_good = all_taken (IsGood plan) plan.ops (op_good plan accepted) plan.order

  -- each node is right behind those before it
  pub nodes_right : Each (IsNodeBehind (length plan.clocks.conditions)) [] (made_of plan (ordered plan) []).0
  nodes_right = (nodes_done plan (ordered plan) all_good [] tt).right

  -- each operation is right
  pub operations_right : HavePlaces (image_of plan).ops → Each (λ (b : List ImageOp). IsOperation (scope_of (image_of plan))) [] (image_of plan).ops
  operations_right places =
      let scope = scope_of (image_of plan) in
      let equations = accepted.valid.equations in
      let fits = at_each (λ (d : Equation). form_fits plan.kernel.signals d.form) plan.kernel.equations equations.fit in
      let speak = at_each (λ (d : Equation). list_any is_signal (operands_of d.form)) plan.kernel.equations equations.speak in
      let all = ops_done plan scope refl refl refl fits speak (ordered plan) all_good [] tt in
      each_from (λ (b : List ImageOp). IsOperation scope) [] (image_of plan).ops (λ n op e.
      (let may = recursion_at (MayBe scope (length (made_of plan (ordered plan) []).0)) (image_of plan).ops n op all e in
      let place = all_at HasPlace (image_of plan).ops places n op e in
      record { guard = may.guard; line = place.line; col = place.col; kind = may.kind }))
