-- The operations of a plan's image, beside those of the plan in compiled order.
use Rattle.sig_shipped_laws.proofs.Common.{◌≡◌, ◌<◌, ◌≤◌, true, false, ℕ, zero, suc, List, [], ◌∷◌, ◌++◌, length, Option, Some, refl, sym, ap, subst, ◌∙◌, arith, slice_get, filter_map, option_map, AllByRecursion, cons_option, append-nil, append_assoc, All-contains, slice_get-map, OpId, Choice, Constant, Diagram, Tests, diagram, Ref, proper, Depends-tests, IsProper, of_operation, Operation, operation_in, operations_in, operations_of, presence_in, IsAccepted, PlanView, Op, guard_alone, guard_held, node_in, nodes_in, Each, IsNodeBehind, before, image_op, made_of, visited, ImageNode, ImageOp, Shows, visited_right, reduced, diagram-false, diagram-node, diagram-true, still_at, contains_at}
use Rattle.sig_shipped_laws.proofs.Cases.{Case, HasCase, IsCase, all_cases, made, made_op}

-- ---- what is so of each operation of a plan

pub record IsGood (plan : PlanView) (op : Op) : Type 0 where
  pub proper : IsProper (diagram plan.store.nodes op.guard)
  pub within : (v : ℕ) → Tests (diagram plan.store.nodes op.guard) v → v < length plan.clocks.conditions
  pub case : Case
  pub is : IsCase plan.kernel (operation_in plan.store.nodes op) case

pub op_good : (plan : PlanView) → IsAccepted plan → (n : ℕ) (op : Op) → slice_get plan.ops n ≡ Some op → IsGood plan op
op_good plan accepted n op e =
    let is = of_operation n op e in
    let held = guard_held plan accepted op.guard is in
    let its = proper plan.store.nodes accepted.store.reduced op.guard held in
    let there : slice_get (operations_in plan.store.nodes plan.ops) n ≡ Some (operation_in plan.store.nodes op) = slice_get-map (operation_in plan.store.nodes) plan.ops n ∙ ap (option_map (operation_in plan.store.nodes)) e in
    let among = subst (λ (os : List Operation). slice_get os n ≡ Some (operation_in plan.store.nodes op)) accepted.operations.are there in
    let presence = presence_in plan.store.nodes plan.clocks in
    let one = All-contains (HasCase plan.kernel) (operations_of plan.kernel presence) (operation_in plan.store.nodes op) (all_cases plan.kernel presence)
    (contains_at (operations_of plan.kernel presence) n (operation_in plan.store.nodes op) among) in
    record {
      proper = its;
      within = λ v tests. guard_alone plan accepted op.guard is v (Depends-tests (diagram plan.store.nodes op.guard) v its tests);
      case = one.0;
      is = one.1;
    }

-- ---- diagrams of nodes

shows_still : (d : Diagram) (nodes more : List ImageNode) (n : ℕ) → Shows nodes n d → Shows (nodes ++ more) n d
shows_still (Constant false) nodes more n s = s
shows_still (Constant true) nodes more n s = s
shows_still (Choice v low high) nodes more n s =
    (s.0, s.1, s.2, still_at nodes more s.0 s.1 s.3, s.4, shows_still low nodes more s.1.low s.5, shows_still high nodes more s.1.high s.6)

abbrev reference : ℕ → Ref
reference n = record { number = n }

-- the diagram that a number shows is the one that it names
pub shown_is : (k : ℕ) (nodes : List ImageNode) → Each (IsNodeBehind k) [] nodes → (d : Diagram) (n : ℕ) → Shows nodes n d → diagram (nodes_in nodes) (record { number = n }) ≡ d
shown_is k nodes each (Constant false) n s = diagram-false (nodes_in nodes) (reference n) s
shown_is k nodes each (Constant true) n s = diagram-true (nodes_in nodes) (reference n) s
shown_is k nodes each (Choice v low high) n s =
    let there : slice_get (nodes_in nodes) s.0 ≡ Some (node_in s.1) = slice_get-map node_in nodes s.0 ∙ ap (option_map node_in) s.3 in
    let right = (reduced k nodes each).each s.0 (node_in s.1) there in
    let split = diagram-node (nodes_in nodes) s.0 (node_in s.1) (reference n) there right (omega (arith, s.2)) in
    let lower = shown_is k nodes each low s.1.low s.5 in
    let upper = shown_is k nodes each high s.1.high s.6 in
    split ∙ (λ j. Choice (s.4 j) (lower j) (upper j))

-- ---- the operations that are made

-- an operation of an image is made for one of a plan
pub record IsPair (plan : PlanView) (nodes : List ImageNode) (op : Op) (one : ImageOp) : Type 0 where
  pub case : Case
  pub is : IsCase plan.kernel (operation_in plan.store.nodes op) case
  pub guard : ℕ
  pub same : one ≡ made_op plan.kernel guard case
  pub shown : Shows nodes guard (diagram plan.store.nodes op.guard)

abbrev pub Pairs : PlanView → List ImageNode → List Op → List ImageOp → Type 0
Pairs plan nodes [] [] = Unit {0}
Pairs plan nodes (op ∷ ops) (one ∷ many) = IsPair plan nodes op one × Pairs plan nodes ops many
Pairs plan nodes _ _ = ⊥

record IsGrown (k : ℕ) (nodes : List ImageNode) (all : List ImageNode) : Type 0 where
  pub more : List ImageNode
  pub grown : all ≡ nodes ++ more

module _ (plan : PlanView) (few : plan.kernel.inputs ≤ length plan.kernel.signals) where
  abbrev conditions : ℕ
  conditions = length plan.clocks.conditions

  grown_by : (ops : List Op) → AllByRecursion (IsGood plan) ops → (nodes : List ImageNode) → Each (IsNodeBehind conditions) [] nodes → IsGrown conditions nodes (made_of plan ops nodes).0
  grown_by [] good nodes each = record { more = []; grown = sym (append-nil nodes) }
  grown_by (op ∷ ops) good nodes each =
      let guard = visited_right conditions (diagram plan.store.nodes op.guard) good.0.proper good.0.within nodes each in
      let rest = grown_by ops good.1 (visited (diagram plan.store.nodes op.guard) nodes).0 guard.right in
      record {
        more = guard.more ++ rest.more;
        grown = rest.grown ∙ ap (λ (ns : List ImageNode). ns ++ rest.more) guard.grown ∙ append_assoc nodes guard.more rest.more;
      }

  one_pair : (all : List ImageNode) (op : Op) (ops : List Op) (guard : ℕ) (many : List ImageOp) (good : IsGood plan op) → Shows all guard (diagram plan.store.nodes op.guard) → Pairs plan all ops many
      → Pairs plan all (op ∷ ops) (before (image_op plan.kernel guard op.kind op.eq) many)
  one_pair all op ops guard many good shown rest =
      subst (λ (o : Option ImageOp). Pairs plan all (op ∷ ops) (before o many)) (sym (made plan.kernel guard (operation_in plan.store.nodes op) good.case good.is few))
      (record { case = good.case; is = good.is; guard = guard; same = refl; shown = shown }, rest)

  pub pairs_by : (ops : List Op) → AllByRecursion (IsGood plan) ops → (nodes : List ImageNode) → Each (IsNodeBehind conditions) [] nodes
      → Pairs plan (made_of plan ops nodes).0 ops (made_of plan ops nodes).1
  pairs_by [] good nodes each = tt
  pairs_by (op ∷ ops) good nodes each =
      let all = visited (diagram plan.store.nodes op.guard) nodes in
      let guard = visited_right conditions (diagram plan.store.nodes op.guard) good.0.proper good.0.within nodes each in
      let rest = grown_by ops good.1 all.0 guard.right in
      let shown = subst (λ (ns : List ImageNode). Shows ns all.1 (diagram plan.store.nodes op.guard)) (sym rest.grown) (shows_still (diagram plan.store.nodes op.guard) all.0 rest.more all.1 guard.shown) in
      one_pair (made_of plan ops all.0).0 op ops all.1 (made_of plan ops all.0).1 good.0 shown (pairs_by ops good.1 all.0 guard.right)

-- ---- by their places

pub pair_at : (plan : PlanView) (nodes : List ImageNode) (ops : List Op) (many : List ImageOp) → Pairs plan nodes ops many → (n : ℕ) (one : ImageOp) → slice_get many n ≡ Some one
    → (op : Op) × (slice_get ops n ≡ Some op) × IsPair plan nodes op one
pair_at plan nodes [] [] pairs n one e = absurd cc
pair_at plan nodes (op ∷ ops) (o ∷ many) pairs zero one e = let same : o ≡ one = cc in (op, refl, subst (IsPair plan nodes op) same pairs.0)
pair_at plan nodes (op ∷ ops) (o ∷ many) pairs (suc n) one e = pair_at plan nodes ops many pairs.1 n one e
pair_at plan nodes _ _ pairs n one e = absurd pairs

pub pair_for : (plan : PlanView) (nodes : List ImageNode) (ops : List Op) (many : List ImageOp) → Pairs plan nodes ops many → (n : ℕ) (op : Op) → slice_get ops n ≡ Some op
    → (one : ImageOp) × (slice_get many n ≡ Some one) × IsPair plan nodes op one
pair_for plan nodes [] [] pairs n op e = absurd cc
pair_for plan nodes (op' ∷ ops) (o ∷ many) pairs zero op e = let same : op' ≡ op = cc in (o, refl, subst (λ (p : Op). IsPair plan nodes p o) same pairs.0)
pair_for plan nodes (op' ∷ ops) (o ∷ many) pairs (suc n) op e = pair_for plan nodes ops many pairs.1 n op e
pair_for plan nodes _ _ pairs n op e = absurd pairs

pub pairs_long : (plan : PlanView) (nodes : List ImageNode) (ops : List Op) (many : List ImageOp) → Pairs plan nodes ops many → length many ≡ length ops
pairs_long plan nodes [] [] pairs = refl
pairs_long plan nodes (op ∷ ops) (o ∷ many) pairs = ap suc (pairs_long plan nodes ops many pairs.1)
pairs_long plan nodes _ _ pairs = absurd pairs

-- ---- the operations of a plan in compiled order

module _ (ops : List Op) where
  abbrev pub taken : List OpId → List Op
  taken order = filter_map (λ (number : OpId). slice_get ops number.0) order

  abbrev pub Named : List OpId → Type 0
  Named order = (k : ℕ) (number : OpId) → slice_get order k ≡ Some number → (op : Op) × (slice_get ops number.0 ≡ Some op)

  cons_some : (o : Option Op) (op : Op) (rest : List Op) → o ≡ Some op → cons_option o rest ≡ op ∷ rest
  cons_some o op rest is = ap (λ (p : Option Op). cons_option p rest) is

  taken_more : (number : OpId) (order : List OpId) (op : Op) → slice_get ops number.0 ≡ Some op → taken (number ∷ order) ≡ op ∷ taken order
  taken_more number order op is = cons_some (slice_get ops number.0) op (taken order) is

  pub taken_long : (order : List OpId) → Named order → length (taken order) ≡ length order
  taken_long [] named = refl
  taken_long (number ∷ order) named =
      let here = named 0 number refl in
      ap (λ (l : List Op). length l) (taken_more number order here.0 here.1) ∙ ap suc (taken_long order (λ k. named (suc k)))

  pub taken_at : (order : List OpId) → Named order → (k : ℕ) (number : OpId) (op : Op) → slice_get order k ≡ Some number → slice_get ops number.0 ≡ Some op → slice_get (taken order) k ≡ Some op
  taken_at [] named k number op e is = absurd cc
  taken_at (first ∷ order) named zero number op e is =
      let same : first ≡ number = cc in
      ap (λ (l : List Op). slice_get l 0) (taken_more first order op (ap (λ (n : OpId). slice_get ops n.0) same ∙ is))
  taken_at (first ∷ order) named (suc k) number op e is =
      let here = named 0 first refl in
      ap (λ (l : List Op). slice_get l (suc k)) (taken_more first order here.0 here.1) ∙ taken_at order (λ j. named (suc j)) k number op e is

  pub all_taken : (P : Op → Type 0) → ((n : ℕ) (op : Op) → slice_get ops n ≡ Some op → P op) → (order : List OpId) → Named order → AllByRecursion P (taken order)
  all_taken P each [] named = tt
  all_taken P each (number ∷ order) named =
      let here = named 0 number refl in
      subst (AllByRecursion P) (sym (taken_more number order here.0 here.1)) (each number.0 here.0 here.1, all_taken P each order (λ k. named (suc k)))
