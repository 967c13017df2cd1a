-- Operations that are added behind others.
use Rattle.sig_plan.proofs.Common.{◌≡◌, ◌<◌, ◌+◌, ℕ, List, [], ◌∷◌, ◌++◌, length, get_or, refl, sym, ap, ◌∙◌, subst, arith, append_assoc, zero, suc, Some, take, Result, Ok, Err, OnOk, append-nil, map-append, All-head, All-push, All-tail, All-weaker, EqId, SigId, Signal, ClocksView, guard_of, Holds, IsRefOf, Keeps, StoreView, test, Agree-kept, Holds-kept, Node, Ref, Equation, Form, Adds, AreHeld, Extends, HoldGuards, IsMade, Guard, Operation, Presence, cluster_at, default_of, equation_id, function_in, of_each, operation_in, operations_in, presence_in, without, writing, Op, Left, Right}

-- the function of a signal's guard
pub guard_is : (clocks : ClocksView) (x : SigId) (guard : Ref) → guard_of clocks x.0 ≡ Some guard → (nodes : List Node) → test nodes guard ≡ presence_in nodes clocks x
guard_is clocks x guard is nodes = let back = sym is in λ j truths. function_in nodes (back j) truths

pub adds_none : (clocks : ClocksView) (ops : List Op) → Adds clocks (λ presence. []) ops ops
adds_none clocks ops = record { are = λ nodes. sym (append-nil (operations_in nodes ops)); held = λ nodes guards held. held }

pub adds_next : (clocks : ClocksView) (make more : Presence → List Operation) (one : Presence → Operation) (old mid new : List Op) (op : Op) → Adds clocks make old mid → IsMade clocks one op
    → new ≡ mid ++ op ∷ [] → ((presence : Presence) → make presence ++ one presence ∷ [] ≡ more presence) → Adds clocks more old new
adds_next clocks make more one old mid new op adds made is joined =
    subst (λ (ops : List Op). Adds clocks more old ops) (sym is)
    (record {
      are = λ nodes.
          map-append (operation_in nodes) mid (op ∷ [])
          ∙ ap (λ xs. xs ++ operation_in nodes op ∷ []) (adds.are nodes)
          ∙ ap (λ p. (operations_in nodes old ++ make (presence_in nodes clocks)) ++ p ∷ []) (made.is nodes)
          ∙ append_assoc (operations_in nodes old) (make (presence_in nodes clocks)) (one (presence_in nodes clocks) ∷ [])
          ∙ ap (λ xs. operations_in nodes old ++ xs) (joined (presence_in nodes clocks));
      held = λ nodes guards held. All-push (λ op. Holds nodes op.guard) mid op (adds.held nodes guards held) (guards op.guard made.guard);
    })

pub adds_then : (clocks : ClocksView) (first second more : Presence → List Operation) (old mid new : List Op) → Adds clocks first old mid → Adds clocks second mid new
    → ((presence : Presence) → first presence ++ second presence ≡ more presence) → Adds clocks more old new
adds_then clocks first second more old mid new a b joined = record {
  are = λ nodes.
      b.are nodes ∙ ap (λ xs. xs ++ second (presence_in nodes clocks)) (a.are nodes) ∙ append_assoc (operations_in nodes old) (first (presence_in nodes clocks)) (second (presence_in nodes clocks))
      ∙ ap (λ xs. operations_in nodes old ++ xs) (joined (presence_in nodes clocks));
  held = λ nodes guards held. b.held nodes guards (a.held nodes guards held);
}

-- one more equation
pub one_equation_more : (make : EqId → Form → List Operation) (n : ℕ) (equations : List Equation) (i : ℕ) (d : Equation) → i < length equations
    → of_each make n (take i equations) ++ make (equation_id (n + i)) (get_or equations i d).form ≡ of_each make n (take (i + 1) equations)
one_equation_more make n [] i d lt = absurd (omega (arith, lt))
one_equation_more make n (e ∷ es) zero d lt = let first : n + 0 ≡ n = omega arith in ap (λ k. make (equation_id k) e.form) first ∙ sym (append-nil (make (equation_id n) e.form))
one_equation_more make n (e ∷ es) (suc i) d lt =
    let k : n + suc i ≡ n + 1 + i = omega arith in
    let next : suc i + 1 ≡ suc (i + 1) = omega arith in
    append_assoc (make (equation_id n) e.form) (of_each make (n + 1) (take i es)) (make (equation_id (n + suc i)) (get_or es i d).form)
    ∙ ap (λ m. make (equation_id n) e.form ++ (of_each make (n + 1) (take i es) ++ make (equation_id m) (get_or es i d).form)) k
    ∙ ap (λ xs. make (equation_id n) e.form ++ xs) (one_equation_more make (n + 1) es i d (omega (arith, lt)))
    ∙ ap (λ m. of_each make n (take m (e ∷ es))) (sym next)

-- operations that were added while the store stayed
pub extends_from : (nodes : List Node) (clocks : ClocksView) (make : Presence → List Operation) (old new : List Op) → HoldGuards nodes clocks → AreHeld nodes old → Adds clocks make old new
    → Extends nodes nodes clocks make old new
extends_from nodes clocks make old new guards held adds = record { are = adds.are nodes; held = adds.held nodes guards held }

pub extends_then : (a b d : List Node) (clocks : ClocksView) (first second more : Presence → List Operation) (old mid new : List Op) → presence_in b clocks ≡ presence_in a clocks
    → Extends a b clocks first old mid → Extends b d clocks second mid new → ((presence : Presence) → first presence ++ second presence ≡ more presence) → Extends a d clocks more old new
extends_then a b d clocks first second more old mid new same x y joined = record {
  are =
      y.are ∙ ap (λ xs. xs ++ second (presence_in b clocks)) x.are ∙ ap (λ (p : Presence). (operations_in a old ++ first (presence_in a clocks)) ++ second p) same
      ∙ append_assoc (operations_in a old) (first (presence_in a clocks)) (second (presence_in a clocks)) ∙ ap (λ xs. operations_in a old ++ xs) (joined (presence_in a clocks));
  held = y.held;
}

-- an operation that was added, if it was
pub extends_one : {T E : Type 0} (nodes : List Node) (clocks : ClocksView) (make : Presence → List Operation) (one : Presence → Operation) (old new : List Op) (op : Op) (result : Result T E)
    → HoldGuards nodes clocks → AreHeld nodes old → IsMade clocks one op → OnOk result (new ≡ old ++ op ∷ []) → ((presence : Presence) → one presence ∷ [] ≡ make presence)
    → OnOk result (Extends nodes nodes clocks make old new)
extends_one nodes clocks make one old new op (Ok x) guards held made is joined = extends_from nodes clocks make old new guards held (adds_next clocks (λ presence. []) make one old old new op (adds_none clocks old) made is joined)
extends_one nodes clocks make one old new op (Err e) guards held made is joined = tt

module _ (s t : StoreView) (kept : Keeps s t) where
  test_kept : (guard : Ref) → Holds s.nodes guard → test t.nodes guard ≡ test s.nodes guard
  test_kept guard held = λ j truths. Agree-kept s t kept guard held truths j

  -- operations stay as the store grows
  pub operations_stay : (ops : List Op) → AreHeld s.nodes ops → operations_in t.nodes ops ≡ operations_in s.nodes ops
  operations_stay [] held = refl
  operations_stay (op ∷ ops) held =
      let same = test_kept op.guard (All-head (λ (op : Op). Holds s.nodes op.guard) op ops held) in
      let rest = operations_stay ops (All-tail (λ (op : Op). Holds s.nodes op.guard) op ops held) in
      λ j. record { kind = op.kind; guard = same j; writes = op.writes; reads = op.reads; equation = op.eq; cluster = op.actor } ∷ rest j

  pub held_stay : (ops : List Op) → AreHeld s.nodes ops → AreHeld t.nodes ops
  held_stay ops held = All-weaker (λ (op : Op). Holds s.nodes op.guard) (λ (op : Op). Holds t.nodes op.guard) (λ op h. Holds-kept s t kept op.guard h) ops held

  pub extends_default : (clocks : ClocksView) (signals : List Signal) (number : EqId) (y u v : SigId) (gu gv other : Ref) (ops : List Op) (left right : Op) → Holds s.nodes gu → AreHeld s.nodes ops
      → guard_of clocks u.0 ≡ Some gu → guard_of clocks v.0 ≡ Some gv → IsRefOf t.nodes (without (test s.nodes gv) (test s.nodes gu)) other
      → left ≡ record { kind = Left; guard = gu; writes = Some y; reads = u ∷ []; eq = Some number; actor = cluster_at signals y }
      → right ≡ record { kind = Right; guard = other; writes = Some y; reads = v ∷ []; eq = Some number; actor = cluster_at signals y }
      → Extends s.nodes t.nodes clocks (λ presence. default_of signals presence number y u v) ops ((ops ++ left ∷ []) ++ right ∷ [])
  extends_default clocks signals number y u v gu gv other ops left right held_u held is_u is_v is left_is right_is =
      let at_u : test s.nodes gu ≡ presence_in s.nodes clocks u = guard_is clocks u gu is_u s.nodes in
      let at_v : test s.nodes gv ≡ presence_in s.nodes clocks v = guard_is clocks v gv is_v s.nodes in
      let first : operation_in t.nodes left ≡ writing signals number Left (presence_in s.nodes clocks u) y (u ∷ []) =
      ap (operation_in t.nodes) left_is ∙ ap (λ (g : Guard). writing signals number Left g y (u ∷ [])) (test_kept gu held_u ∙ at_u) in
      let difference : test t.nodes other ≡ without (presence_in s.nodes clocks v) (presence_in s.nodes clocks u) =
      let function : test t.nodes other ≡ without (test s.nodes gv) (test s.nodes gu) = λ j truths. is.function truths j in
      function ∙ (λ j. without (at_v j) (at_u j)) in
      let second : operation_in t.nodes right ≡ writing signals number Right (without (presence_in s.nodes clocks v) (presence_in s.nodes clocks u)) y (v ∷ []) =
      ap (operation_in t.nodes) right_is ∙ ap (λ (g : Guard). writing signals number Right g y (v ∷ [])) difference in
      let held_left : Holds t.nodes left.guard = subst (λ (op : Op). Holds t.nodes op.guard) (sym left_is) (Holds-kept s t kept gu held_u) in
      let held_right : Holds t.nodes right.guard = subst (λ (op : Op). Holds t.nodes op.guard) (sym right_is) is.holds in
      record {
        are =
            map-append (operation_in t.nodes) (ops ++ left ∷ []) (right ∷ [])
            ∙ ap (λ xs. xs ++ operation_in t.nodes right ∷ []) (map-append (operation_in t.nodes) ops (left ∷ []))
            ∙ (λ j. (operations_stay ops held j ++ first j ∷ []) ++ second j ∷ [])
            ∙ append_assoc (operations_in s.nodes ops) (writing signals number Left (presence_in s.nodes clocks u) y (u ∷ []) ∷ []) (writing signals number Right (without (presence_in s.nodes clocks v) (presence_in s.nodes clocks u)) y (v ∷ []) ∷ []);
        held = All-push (λ (op : Op). Holds t.nodes op.guard) (ops ++ left ∷ []) right (All-push (λ (op : Op). Holds t.nodes op.guard) ops left (held_stay ops held) held_left) held_right;
      }

-- one more of a kernel's equations
pub equation_more : (make : EqId → Form → List Operation) (equations : List Equation) (i : ℕ) (e : Equation) → i < length equations → e ≡ get_or equations i e
    → of_each make 0 (take i equations) ++ make (equation_id i) e.form ≡ of_each make 0 (take (i + 1) equations)
equation_more make equations i e lt is =
    let first : i ≡ 0 + i = omega arith in
    (λ j. of_each make 0 (take i equations) ++ make (equation_id (first j)) (is j).form) ∙ one_equation_more make 0 equations i e lt
