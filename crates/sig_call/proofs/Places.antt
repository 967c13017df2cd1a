-- The places in the tree of a text: those of names, constants and operators are places of leaves.
use Rattle.sig_call.proofs.Common.{◌++◌, ◌+◌, ◌-◌, ◌≤◌, ◌==◌, ℕ, suc, not, List, [], ◌∷◌, None, Some, Option, length, take, count_by, refl, sym, subst, inl, inr, arith, length-take, length-drop, count_by-le-length, AllByRecursion, after_last, flat_map, suffix_len, option_to_list, option_map, Span, Token, text_of, place_after, InOrder, Expression, Named, Number, Truth, Unary, Binary, Delay, Cell, Name, Item, Declaration, Declared, RightSide, Computed, Called, Equations, Together, Defines, Equal, Bodies, no_body, more_bodies, ProcessModel, Modelled, ProcessModels, no_model, more_models, equations_in, equations_inside, equations_of_model, with_inner, those_inner, all_processes, signals_declared, Terminal, Leaf, leaf, terminal_of, leaf_of, leaves_of, level_of, Limits, Each, IsBare, IsExpression, IsName, IsLeft, IsRight, IsClockEquation, IsBody, AreBodies, AreFurtherBodies, IsModel, AreLocals, IsItem, HasTree, IsWithin, all_both}
use Rattle.sig_call.proofs.DeclaredItems.{Declares, each_declares}
use Rattle.sig_call.proofs.Texts.{AllLeaves, leaves_left, leaves_right, leaves_behind, leaves_between, leaves_enclosed, separated_all, listed_all}

-- what holds at the place of each name, constant and operator of an expression
abbrev pub AtPlacesOf : (Span → Type 0) → Expression → Type 0
AtPlacesOf Holds (Named name) = Holds name.at
AtPlacesOf Holds (Number value at) = Holds at
AtPlacesOf Holds (Truth truth at) = Holds at
AtPlacesOf Holds (Unary op operand at) = Holds at × AtPlacesOf Holds operand
AtPlacesOf Holds (Binary op left right at) = Holds at × AtPlacesOf Holds left × AtPlacesOf Holds right
AtPlacesOf Holds (Delay operand init at) = Holds at × AtPlacesOf Holds operand
AtPlacesOf Holds (Cell operand held init at) = Holds at × AtPlacesOf Holds operand × AtPlacesOf Holds held

abbrev pub AtNames : (Span → Type 0) → List Name → Type 0
AtNames Holds names = AllByRecursion (λ (name : Name). Holds name.at) names

abbrev pub IsPlacedRight : (Span → Type 0) → RightSide → Type 0
IsPlacedRight Holds (Computed e) = AtPlacesOf Holds e
IsPlacedRight Holds (Called name constants arguments) = AllByRecursion (AtPlacesOf Holds) arguments

abbrev pub IsPlaced : (Span → Type 0) → Equations → Type 0
IsPlaced Holds (Together bodies) = Unit {0}
IsPlaced Holds (Defines names right) = AtNames Holds names × IsPlacedRight Holds right
IsPlaced Holds (Equal operands) = AllByRecursion (AtPlacesOf Holds) operands

abbrev pub HasPlacedEquations : (Span → Type 0) → ProcessModel → Type 0
HasPlacedEquations Holds p = AllByRecursion (IsPlaced Holds) (equations_of_model p)

-- so it holds at leaves
abbrev pub StandsAt : (Span → Type 0) → Leaf → Type 0
StandsAt Holds l = Holds l.at

bare_placed : (Holds : Span → Type 0) (limits : Limits) (e : Expression) (depth : ℕ) (leaves : List Leaf) → IsBare limits e depth leaves → AllLeaves (StandsAt Holds) leaves → AtPlacesOf Holds e
bare_placed Holds limits (Unary op operand at) depth leaves h placed = (
  (subst (AllByRecursion (StandsAt Holds)) h.2 placed.all).0,
  leaves_enclosed limits (level_of operand) (IsBare limits operand) (bare_placed Holds limits operand) h.3.0 _ _ h.1 h.3.1 (leaves_behind _ h.1 h.2 placed),
)
bare_placed Holds limits (Binary op left right at) depth leaves h placed =
    let behind = leaves_right h.0 _ h.2 placed in (
      behind.all.0,
      leaves_enclosed limits (level_of left) (IsBare limits left) (bare_placed Holds limits left) h.3.0 _ _ h.0 h.3.1 (leaves_left h.0 _ h.2 placed),
      leaves_enclosed limits (level_of right) (IsBare limits right) (bare_placed Holds limits right) h.4.0 _ _ h.1 h.4.1 (leaves_behind _ h.1 refl behind),
    )
bare_placed Holds limits (Delay operand init at) depth leaves h placed = (
  (leaves_right h.0 _ h.3 placed).all.0,
  leaves_enclosed limits (level_of operand) (IsBare limits operand) (bare_placed Holds limits operand) h.4.0 _ _ h.0 h.4.1 (leaves_left h.0 _ h.3 placed),
)
bare_placed Holds limits (Cell operand held init at) depth leaves h placed =
    let behind = leaves_right h.0 _ h.3 placed in (
      behind.all.0,
      leaves_enclosed limits (level_of operand) (IsBare limits operand) (bare_placed Holds limits operand) h.4.0 _ _ h.0 h.4.1 (leaves_left h.0 _ h.3 placed),
      leaves_enclosed limits (level_of held) (IsBare limits held) (bare_placed Holds limits held) h.5.0 _ _ h.1 h.5.1 (leaves_left h.1 h.2 refl (leaves_behind _ (h.1 ++ h.2) refl behind)),
    )
bare_placed Holds limits _ depth leaves h placed = (subst (AllByRecursion (StandsAt Holds)) h placed.all).0

expression_placed : (Holds : Span → Type 0) (limits : Limits) (depth : ℕ) (e : Expression) (leaves : List Leaf) → IsExpression limits depth e leaves → AllLeaves (StandsAt Holds) leaves → AtPlacesOf Holds e
expression_placed Holds limits depth e leaves h placed = leaves_enclosed limits (level_of e) (IsBare limits e) (bare_placed Holds limits e) h.0 _ _ leaves h.1 placed

name_placed : (Holds : Span → Type 0) (n : Name) (leaves : List Leaf) → IsName n leaves → AllLeaves (StandsAt Holds) leaves → Holds n.at
name_placed Holds n leaves h placed = (subst (AllByRecursion (StandsAt Holds)) h placed.all).0

left_placed : (Holds : Span → Type 0) (limits : Limits) (depth : ℕ) (names : List Name) (leaves : List Leaf) → IsLeft limits depth names leaves → AllLeaves (StandsAt Holds) leaves → AtNames Holds names
left_placed Holds limits depth names leaves (inl h) placed = subst (AtNames Holds) (sym h.1) (name_placed Holds h.0 leaves h.2 placed, tt)
left_placed Holds limits depth names leaves (inr h) placed = separated_all IsName _ (λ (n : Name). Holds n.at) (name_placed Holds) names h.1.2 h.1.4 (leaves_between _ _ _ leaves h.1 placed)

right_placed : (Holds : Span → Type 0) (limits : Limits) (depth : ℕ) (right : RightSide) (leaves : List Leaf) → IsRight limits depth right leaves → AllLeaves (StandsAt Holds) leaves → IsPlacedRight Holds right
right_placed Holds limits depth (Computed e) leaves h placed = expression_placed Holds limits depth e leaves h placed
right_placed Holds limits depth (Called n constants arguments) leaves h placed =
    let back = leaves_right h.0 h.1 refl (leaves_behind _ (h.0 ++ h.1) h.2 placed) in
    listed_all (IsExpression limits depth) _ (AtPlacesOf Holds) (λ e l. expression_placed Holds limits depth e l) arguments h.4.2 h.4.4 (leaves_between _ _ _ h.1 h.4 back)

clocks_placed : (Holds : Span → Type 0) (limits : Limits) (depth : ℕ) (operands : List Expression) (leaves : List Leaf) → IsClockEquation limits depth operands leaves → AllLeaves (StandsAt Holds) leaves → AllByRecursion (AtPlacesOf Holds) operands
clocks_placed Holds limits depth (e ∷ f ∷ others) leaves h placed = separated_all (IsExpression limits depth) _ (AtPlacesOf Holds) (λ x l. expression_placed Holds limits depth x l) (e ∷ f ∷ others) leaves h.0 placed
clocks_placed Holds limits depth _ leaves h placed = elim h [ ]

mutual
  body_placed : (Holds : Span → Type 0) (limits : Limits) (body : Equations) (depth : ℕ) (leaves : List Leaf) → IsBody limits body depth leaves → AllLeaves (StandsAt Holds) leaves → AllByRecursion (IsPlaced Holds) (equations_in body)
  body_placed Holds limits (Together bodies) depth leaves h placed = bodies_placed Holds limits bodies (suc depth) h.1.2 h.1.4 (leaves_between _ _ _ leaves h.1 placed)
  body_placed Holds limits (Defines names right) depth leaves h placed = (
    (left_placed Holds limits depth names h.1 h.4 (leaves_left h.1 _ h.3 placed), right_placed Holds limits depth right h.2 h.5 (leaves_behind _ h.2 refl (leaves_right h.1 _ h.3 placed))),
    tt,
  )
  body_placed Holds limits (Equal operands) depth leaves h placed = (clocks_placed Holds limits depth operands leaves h placed, tt)

  bodies_placed : (Holds : Span → Type 0) (limits : Limits) (bodies : Bodies) (depth : ℕ) (leaves : List Leaf) → AreBodies limits bodies depth leaves → AllLeaves (StandsAt Holds) leaves → AllByRecursion (IsPlaced Holds) (equations_inside bodies)
  bodies_placed Holds limits no_body depth leaves h placed = tt
  bodies_placed Holds limits (more_bodies body rest) depth leaves h placed =
      all_both (IsPlaced Holds) (equations_in body) (equations_inside rest) (body_placed Holds limits body depth h.0 h.3 (leaves_left h.0 h.1 h.2 placed)) (further_placed Holds limits rest depth h.1 h.4 (leaves_right h.0 h.1 h.2 placed))

  further_placed : (Holds : Span → Type 0) (limits : Limits) (bodies : Bodies) (depth : ℕ) (leaves : List Leaf) → AreFurtherBodies limits bodies depth leaves → AllLeaves (StandsAt Holds) leaves → AllByRecursion (IsPlaced Holds) (equations_inside bodies)
  further_placed Holds limits no_body depth leaves h placed = tt
  further_placed Holds limits (more_bodies body rest) depth leaves h placed =
      let inside = leaves_behind _ (h.1 ++ h.2) h.3 placed in
      all_both (IsPlaced Holds) (equations_in body) (equations_inside rest) (body_placed Holds limits body depth h.1 h.4 (leaves_left h.1 h.2 refl inside)) (further_placed Holds limits rest depth h.2 h.5 (leaves_right h.1 h.2 refl inside))

mutual
  model_placed : (Holds : Span → Type 0) (limits : Limits) (model : ProcessModel) (depth : ℕ) (leaves : List Leaf) → IsModel limits model depth leaves → AllLeaves (StandsAt Holds) leaves → AllByRecursion (HasPlacedEquations Holds) (with_inner model)
  model_placed Holds limits (Modelled heading pragmas body locals inner) depth leaves h placed =
      let after = leaves_behind _ _ refl (leaves_behind _ _ refl (leaves_behind _ _ h.8 placed)) in
      let behind = leaves_right h.5 _ refl (leaves_right h.4 _ refl (leaves_right h.3 _ refl after)) in
      let where_part = leaves_left h.7 _ refl (leaves_right h.6 _ refl behind) in (
        body_placed Holds limits body depth h.6 h.12 (leaves_left h.6 _ refl behind),
        elim h.13 [
          | inl none ↦ subst (λ i. AllByRecursion (HasPlacedEquations Holds) (those_inner i)) (sym none.1) tt
          | inr some ↦ those_placed Holds limits inner depth locals some.2 some.4 (leaves_between _ _ _ h.7 some where_part)
        ],
      )

  those_placed : (Holds : Span → Type 0) (limits : Limits) (inner : ProcessModels) (depth : ℕ) (groups : List Declared) (leaves : List Leaf) → AreLocals limits inner depth groups leaves → AllLeaves (StandsAt Holds) leaves → AllByRecursion (HasPlacedEquations Holds) (those_inner inner)
  those_placed Holds limits no_model depth groups leaves h placed = tt
  those_placed Holds limits (more_models model rest) depth groups leaves h placed =
      let behind = leaves_right h.2 (h.3 ++ h.4) h.6 placed in
      all_both (HasPlacedEquations Holds) (with_inner model) (those_inner rest)
      (model_placed Holds limits model (suc depth) h.3 h.8.1 (leaves_left h.3 h.4 refl behind))
      (those_placed Holds limits rest depth h.1 h.4 h.9 (leaves_right h.3 h.4 refl behind))

each_placed : (Holds : Span → Type 0) (limits : Limits) (ps : List ProcessModel) (leaves : List Leaf) → Each (λ p. IsModel limits p 0) ps leaves → AllLeaves (StandsAt Holds) leaves → AllByRecursion (HasPlacedEquations Holds) (flat_map with_inner ps)
each_placed Holds limits [] leaves h placed = tt
each_placed Holds limits (p ∷ ps) leaves h placed =
    all_both (HasPlacedEquations Holds) (with_inner p) (flat_map with_inner ps) (model_placed Holds limits p 0 h.0 h.3 (leaves_left h.0 h.1 h.2 placed)) (each_placed Holds limits ps h.1 h.4 (leaves_right h.0 h.1 h.2 placed))

-- the signals that a process declares
item_placed : (Holds : Span → Type 0) (item : Item) (leaves : List Leaf) → IsItem item leaves → AllLeaves (StandsAt Holds) leaves → Holds item.name.at
item_placed Holds item leaves h placed = (subst (AllByRecursion (StandsAt Holds)) h.1 placed.all).0

-- it holds at the places of a process: in its equations, and where it declares its signals
pub record ArePlaced (Holds : Span → Type 0) (p : ProcessModel) : Type 0 where
  pub equations : HasPlacedEquations Holds p
  pub declared : AllByRecursion (λ (d : Declaration). Holds d.name.at) (signals_declared p)

both_placed : (Holds : Span → Type 0) (ps : List ProcessModel) → AllByRecursion (HasPlacedEquations Holds) ps → AllByRecursion (Declares (StandsAt Holds) (λ n init. Holds n.at)) ps → AllByRecursion (ArePlaced Holds) ps
both_placed Holds [] equations declared = tt
both_placed Holds (p ∷ ps) equations declared = (record { equations = equations.0; declared = declared.0.declared }, both_placed Holds ps equations.1 declared.1)

-- where it holds at the leaves of a text, it holds at the places of its processes
pub all_placed : (Holds : Span → Type 0) (program : List ProcessModel) (leaves : List Leaf) → HasTree leaves program → AllByRecursion (StandsAt Holds) leaves → AllByRecursion (ArePlaced Holds) (all_processes program)
all_placed Holds program leaves tree placed =
    let all : AllLeaves (StandsAt Holds) leaves = record { all = placed } in
    both_placed Holds (all_processes program) (each_placed Holds _ program leaves tree.1 all)
    (each_declares (StandsAt Holds) (λ n init. Holds n.at) (item_placed Holds) _ program leaves tree.1 all)

-- the places of a text
after_within : (text : List ℕ) (n : ℕ) → IsWithin (length text) (place_after (take n text))
after_within text n =
    let front = take n text in
    let few : length front ≤ length text = omega (arith, length-take n text) in
    let lines : count_by (λ b. b == 10) front ≤ length front = count_by-le-length (λ b. b == 10) front in
    let cols : length (after_last (λ b. b == 10) front) ≤ length front = omega (arith, length-drop (length front - suffix_len (λ x. not (x == 10)) front) front) in
    record { line = omega arith; col = omega arith }

leaf_within : (size : ℕ) (at : Span) (o : Option Terminal) → IsWithin size at → AllByRecursion (StandsAt (IsWithin size)) (option_to_list (option_map (λ terminal. leaf terminal at) o))
leaf_within size at None h = tt
leaf_within size at (Some terminal) h = (h, tt)

pub leaves_placed : (text : List ℕ) (tokens : List Token) (i : ℕ) → InOrder text i tokens → AllByRecursion (StandsAt (IsWithin (length text))) (leaves_of text tokens)
leaves_placed text [] i order = tt
leaves_placed text (t ∷ ts) i order =
    all_both (StandsAt (IsWithin (length text))) (option_to_list (leaf_of text t)) (leaves_of text ts)
    (leaf_within (length text) t.at (terminal_of t.kind (text_of text t)) (subst (IsWithin (length text)) (sym order.2) (after_within text t.start)))
    (leaves_placed text ts t.stop order.3)
