-- The trees of texts: their numbers are small, the integers among their constants have 64 bits, definitions have
-- left sides, and processes are no longer than the text.
use Rattle.sig_call.proofs.Common.{◌≡◌, ◌≢◌, ◌++◌, ◌+◌, ◌<◌, ◌≤◌, ◌^◌, ℕ, zero, suc, List, [], ◌∷◌, None, Some, Option, length, map, refl, sym, ap, subst, ◌∙◌, inl, inr, arith, codes, length-append, length-map, AllByRecursion, flat_map, option_to_list, option_map, Span, Bounded, IsInteger, Token, TokenKind, NameToken, NumberToken, Last, token_at, InOrder, EndsOnce, Lexeme, lexeme_of, lexemes, text_of, the_end, IsNameText, Spells, IsSpelled, Name, Constant, Int, Item, Expression, Number, Unary, Binary, Delay, Cell, Declared, RightSide, Computed, Called, Equations, Together, Defines, Equal, Bodies, no_body, more_bodies, Heading, ProcessModel, Modelled, ProcessModels, no_model, more_models, Declaration, Role, Input, Output, declared_as, equations_in, equations_inside, equations_of_model, with_inner, those_inner, all_processes, Terminal, name, number, mark, Leaf, leaf, terminal_of, leaf_of, leaves_of, Limits, Each, Further, Separated, Listed, Between, Enclosed, IsBare, IsConstant, IsExpression, IsInit, IsOptionalInit, level_of, AreConstants, IsLeft, IsRight, IsDefinition, IsClockEquation, IsBody, AreBodies, AreFurtherBodies, IsGroup, AreGroups, IsInterface, IsModel, IsProcess, AreLocals, IsPlainItem, IsItem, HasTree, IsBoundedConstant, IsBoundedEquation, IsBoundedInit, IsBoundedRight, HasBoundedInits, IsSmall, IsSmallRight, IsRead, IsTree, IsSized, size_of, weights, all_both}
use Rattle.sig_call.proofs.KindRules.{fits_neg, fits_pos}

-- a leaf's number is small, and its name is spelled as one
abbrev pub SmallTerminal : Terminal → Type 0
SmallTerminal (name text) = IsNameText text
SmallTerminal (number n) = n < 2 ^ 63
SmallTerminal _ = Unit {0}

abbrev pub SmallLeaf : Leaf → Type 0
SmallLeaf l = SmallTerminal l.terminal

-- what holds of each of some leaves
pub record AllLeaves (P : Leaf → Type 0) (leaves : List Leaf) : Type 0 where
  pub all : AllByRecursion P leaves

abbrev pub Small : List Leaf → Type 0
Small leaves = AllLeaves SmallLeaf leaves

all_left : (P : Leaf → Type 0) (xs ys : List Leaf) → AllByRecursion P (xs ++ ys) → AllByRecursion P xs
all_left P [] ys h = tt
all_left P (x ∷ xs) ys h = (h.0, all_left P xs ys h.1)

all_right : (P : Leaf → Type 0) (xs ys : List Leaf) → AllByRecursion P (xs ++ ys) → AllByRecursion P ys
all_right P [] ys h = h
all_right P (x ∷ xs) ys h = all_right P xs ys h.1

pub leaves_left : {P : Leaf → Type 0} {leaves : List Leaf} (xs ys : List Leaf) → leaves ≡ xs ++ ys → AllLeaves P leaves → AllLeaves P xs
leaves_left {P} xs ys is h = record { all = all_left P xs ys (subst (AllByRecursion P) is h.all) }

pub leaves_right : {P : Leaf → Type 0} {leaves : List Leaf} (xs ys : List Leaf) → leaves ≡ xs ++ ys → AllLeaves P leaves → AllLeaves P ys
leaves_right {P} xs ys is h = record { all = all_right P xs ys (subst (AllByRecursion P) is h.all) }

pub leaves_behind : {P : Leaf → Type 0} {leaves : List Leaf} (x : Leaf) (ys : List Leaf) → leaves ≡ x ∷ ys → AllLeaves P leaves → AllLeaves P ys
leaves_behind {P} x ys is h = record { all = (subst (AllByRecursion P) is h.all).1 }

pub leaves_between : {P : Leaf → Type 0} (opening closing : Terminal) (Is : List Leaf → Type 0) (leaves : List Leaf) (b : Between opening closing Is leaves) → AllLeaves P leaves → AllLeaves P b.2
leaves_between opening closing Is leaves b h = leaves_left b.2 _ refl (leaves_behind _ _ b.3 h)

length_between : (opening closing : Terminal) (Is : List Leaf → Type 0) (leaves : List Leaf) (b : Between opening closing Is leaves) → length b.2 ≤ length leaves
length_between opening closing Is leaves b =
    let whole : length leaves ≡ suc (length b.2 + 1) = ap length b.3 ∙ ap suc (length-append b.2 _) in
    omega arith

-- expressions
pub leaves_enclosed : {P : Leaf → Type 0} {Goal : Type 0} (limits : Limits) (level : ℕ) (Bare : ℕ → List Leaf → Type 0) → ((depth : ℕ) (leaves : List Leaf) → Bare depth leaves → AllLeaves P leaves → Goal)
    → (parentheses wanted depth : ℕ) (leaves : List Leaf) → Enclosed limits level Bare parentheses wanted depth leaves → AllLeaves P leaves → Goal
leaves_enclosed limits level Bare then zero wanted depth leaves h small = then depth leaves h.1 small
leaves_enclosed limits level Bare then (suc parentheses) wanted depth leaves h small =
    leaves_enclosed limits level Bare then parentheses _ _ h.1.2 h.1.4 (leaves_between _ _ _ leaves h.1 small)

-- an integer that is written has 64 bits
constant_bounded : (constant : Constant) (leaves : List Leaf) → IsConstant constant leaves → Small leaves → IsBoundedConstant constant
constant_bounded (Int value at) leaves (inl h) small = subst (IsInteger Bounded) (sym h.1) (fits_pos h.0 (subst (AllByRecursion SmallLeaf) h.2 small.all).0)
constant_bounded (Int value at) leaves (inr h) small = subst (IsInteger Bounded) (sym h.2) (fits_neg h.0 (subst (AllByRecursion SmallLeaf) h.3 small.all).1.0)
constant_bounded _ leaves h small = tt

init_bounded : (init : Constant) (leaves : List Leaf) → IsInit init leaves → Small leaves → IsBoundedConstant init
init_bounded init leaves h small = constant_bounded init h.1 h.3 (leaves_behind _ h.1 h.2 small)

pub optional_init_bounded : (init : Option Constant) (leaves : List Leaf) → IsOptionalInit init leaves → Small leaves → IsBoundedInit init
optional_init_bounded None leaves h small = tt
optional_init_bounded (Some init) leaves h small = init_bounded init leaves h small

-- numbers are small, and inits have 64 bits
abbrev IsFine : Expression → Type 0
IsFine e = IsSmall e × HasBoundedInits e

bare_fine : (limits : Limits) (e : Expression) (depth : ℕ) (leaves : List Leaf) → IsBare limits e depth leaves → Small leaves → IsFine e
bare_fine limits (Number value at) depth leaves h small = ((subst (AllByRecursion SmallLeaf) h small.all).0, tt)
bare_fine limits (Unary op operand at) depth leaves h small =
    leaves_enclosed limits (level_of operand) (IsBare limits operand) (bare_fine limits operand) h.3.0 _ _ h.1 h.3.1 (leaves_behind _ h.1 h.2 small)
bare_fine limits (Binary op left right at) depth leaves h small =
    let first = leaves_enclosed limits (level_of left) (IsBare limits left) (bare_fine limits left) h.3.0 _ _ h.0 h.3.1 (leaves_left h.0 _ h.2 small) in
    let second = leaves_enclosed limits (level_of right) (IsBare limits right) (bare_fine limits right) h.4.0 _ _ h.1 h.4.1 (leaves_behind _ h.1 refl (leaves_right h.0 _ h.2 small)) in
    ((first.0, second.0), (first.1, second.1))
bare_fine limits (Delay operand init at) depth leaves h small =
    let inner = leaves_enclosed limits (level_of operand) (IsBare limits operand) (bare_fine limits operand) h.4.0 _ _ h.0 h.4.1 (leaves_left h.0 _ h.3 small) in
    (inner.0, (inner.1, optional_init_bounded init h.2 h.6 (leaves_right h.1 h.2 refl (leaves_behind _ (h.1 ++ h.2) refl (leaves_right h.0 _ h.3 small)))))
bare_fine limits (Cell operand held init at) depth leaves h small =
    let behind = leaves_behind _ (h.1 ++ h.2) refl (leaves_right h.0 _ h.3 small) in
    let first = leaves_enclosed limits (level_of operand) (IsBare limits operand) (bare_fine limits operand) h.4.0 _ _ h.0 h.4.1 (leaves_left h.0 _ h.3 small) in
    let second = leaves_enclosed limits (level_of held) (IsBare limits held) (bare_fine limits held) h.5.0 _ _ h.1 h.5.1 (leaves_left h.1 h.2 refl behind) in
    ((first.0, second.0), (first.1, second.1, init_bounded init h.2 h.6 (leaves_right h.1 h.2 refl behind)))
bare_fine limits _ depth leaves h small = (tt, tt)

expression_fine : (limits : Limits) (depth : ℕ) (e : Expression) (leaves : List Leaf) → IsExpression limits depth e leaves → Small leaves → IsFine e
expression_fine limits depth e leaves h small = leaves_enclosed limits (level_of e) (IsBare limits e) (bare_fine limits e) h.0 _ _ leaves h.1 small

-- so they are in each of some expressions
all_fine : (es : List Expression) → AllByRecursion IsFine es → AllByRecursion IsSmall es × AllByRecursion HasBoundedInits es
all_fine [] h = (tt, tt)
all_fine (e ∷ es) h = let rest = all_fine es h.1 in ((h.0.0, rest.0), (h.0.1, rest.1))

-- what stands several times
pub further_all : {P : Leaf → Type 0} {A : Type 0} (Is : A → List Leaf → Type 0) (separator : Terminal) (Goal : A → Type 0) → ((x : A) (leaves : List Leaf) → Is x leaves → AllLeaves P leaves → Goal x)
    → (xs : List A) (leaves : List Leaf) → Further Is separator xs leaves → AllLeaves P leaves → AllByRecursion Goal xs
further_all Is separator Goal then [] leaves h small = tt
further_all Is separator Goal then (x ∷ xs) leaves h small =
    let rest = leaves_behind _ (h.1 ++ h.2) h.3 small in
    (then x h.1 h.4 (leaves_left h.1 h.2 refl rest), further_all Is separator Goal then xs h.2 h.5 (leaves_right h.1 h.2 refl rest))

pub separated_all : {P : Leaf → Type 0} {A : Type 0} (Is : A → List Leaf → Type 0) (separator : Terminal) (Goal : A → Type 0) → ((x : A) (leaves : List Leaf) → Is x leaves → AllLeaves P leaves → Goal x)
    → (xs : List A) (leaves : List Leaf) → Separated Is separator xs leaves → AllLeaves P leaves → AllByRecursion Goal xs
separated_all Is separator Goal then [] leaves h small = tt
separated_all Is separator Goal then (x ∷ xs) leaves h small = (then x h.0 h.3 (leaves_left h.0 h.1 h.2 small), further_all Is separator Goal then xs h.1 h.4 (leaves_right h.0 h.1 h.2 small))

pub listed_all : {P : Leaf → Type 0} {A : Type 0} (Is : A → List Leaf → Type 0) (separator : Terminal) (Goal : A → Type 0) → ((x : A) (leaves : List Leaf) → Is x leaves → AllLeaves P leaves → Goal x)
    → (xs : List A) (leaves : List Leaf) → Listed Is separator xs leaves → AllLeaves P leaves → AllByRecursion Goal xs
listed_all Is separator Goal then [] leaves h small = tt
listed_all Is separator Goal then (x ∷ xs) leaves h small = separated_all Is separator Goal then (x ∷ xs) leaves h small

-- and how long it is
further_long : {A B : Type 0} (Is : A → List Leaf → Type 0) (separator : Terminal) (of : A → List B) → ((x : A) (leaves : List Leaf) → Is x leaves → length (of x) ≤ length leaves)
    → (xs : List A) (leaves : List Leaf) → Further Is separator xs leaves → length (flat_map of xs) ≤ length leaves
further_long Is separator of then [] leaves h = omega arith
further_long Is separator of then (x ∷ xs) leaves h =
    let here : length (of x) ≤ length h.1 = then x h.1 h.4 in
    let rest : length (flat_map of xs) ≤ length h.2 = further_long Is separator of then xs h.2 h.5 in
    let made : length (of x ++ flat_map of xs) ≡ length (of x) + length (flat_map of xs) = length-append (of x) (flat_map of xs) in
    let whole : length leaves ≡ suc (length h.1 + length h.2) = ap length h.3 ∙ ap suc (length-append h.1 h.2) in
    omega arith

separated_long : {A B : Type 0} (Is : A → List Leaf → Type 0) (separator : Terminal) (of : A → List B) → ((x : A) (leaves : List Leaf) → Is x leaves → length (of x) ≤ length leaves)
    → (xs : List A) (leaves : List Leaf) → Separated Is separator xs leaves → length (flat_map of xs) ≤ length leaves
separated_long Is separator of then [] leaves h = omega arith
separated_long Is separator of then (x ∷ xs) leaves h =
    let here : length (of x) ≤ length h.0 = then x h.0 h.3 in
    let rest : length (flat_map of xs) ≤ length h.1 = further_long Is separator of then xs h.1 h.4 in
    let made : length (of x ++ flat_map of xs) ≡ length (of x) + length (flat_map of xs) = length-append (of x) (flat_map of xs) in
    let whole : length leaves ≡ length h.0 + length h.1 = ap length h.2 ∙ length-append h.0 h.1 in
    omega arith

further_count : {A : Type 0} (Is : A → List Leaf → Type 0) (separator : Terminal) (xs : List A) (leaves : List Leaf) → Further Is separator xs leaves → length xs ≤ length leaves
further_count Is separator [] leaves h = omega arith
further_count Is separator (x ∷ xs) leaves h =
    let rest : length xs ≤ length h.2 = further_count Is separator xs h.2 h.5 in
    let whole : length leaves ≡ suc (length h.1 + length h.2) = ap length h.3 ∙ ap suc (length-append h.1 h.2) in
    omega arith

pub weights_append : (xs ys : List Equations) → weights (xs ++ ys) ≡ weights xs + weights ys
weights_append [] ys = omega arith
weights_append (x ∷ xs) ys = let rest = weights_append xs ys in omega arith

-- bodies: their equations are read, and no more than the leaves
record ReadBody (equations : List Equations) (leaves : List Leaf) : Type 0 where
  read : AllByRecursion IsRead equations
  bounded : AllByRecursion IsBoundedEquation equations
  few : weights equations ≤ length leaves

left_some : (limits : Limits) (depth : ℕ) (names : List Name) (leaves : List Leaf) → IsLeft limits depth names leaves → names ≢ []
left_some limits depth [] leaves (inl h) = λ e. (let no : [] ≡ h.0 ∷ [] = h.1 in absurd cc)
left_some limits depth [] leaves (inr h) = λ e. absurd h.1.4
left_some limits depth (n ∷ ns) leaves h = λ e. absurd cc

constants_bounded : (constants : List Constant) (leaves : List Leaf) → AreConstants constants leaves → Small leaves → AllByRecursion IsBoundedConstant constants
constants_bounded constants leaves (inl none) small = subst (AllByRecursion IsBoundedConstant) (sym none.0) tt
constants_bounded constants leaves (inr h) small = listed_all IsConstant _ IsBoundedConstant constant_bounded constants h.2 h.4 (leaves_between _ _ _ leaves h small)

right_fine : (limits : Limits) (depth : ℕ) (right : RightSide) (leaves : List Leaf) → IsRight limits depth right leaves → Small leaves → IsSmallRight right × IsBoundedRight right
right_fine limits depth (Computed e) leaves h small = expression_fine limits depth e leaves h small
right_fine limits depth (Called n constants arguments) leaves h small =
    let inside = leaves_behind _ (h.0 ++ h.1) h.2 small in
    let fine = all_fine arguments (listed_all (IsExpression limits depth) _ IsFine (λ e l. expression_fine limits depth e l) arguments h.4.2 h.4.4 (leaves_between _ _ _ h.1 h.4 (leaves_right h.0 h.1 refl inside))) in
    (fine.0, (constants_bounded constants h.0 h.3 (leaves_left h.0 h.1 refl inside), fine.1))

definition_read : (limits : Limits) (depth : ℕ) (names : List Name) (right : RightSide) (leaves : List Leaf) → IsDefinition limits depth names right leaves → Small leaves → ReadBody (Defines names right ∷ []) leaves
definition_read limits depth names right leaves h small =
    let fine = right_fine limits depth right h.2 h.5 (leaves_behind _ h.2 refl (leaves_right h.1 _ h.3 small)) in
    record {
      read = ((left_some limits depth names h.1 h.4, fine.0), tt);
      bounded = (fine.1, tt);
      few = let whole : length leaves ≡ length h.1 + suc (length h.2) = ap length h.3 ∙ length-append h.1 _ in omega arith;
    }

clocks_read : (limits : Limits) (depth : ℕ) (operands : List Expression) (leaves : List Leaf) → IsClockEquation limits depth operands leaves → Small leaves → ReadBody (Equal operands ∷ []) leaves
clocks_read limits depth (e ∷ f ∷ others) leaves h small =
    let fine = all_fine (e ∷ f ∷ others) (separated_all (IsExpression limits depth) _ IsFine (λ x l. expression_fine limits depth x l) (e ∷ f ∷ others) leaves h.0 small) in
    record {
      read = (fine.0, tt);
      bounded = (fine.1, tt);
      few = let others_few : length (f ∷ others) ≤ length h.0.1 = further_count (IsExpression limits depth) _ (f ∷ others) h.0.1 h.0.4 in
          let whole : length leaves ≡ length h.0.0 + length h.0.1 = ap length h.0.2 ∙ length-append h.0.0 h.0.1 in
          omega arith;
    }
clocks_read limits depth _ leaves h small = elim h [ ]

both_read : {xs ys : List Equations} {front back leaves : List Leaf} → ReadBody xs front → ReadBody ys back → length front + length back ≤ length leaves → ReadBody (xs ++ ys) leaves
both_read {xs} {ys} {front} {back} {leaves} h k within = record {
  read = all_both IsRead xs ys h.read k.read;
  bounded = all_both IsBoundedEquation xs ys h.bounded k.bounded;
  few = let first : weights xs ≤ length front = h.few in
      let second : weights ys ≤ length back = k.few in
      let whole : weights (xs ++ ys) ≡ weights xs + weights ys = weights_append xs ys in
      omega arith;
}

longer : {xs : List Equations} {inside leaves : List Leaf} → ReadBody xs inside → length inside ≤ length leaves → ReadBody xs leaves
longer {xs} {inside} {leaves} h within = record { read = h.read; bounded = h.bounded; few = (let first : weights xs ≤ length inside = h.few in omega arith) }

mutual
  body_read : (limits : Limits) (body : Equations) (depth : ℕ) (leaves : List Leaf) → IsBody limits body depth leaves → Small leaves → ReadBody (equations_in body) leaves
  body_read limits (Together bodies) depth leaves h small =
      longer (bodies_read limits bodies (suc depth) h.1.2 h.1.4 (leaves_between _ _ _ leaves h.1 small)) (length_between _ _ _ leaves h.1)
  body_read limits (Defines names right) depth leaves h small = definition_read limits depth names right leaves h small
  body_read limits (Equal operands) depth leaves h small = clocks_read limits depth operands leaves h small

  bodies_read : (limits : Limits) (bodies : Bodies) (depth : ℕ) (leaves : List Leaf) → AreBodies limits bodies depth leaves → Small leaves → ReadBody (equations_inside bodies) leaves
  bodies_read limits no_body depth leaves h small = record { read = tt; bounded = tt; few = omega arith }
  bodies_read limits (more_bodies body rest) depth leaves h small =
      both_read (body_read limits body depth h.0 h.3 (leaves_left h.0 h.1 h.2 small)) (further_read limits rest depth h.1 h.4 (leaves_right h.0 h.1 h.2 small))
      (let whole : length leaves ≡ length h.0 + length h.1 = ap length h.2 ∙ length-append h.0 h.1 in omega arith)

  further_read : (limits : Limits) (bodies : Bodies) (depth : ℕ) (leaves : List Leaf) → AreFurtherBodies limits bodies depth leaves → Small leaves → ReadBody (equations_inside bodies) leaves
  further_read limits no_body depth leaves h small = record { read = tt; bounded = tt; few = omega arith }
  further_read limits (more_bodies body rest) depth leaves h small =
      let inside = leaves_behind _ (h.1 ++ h.2) h.3 small in
      both_read (body_read limits body depth h.1 h.4 (leaves_left h.1 h.2 refl inside)) (further_read limits rest depth h.2 h.5 (leaves_right h.1 h.2 refl inside))
      (let whole : length leaves ≡ suc (length h.1 + length h.2) = ap length h.3 ∙ ap suc (length-append h.1 h.2) in omega arith)

-- interfaces: their names are no more than the leaves
separated_count : {A : Type 0} (Is : A → List Leaf → Type 0) (separator : Terminal) (xs : List A) (leaves : List Leaf) → Separated Is separator xs leaves → length xs ≤ suc (length leaves)
separated_count Is separator [] leaves h = omega arith
separated_count Is separator (x ∷ xs) leaves h =
    let rest : length xs ≤ length h.1 = further_count Is separator xs h.1 h.4 in
    let whole : length leaves ≡ length h.0 + length h.1 = ap length h.2 ∙ length-append h.0 h.1 in
    omega arith

group_count : (IsOne : Item → List Leaf → Type 0) (group : Declared) (leaves : List Leaf) → IsGroup IsOne group leaves → length group.items ≤ length leaves
group_count IsOne group leaves h =
    let items : length group.items ≤ suc (length h.1) = separated_count IsOne _ group.items h.1 h.3 in
    let whole : length leaves ≡ suc (length h.1) = ap length h.2 in
    omega arith

abbrev items_of : Role → Declared → List Declaration
items_of role group = map (λ item. record { name = item.name; kind = group.kind; role = role; init = item.init }) group.items

groups_count : (role : Role) (IsOne : Item → List Leaf → Type 0) (groups : List Declared) (leaves : List Leaf) → AreGroups (IsGroup IsOne) groups leaves → length (declared_as role groups) ≤ length leaves
groups_count role IsOne [] leaves h = omega arith
groups_count role IsOne (g ∷ gs) leaves h =
    let some : length (declared_as role (g ∷ gs)) ≤ length h.0 = separated_long (IsGroup IsOne) _ (items_of role) (λ group l is. (let items : length group.items ≤ length l = group_count IsOne group l is in let same : length (items_of role group) ≡ length group.items = length-map group.items _ in omega arith)) (g ∷ gs) h.0 h.3 in
    let whole : length leaves ≡ length h.0 + length h.1 = ap length h.2 ∙ length-append h.0 h.1 in
    omega arith

interface_count : (inputs outputs : List Declared) (leaves : List Leaf) → IsInterface inputs outputs leaves → length (declared_as Input inputs) + length (declared_as Output outputs) ≤ length leaves
interface_count inputs outputs leaves h =
    let parts = h.4 in
    let first : length (declared_as Input inputs) ≤ length parts.2 = groups_count Input IsPlainItem inputs parts.2 parts.5 in
    let second : length (declared_as Output outputs) ≤ length parts.3 = groups_count Output IsItem outputs parts.3 parts.6 in
    let inside : length h.2 ≡ suc (length parts.2 + suc (length parts.3)) = ap length parts.4 ∙ ap suc (length-append parts.2 _) in
    let within : length h.2 ≤ length leaves = length_between _ _ _ leaves h in
    omega arith

-- processes
abbrev pub HasBoundedEquations : ProcessModel → Type 0
HasBoundedEquations p = AllByRecursion IsBoundedEquation (equations_of_model p)

record FineProcess (size : ℕ) (p : ProcessModel) : Type 0 where
  read : AllByRecursion IsRead (equations_of_model p)
  bounded : AllByRecursion IsBoundedEquation (equations_of_model p)
  few : size_of p ≤ size

-- the parts of a process are no longer than it
process_length : (limits : Limits) (depth : ℕ) (heading : Heading) (body : Equations) (IsWherePart : List Leaf → Type 0) (leaves : List Leaf) {pragmas : _} (h : IsProcess limits depth heading pragmas body IsWherePart leaves)
    → length h.4 + (length h.6 + length h.7) ≤ length leaves
process_length limits depth heading body IsWherePart leaves h =
    let last = leaf (mark (codes ";")) h.2 ∷ [] in
    let e0 : length (h.3 ++ (h.4 ++ (h.5 ++ (h.6 ++ (h.7 ++ last))))) ≡ length h.3 + length (h.4 ++ (h.5 ++ (h.6 ++ (h.7 ++ last)))) = length-append h.3 (h.4 ++ (h.5 ++ (h.6 ++ (h.7 ++ last)))) in
    let e1 : length (h.4 ++ (h.5 ++ (h.6 ++ (h.7 ++ last)))) ≡ length h.4 + length (h.5 ++ (h.6 ++ (h.7 ++ last))) = length-append h.4 (h.5 ++ (h.6 ++ (h.7 ++ last))) in
    let e2 : length (h.5 ++ (h.6 ++ (h.7 ++ last))) ≡ length h.5 + length (h.6 ++ (h.7 ++ last)) = length-append h.5 (h.6 ++ (h.7 ++ last)) in
    let e3 : length (h.6 ++ (h.7 ++ last)) ≡ length h.6 + length (h.7 ++ last) = length-append h.6 (h.7 ++ last) in
    let e4 : length (h.7 ++ last) ≡ length h.7 + length last = length-append h.7 last in
    let whole : length leaves ≡ suc (suc (suc (length (h.3 ++ (h.4 ++ (h.5 ++ (h.6 ++ (h.7 ++ last)))))))) = ap length h.8 in
    omega arith

mutual
  model_fine : (limits : Limits) (model : ProcessModel) (depth : ℕ) (leaves : List Leaf) (size : ℕ) → IsModel limits model depth leaves → Small leaves → length leaves ≤ size → AllByRecursion (FineProcess size) (with_inner model)
  model_fine limits (Modelled heading pragmas body locals inner) depth leaves size h small within =
      let parts : length h.4 + (length h.6 + length h.7) ≤ length leaves = process_length limits depth heading body _ leaves h in
      let after = leaves_behind _ _ refl (leaves_behind _ _ refl (leaves_behind _ _ h.8 small)) in
      let placed = leaves_right h.5 _ refl (leaves_right h.4 _ refl (leaves_right h.3 _ refl after)) in
      let equations = body_read limits body depth h.6 h.12 (leaves_left h.6 _ refl placed) in
      let where_part = leaves_left h.7 _ refl (leaves_right h.6 _ refl placed) in
      let few : weights (equations_in body) ≤ length h.6 = equations.few in
      let interface : length (declared_as Input heading.inputs) + length (declared_as Output heading.outputs) ≤ length h.4 = interface_count heading.inputs heading.outputs h.4 h.10 in (
        record { read = equations.read; bounded = equations.bounded; few = omega arith },
        elim h.13 [
          | inl none ↦ subst (λ i. AllByRecursion (FineProcess size) (those_inner i)) (sym none.1) tt
          | inr some ↦ those_fine limits inner depth locals some.2 size some.4 (leaves_between _ _ _ h.7 some where_part)
              (let inside : length some.2 ≤ length h.7 = length_between _ _ _ h.7 some in omega arith)
        ],
      )

  those_fine : (limits : Limits) (inner : ProcessModels) (depth : ℕ) (groups : List Declared) (leaves : List Leaf) (size : ℕ) → AreLocals limits inner depth groups leaves → Small leaves → length leaves ≤ size → AllByRecursion (FineProcess size) (those_inner inner)
  those_fine limits no_model depth groups leaves size h small within = tt
  those_fine limits (more_models model rest) depth groups leaves size h small within =
      let whole : length leaves ≡ length h.2 + (length h.3 + length h.4) = ap length h.6 ∙ length-append h.2 (h.3 ++ h.4) ∙ ap (λ n. length h.2 + n) (length-append h.3 h.4) in
      let behind = leaves_right h.2 (h.3 ++ h.4) h.6 small in
      all_both (FineProcess size) (with_inner model) (those_inner rest)
      (model_fine limits model (suc depth) h.3 size h.8.1 (leaves_left h.3 h.4 refl behind) (omega arith))
      (those_fine limits rest depth h.1 h.4 size h.9 (leaves_right h.3 h.4 refl behind) (omega arith))

each_fine : (limits : Limits) (ps : List ProcessModel) (leaves : List Leaf) (size : ℕ) → Each (λ p. IsModel limits p 0) ps leaves → Small leaves → length leaves ≤ size → AllByRecursion (FineProcess size) (flat_map with_inner ps)
each_fine limits [] leaves size h small within = tt
each_fine limits (p ∷ ps) leaves size h small within =
    let whole : length leaves ≡ length h.0 + length h.1 = ap length h.2 ∙ length-append h.0 h.1 in
    all_both (FineProcess size) (with_inner p) (flat_map with_inner ps)
    (model_fine limits p 0 h.0 size h.3 (leaves_left h.0 h.1 h.2 small) (omega arith))
    (each_fine limits ps h.1 size h.4 (leaves_right h.0 h.1 h.2 small) (omega arith))

-- tokens
terminal_small : (kind : TokenKind) (bytes : List ℕ) (at : Span) → Spells kind bytes → AllByRecursion SmallLeaf (option_to_list (option_map (λ terminal. leaf terminal at) (terminal_of kind bytes)))
terminal_small NameToken bytes at spelled = (spelled.0, tt)
terminal_small (NumberToken value) bytes at spelled = ((let low : value ≤ 9223372036854775807 = spelled.not_above in omega arith), tt)
terminal_small Last bytes at spelled = elim spelled [ ]
terminal_small _ bytes at spelled = (tt, tt)

no_leaf : (kind : TokenKind) (bytes : List ℕ) (at : Span) → kind ≡ Last → AllByRecursion SmallLeaf (option_to_list (option_map (λ terminal. leaf terminal at) (terminal_of kind bytes)))
no_leaf kind bytes at is = subst (λ (k : TokenKind). AllByRecursion SmallLeaf (option_to_list (option_map (λ terminal. leaf terminal at) (terminal_of k bytes)))) (sym is) tt

leaves_both : (text : List ℕ) (t : Token) (ts : List Token) → AllByRecursion SmallLeaf (option_to_list (leaf_of text t)) → AllByRecursion SmallLeaf (leaves_of text ts) → AllByRecursion SmallLeaf (leaves_of text (t ∷ ts))
leaves_both text t ts h k = all_both SmallLeaf (option_to_list (leaf_of text t)) (leaves_of text ts) h k

none_small : (text : List ℕ) (ts : List Token) → lexemes text ts ≡ [] → AllByRecursion SmallLeaf (leaves_of text ts)
none_small text [] is = tt
none_small text (t ∷ ts) is = absurd cc

pub leaves_small : (text : List ℕ) (tokens : List Token) (words : List Lexeme) → lexemes text tokens ≡ words ++ the_end ∷ [] → AllByRecursion IsSpelled words → AllByRecursion SmallLeaf (leaves_of text tokens)
leaves_small text [] words is spelled = tt
leaves_small text (t ∷ ts) [] is spelled =
    let same : the_end ≡ lexeme_of text t = cc in
    let kind : t.kind ≡ Last = ap (λ (w : Lexeme). w.kind) (sym same) in
    let none : lexemes text ts ≡ [] = cc in
    leaves_both text t ts (no_leaf t.kind (text_of text t) t.at kind) (none_small text ts none)
leaves_small text (t ∷ ts) (w ∷ ws) is spelled =
    let here : lexeme_of text t ≡ w = cc in
    let rest : lexemes text ts ≡ ws ++ the_end ∷ [] = cc in
    leaves_both text t ts (terminal_small t.kind (text_of text t) t.at (subst IsSpelled (sym here) spelled.0)) (leaves_small text ts ws rest spelled.1)

-- a text has no more leaves than bytes
leaf_few : (text : List ℕ) (t : Token) → length (option_to_list (leaf_of text t)) ≤ 1
leaf_few text t = few_of (terminal_of t.kind (text_of text t)) where
  few_of : (o : Option Terminal) → length (option_to_list (option_map (λ terminal. leaf terminal t.at) o)) ≤ 1
  few_of None = omega arith
  few_of (Some terminal) = omega arith

leaves_few : (text : List ℕ) (others : List Token) (i : ℕ) → InOrder text i (others ++ token_at text (length text) Last 0 ∷ []) → AllByRecursion (λ t. (t.kind ≢ Last) × (t.start < t.stop)) others
    → length (leaves_of text (others ++ token_at text (length text) Last 0 ∷ [])) + i ≤ length text
leaves_few text [] i order slices = let start : i ≤ length text = order.0 in omega arith
leaves_few text (t ∷ ts) i order slices =
    let start : i ≤ t.start = order.0 in
    let some : t.start < t.stop = slices.0.1 in
    let rest : length (leaves_of text (ts ++ token_at text (length text) Last 0 ∷ [])) + t.stop ≤ length text = leaves_few text ts t.stop order.3 slices.1 in
    let here : length (option_to_list (leaf_of text t)) ≤ 1 = leaf_few text t in
    let whole : length (leaves_of text (t ∷ (ts ++ token_at text (length text) Last 0 ∷ []))) ≡ length (option_to_list (leaf_of text t)) + length (leaves_of text (ts ++ token_at text (length text) Last 0 ∷ [])) =
    length-append (option_to_list (leaf_of text t)) (leaves_of text (ts ++ token_at text (length text) Last 0 ∷ [])) in
    omega arith

pub leaves_within : (text : List ℕ) (tokens : List Token) → InOrder text 0 tokens → EndsOnce text tokens → length (leaves_of text tokens) ≤ length text
leaves_within text tokens order ends =
    let few : length (leaves_of text (ends.0 ++ token_at text (length text) Last 0 ∷ [])) + 0 ≤ length text = leaves_few text ends.0 0 (subst (InOrder text 0) ends.1 order) ends.2 in
    let same : length (leaves_of text tokens) ≡ length (leaves_of text (ends.0 ++ token_at text (length text) Last 0 ∷ [])) = ap (λ ts. length (leaves_of text ts)) ends.1 in
    omega arith

-- what holds of each process, one by one
all_read : (size : ℕ) (ps : List ProcessModel) → AllByRecursion (FineProcess size) ps → AllByRecursion (λ p. AllByRecursion IsRead (equations_of_model p)) ps
all_read size [] h = tt
all_read size (p ∷ ps) h = (h.0.read, all_read size ps h.1)

all_bounded : (size : ℕ) (ps : List ProcessModel) → AllByRecursion (FineProcess size) ps → AllByRecursion HasBoundedEquations ps
all_bounded size [] h = tt
all_bounded size (p ∷ ps) h = (h.0.bounded, all_bounded size ps h.1)

all_few : (size : ℕ) (ps : List ProcessModel) → AllByRecursion (FineProcess size) ps → AllByRecursion (λ p. size_of p ≤ size) ps
all_few size [] h = tt
all_few size (p ∷ ps) h = (h.0.few, all_few size ps h.1)

-- the tree of a text
pub record TextTree (text : List ℕ) (program : List ProcessModel) : Type 0 where
  pub tree : IsTree program
  pub bounded : AllByRecursion HasBoundedEquations (all_processes program)
  pub sized : IsSized (length text) program

pub tree_of_text : (text : List ℕ) (tokens : List Token) (words : List Lexeme) (program : List ProcessModel) → lexemes text tokens ≡ words ++ the_end ∷ [] → AllByRecursion IsSpelled words
    → InOrder text 0 tokens → EndsOnce text tokens → HasTree (leaves_of text tokens) program → TextTree text program
tree_of_text text tokens words program is spelled order ends tree =
    let fine = each_fine _ program (leaves_of text tokens) (length text) tree.1 (record { all = leaves_small text tokens words is spelled }) (leaves_within text tokens order ends) in
    record {
      tree = record { some = tree.0; equations = all_read (length text) (all_processes program) fine };
      bounded = all_bounded (length text) (all_processes program) fine;
      sized = all_few (length text) (all_processes program) fine;
    }
