-- Which operator is next, before an operand or behind one, and whether what is next goes on with a step: each is decided.
use Rattle.sig_parse.proofs.Common.{◌≡◌, ◌≤◌, ◌⊎◌, ℕ, suc, arith, inl, inr, refl, sym, ap, ◌∙◌, Option, None, Some, codes, UnOp, Not, Neg, When, Clock, BinOp, Default, Terminal, number, word, unary_terminal, unary_level, operand_level, right_level, delay_level, TreeInfix, tree_terminal, tree_level, infix_of, infix_seen, infix_stands, no_infix, infix_is, infix_found, Infix, infix_terminal, infix_level, infix_left, first_level, level_number, Level, IsTighter, IsInfix, IsOperatorOf, ContinuesStep, map_dec, dec_both, dec_either, dec_number, dec_le}
use Rattle.sig_tree.specs.Continuing.{IsInfix as StandsBehind}
use Rattle.sig_parse.specs.declared.operator.Level.TheVariants.{Default as DefaultLevel, Mixed, Clock as ClockLevel, Or, And, Not as NotLevel, Relation, Sum, Product, Minus, Delay, Primary}
use Rattle.sig_parse.specs.declared.operator.Infix.TheVariants.{Binary}
use Rattle.sig_parse.proofs.NextLeaf.{dec_terminal}
use Rattle.sig_parse.proofs.OperatorLemmas.{in_tree, same_terminal, same_level, one_operator, from_level, level_from, one_level}

-- ---- operators before an operand

search_unary : (P : UnOp → Type 0) → ((op : UnOp) → Dec (P op)) → Dec ((op : UnOp) × P op)
search_unary P decide = at (decide Not) (decide Neg) (decide When) (decide Clock) where
  none : (P Not → ⊥) → (P Neg → ⊥) → (P When → ⊥) → (P Clock → ⊥) → (op : UnOp) → P op → ⊥
  none a b c d Not is = a is
  none a b c d Neg is = b is
  none a b c d When is = c is
  none a b c d Clock is = d is

  at : Dec (P Not) → Dec (P Neg) → Dec (P When) → Dec (P Clock) → Dec ((op : UnOp) × P op)
  at (yes is) b c d = yes (Not, is)
  at (no a) (yes is) c d = yes (Neg, is)
  at (no a) (no b) (yes is) d = yes (When, is)
  at (no a) (no b) (no c) (yes is) = yes (Clock, is)
  at (no a) (no b) (no c) (no d) = no (λ found. none a b c d found.0 found.1)

pub dec_prefix : (level : ℕ) (t : Terminal) → Dec ((op : UnOp) × ((unary_level op ≡ level) × (t ≡ unary_terminal op)))
dec_prefix level t = search_unary (λ op. (unary_level op ≡ level) × (t ≡ unary_terminal op)) (λ op. dec_both (dec_number (unary_level op) level) (dec_terminal t (unary_terminal op)))

-- ---- operators behind an operand

pub dec_operator : (level : ℕ) (t : Terminal) → Dec (IsOperatorOf level t)
dec_operator level t = at (infix_of t) refl where
  other : (i : TreeInfix) → t ≡ tree_terminal i → (tree_level i ≡ level → ⊥) → IsOperatorOf level t → ⊥
  other i is apart (op, e, own) =
      let found = from_level (tree_level i) t i is refl in
      let same = ap infix_level (one_operator found.0 op (sym found.1 ∙ e)) in
      apart (sym found.2 ∙ same ∙ own)

  by : (i : TreeInfix) → t ≡ tree_terminal i → Dec (tree_level i ≡ level) → Dec (IsOperatorOf level t)
  by i is (yes own) = yes (from_level level t i is own)
  by i is (no apart) = no (other i is apart)

  at : (found : Option TreeInfix) → infix_of t ≡ found → Dec (IsOperatorOf level t)
  at None none = no (λ (op, e, own). no_infix t none level (infix_stands level t (in_tree op) (e ∙ same_terminal op) (let same = same_level op in omega (arith, same, own))))
  at (Some i) is = by i (infix_is t i is) (dec_number (tree_level i) level)

-- the operator, as one of the level
pub infix_at : (level : Level) (op : Infix) → infix_level op ≡ level_number level → IsInfix op level (infix_terminal op)
infix_at level op own = record { terminal_is = refl; level_is = own; left_is = left op (level_from (infix_level op)) (from_number op) ∙ ap first_level (one_level (level_from (infix_level op)) level (from_number op ∙ own)) } where
  from_number : (op : Infix) → level_number (level_from (infix_level op)) ≡ infix_level op
  from_number (Binary Default) = refl
  from_number _ = refl

  left_of : (op : Infix) → infix_left op ≡ first_level (level_from (infix_level op))
  left_of (Binary Default) = refl
  left_of _ = refl

  left : (op : Infix) (l : Level) → level_number l ≡ infix_level op → infix_left op ≡ first_level (level_from (infix_level op))
  left op l e = left_of op

-- ---- what goes on with a step

dec_infix : (level : ℕ) (t : Terminal) → Dec (StandsBehind level t)
dec_infix level t = at (infix_of t) refl where
  other : (i : TreeInfix) → infix_of t ≡ Some i → (level ≤ tree_level i → ⊥) → StandsBehind level t → ⊥
  other i is apart stands =
      let seen = infix_seen level t stands in
      let same : Some i ≡ Some seen.0 = sym is ∙ ap infix_of seen.1 ∙ infix_found seen.0 in
      let one : i ≡ seen.0 = cc in
      let level_same = ap tree_level one in
      apart (omega (arith, level_same, seen.2))

  by : (i : TreeInfix) → infix_of t ≡ Some i → Dec (level ≤ tree_level i) → Dec (StandsBehind level t)
  by i is (yes within) = yes (infix_stands level t i (infix_is t i is) within)
  by i is (no apart) = no (other i is apart)

  at : (found : Option TreeInfix) → infix_of t ≡ found → Dec (StandsBehind level t)
  at None none = no (no_infix t none level)
  at (Some i) is = by i is (dec_le level (tree_level i))

pub dec_step : (level : ℕ) (t : Terminal) → Dec (ContinuesStep level t)
dec_step level t = dec_either (dec_infix (suc level) t) (dec_both (dec_le level delay_level) (dec_either (dec_terminal t (number 1)) (dec_terminal t (word (codes "init")))))

-- ---- levels

-- the next tighter level
pub next_level : (level : Level) → (level ≡ Primary) ⊎ ((next : Level) × IsTighter next level)
next_level DefaultLevel = inr (Mixed, record { next_is = refl; within = omega arith })
next_level Mixed = inr (ClockLevel, record { next_is = refl; within = omega arith })
next_level ClockLevel = inr (Or, record { next_is = refl; within = omega arith })
next_level Or = inr (And, record { next_is = refl; within = omega arith })
next_level And = inr (NotLevel, record { next_is = refl; within = omega arith })
next_level NotLevel = inr (Relation, record { next_is = refl; within = omega arith })
next_level Relation = inr (Sum, record { next_is = refl; within = omega arith })
next_level Sum = inr (Product, record { next_is = refl; within = omega arith })
next_level Product = inr (Minus, record { next_is = refl; within = omega arith })
next_level Minus = inr (Delay, record { next_is = refl; within = omega arith })
next_level Delay = inr (Primary, record { next_is = refl; within = omega arith })
next_level Primary = inl refl

pub right_is : (op : BinOp) → level_number (level_from (right_level op)) ≡ right_level op
right_is Default = refl
right_is _ = refl

pub operand_is : (op : UnOp) → level_number (level_from (operand_level op)) ≡ operand_level op
operand_is Not = refl
operand_is _ = refl

pub dec_relation : (level : Level) → Dec (level ≡ Relation)
dec_relation level = map_dec (λ e. one_level level Relation e) (λ e. ap level_number e) (dec_number (level_number level) (level_number Relation))
