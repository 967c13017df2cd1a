-- Expressions from their parts.
use Rattle.sig_parse.proofs.Common.{◌++◌, ◌≤◌, ◌<◌, ℕ, zero, suc, List, [], ◌∷◌, codes, Option, refl, sym, ap, ◌∙◌, append_assoc, arith, Span, Constant, UnOp, BinOp, Expression, Unary, Leaf, leaf, mark, unary_terminal, default_level, primary_level, unary_level, operand_level, right_level, level_of, both_limits, operators, IsInit, IsOptionalInit, IsOptionalOne, Enclosed, IsBare, IsAtLevel, Infix, Binary as BinaryOp, Cell as CellOp, Delay as DelayOp, State, Reads, IsLeaf, infix_terminal, infix_level, infix_left, Completes}
use Rattle.sig_tree.specs.Syntax.{Binary, Delay, Cell}

enclosed_looser : (level : ℕ) (Is : ℕ → List Leaf → Type 0) (parentheses v w depth : ℕ) (ls : List Leaf) → v ≤ w
    → Enclosed both_limits level Is parentheses w depth ls → Enclosed both_limits level Is parentheses v depth ls
enclosed_looser level Is zero v w depth ls le h = (omega (arith, h.0), h.1)
enclosed_looser level Is (suc parentheses) v w depth ls le h = h

-- an expression that is tight enough for a level is so for a looser one
pub looser : (e : Expression) (v w depth : ℕ) (ls : List Leaf) → v ≤ w → IsAtLevel both_limits w depth e ls → IsAtLevel both_limits v depth e ls
looser e v w depth ls le h = (h.0, enclosed_looser (level_of e) (IsBare both_limits e) h.0 v w depth ls le h.1)

pub parenthesised : (e : Expression) (w depth : ℕ) (inner : List Leaf) (opened closed : Span) → depth < 64
    → IsAtLevel both_limits default_level (suc depth) e inner
    → IsAtLevel both_limits w depth e (leaf (mark (codes "(")) opened ∷ (inner ++ leaf (mark (codes ")")) closed ∷ []))
parenthesised e w depth inner opened closed lt h = (suc h.0, ((λ _. lt), (opened, closed, inner, refl, h.1)))

pub unary : (op : UnOp) (e : Expression) (at : Span) (depth : ℕ) (rest : List Leaf) → depth < 64
    → IsAtLevel both_limits (operand_level op) (suc depth) e rest
    → IsAtLevel both_limits (unary_level op) depth (Unary op e at) (leaf (unary_terminal op) at ∷ rest)
unary op e at depth rest lt h = (zero, (omega arith, ((λ _. lt), rest, refl, h)))

pub completes_binary : (op : BinOp) (left right : Expression) (at : Span) (depth : ℕ) {s t : State}
    → Reads (IsAtLevel both_limits (right_level op) depth right) (operators right) s t
    → Completes depth left (BinaryOp op) at (Binary op left right at) s t
completes_binary op left right at depth r = record {
  back = r.front;
  split = r.split;
  stands = λ front l. (zero, (omega arith, (front, r.front, refl, l, r.is)));
  count = operators right;
  operators_are = omega arith;
  counted = r.counted;
  few = r.few;
}

pub completes_cell : (left held : Expression) (init : Constant) (at : Span) (depth : ℕ) {s t u : State}
    → Reads (IsAtLevel both_limits primary_level depth held) (operators held) s t → Reads (IsInit init) 0 t u
    → Completes depth left CellOp at (Cell left held init at) s u
completes_cell left held init at depth {s} {t} {u} r q = record {
  back = r.front ++ q.front;
  split = r.split ∙ ap (λ ls. r.front ++ ls) q.split ∙ sym (append_assoc r.front q.front u.leaves);
  stands = λ front l. (zero, (omega arith, (front, r.front, q.front, refl, l, r.is, q.is)));
  count = operators held;
  operators_are = omega arith;
  counted = omega (arith, r.counted, q.counted);
  few = λ h. q.few (r.few h);
}

pub completes_delay : (left : Expression) (init : Option Constant) (at : Span) (depth : ℕ) {s t u : State}
    → Reads IsOptionalOne 0 s t → Reads (IsOptionalInit init) 0 t u
    → Completes depth left DelayOp at (Delay left init at) s u
completes_delay left init at depth {s} {t} {u} r q = record {
  back = r.front ++ q.front;
  split = r.split ∙ ap (λ ls. r.front ++ ls) q.split ∙ sym (append_assoc r.front q.front u.leaves);
  stands = λ front l. (zero, (omega arith, (front, r.front, q.front, refl, l, r.is, q.is)));
  count = 0;
  operators_are = omega arith;
  counted = omega (arith, r.counted, q.counted);
  few = λ h. q.few (r.few h);
}

-- a left operand, an operator, and what completes it
pub completed : (depth : ℕ) (left : Expression) (op : Infix) (at : Span) (e : Expression) {s t u v : State}
    → Reads (IsAtLevel both_limits (infix_left op) depth left) (operators left) s t
    → Reads (IsLeaf (infix_terminal op) at) 1 t u
    → Completes depth left op at e u v
    → Reads (IsAtLevel both_limits (infix_level op) depth e) (operators e) s v
completed depth left op at e {s} {t} {u} {v} r q c = record {
  front = r.front ++ leaf (infix_terminal op) at ∷ c.back;
  split = r.split
      ∙ ap (λ ls. r.front ++ ls) (q.split ∙ ap (λ ls. ls ++ u.leaves) q.is ∙ ap (λ ls. leaf (infix_terminal op) at ∷ ls) c.split)
      ∙ sym (append_assoc r.front (leaf (infix_terminal op) at ∷ c.back) v.leaves);
  is = c.stands r.front r.is;
  counted = omega (arith, r.counted, q.counted, c.counted, c.operators_are);
  few = λ h. c.few (q.few (r.few h));
}
