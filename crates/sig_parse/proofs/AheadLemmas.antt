-- What begins a definition begins no clock equation.
use Rattle.sig_parse.proofs.Common.{◌≡◌, ◌++◌, ℕ, suc, zero, List, [], ◌∷◌, true, false, codes, None, inl, inr, refl, sym, ap, ◌∙◌, subst, Span, Name, Expression, Named, Number, Truth, Unary, RightSide, Terminal, Leaf, leaf, name_leaf, name, number, word, mark, default_level, mixed_level, delay_level, level_of, left_level, Limits, no_limits, MayStandInside, IsBare, Enclosed, IsLeft, IsDefinition, IsClockEquation, StartsWith, BeginsExpression, ◌>>=◌, settles_now, settles_next, settles_bind, different, From, Behind, run, closed, expression_read, expression_begins, append_to, mark_apart, named_alone, BeginsDefinition}
use Rattle.sig_tree.specs.Syntax.{Binary, Delay, Cell}
use Rattle.sig_tree.proofs.SettledFunctions.{Settles}

abbrev opening : Terminal
opening = mark (codes "(")

-- an expression that begins with a parenthesis stands where one may
module _ (limits : Limits) where
  opens_of : (leaves front back : List Leaf) → leaves ≡ front ++ back → StartsWith (λ t. t ≡ opening) leaves → (Begins : Terminal → Type 0) → StartsWith Begins front → StartsWith (λ t. t ≡ opening) front
  opens_of leaves [] back e opens Begins starts = absurd starts
  opens_of leaves (l ∷ front) back e opens Begins starts = subst (λ (ls : List Leaf). StartsWith (λ t. t ≡ opening) ls) e opens

  enclosed_opens : (e : Expression) → ((depth : ℕ) (leaves : List Leaf) → IsBare limits e depth leaves → StartsWith (λ t. t ≡ opening) leaves → MayStandInside limits depth)
      → (parentheses wanted depth : ℕ) (leaves : List Leaf) → Enclosed limits (level_of e) (IsBare limits e) parentheses wanted depth leaves → StartsWith (λ t. t ≡ opening) leaves → MayStandInside limits depth
  enclosed_opens e bare zero wanted depth leaves (tight, is) opens = bare depth leaves is opens
  enclosed_opens e bare (suc parentheses) wanted depth leaves (may, is) opens = may

  not_opening : (t : Terminal) (at : Span) (leaves rest : List Leaf) → (t ≡ opening → ⊥) → leaves ≡ leaf t at ∷ rest → StartsWith (λ s. s ≡ opening) leaves → ⊥
  not_opening t at leaves rest apart e opens = apart (subst (λ (ls : List Leaf). StartsWith (λ s. s ≡ opening) ls) e opens)

  bare_opens : (e : Expression) (depth : ℕ) (leaves : List Leaf) → IsBare limits e depth leaves → StartsWith (λ t. t ≡ opening) leaves → MayStandInside limits depth
  bare_opens (Named n) depth leaves is opens = absurd (not_opening (name n.text) n.at leaves [] (λ e. cc) is opens)
  bare_opens (Number v at) depth leaves is opens = absurd (not_opening (number v) at leaves [] (λ e. cc) is opens)
  bare_opens (Truth true at) depth leaves is opens = absurd (not_opening (word (codes "true")) at leaves [] (λ e. cc) is opens)
  bare_opens (Truth false at) depth leaves is opens = absurd (not_opening (word (codes "false")) at leaves [] (λ e. cc) is opens)
  bare_opens (Unary op operand at) depth leaves (may, rest, e, is) opens = may
  bare_opens (Binary op left right at) depth leaves (front, back, e, (p, is_left), is_right) opens =
      enclosed_opens left (bare_opens left) p (left_level op) depth front is_left
      (opens_of leaves front _ e opens (BeginsExpression (left_level op)) (expression_begins limits (left_level op) depth left front (p, is_left)))
  bare_opens (Delay operand init at) depth leaves (front, one, back, e, (p, is), is_one, is_init) opens =
      enclosed_opens operand (bare_opens operand) p delay_level depth front is
      (opens_of leaves front _ e opens (BeginsExpression delay_level) (expression_begins limits delay_level depth operand front (p, is)))
  bare_opens (Cell operand held init at) depth leaves (front, middle, back, e, (p, is), is_held, is_init) opens =
      enclosed_opens operand (bare_opens operand) p mixed_level depth front is
      (opens_of leaves front _ e opens (BeginsExpression mixed_level) (expression_begins limits mixed_level depth operand front (p, is)))

  pub clock_opens : (depth : ℕ) (xs : List Expression) (leaves : List Leaf) → IsClockEquation limits depth xs leaves → StartsWith (λ t. t ≡ opening) leaves → MayStandInside limits depth
  clock_opens depth (x ∷ y ∷ others) leaves ((front, back, e, (p, is), are), few) opens =
      enclosed_opens x (bare_opens x) p default_level depth front is
      (opens_of leaves front back e opens (BeginsExpression default_level) (expression_begins limits default_level depth x front (p, is)))
  clock_opens depth _ leaves is opens = absurd is

  left_opens : (depth : ℕ) (names : List Name) (leaves : List Leaf) → IsLeft limits depth names leaves → StartsWith (λ t. t ≡ opening) leaves → MayStandInside limits depth
  left_opens depth names leaves (inl (n, one, e)) opens = absurd (not_opening (name n.text) n.at leaves [] (λ e. cc) e opens)
  left_opens depth names leaves (inr (may, is)) opens = may

  pub definition_opens : (depth : ℕ) (names : List Name) (right : RightSide) (leaves : List Leaf) → IsDefinition limits depth names right leaves → StartsWith (λ t. t ≡ opening) leaves → MayStandInside limits depth
  definition_opens depth names right leaves (at, front, back, e, is_left, is_right, few) opens =
      left_opens depth names front is_left (opened front e)
    where
      opened : (front : List Leaf) → leaves ≡ front ++ leaf (mark (codes ":=")) at ∷ back → StartsWith (λ t. t ≡ opening) front
      opened [] e = absurd (not_opening (mark (codes ":=")) at leaves back (different (mark (codes ":=")) opening refl refl) e opens)
      opened (l ∷ front) e = subst (λ (ls : List Leaf). StartsWith (λ t. t ≡ opening) ls) e opens

  -- what a definition begins with
  pub definition_ahead : (depth : ℕ) (names : List Name) (right : RightSide) (leaves behind : List Leaf) → IsDefinition limits depth names right leaves → BeginsDefinition (leaves ++ behind)
  definition_ahead depth names right leaves behind (at, front, back, e, is_left, is_right, few) =
      subst BeginsDefinition (sym (append_to leaves front (leaf (mark (codes ":=")) at ∷ back) behind e)) (go names is_left)
    where
      go : (names : List Name) → IsLeft limits depth names front → BeginsDefinition (front ++ leaf (mark (codes ":=")) at ∷ (back ++ behind))
      go names (inl (n, one, f)) = subst (λ (ls : List Leaf). BeginsDefinition (ls ++ leaf (mark (codes ":=")) at ∷ (back ++ behind))) (sym f) (inl ((n.text, refl), refl))
      go [] (inr (may, (opened, ended, inside, f, are))) = absurd are
      go (n ∷ []) (inr (may, (opened, ended, inside, f, (first, others, g, h, k)))) =
          subst (λ (ls : List Leaf). BeginsDefinition (ls ++ leaf (mark (codes ":=")) at ∷ (back ++ behind)))
          (sym (f ∙ ap (λ ls. leaf opening opened ∷ (ls ++ leaf (mark (codes ")")) ended ∷ [])) (g ∙ ap (λ ls. ls ++ others) h ∙ ap (λ ls. name_leaf n ∷ ls) k)))
          (inr (refl, ((n.text, refl), inr (refl, refl))))
      go (n ∷ m ∷ ms) (inr (may, (opened, ended, inside, f, (first, others, g, h, (comma, second, further, k, is_second, are))))) =
          subst (λ (ls : List Leaf). BeginsDefinition (ls ++ leaf (mark (codes ":=")) at ∷ (back ++ behind)))
          (sym (f ∙ ap (λ ls. leaf opening opened ∷ (ls ++ leaf (mark (codes ")")) ended ∷ [])) (g ∙ ap (λ ls. ls ++ others) h ∙ ap (λ ls. name_leaf n ∷ ls) k)))
          (inr (refl, ((n.text, refl), inl refl)))

-- "(" NAME "," begins no expression
pub names_read : (opened at : Span) (n : Name) (rest : List Leaf) → Settles (λ k. run k (From default_level) (leaf opening opened ∷ name_leaf n ∷ leaf (mark (codes ",")) at ∷ rest)) None
names_read opened at n rest =
    let comma = leaf (mark (codes ",")) at in
    settles_next (λ k. run k (From default_level) (name_leaf n ∷ comma ∷ rest) >>= λ r. closed r.1 >>= λ behind. run k (Behind default_level r.0) behind)
    (λ k. run k (From default_level) (leaf opening opened ∷ name_leaf n ∷ comma ∷ rest)) None (λ k. refl)
    (settles_bind (λ k. run k (From default_level) (name_leaf n ∷ comma ∷ rest)) (λ k r. closed r.1 >>= λ behind. run k (Behind default_level r.0) behind) (Named n, comma ∷ rest) None
    (expression_read no_limits (Named n) default_level 0 (name_leaf n ∷ []) (comma ∷ rest) (named_alone no_limits 0 n) (mark_apart (codes ",") refl default_level))
    (settles_now None))

abbrev pub name_of_leaf : Leaf → List ℕ → Name
name_of_leaf l text = record { text = text; at = l.at }

pub leaf_is : (l : Leaf) (t : Terminal) → l.terminal ≡ t → l ≡ leaf t l.at
leaf_is l t e = λ i. record { terminal = e i; at = l.at }
