-- One reading of names, left and right sides, definitions, clock equations and bodies.
use Rattle.sig_tree.proofs.Common.{◌≡◌, ℕ, ◌++◌, List, [], ◌∷◌, true, false, refl, sym, ap, ◌∙◌, subst, codes, None, inl, inr, ◌⊎◌, arith, Span, Name, Constant, Not, Neg, When as UnaryWhen, Clock, Expression, Named, Computed, Called, Terminal, Leaf, leaf, name, mark, name_leaf, default_level, Limits, Between, Separated, Listed, IsConstant, IsExpression, IsName, IsLeft, AreConstants, AreArguments, IsRight, StartsWith, BeginsConstant, BeginsExpression, StopsBefore, OneReading, ContinuesNothing, ContinuesOptional, ContinuesExpression, ContinuesList, ContinuesEach, ContinuesDefinition}
use Rattle.sig_tree.proofs.ListsThatStop.{stops_smaller}
use Rattle.sig_tree.proofs.Operators.{different, infix_of, no_infix}
use Rattle.sig_tree.proofs.Reader.{closed}
use Rattle.sig_tree.proofs.ReadExpressions.{constant_once, expression_once}
use Rattle.sig_tree.proofs.FirstLeaves.{constant_begins, expression_begins}
use Rattle.sig_tree.proofs.CombinedReadings.{cons_same, append_to, starts_stops, starts_apart, part_at, between_once, separated_once, listed_once}

-- a mark that is no operator behind an operand continues no expression
pub mark_apart : (text : List ℕ) → infix_of (mark text) ≡ None → (level : ℕ) → ContinuesExpression level (mark text) → ⊥
mark_apart text none level (inl is) = no_infix (mark text) none level is
mark_apart text none level (inr (low, inl e)) = cc
mark_apart text none level (inr (low, inr e)) = cc

-- nothing behind a part is any set that holds nothing
pub stops_nothing : (back : List Leaf) → StopsBefore ContinuesNothing back
stops_nothing [] = tt
stops_nothing (l ∷ back) = λ none. none

-- the same first leaf in two sets that have none in common
pub starts_conflict : (Begins Others : Terminal → Type 0) → ((t : Terminal) → Begins t → Others t → ⊥) → (front other_front back other_back : List Leaf)
    → front ++ back ≡ other_front ++ other_back → StartsWith Begins front → StartsWith Others other_front → ⊥
starts_conflict Begins Others apart [] other_front back other_back e starts others = absurd starts
starts_conflict Begins Others apart (l ∷ front) [] back other_back e starts others = absurd others
starts_conflict Begins Others apart (l ∷ front) (m ∷ other_front) back other_back e starts others =
    apart m.terminal (subst (λ (n : Leaf). Begins n.terminal) (cons_same l m (front ++ back) (other_front ++ other_back) e).0 starts) others

abbrev text_of_name : Terminal → List ℕ
text_of_name (name text) = text
text_of_name t = []

pub name_same : (n m : Name) → name_leaf n ≡ name_leaf m → n ≡ m
name_same n m e = λ i. record { text = text_of_name (e i).terminal; at = (e i).at }

pub name_no_mark : (n : Name) (text : List ℕ) (at : Span) (a b : List Leaf) → name_leaf n ∷ a ≡ leaf (mark text) at ∷ b → ⊥
name_no_mark n text at a b e =
    let heads = cons_same _ _ _ _ e in
    let terminals : name n.text ≡ mark text = ap (λ l. l.terminal) heads.0 in
    cc

-- NAME
pub name_once : OneReading IsName ContinuesNothing
name_once n m front other_front back other_back e is other_is stops other_stops =
    let begin : name_leaf n ∷ back ≡ name_leaf m ∷ other_back = ap (λ l. l ++ back) (sym is) ∙ e ∙ ap (λ l. l ++ other_back) other_is in
    let heads = cons_same _ _ _ _ begin in
    (name_same n m heads.0, is ∙ ap (λ l. l ∷ []) heads.0 ∙ sym other_is)

-- NAME { "," NAME }
pub names_once : OneReading (Separated IsName (mark (codes ","))) (ContinuesList (mark (codes ",")) ContinuesNothing)
names_once = separated_once IsName ContinuesNothing name_once (mark (codes ",")) (λ none. none)

closing_names : (text : List ℕ) → (mark text ≡ mark (codes ",") → ⊥) → ContinuesList (mark (codes ",")) ContinuesNothing (mark text) → ⊥
closing_names text apart (inl e) = apart e
closing_names text apart (inr none) = none

left_in_parentheses : OneReading (λ names leaves. Between (mark (codes "(")) (mark (codes ")")) (Separated IsName (mark (codes ",")) names) leaves) ContinuesNothing
left_in_parentheses = between_once (Separated IsName (mark (codes ","))) (ContinuesList (mark (codes ",")) ContinuesNothing) names_once (mark (codes "(")) (mark (codes ")")) (closing_names (codes ")") (different (mark (codes ")")) (mark (codes ",")) refl refl))

-- "{" [ constant { "," constant } ] "}", where a closing brace continues nothing
brace_begins_no_constant : BeginsConstant (mark (codes "}")) → ⊥
brace_begins_no_constant (inl (inl e)) = different (mark (codes "}")) (mark (codes "-")) refl refl e
brace_begins_no_constant (inl (inr (v, e))) = cc
brace_begins_no_constant (inr (inl (true, e))) = cc
brace_begins_no_constant (inr (inl (false, e))) = cc
brace_begins_no_constant (inr (inr (text, e))) = cc

brace_apart : ContinuesEach BeginsConstant (ContinuesList (mark (codes ",")) ContinuesNothing) (mark (codes "}")) → ⊥
brace_apart (inl begins) = brace_begins_no_constant begins
brace_apart (inr continues) = closing_names (codes "}") (different (mark (codes "}")) (mark (codes ",")) refl refl) continues

constants_in_braces : OneReading (λ constants leaves. Between (mark (codes "{")) (mark (codes "}")) (Listed IsConstant (mark (codes ",")) constants) leaves) ContinuesNothing
constants_in_braces =
    between_once (Listed IsConstant (mark (codes ","))) (ContinuesEach BeginsConstant (ContinuesList (mark (codes ",")) ContinuesNothing))
    (listed_once IsConstant ContinuesNothing constant_once BeginsConstant constant_begins (mark (codes ",")) (λ none. none)) (mark (codes "{")) (mark (codes "}")) brace_apart

-- an optional part in brackets, or nothing
pub optional_between : {A : Type 0} (none : A) (Is : A → List Leaf → Type 0) (opening closing : Terminal)
    → OneReading (λ x leaves. Between opening closing (Is x) leaves) ContinuesNothing
    → OneReading (λ x leaves. ((x ≡ none) × (leaves ≡ [])) ⊎ Between opening closing (Is x) leaves) (ContinuesOptional opening)
optional_between none Is opening closing once x y front other_front back other_back e (inl (f, g)) (inl (other_f, other_g)) stops other_stops =
    (f ∙ sym other_f, g ∙ sym other_g)
optional_between none Is opening closing once x y front other_front back other_back e (inl (f, g)) (inr (opened, closed, inside, h, is)) stops other_stops =
    absurd ((subst (λ (l : List Leaf). StopsBefore (ContinuesOptional opening) l) (ap (λ l. l ++ back) (sym g) ∙ e ∙ ap (λ l. l ++ other_back) h) stops) refl)
optional_between none Is opening closing once x y front other_front back other_back e (inr (opened, closed, inside, h, is)) (inl (f, g)) stops other_stops =
    absurd ((subst (λ (l : List Leaf). StopsBefore (ContinuesOptional opening) l) (ap (λ l. l ++ other_back) (sym g) ∙ sym e ∙ ap (λ l. l ++ back) h) other_stops) refl)
optional_between none Is opening closing once x y front other_front back other_back e (inr is) (inr other_is) stops other_stops =
    once x y front other_front back other_back e is other_is (stops_nothing back) (stops_nothing other_back)

pub constants_once : OneReading AreConstants (ContinuesOptional (mark (codes "{")))
constants_once = optional_between [] (Listed IsConstant (mark (codes ","))) (mark (codes "{")) (mark (codes "}")) constants_in_braces

-- what begins the brackets of a call
abbrev pub Opens : Terminal → Type 0
Opens t = (t ≡ mark (codes "(")) ⊎ (t ≡ mark (codes "{"))

pub opens_apart : (t : Terminal) → Opens t → ContinuesExpression default_level t → ⊥
opens_apart t (inl e) continues = mark_apart (codes "(") refl default_level (subst (ContinuesExpression default_level) e continues)
opens_apart t (inr e) continues = mark_apart (codes "{") refl default_level (subst (ContinuesExpression default_level) e continues)

closing_begins_none : (level : ℕ) → BeginsExpression level (mark (codes ")")) → ⊥
closing_begins_none level (inl (inl (Not, e, tight))) = cc
closing_begins_none level (inl (inl (Neg, e, tight))) = different (mark (codes ")")) (mark (codes "-")) refl refl e
closing_begins_none level (inl (inl (UnaryWhen, e, tight))) = cc
closing_begins_none level (inl (inl (Clock, e, tight))) = different (mark (codes ")")) (mark (codes "^")) refl refl e
closing_begins_none level (inl (inr e)) = different (mark (codes ")")) (mark (codes "(")) refl refl e
closing_begins_none level (inr (inl (v, e))) = cc
closing_begins_none level (inr (inr (inl (true, e)))) = cc
closing_begins_none level (inr (inr (inl (false, e)))) = cc
closing_begins_none level (inr (inr (inr (text, e)))) = cc

arguments_apart : ContinuesEach (BeginsExpression default_level) (ContinuesList (mark (codes ",")) (ContinuesExpression default_level)) (mark (codes ")")) → ⊥
arguments_apart (inl begins) = closing_begins_none default_level begins
arguments_apart (inr (inl e)) = different (mark (codes ")")) (mark (codes ",")) refl refl e
arguments_apart (inr (inr continues)) = mark_apart (codes ")") refl default_level continues

module _ (limits : Limits) (depth : ℕ) where
  pub left_once : OneReading (IsLeft limits depth) ContinuesNothing
  left_once x y front other_front back other_back e (inl (n, one, is)) (inl (m, other_one, other_is)) stops other_stops =
      let same = name_once n m front other_front back other_back e is other_is stops other_stops in
      (one ∙ ap (λ n. n ∷ []) same.0 ∙ sym other_one, same.1)
  left_once x y front other_front back other_back e (inl (n, one, is)) (inr (may, (opened, ended, inside, f, other_is))) stops other_stops =
      absurd (name_no_mark n (codes "(") opened back _ (ap (λ l. l ++ back) (sym is) ∙ e ∙ ap (λ l. l ++ other_back) f))
  left_once x y front other_front back other_back e (inr (may, (opened, ended, inside, f, is))) (inl (n, one, other_is)) stops other_stops =
      absurd (name_no_mark n (codes "(") opened other_back _ (ap (λ l. l ++ other_back) (sym other_is) ∙ sym e ∙ ap (λ l. l ++ back) f))
  left_once x y front other_front back other_back e (inr (may, is)) (inr (other_may, other_is)) stops other_stops =
      left_in_parentheses x y front other_front back other_back e is other_is stops other_stops

  pub arguments_once : OneReading (AreArguments limits depth) ContinuesNothing
  arguments_once =
      between_once (Listed (IsExpression limits depth) (mark (codes ","))) (ContinuesEach (BeginsExpression default_level) (ContinuesList (mark (codes ",")) (ContinuesExpression default_level)))
      (listed_once (IsExpression limits depth) (ContinuesExpression default_level) (expression_once limits default_level depth)
      (BeginsExpression default_level) (expression_begins limits default_level depth) (mark (codes ",")) (mark_apart (codes ",") refl default_level))
      (mark (codes "(")) (mark (codes ")")) arguments_apart

  pub named_alone : (n : Name) → IsExpression limits depth (Named n) (name_leaf n ∷ [])
  named_alone n = (0, (omega arith, refl))

  -- the brackets of a call
  pub call_opens : (constants : List Constant) (arguments : List Expression) (front back : List Leaf) → AreConstants constants front → AreArguments limits depth arguments back → StartsWith Opens (front ++ back)
  call_opens constants arguments front back (inl (none, e)) (opened, closed, inside, f, are) =
      subst (λ (l : List Leaf). StartsWith Opens l) (sym (ap (λ l. l ++ back) e ∙ f)) (inl refl)
  call_opens constants arguments front back (inr (opened, closed, inside, e, are)) others =
      subst (λ (l : List Leaf). StartsWith Opens l) (sym (ap (λ l. l ++ back) e)) (inr refl)

  pub call_or_expression : (e : Expression) (n : Name) (front back rest more : List Leaf) → front ++ back ≡ name_leaf n ∷ (rest ++ more) → IsExpression limits depth e front
      → StopsBefore ContinuesDefinition back → StartsWith Opens rest → ⊥
  call_or_expression e n front back rest more same is stops opens =
      let part = part_at (IsExpression limits depth) (ContinuesExpression default_level) e (expression_once limits default_level depth e) (Named n) front (name_leaf n ∷ []) back (rest ++ more) same is (named_alone n)
      (stops_smaller ContinuesDefinition (ContinuesExpression default_level) (λ t continues. inr continues) back stops)
      (starts_apart Opens (ContinuesExpression default_level) rest more opens_apart opens) in
      starts_stops Opens ContinuesDefinition rest more (λ t begins. inl begins) opens (subst (λ (l : List Leaf). StopsBefore ContinuesDefinition l) part.2 stops)

  pub right_once : OneReading (IsRight limits depth) ContinuesDefinition
  right_once (Computed x) (Computed y) front other_front back other_back e is other_is stops other_stops =
      let same = expression_once limits default_level depth x y front other_front back other_back e is other_is
      (stops_smaller ContinuesDefinition (ContinuesExpression default_level) (λ t continues. inr continues) back stops)
      (stops_smaller ContinuesDefinition (ContinuesExpression default_level) (λ t continues. inr continues) other_back other_stops) in
      (ap Computed same.0, same.1)
  right_once (Computed x) (Called n constants arguments) front other_front back other_back e is (first, rest, f, are_constants, are_arguments) stops other_stops =
      absurd (call_or_expression x n front back (first ++ rest) other_back (e ∙ ap (λ l. l ++ other_back) f) is stops (call_opens constants arguments first rest are_constants are_arguments))
  right_once (Called n constants arguments) (Computed y) front other_front back other_back e (first, rest, f, are_constants, are_arguments) is stops other_stops =
      absurd (call_or_expression y n other_front other_back (first ++ rest) back (sym e ∙ ap (λ l. l ++ back) f) is other_stops (call_opens constants arguments first rest are_constants are_arguments))
  right_once (Called n constants arguments) (Called m others other_arguments) front other_front back other_back e
      (first, rest, f, are_constants, are_arguments) (other_first, other_rest, g, are_others, are_other_arguments) stops other_stops =
      let begin : name_leaf n ∷ (first ++ (rest ++ back)) ≡ name_leaf m ∷ (other_first ++ (other_rest ++ other_back)) =
      sym (append_to front (name_leaf n ∷ first) rest back f) ∙ e ∙ append_to other_front (name_leaf m ∷ other_first) other_rest other_back g in
      let heads = cons_same _ _ _ _ begin in
      let names : n ≡ m = name_same n m heads.0 in
      let part = part_at AreConstants (ContinuesOptional (mark (codes "{"))) constants (constants_once constants) others first other_first (rest ++ back) (other_rest ++ other_back) heads.1 are_constants are_others
      (arguments_stop arguments rest back are_arguments) (arguments_stop other_arguments other_rest other_back are_other_arguments) in
      let last = part_at (AreArguments limits depth) ContinuesNothing arguments (arguments_once arguments) other_arguments rest other_rest back other_back part.2 are_arguments are_other_arguments (stops_nothing back) (stops_nothing other_back) in
      let trees : Called n constants arguments ≡ Called m others other_arguments = cc (names, part.0, last.0) in
      let whole : front ≡ other_front = cc (f, g, heads.0, part.1, last.1) in
      (trees, whole)
    where
      arguments_stop : (arguments : List Expression) (rest back : List Leaf) → AreArguments limits depth arguments rest → StopsBefore (ContinuesOptional (mark (codes "{"))) (rest ++ back)
      arguments_stop arguments rest back (opened, closed, inside, h, are) =
          subst (λ (l : List Leaf). StopsBefore (ContinuesOptional (mark (codes "{"))) (l ++ back)) (sym h) (different (mark (codes "(")) (mark (codes "{")) refl refl)
