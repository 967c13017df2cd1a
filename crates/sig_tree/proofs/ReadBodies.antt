-- One reading of definitions, clock equations and bodies.
use Rattle.sig_tree.proofs.Common.{◌≡◌, ℕ, suc, ◌++◌, List, [], ◌∷◌, true, false, refl, sym, ap, ◌∙◌, subst, codes, None, Some, inl, inr, arith, Span, Name, Not, Neg, When as UnaryWhen, Clock, Expression, Named, RightSide, Equations, Together, Bodies, no_body, more_bodies, Terminal, Leaf, leaf, mark, name_leaf, default_level, Limits, Separated, IsExpression, IsLeft, IsDefinition, IsClockEquation, IsBody, AreBodies, AreFurtherBodies, StartsWith, BeginsExpression, BeginsLeft, BeginsBody, StopsBefore, OneReading, ContinuesNothing, ContinuesExpression, ContinuesDefinition, ContinuesClockEquation, ContinuesBody, ContinuesFurtherBodies, ContinuesBodies, none-some}
use Rattle.sig_tree.specs.Syntax.{Defines, Equal}
use Rattle.sig_tree.proofs.SettledFunctions.{◌>>=◌, Settles, settles_now, settles_next, settles_bind, settles_once}
use Rattle.sig_tree.proofs.ListsThatStop.{stops_smaller}
use Rattle.sig_tree.proofs.Operators.{different}
use Rattle.sig_tree.proofs.Reader.{From, Behind, run, closed}
use Rattle.sig_tree.proofs.ReadExpressions.{expression_read, expression_once}
use Rattle.sig_tree.proofs.FirstLeaves.{definition_begins, clock_equation_begins, body_begins}
use Rattle.sig_tree.proofs.CombinedReadings.{OneAt, cons_same, append_to, starts_stops, part_at, between_at, separated_once}
use Rattle.sig_tree.proofs.ReadEquations.{mark_apart, stops_nothing, starts_conflict, left_once, right_once, named_alone}

-- a body in brackets is neither of the others
opening_begins_none : (level : ℕ) → BeginsExpression level (mark (codes "(|")) → ⊥
opening_begins_none level (inl (inl (Not, e, tight))) = cc
opening_begins_none level (inl (inl (Neg, e, tight))) = different (mark (codes "(|")) (mark (codes "-")) refl refl e
opening_begins_none level (inl (inl (UnaryWhen, e, tight))) = cc
opening_begins_none level (inl (inl (Clock, e, tight))) = different (mark (codes "(|")) (mark (codes "^")) refl refl e
opening_begins_none level (inl (inr e)) = different (mark (codes "(|")) (mark (codes "(")) refl refl e
opening_begins_none level (inr (inl (v, e))) = cc
opening_begins_none level (inr (inr (inl (true, e)))) = cc
opening_begins_none level (inr (inr (inl (false, e)))) = cc
opening_begins_none level (inr (inr (inr (text, e)))) = cc

left_is_expression : (t : Terminal) → BeginsLeft t → BeginsExpression default_level t
left_is_expression t (inl e) = inl (inr e)
left_is_expression t (inr begins) = inr (inr (inr begins))

pub together_apart : (t : Terminal) → t ≡ mark (codes "(|") → BeginsExpression default_level t → ⊥
together_apart t e begins = opening_begins_none default_level (subst (BeginsExpression default_level) e begins)

module _ (limits : Limits) (depth : ℕ) where
  -- "(" NAME "," begins no expression
  names_read : (opened at : Span) (n : Name) (rest : List Leaf) → Settles (λ k. run k (From default_level) (leaf (mark (codes "(")) opened ∷ name_leaf n ∷ leaf (mark (codes ",")) at ∷ rest)) None
  names_read opened at n rest =
      let comma = leaf (mark (codes ",")) at in
      settles_next (λ k. run k (From default_level) (name_leaf n ∷ comma ∷ rest) >>= λ r. closed r.1 >>= λ behind. run k (Behind default_level r.0) behind)
      (λ k. run k (From default_level) (leaf (mark (codes "(")) opened ∷ name_leaf n ∷ comma ∷ rest)) None (λ k. refl)
      (settles_bind (λ k. run k (From default_level) (name_leaf n ∷ comma ∷ rest)) (λ k r. closed r.1 >>= λ behind. run k (Behind default_level r.0) behind) (Named n, comma ∷ rest) None
      (expression_read limits (Named n) default_level depth (name_leaf n ∷ []) (comma ∷ rest) (named_alone limits depth n) (mark_apart (codes ",") refl default_level))
      (settles_now None))

  -- a left side and ":=" are no expression and "^="
  left_or_expression : (names : List Name) (x : Expression) (front other_front : List Leaf) (at other_at : Span) (rest other_rest : List Leaf)
      → front ++ leaf (mark (codes ":=")) at ∷ rest ≡ other_front ++ leaf (mark (codes "^=")) other_at ∷ other_rest
      → IsLeft limits depth names front → IsExpression limits depth x other_front → ⊥
  left_or_expression names x front other_front at other_at rest other_rest same is other_is = go names is where
    -- where the left side is an expression
    named : (n : Name) → IsExpression limits depth (Named n) front → ⊥
    named n alone =
        let part = part_at (IsExpression limits depth) (ContinuesExpression default_level) (Named n) (expression_once limits default_level depth (Named n)) x front other_front
        (leaf (mark (codes ":=")) at ∷ rest) (leaf (mark (codes "^=")) other_at ∷ other_rest) same alone other_is (mark_apart (codes ":=") refl default_level) (mark_apart (codes "^=") refl default_level) in
        let heads = cons_same _ _ _ _ part.2 in
        different (mark (codes ":=")) (mark (codes "^=")) refl refl (ap (λ l. l.terminal) heads.0)

    -- where it has a comma
    several : (opened comma : Span) (n : Name) (more : List Leaf) → front ++ leaf (mark (codes ":=")) at ∷ rest ≡ leaf (mark (codes "(")) opened ∷ name_leaf n ∷ leaf (mark (codes ",")) comma ∷ more → ⊥
    several opened comma n more e =
        let some = expression_read limits x default_level depth other_front (leaf (mark (codes "^=")) other_at ∷ other_rest) other_is (mark_apart (codes "^=") refl default_level) in
        none-some (x, leaf (mark (codes "^=")) other_at ∷ other_rest)
        (settles_once (λ k. run k (From default_level) (other_front ++ leaf (mark (codes "^=")) other_at ∷ other_rest)) None (Some (x, leaf (mark (codes "^=")) other_at ∷ other_rest))
        (subst (λ (l : List Leaf). Settles (λ k. run k (From default_level) l) None) (sym e ∙ same) (names_read opened comma n more)) some)

    go : (names : List Name) → IsLeft limits depth names front → ⊥
    go names (inl (n, one, e)) = named n (subst (IsExpression limits depth (Named n)) (sym e) (named_alone limits depth n))
    go [] (inr (may, (opened, ended, inside, e, are))) = are
    go (n ∷ []) (inr (may, (opened, ended, inside, e, (first, others, f, g, h)))) =
        named n (1, (may, (opened, ended, inside, e, (omega arith, f ∙ ap (λ l. l ++ others) g ∙ ap (λ l. name_leaf n ∷ l) h))))
    go (n ∷ m ∷ ms) (inr (may, (opened, ended, inside, e, (first, others, f, g, (comma, second, further, h, is_second, are))))) =
        let behind = leaf (mark (codes ":=")) at ∷ rest in
        let close = leaf (mark (codes ")")) ended ∷ [] in
        several opened comma n (((second ++ further) ++ close) ++ behind)
        (ap (λ l. l ++ behind) e ∙ ap (λ l. leaf (mark (codes "(")) opened ∷ ((l ++ close) ++ behind)) (f ∙ ap (λ l. l ++ others) g ∙ ap (λ l. name_leaf n ∷ l) h))

  -- left ":=" right
  pub definition_once : OneReading (λ (p : List Name × RightSide) leaves. IsDefinition limits depth p.0 p.1 leaves) ContinuesDefinition
  definition_once p q front other_front back other_back e (at, first, rest, f, is_left, is_right, few) (other_at, other_first, other_rest, g, other_is_left, other_is_right, other_few) stops other_stops =
      let sign = leaf (mark (codes ":=")) at in
      let other_sign = leaf (mark (codes ":=")) other_at in
      let begin : first ++ (sign ∷ (rest ++ back)) ≡ other_first ++ (other_sign ∷ (other_rest ++ other_back)) =
      sym (append_to front first (sign ∷ rest) back f) ∙ e ∙ append_to other_front other_first (other_sign ∷ other_rest) other_back g in
      let part = part_at (IsLeft limits depth) ContinuesNothing p.0 (left_once limits depth p.0) q.0 first other_first (sign ∷ (rest ++ back)) (other_sign ∷ (other_rest ++ other_back)) begin is_left other_is_left
      (λ none. none) (λ none. none) in
      let heads = cons_same _ _ _ _ part.2 in
      let last = right_once limits depth p.1 q.1 rest other_rest back other_back heads.1 is_right other_is_right stops other_stops in
      let whole : front ≡ other_front = cc (f, g, part.1, heads.0, last.1) in
      ((λ i. (part.0 i, last.0 i)), whole)

  clock_separated : (operands : List Expression) (leaves : List Leaf) → IsClockEquation limits depth operands leaves → Separated (IsExpression limits depth) (mark (codes "^=")) operands leaves
  clock_separated [] leaves is = absurd is
  clock_separated (e ∷ []) leaves is = absurd is
  clock_separated (e ∷ f ∷ others) leaves (is, few) = is

  -- expr "^=" expr { "^=" expr }
  pub clock_equation_once : OneReading (IsClockEquation limits depth) ContinuesClockEquation
  clock_equation_once xs ys front other_front back other_back e are other_are stops other_stops =
      separated_once (IsExpression limits depth) (ContinuesExpression default_level) (expression_once limits default_level depth) (mark (codes "^=")) (mark_apart (codes "^=") refl default_level)
      xs ys front other_front back other_back e (clock_separated xs front are) (clock_separated ys other_front other_are) stops other_stops

  definition_or_clock_equation : (names : List Name) (right : RightSide) (operands : List Expression) (front other_front back other_back : List Leaf) → front ++ back ≡ other_front ++ other_back
      → IsDefinition limits depth names right front → IsClockEquation limits depth operands other_front → ⊥
  definition_or_clock_equation names right [] front other_front back other_back e is other_is = other_is
  definition_or_clock_equation names right (x ∷ []) front other_front back other_back e is other_is = other_is
  definition_or_clock_equation names right (x ∷ y ∷ others) front other_front back other_back e (at, first, rest, f, is_left, is_right, few)
      ((other_first, other_rest, g, is_x, (other_at, second, further, h, is_y, are)), other_few) =
      left_or_expression names x first other_first at other_at (rest ++ back) ((second ++ further) ++ other_back)
      (sym (append_to front first (leaf (mark (codes ":=")) at ∷ rest) back f) ∙ e ∙ append_to other_front other_first other_rest other_back g ∙ ap (λ l. other_first ++ (l ++ other_back)) h)
      is_left is_x

body_stops : (t : Terminal) → ContinuesDefinition t → ContinuesBody t
body_stops t continues = inr continues

clock_body : (t : Terminal) → ContinuesClockEquation t → ContinuesBody t
clock_body t (inl e) = inl e
clock_body t (inr continues) = inr (inr continues)

mark_no_body : (text : List ℕ) → (mark text ≡ mark (codes "^=") → ⊥) → (mark text ≡ mark (codes "(") → ⊥) → (mark text ≡ mark (codes "{") → ⊥) → (ContinuesExpression default_level (mark text) → ⊥) → ContinuesBody (mark text) → ⊥
mark_no_body text a b c d (inl e) = a e
mark_no_body text a b c d (inr (inl (inl e))) = b e
mark_no_body text a b c d (inr (inl (inr e))) = c e
mark_no_body text a b c d (inr (inr e)) = d e

pub bar_apart : ContinuesBody (mark (codes "|")) → ⊥
bar_apart continues = mark_no_body (codes "|") (different _ (mark (codes "^=")) refl refl) (different _ (mark (codes "(")) refl refl) (different _ (mark (codes "{")) refl refl) (mark_apart (codes "|") refl default_level) continues

closing_apart : ContinuesBody (mark (codes "|)")) → ⊥
closing_apart continues = mark_no_body (codes "|)") (different _ (mark (codes "^=")) refl refl) (different _ (mark (codes "(")) refl refl) (different _ (mark (codes "{")) refl refl) (mark_apart (codes "|)") refl default_level) continues

ending_begins_none : BeginsBody (mark (codes "|)")) → ⊥
ending_begins_none (inl e) = different (mark (codes "|)")) (mark (codes "(|")) refl refl e
ending_begins_none (inr (inl (inl (Not, e, tight)))) = cc
ending_begins_none (inr (inl (inl (Neg, e, tight)))) = different (mark (codes "|)")) (mark (codes "-")) refl refl e
ending_begins_none (inr (inl (inl (UnaryWhen, e, tight)))) = cc
ending_begins_none (inr (inl (inl (Clock, e, tight)))) = different (mark (codes "|)")) (mark (codes "^")) refl refl e
ending_begins_none (inr (inl (inr e))) = different (mark (codes "|)")) (mark (codes "(")) refl refl e
ending_begins_none (inr (inr (inl (v, e)))) = cc
ending_begins_none (inr (inr (inr (inl (true, e))))) = cc
ending_begins_none (inr (inr (inr (inl (false, e))))) = cc
ending_begins_none (inr (inr (inr (inr (text, e))))) = cc

bodies_apart : ContinuesBodies (mark (codes "|)")) → ⊥
bodies_apart (inl begins) = ending_begins_none begins
bodies_apart (inr (inl e)) = different (mark (codes "|)")) (mark (codes "|")) refl refl e
bodies_apart (inr (inr continues)) = closing_apart continues

module _ (limits : Limits) where
  further_stop : (rest : Bodies) (depth : ℕ) (front back : List Leaf) → AreFurtherBodies limits rest depth front → StopsBefore ContinuesFurtherBodies back → StopsBefore ContinuesBody (front ++ back)
  further_stop no_body depth front back e stops =
      subst (λ (l : List Leaf). StopsBefore ContinuesBody (l ++ back)) (sym e) (stops_smaller ContinuesFurtherBodies ContinuesBody (λ t continues. inr continues) back stops)
  further_stop (more_bodies body rest) depth front back (at, first, others, e, is, are) stops = subst (λ (l : List Leaf). StopsBefore ContinuesBody (l ++ back)) (sym e) bar_apart

  no_bodies : (body : Equations) (rest : Bodies) (depth : ℕ) (front back leaves : List Leaf) → leaves ≡ front ++ back → AreBodies limits (more_bodies body rest) depth front → StopsBefore ContinuesBodies leaves → ⊥
  no_bodies body rest depth front back leaves e (first, others, f, is, are) stops =
      starts_stops BeginsBody ContinuesBodies first (others ++ back) (λ t begins. inl begins) (body_begins limits body depth first is)
      (subst (λ (l : List Leaf). StopsBefore ContinuesBodies l) (e ∙ append_to front first others back f) stops)

  no_further : (body : Equations) (rest : Bodies) (depth : ℕ) (front back leaves : List Leaf) → leaves ≡ front ++ back → AreFurtherBodies limits (more_bodies body rest) depth front → StopsBefore ContinuesFurtherBodies leaves → ⊥
  no_further body rest depth front back leaves e (at, first, others, f, is, are) stops =
      let begin : leaves ≡ leaf (mark (codes "|")) at ∷ ((first ++ others) ++ back) = e ∙ ap (λ l. l ++ back) f in
      (subst (λ (l : List Leaf). StopsBefore ContinuesFurtherBodies l) begin stops) (inl refl)

  together_or_other : (bodies : Bodies) (depth : ℕ) (front other_front back other_back : List Leaf) → front ++ back ≡ other_front ++ other_back
      → IsBody limits (Together bodies) depth front → StartsWith (BeginsExpression default_level) other_front → ⊥
  together_or_other bodies depth front other_front back other_back e (may, (opened, ended, inside, f, are)) starts =
      starts_conflict (λ t. t ≡ mark (codes "(|")) (BeginsExpression default_level) together_apart front other_front back other_back e
      (subst (λ (l : List Leaf). StartsWith (λ t. t ≡ mark (codes "(|")) l) (sym f) refl) starts

  pub definition_starts : (names : List Name) (right : RightSide) (depth : ℕ) (leaves : List Leaf) → IsDefinition limits depth names right leaves → StartsWith (BeginsExpression default_level) leaves
  definition_starts names right depth leaves is = go leaves (definition_begins limits depth names right leaves is) where
    go : (leaves : List Leaf) → StartsWith BeginsLeft leaves → StartsWith (BeginsExpression default_level) leaves
    go [] starts = absurd starts
    go (l ∷ leaves) starts = left_is_expression l.terminal starts

  mutual
    pub body_at : (x : Equations) (depth : ℕ) → OneAt (λ e leaves. IsBody limits e depth leaves) ContinuesBody x
    body_at (Together bodies) depth (Together others) front other_front back other_back e is other_is stops other_stops =
        let part = between_at (λ b leaves. AreBodies limits b (suc depth) leaves) ContinuesBodies (mark (codes "(|")) (mark (codes "|)")) bodies_apart bodies (bodies_at bodies (suc depth))
        others front other_front back other_back e is.1 other_is.1 (stops_nothing back) (stops_nothing other_back) in
        (ap Together part.0, part.1)
    body_at (Together bodies) depth (Defines names right) front other_front back other_back e is other_is stops other_stops =
        absurd (together_or_other bodies depth front other_front back other_back e is (definition_starts names right depth other_front other_is))
    body_at (Together bodies) depth (Equal operands) front other_front back other_back e is other_is stops other_stops =
        absurd (together_or_other bodies depth front other_front back other_back e is (clock_equation_begins limits depth operands other_front other_is))
    body_at (Defines names right) depth (Together bodies) front other_front back other_back e is other_is stops other_stops =
        absurd (together_or_other bodies depth other_front front other_back back (sym e) other_is (definition_starts names right depth front is))
    body_at (Defines names right) depth (Defines others other_right) front other_front back other_back e is other_is stops other_stops =
        let part = definition_once limits depth (names, right) (others, other_right) front other_front back other_back e is other_is
        (stops_smaller ContinuesBody ContinuesDefinition body_stops back stops) (stops_smaller ContinuesBody ContinuesDefinition body_stops other_back other_stops) in
        ((λ i. Defines (part.0 i).0 (part.0 i).1), part.1)
    body_at (Defines names right) depth (Equal operands) front other_front back other_back e is other_is stops other_stops =
        absurd (definition_or_clock_equation limits depth names right operands front other_front back other_back e is other_is)
    body_at (Equal operands) depth (Together bodies) front other_front back other_back e is other_is stops other_stops =
        absurd (together_or_other bodies depth other_front front other_back back (sym e) other_is (clock_equation_begins limits depth operands front is))
    body_at (Equal operands) depth (Defines names right) front other_front back other_back e is other_is stops other_stops =
        absurd (definition_or_clock_equation limits depth names right operands other_front front other_back back (sym e) other_is is)
    body_at (Equal operands) depth (Equal others) front other_front back other_back e is other_is stops other_stops =
        let part = clock_equation_once limits depth operands others front other_front back other_back e is other_is
        (stops_smaller ContinuesBody ContinuesClockEquation clock_body back stops) (stops_smaller ContinuesBody ContinuesClockEquation clock_body other_back other_stops) in
        (ap Equal part.0, part.1)

    pub bodies_at : (x : Bodies) (depth : ℕ) → OneAt (λ b leaves. AreBodies limits b depth leaves) ContinuesBodies x
    bodies_at no_body depth no_body front other_front back other_back e is other_is stops other_stops = (refl, is ∙ sym other_is)
    bodies_at no_body depth (more_bodies body rest) front other_front back other_back e is other_is stops other_stops =
        absurd (no_bodies body rest depth other_front other_back back (ap (λ l. l ++ back) (sym is) ∙ e) other_is stops)
    bodies_at (more_bodies body rest) depth no_body front other_front back other_back e is other_is stops other_stops =
        absurd (no_bodies body rest depth front back other_back (ap (λ l. l ++ other_back) (sym other_is) ∙ sym e) is other_stops)
    bodies_at (more_bodies body rest) depth (more_bodies other_body other_rest) front other_front back other_back e (first, more, f, is, are) (other_first, other_more, g, other_is, other_are) stops other_stops =
        let begin : first ++ (more ++ back) ≡ other_first ++ (other_more ++ other_back) =
        sym (append_to front first more back f) ∙ e ∙ append_to other_front other_first other_more other_back g in
        let further = stops_smaller ContinuesBodies ContinuesFurtherBodies (λ t continues. inr continues) back stops in
        let other_further = stops_smaller ContinuesBodies ContinuesFurtherBodies (λ t continues. inr continues) other_back other_stops in
        let part = part_at (λ b leaves. IsBody limits b depth leaves) ContinuesBody body (body_at body depth) other_body first other_first (more ++ back) (other_more ++ other_back) begin is other_is
        (further_stop rest depth more back are further) (further_stop other_rest depth other_more other_back other_are other_further) in
        let last = further_at rest depth other_rest more other_more back other_back part.2 are other_are further other_further in
        let trees : more_bodies body rest ≡ more_bodies other_body other_rest = cc (part.0, last.0) in
        let whole : front ≡ other_front = cc (f, g, part.1, last.1) in
        (trees, whole)

    pub further_at : (x : Bodies) (depth : ℕ) → OneAt (λ b leaves. AreFurtherBodies limits b depth leaves) ContinuesFurtherBodies x
    further_at no_body depth no_body front other_front back other_back e is other_is stops other_stops = (refl, is ∙ sym other_is)
    further_at no_body depth (more_bodies body rest) front other_front back other_back e is other_is stops other_stops =
        absurd (no_further body rest depth other_front other_back back (ap (λ l. l ++ back) (sym is) ∙ e) other_is stops)
    further_at (more_bodies body rest) depth no_body front other_front back other_back e is other_is stops other_stops =
        absurd (no_further body rest depth front back other_back (ap (λ l. l ++ other_back) (sym other_is) ∙ sym e) is other_stops)
    further_at (more_bodies body rest) depth (more_bodies other_body other_rest) front other_front back other_back e (at, first, more, f, is, are) (other_at, other_first, other_more, g, other_is, other_are) stops other_stops =
        let begin : leaf (mark (codes "|")) at ∷ (first ++ (more ++ back)) ≡ leaf (mark (codes "|")) other_at ∷ (other_first ++ (other_more ++ other_back)) =
        sym (append_to front (leaf (mark (codes "|")) at ∷ first) more back f) ∙ e ∙ append_to other_front (leaf (mark (codes "|")) other_at ∷ other_first) other_more other_back g in
        let heads = cons_same _ _ _ _ begin in
        let part = part_at (λ b leaves. IsBody limits b depth leaves) ContinuesBody body (body_at body depth) other_body first other_first (more ++ back) (other_more ++ other_back) heads.1 is other_is
        (further_stop rest depth more back are stops) (further_stop other_rest depth other_more other_back other_are other_stops) in
        let last = further_at rest depth other_rest more other_more back other_back part.2 are other_are stops other_stops in
        let trees : more_bodies body rest ≡ more_bodies other_body other_rest = cc (part.0, last.0) in
        let whole : front ≡ other_front = cc (f, g, heads.0, part.1, last.1) in
        (trees, whole)

  pub body_once : (depth : ℕ) → OneReading (λ e leaves. IsBody limits e depth leaves) ContinuesBody
  body_once depth x = body_at x depth

  pub bodies_once : (depth : ℕ) → OneReading (λ b leaves. AreBodies limits b depth leaves) ContinuesBodies
  bodies_once depth x = bodies_at x depth

  pub further_bodies_once : (depth : ℕ) → OneReading (λ b leaves. AreFurtherBodies limits b depth leaves) ContinuesFurtherBodies
  further_bodies_once depth x = further_at x depth
