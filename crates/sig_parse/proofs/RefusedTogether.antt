-- What is refused of bodies one behind another, from their parts.
use Rattle.sig_parse.proofs.Common.{◌≡◌, ◌++◌, ◌≤◌, ◌<◌, ℕ, suc, List, [], ◌∷◌, codes, refl, sym, ap, ◌∙◌, subst, Span, Equations, Together, Defines, Equal, Leaf, leaf, mark, default_level, Limits, both_limits, IsBody, StartsWith, BeginsExpression, StopsBefore, ContinuesNothing, ContinuesList, ContinuesBody, different, body_unlimited, body_within, clock_equation_begins, starts_longer, mark_apart, stops_nothing, together_apart, definition_starts, bar_apart, Refusal, Nesting, State, Covers, IsLeaf, Cause, cause_of, Refuses, RefusedBy, Settles, Closes, InBody, Body_at, InBodies}
use Rattle.sig_parse.proofs.PartRefusals.{SameFirst}
use Rattle.sig_parse.proofs.RefusedBodies.{to_list, from_list, bodies_list, list_bodies, together_too_deep}
use Rattle.sig_parse.proofs.PassedLanguages.{Leads, Then, leads_refuses, leads_on, refuses_as, refuses_where, Leaf_of, leads_leaf, starts_same}
use Rattle.sig_parse.proofs.Rows.{none_of, Unbounded, fewer_unbounded, Item, Row, RowRest, row_refused, row_item, row_separated}
use Rattle.sig_parse.proofs.ClosedRows.{Closed, closed_refused, closed_ends}
use Rattle.sig_parse.proofs.Enclosures.{both_begin, leaf_next}
use Rattle.sig_parse.proofs.AheadLemmas.{leaf_is}
use Rattle.sig_parse.proofs.SettledBodies.{mark_no_body}

closing_apart : ContinuesBody (mark (codes "|)")) → ⊥
closing_apart continues = mark_no_body (codes "|)") (different (mark (codes "|)")) (mark (codes "^=")) refl refl) (different (mark (codes "|)")) (mark (codes "(")) refl refl) (different (mark (codes "|)")) (mark (codes "{")) refl refl)
    (mark_apart (codes "|)") refl default_level) continues

bar_or_close : mark (codes "|") ≡ mark (codes "|)") → ⊥
bar_or_close e = different (mark (codes "|")) (mark (codes "|)")) refl refl e

module _ (depth : ℕ) where
  abbrev Bodies_from : ℕ → Limits → List Leaf → Type 0
  Bodies_from used limits leaves = Closed (Body_at depth) none_of Unbounded ContinuesBody (mark (codes "|")) (mark (codes "|)")) used limits leaves

  as_bodies : {cause : Cause} {here after : List Leaf} → Refuses (Bodies_from 0) ContinuesNothing cause here after → Refuses (InBodies depth) ContinuesNothing cause here after
  as_bodies r = refuses_as (Bodies_from 0) (InBodies depth) ContinuesNothing (λ limits leaves is. (is.0, is.1)) (λ limits leaves is. (is.0, is.1, tt)) r

  row_from_body : {cause : Cause} {here after : List Leaf} → Refuses (InBody depth) ContinuesBody cause here after
      → Refuses (Row (Body_at depth) none_of Unbounded ContinuesBody (mark (codes "|")) 0) (ContinuesList (mark (codes "|")) ContinuesBody) cause here after
  row_from_body r = row_refused (Body_at depth) none_of Unbounded ContinuesBody (mark (codes "|")) bar_apart fewer_unbounded 0
      (refuses_as (InBody depth) (Item (Body_at depth) none_of Unbounded ContinuesBody (mark (codes "|")) 0) ContinuesBody (λ limits leaves is. (is.0, is.1, tt)) (λ limits leaves is. (is.0, is.1)) r)

  -- where bodies were begun, up to a body
  abbrev pub LeadsBodies : (before after : List Leaf) → Type 0
  LeadsBodies before after = Leads (Row (Body_at depth) none_of Unbounded ContinuesBody (mark (codes "|")) 0) (ContinuesList (mark (codes "|")) ContinuesBody)
      (RowRest (Body_at depth) none_of Unbounded ContinuesBody (mark (codes "|")) 0) (ContinuesList (mark (codes "|")) ContinuesBody) before after

  pub bodies_begun : (b : Equations) {s t : State} → Covers (IsBody both_limits b depth) s t → Settles (InBody depth) ContinuesBody s.leaves t.leaves → LeadsBodies s.leaves t.leaves
  bodies_begun b c k = row_item (Body_at depth) none_of Unbounded ContinuesBody (mark (codes "|")) bar_apart fewer_unbounded
      (λ limits x leaves is. body_within limits x depth leaves is) (λ limits x leaves is. body_unlimited limits x depth depth leaves is) (λ x y leaves is_x is_y. refl) 0 b c k

  pub bodies_first : {cause : Cause} {here after : List Leaf} → StopsBefore (λ t. t ≡ mark (codes "|)")) here → Refuses (InBody depth) ContinuesBody cause here after → Refuses (InBodies depth) ContinuesNothing cause here after
  bodies_first stopped r = as_bodies (closed_refused (Body_at depth) none_of Unbounded ContinuesBody (mark (codes "|")) (mark (codes "|)")) bar_or_close closing_apart 0 stopped (row_from_body r))

  -- the next body, behind "|"
  module _ (at : Span) {before : List Leaf} {s t : State} (l : LeadsBodies before s.leaves) (c : Covers (IsLeaf (mark (codes "|")) at) s t) where
    pub bodies_next : {cause : Cause} {after : List Leaf} → StopsBefore (λ t. t ≡ mark (codes "|)")) before → Refuses (InBody depth) ContinuesBody cause t.leaves after → Refuses (InBodies depth) ContinuesNothing cause before after
    bodies_next open_here r = as_bodies (closed_refused (Body_at depth) none_of Unbounded ContinuesBody (mark (codes "|")) (mark (codes "|)")) bar_or_close closing_apart 0 open_here
        (leads_refuses l (leads_refuses (row_separated (Body_at depth) none_of Unbounded ContinuesBody (mark (codes "|")) 0 at c) (row_from_body r))))

    pub bodies_more : (b : Equations) {u : State} → Covers (IsBody both_limits b depth) t u → Settles (InBody depth) ContinuesBody t.leaves u.leaves → LeadsBodies before u.leaves
    bodies_more b d k = leads_on l (leads_on (row_separated (Body_at depth) none_of Unbounded ContinuesBody (mark (codes "|")) 0 at c) (bodies_begun b d k))

  -- neither "|" nor "|)" is next
  pub bodies_over : {before here : List Leaf} → StopsBefore (λ t. t ≡ mark (codes "|)")) before → LeadsBodies before here → StopsBefore (λ t. t ≡ mark (codes "|")) here → Closes (InBodies depth) (mark (codes "|)")) before here
  bodies_over open_here l stopped cause after r =
      as_bodies (closed_ends (Body_at depth) none_of Unbounded ContinuesBody (mark (codes "|")) (mark (codes "|)")) bar_or_close closing_apart 0 0 open_here l (λ limits. tt) stopped cause after r)

-- "(|" bodies "|)"
module _ (depth : ℕ) where
  abbrev Opened : Limits → List Leaf → Type 0
  Opened limits leaves = Then (Leaf_of (mark (codes "(|"))) (InBodies (suc depth)) limits leaves

  opened_to : depth < 64 → (limits : Limits) (leaves : List Leaf) → Opened limits leaves → InBody depth limits leaves
  opened_to shallow limits leaves (opened, front, back, e, f, (bs, (closed, inside, g, are))) =
      (Together (list_bodies bs), ((λ kept. shallow), (opened, closed, inside, e ∙ ap (λ ls. ls ++ back) f ∙ ap (λ ls. leaf (mark (codes "(|")) opened ∷ ls) g, from_list limits (suc depth) bs inside are)))

  opened_from : (here : List Leaf) → StartsWith (λ t. t ≡ mark (codes "(|")) here → (limits : Limits) (whole back : List Leaf) → InBody depth limits whole → SameFirst here (whole ++ back) → Opened limits whole
  opened_from here next limits whole back (Together bodies, (may, (opened, closed, inside, e, are))) same =
      (opened, leaf (mark (codes "(|")) opened ∷ [], inside ++ leaf (mark (codes "|)")) closed ∷ [], e, refl, (bodies_list bodies, (closed, inside, refl, to_list limits (suc depth) bodies inside are)))
  opened_from here next limits whole back (Defines names right, is) same = absurd (both_begin (λ t. t ≡ mark (codes "(|")) (BeginsExpression default_level) together_apart (whole ++ back)
      (starts_same (λ t. t ≡ mark (codes "(|")) here (whole ++ back) same next) (starts_longer (BeginsExpression default_level) whole back (definition_starts limits names right depth whole is)))
  opened_from here next limits whole back (Equal operands, is) same = absurd (both_begin (λ t. t ≡ mark (codes "(|")) (BeginsExpression default_level) together_apart (whole ++ back)
      (starts_same (λ t. t ≡ mark (codes "(|")) here (whole ++ back) same next) (starts_longer (BeginsExpression default_level) whole back (clock_equation_begins limits depth operands whole is)))

  pub together_inside : (inner : ℕ) → (depth < 64) × (inner ≡ suc depth) → (opened : Span) {cause : Cause} {s t : State} {after : List Leaf} → Covers (IsLeaf (mark (codes "(|")) opened) s t
      → Refuses (InBodies inner) ContinuesNothing cause t.leaves after → Refuses (InBody depth) ContinuesBody cause s.leaves after
  together_inside inner deeper opened {cause} {s} {t} {after} c r =
      refuses_where Opened (InBody depth) ContinuesNothing ContinuesBody (opened_to deeper.0) (λ back stops. stops_nothing back) s.leaves (λ limits whole back is stops same. opened_from s.leaves (leaf_next (mark (codes "(|")) opened c) limits whole back is same)
      (leads_refuses (leads_leaf (mark (codes "(|")) (InBodies (suc depth)) ContinuesNothing opened c) (subst (λ (d : ℕ). Refuses (InBodies d) ContinuesNothing cause t.leaves after) deeper.1 r))

  pub together_deep : (why : Refusal) (s : State) → (why ≡ Nesting) × (64 ≤ depth) → StartsWith (λ t. t ≡ mark (codes "(|")) s.leaves → RefusedBy (InBody depth) ContinuesBody s s why
  together_deep why s deep next = λ text. subst (λ (w : Refusal). Refuses (InBody depth) ContinuesBody (cause_of w) s.leaves s.leaves) (sym deep.0) (go s.leaves next)
    where
      go : (leaves : List Leaf) → StartsWith (λ t. t ≡ mark (codes "(|")) leaves → Refuses (InBody depth) ContinuesBody (cause_of Nesting) leaves leaves
      go [] next = absurd next
      go (l ∷ leaves) next = subst (λ (k : Leaf). Refuses (InBody depth) ContinuesBody (cause_of Nesting) (k ∷ leaves) (k ∷ leaves)) (sym (leaf_is l (mark (codes "(|")) next)) (together_too_deep depth deep.1 l.at leaves)
