-- Elements of columns, and what one of them is set to.
use Rattle.sig_rel.proofs.Common.{◌≡◌, ◌⊎◌, inl, inr, ℕ, List, sym, ap, ◌∙◌, subst, cases_eq, Holds, Spans, Node, Ref, HoldColumns, IsSet, SpanColumns, ref_at, Element, Presence, Truth, Columns}
use Rattle.sig_rel.proofs.PlacingLemmas.{apart_kinds, presence_is, truth_is}

pub same_element : (d e : Element) → (d ≡ e) ⊎ (d ≡ e → ⊥)
same_element (Presence c) (Presence d) = elim (cases_eq c d) [ inl same ↦ inl (ap Presence same) | inr apart ↦ inr (λ same. apart (presence_is c d same)) ]
same_element (Presence c) (Truth x) = inr (apart_kinds c x)
same_element (Truth x) (Presence c) = inr (λ same. apart_kinds c x (sym same))
same_element (Truth x) (Truth y) = elim (cases_eq x y) [ inl same ↦ inl (ap Truth same) | inr apart ↦ inr (λ same. apart (truth_is x y same)) ]

-- each element of columns is held, and spanned
module _ (nodes : List Node) (columns : Columns) where
  pub held_at : HoldColumns nodes columns → (e : Element) → Holds nodes (ref_at columns e)
  held_at held (Presence c) = held.present c
  held_at held (Truth x) = held.truth x

  pub held_by : ((e : Element) → Holds nodes (ref_at columns e)) → HoldColumns nodes columns
  held_by each = record { present = λ c. each (Presence c); truth = λ x. each (Truth x) }

  pub span_at : (vs : List ℕ) → SpanColumns nodes columns vs → (e : Element) → Spans nodes (ref_at columns e) vs
  span_at vs span (Presence c) = span.present c
  span_at vs span (Truth x) = span.truth x

  pub span_by : (vs : List ℕ) → ((e : Element) → Spans nodes (ref_at columns e) vs) → SpanColumns nodes columns vs
  span_by vs each = record { present = λ c. each (Presence c); truth = λ x. each (Truth x) }

-- what holds of what was set and of what was there holds of each element
pub set_ref : (before after : Columns) (element : Element) (r : Ref) → IsSet before after element r → (P : Ref → Type 0) → P r → (e : Element) → P (ref_at before e) → P (ref_at after e)
set_ref before after element r set P new e old = elim (same_element e element) [
  | inl same ↦ subst P (sym (ap (ref_at after) same ∙ set.here)) new
  | inr apart ↦ subst P (sym (set.other e apart)) old
]
