-- Columns in which elements were made variables, one after another.
use Rattle.sig_rel.proofs.Common.{◌≡◌, ◌⊎◌, inl, inr, ℕ, List, Option, None, Some, refl, sym, ap, ◌∙◌, subst, truth_of, Keeps, StoreView, Node, Ref, IsRefOf-kept, IsSet, ref_at, AreVariables, IsVariableAt, IsVariableOf, Element, Columns}

pub no_variables : (nodes : List Node) (HasVariable : Element → ℕ → Type 0) (columns : Columns) → ((e : Element) (v : ℕ) → HasVariable e v → ⊥) → AreVariables nodes HasVariable columns columns
no_variables nodes HasVariable columns none = record { always = refl; count = refl; own = λ e v is. absurd (none e v is); others = λ e never. refl }

pub no_variable : (nodes : List Node) (element : Element) (variable : Option ℕ) (columns : Columns) → variable ≡ None → AreVariables nodes (IsVariableAt element variable) columns columns
no_variable nodes element variable columns none = no_variables nodes (IsVariableAt element variable) columns (λ e v is. let some : None ≡ Some v = sym none ∙ is.1 in cc)

-- an element was set to its variable
pub one_variable : (nodes : List Node) (before after : Columns) (element : Element) (v : ℕ) (r : Ref) → IsSet before after element r → IsVariableOf nodes v r → AreVariables nodes (IsVariableAt element (Some v)) before after
one_variable nodes before after element v r set is = record {
  always = set.always;
  count = set.count;
  own = λ e w at.
      let same : v ≡ w = let both : Some v ≡ Some w = at.1 in cc in
      subst (λ n. IsVariableOf nodes n (ref_at after e)) same (subst (IsVariableOf nodes v) (sym (ap (ref_at after) at.0 ∙ set.here)) is);
  others = λ e never. set.other e (λ same. never v (same, refl));
}

-- some elements, and then others
pub variables_then : (s t : StoreView) → Keeps s t → (First Second Both : Element → ℕ → Type 0) (first middle last : Columns)
    → AreVariables s.nodes First first middle → AreVariables t.nodes Second middle last
    → ((e : Element) (v : ℕ) → Both e v → (First e v × ((w : ℕ) → Second e w → ⊥)) ⊎ Second e v) → ((e : Element) (v : ℕ) → First e v → Both e v) → ((e : Element) (v : ℕ) → Second e v → Both e v)
    → AreVariables t.nodes Both first last
variables_then s t kept First Second Both first middle last one two split from_first from_second = record {
  always = two.always ∙ one.always;
  count = two.count ∙ one.count;
  own = λ e v is. elim (split e v is) [
    | inl early ↦ subst (IsVariableOf t.nodes v) (sym (two.others e early.1)) (IsRefOf-kept s t kept (λ truths. truth_of truths v) (ref_at middle e) (one.own e v early.0))
    | inr late ↦ two.own e v late
  ];
  others = λ e never. two.others e (λ v is. never v (from_second e v is)) ∙ one.others e (λ v is. never v (from_first e v is));
}
