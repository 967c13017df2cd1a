-- Columns in which elements were made variables.
use Rattle.std.specs.Prelude.{◌≡◌}
use Rattle.sig_rel.specs.Prelude.{ℕ, List, length, Option, Some, truth_of, IsRefOf, Node, Ref}
use Rattle.sig_rel.specs.inner.Substitutions.{ref_at}
use Rattle.sig_rel.specs.declared.elements.Element.{Element}
use Rattle.sig_rel.specs.declared.substitution.Columns.{Columns}

abbrev pub IsVariableOf : List Node → ℕ → Ref → Type 0
IsVariableOf nodes v r = IsRefOf nodes (λ truths. truth_of truths v) r

-- each element that has a variable was made that variable, and the others are as they were
pub record AreVariables (nodes : List Node) (HasVariable : Element → ℕ → Type 0) (before after : Columns) : Type 0 where
  pub always : after.always ≡ before.always
  pub count : length after.rows.items ≡ length before.rows.items
  pub own : (element : Element) (v : ℕ) → HasVariable element v → IsVariableOf nodes v (ref_at after element)
  pub others : (element : Element) → ((v : ℕ) → HasVariable element v → ⊥) → ref_at after element ≡ ref_at before element

-- one element alone has a variable, or none
abbrev pub IsVariableAt : Element → Option ℕ → Element → ℕ → Type 0
IsVariableAt one variable element v = (element ≡ one) × (variable ≡ Some v)
