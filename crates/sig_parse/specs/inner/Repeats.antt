-- Parts that are read one after another, with a separator between them.
use Rattle.std.specs.Prelude.{◌≡◌, ◌⊎◌, ◌∷◌}
use Rattle.sig_parse.specs.Prelude.{List, [], Span, Terminal, StopsBefore}
use Rattle.sig_parse.specs.declared.refusal.Refusal.{Refusal}
use Rattle.sig_parse.specs.State.{State}
use Rattle.sig_parse.specs.Reads.{Reads, IsLeaf}
use Rattle.sig_parse.specs.Refusals.{IsOfText}

-- { separator part }, where a part is read from one state to the next
abbrev pub ReadsFurther : {A : Type 0} → (A → State → State → Type 0) → Terminal → List A → State → State → Type 0
ReadsFurther Part separator [] before after = after ≡ before
ReadsFurther Part separator (x ∷ xs) before after = (at : Span) × (begun read : State)
    × Reads (IsLeaf separator at) 0 before begun × Part x begun read × ReadsFurther Part separator xs read after

-- part { separator part }
abbrev pub ReadsParts : {A : Type 0} → (A → State → State → Type 0) → Terminal → List A → State → State → Type 0
ReadsParts Part separator [] before after = ⊥
ReadsParts Part separator (x ∷ xs) before after = (read : State) × Part x before read × ReadsFurther Part separator xs read after

-- the same, where no further separator is next
abbrev pub ReadsSeparated : {A : Type 0} → (A → State → State → Type 0) → Terminal → List A → State → State → Type 0
ReadsSeparated Part separator xs before after = ReadsParts Part separator xs before after × StopsBefore (λ t. t ≡ separator) after.leaves

-- the first part is refused, or one behind others and a separator
abbrev pub RefusesSeparated : {A : Type 0} → (A → State → State → Type 0) → (Refusal → State → State → Type 0) → Terminal → (before after : State) → Refusal → Type 0
RefusesSeparated {A = A} Part Refused separator before after why = IsOfText why → Refused why before after
    ⊎ ((xs : List A) × (at : Span) × (read begun : State) × ReadsParts Part separator xs before read × Reads (IsLeaf separator at) 0 read begun × Refused why begun after)
