-- What the file of a program calls for, of a task that asks for this file alone.
use Rattle.sig_outcome.proofs.Common.{◌≡◌, ◌≤◌, ℕ, List, Option, Some, IfSome, length, Contents, name_where_there, AtProgram, Good, Outcome, done, long_program, AtNoBytes, HasCount, IsAboutProgram, IsOfProgram, IsOwn, outcome_of, Reaches, Stops, Task, Refusal}
use Rattle.sig_outcome.proofs.Refused.{about_bytes, about_more, budget_of, count_of_program, no_eight, no_program, refused_program, told_both}

module _ {A : Type 0} (Says : List ℕ → A → Type 0) (Refuses : List ℕ → List ℕ → Type 0) (Next : A → Outcome → Type 0) (Statuses : ℕ → Type 0) (MayBe : List ℕ → Type 0) (MayLack : ℕ → Type 0) (Beyond : Contents → Type 0) (name : List ℕ) where
  abbrev pub one_file : Task
  one_file = record {
    comes = λ held o. AtProgram Says Refuses held name Next o;
    statuses = λ status. Statuses status;
    about = λ r. IsAboutProgram name MayBe MayLack r;
    begun = λ held at. at ≡ name_where_there held name;
    beyond = λ held. Beyond held;
  }

  -- the file gave no bytes
  pub stops_unread : (contents : Option Contents) (before at : Option (List ℕ)) (misses misses' faults faults' : ℕ) (r : Refusal)
      → IsAboutProgram name (λ line. ⊥) (λ nodes. ⊥) r → HasCount contents at misses misses' faults faults' r
      → IfSome contents (λ held. IsOwn r faults faults' → AtNoBytes 1048576 1 long_program held name (outcome_of r (Some name)))
      → IfSome contents (λ held. at ≡ name_where_there held name) → Stops one_file contents before at misses misses' faults faults' r
  stops_unread contents before at misses misses' faults faults' r about counted refused last = record {
    about = about_more name (λ line. ⊥) MayBe (λ nodes. ⊥) MayLack (λ line is. absurd is) (λ nodes is. absurd is) r about;
    counted = counted;
    owed = told_both contents _ _ _
        (λ held ends is. λ own. record { file = Some name; comes = no_program Says Refuses held name Next (outcome_of r (Some name)) (ends own); last = is })
        refused last;
    budget = told_both contents _ _ _ (λ held is same. λ eight. absurd (no_eight name (λ line. ⊥) r about eight)) last last;
    begun = last;
  }

  -- its bytes were refused
  pub stops_bytes : (contents : Option Contents) (before at : Option (List ℕ)) (misses misses' faults faults' : ℕ) (bytes : List ℕ) (IsBudget : ℕ → Type 0) (r : Refusal)
      → IfSome contents (λ held. held name ≡ Some bytes) → length bytes ≤ 1048576
      → ((line : List ℕ) → Refuses bytes line → MayBe line) → ((nodes : ℕ) → IsBudget nodes → MayLack nodes)
      → ((held : Contents) (nodes : ℕ) → held name ≡ Some bytes → IsBudget nodes → Beyond held)
      → IsOfProgram (Refuses bytes) IsBudget r → IfSome contents (λ held. at ≡ name_where_there held name) → Stops one_file contents before at misses misses' faults faults' r
  stops_bytes contents before at misses misses' faults faults' bytes IsBudget r there short lines nodes beyond is last = record {
    about = about_bytes (Refuses bytes) IsBudget name MayBe MayLack lines nodes r is;
    counted = count_of_program (Refuses bytes) IsBudget contents at misses misses' faults faults' r is;
    owed = told_both contents _ _ _
        (λ held has begun. λ own. record { file = Some name; comes = refused_program Says Refuses held name bytes has Next short IsBudget r faults faults' is own; last = begun })
        there last;
    budget = told_both contents _ _ _
        (λ held has begun. λ eight. let of = budget_of (Refuses bytes) IsBudget r is eight in beyond held of.0 has of.1)
        there last;
    begun = last;
  }

  -- they say what is wanted
  pub reaches_text : (contents : Option Contents) (before at : Option (List ℕ)) (bytes text : List ℕ) (what : A)
      → IfSome contents (λ held. held name ≡ Some bytes) → length bytes ≤ 1048576 → Says bytes what → Next what (done text name)
      → IfSome contents (λ held. at ≡ name_where_there held name) → Reaches one_file contents before at (done text name)
  reaches_text contents before at bytes text what there short says next last = record {
    comes = told_both contents _ _ _
        (λ held has begun. (Good what, record { bytes = bytes; there = has; short = short; good = says }, next))
        there last;
    last = last;
    begun = last;
  }
