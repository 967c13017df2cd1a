-- What a file gives is one thing at most, and so is what a command comes to there.
use Rattle.sig_outcome.proofs.Common.{◌≡◌, ◌∙◌, ◌<◌, ℕ, List, Option, Some, None, sym, refl, ap, subst, arith, length, Contents, IsLongerThan, AtData, AtFile, AtProgram, Found, Absent, Long, Bad, Good, Finds, FindsData, FindsProgram, Holds, OneAtMost, Outcome, long_file, long_program}

-- a file that is not there has no bytes
absent_long : (held : Option (List ℕ)) (limit : ℕ) → held ≡ None → IsLongerThan held limit → ⊥
absent_long held limit none long = subst (λ h. IsLongerThan h limit) none long

absent_held : {Fact : List ℕ → Type 0} (held : Option (List ℕ)) (limit : ℕ) → held ≡ None → Holds held limit Fact → ⊥
absent_held held limit none holds = let both : Some holds.bytes ≡ None = sym holds.there ∙ none in cc

-- a file that is held short is not too long
long_held : {Fact : List ℕ → Type 0} (held : Option (List ℕ)) (limit : ℕ) → IsLongerThan held limit → Holds held limit Fact → ⊥
long_held held limit long holds =
    let more : limit < length holds.bytes = subst (λ h. IsLongerThan h limit) holds.there long in
    absurd (omega (arith, more, holds.short))

-- a file holds the bytes that it has
pub same_bytes : {Fact Other : List ℕ → Type 0} (held : Option (List ℕ)) (limit most : ℕ) (one : Holds held limit Fact) (other : Holds held most Other) → other.bytes ≡ one.bytes
same_bytes held limit most one other =
    let both : Some other.bytes ≡ Some one.bytes = sym other.there ∙ one.there in cc

-- where bytes say one thing at most, are refused with one line at most, and never do both, a file gives
-- one thing at most
pub one_found : {A : Type 0} (held : Option (List ℕ)) (limit : ℕ) (Says : List ℕ → A → Type 0) (Refuses : List ℕ → List ℕ → Type 0) → ((bytes : List ℕ) (a b : A) → Says bytes a → Says bytes b → a ≡ b) → ((bytes l m : List ℕ) → Refuses bytes l → Refuses bytes m → l ≡ m) → ((bytes : List ℕ) (a : A) (l : List ℕ) → Says bytes a → Refuses bytes l → ⊥) → (f g : Found A) → Finds held limit Says Refuses f → Finds held limit Says Refuses g → f ≡ g
one_found held limit Says Refuses one line apart Absent Absent x y = refl
one_found held limit Says Refuses one line apart Absent Long x y = absurd (absent_long held limit x y)
one_found held limit Says Refuses one line apart Absent (Bad m) x y = absurd (absent_held held limit x y)
one_found held limit Says Refuses one line apart Absent (Good b) x y = absurd (absent_held held limit x y)
one_found held limit Says Refuses one line apart Long Absent x y = absurd (absent_long held limit y x)
one_found held limit Says Refuses one line apart Long Long x y = refl
one_found held limit Says Refuses one line apart Long (Bad m) x y = absurd (long_held held limit x y)
one_found held limit Says Refuses one line apart Long (Good b) x y = absurd (long_held held limit x y)
one_found held limit Says Refuses one line apart (Bad l) Absent x y = absurd (absent_held held limit y x)
one_found held limit Says Refuses one line apart (Bad l) Long x y = absurd (long_held held limit y x)
one_found held limit Says Refuses one line apart (Bad l) (Bad m) x y =
    ap Bad (line x.bytes l m x.good (subst (λ bytes. Refuses bytes m) (same_bytes held limit limit x y) y.good))
one_found held limit Says Refuses one line apart (Bad l) (Good b) x y =
    absurd (apart y.bytes b l y.good (subst (λ bytes. Refuses bytes l) (same_bytes held limit limit y x) x.good))
one_found held limit Says Refuses one line apart (Good a) Absent x y = absurd (absent_held held limit y x)
one_found held limit Says Refuses one line apart (Good a) Long x y = absurd (long_held held limit y x)
one_found held limit Says Refuses one line apart (Good a) (Bad m) x y =
    absurd (apart x.bytes a m x.good (subst (λ bytes. Refuses bytes m) (same_bytes held limit limit x y) y.good))
one_found held limit Says Refuses one line apart (Good a) (Good b) x y =
    ap Good (one x.bytes a b x.good (subst (λ bytes. Says bytes b) (same_bytes held limit limit x y) y.good))

-- a file that gives nothing ends the command, whatever would follow
pub at_file_ends : {A : Type 0} (status : ℕ) (long name : List ℕ) (found : Found A) (Next : A → Outcome → Type 0) (o : Outcome) → AtFile status long name found (λ _ _. ⊥) o → AtFile status long name found Next o
at_file_ends status long name Absent Next o x = x
at_file_ends status long name Long Next o x = x
at_file_ends status long name (Bad line) Next o x = x
at_file_ends status long name (Good a) Next o x = absurd x

-- ---- the program file, and a flow file or a trace file

module _ {A : Type 0} (Says : List ℕ → A → Type 0) (Refuses : List ℕ → List ℕ → Type 0)
    (one_said : (bytes : List ℕ) (a b : A) → Says bytes a → Says bytes b → a ≡ b)
    (one_line : (bytes l m : List ℕ) → Refuses bytes l → Refuses bytes m → l ≡ m)
    (apart : (bytes : List ℕ) (a : A) (l : List ℕ) → Says bytes a → Refuses bytes l → ⊥) where
  pub one_at_program : (held : Contents) (name : List ℕ) (Next : A → Outcome → Type 0) → ((a : A) (bytes : List ℕ) → Says bytes a → OneAtMost (Next a)) → OneAtMost (AtProgram Says Refuses held name Next)
  one_at_program held name Next one o p x y = at x.0 x.1 x.2 (subst (λ found. AtFile 1 long_program name found Next p) (one_found (held name) 1048576 Says Refuses one_said one_line apart y.0 x.0 y.1 x.1) y.2) where
    at : (found : Found A) → FindsProgram Says Refuses (held name) found → AtFile 1 long_program name found Next o → AtFile 1 long_program name found Next p → o ≡ p
    at Absent is a b = a ∙ sym b
    at Long is a b = a ∙ sym b
    at (Bad line) is a b = a ∙ sym b
    at (Good a) is x y = one a is.bytes is.good o p x y

  pub one_at_data : (held : Contents) (name : List ℕ) (Next : A → Outcome → Type 0) → ((a : A) (bytes : List ℕ) → Says bytes a → OneAtMost (Next a)) → OneAtMost (AtData Says Refuses held name Next)
  one_at_data held name Next one o p x y = at x.0 x.1 x.2 (subst (λ found. AtFile 4 (long_file name) name found Next p) (one_found (held name) 67108864 Says Refuses one_said one_line apart y.0 x.0 y.1 x.1) y.2) where
    at : (found : Found A) → FindsData Says Refuses (held name) found → AtFile 4 (long_file name) name found Next o → AtFile 4 (long_file name) name found Next p → o ≡ p
    at Absent is a b = a ∙ sym b
    at Long is a b = a ∙ sym b
    at (Bad line) is a b = a ∙ sym b
    at (Good a) is x y = one a is.bytes is.good o p x y

  -- what comes behind a file that gives something
  pub behind_program : (held : Contents) (name : List ℕ) (a : A) (Next : A → Outcome → Type 0) (o : Outcome) → FindsProgram Says Refuses (held name) (Good a) → AtProgram Says Refuses held name Next o → Next a o
  behind_program held name a Next o good x =
      subst (λ found. AtFile 1 long_program name found Next o) (one_found (held name) 1048576 Says Refuses one_said one_line apart x.0 (Good a) x.1 good) x.2

  pub behind_data : (held : Contents) (name : List ℕ) (a : A) (Next : A → Outcome → Type 0) (o : Outcome) → FindsData Says Refuses (held name) (Good a) → AtData Says Refuses held name Next o → Next a o
  behind_data held name a Next o good x =
      subst (λ found. AtFile 4 (long_file name) name found Next o) (one_found (held name) 67108864 Says Refuses one_said one_line apart x.0 (Good a) x.1 good) x.2
