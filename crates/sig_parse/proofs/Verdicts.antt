-- What each part of the parser comes to, whatever the leaves: it reads something, or it refuses a token.
use Rattle.sig_parse.proofs.Common.{◌≡◌, ◌<◌, ℕ, zero, suc, List, [], ◌∷◌, length, arith, inl, inr, refl, Span, Terminal, Leaf, Limits, StopsBefore, Refusal, Syntax, Nesting, Operators, State, Reads, IsLeaf, Shorter, Cause, Wrong, TooDeep, TooMany, cause_of, IsOfText, Refuses, ReadsFurther, ReadsSeparated, RefusesSeparated}
use Rattle.sig_parse.proofs.NextLeaf.{Taken, taken, missing, take}

-- What is read, and where the parser stands behind it, or what is refused.
pub data Verdict {A : Type 0} (Read : A → State → Type 0) (Is : Limits → List Leaf → Type 0) (Continues : Terminal → Type 0) (before : List Leaf) : Type 0 where
  read : (x : A) (t : State) → Read x t → Verdict Read Is Continues before
  refused : (cause : Cause) (after : List Leaf) → Refuses Is Continues cause before after → Verdict Read Is Continues before

-- a part, and what is behind it: what is refused of the part is refused of the whole
pub behind : {A B : Type 0} {Read : A → State → Type 0} {Whole : B → State → Type 0} {Part Is : Limits → List Leaf → Type 0} {PartContinues Continues : Terminal → Type 0} {here before : List Leaf}
    → Verdict Read Part PartContinues here → ((cause : Cause) (after : List Leaf) → Refuses Part PartContinues cause here after → Refuses Is Continues cause before after)
    → ((x : A) (t : State) → Read x t → Verdict Whole Is Continues before) → Verdict Whole Is Continues before
behind (read x t is) lift next = next x t is
behind (refused cause after r) lift next = refused cause after (lift cause after r)

-- the same part, as another one has it
pub seen : {A B : Type 0} {Read : A → State → Type 0} {Whole : B → State → Type 0} {Part Is : Limits → List Leaf → Type 0} {PartContinues Continues : Terminal → Type 0} {here before : List Leaf}
    → Verdict Read Part PartContinues here → ((cause : Cause) (after : List Leaf) → Refuses Part PartContinues cause here after → Refuses Is Continues cause before after)
    → (f : A → B) → ((x : A) (t : State) → Read x t → Whole (f x) t) → Verdict Whole Is Continues before
seen v lift f as_whole = behind v lift (λ x t is. read (f x) t (as_whole x t is))

-- ---- refusals as the parser has them

abbrev pub refusal_for : Cause → Refusal
refusal_for Wrong = Syntax
refusal_for TooDeep = Nesting
refusal_for TooMany = Operators

pub refused_for : {Is : Limits → List Leaf → Type 0} {Continues : Terminal → Type 0} {before after : List Leaf} (cause : Cause) → Refuses Is Continues cause before after → Refuses Is Continues (cause_of (refusal_for cause)) before after
refused_for Wrong r = r
refused_for _ r = r

pub of_text : (cause : Cause) → IsOfText (refusal_for cause)
of_text Wrong = λ memory. cc
of_text _ = λ memory. cc

-- where the parser stands before these leaves
abbrev pub standing : List Leaf → State
standing leaves = record { leaves = leaves; operators = 0 }

-- ---- parts with a separator between them

module _ {A : Type 0} (Part : A → State → State → Type 0) (Refused : Refusal → State → State → Type 0) (separator : Terminal) where
  -- a part is read, or refused
  pub data Item (s : State) : Type 0 where
    item_read : (x : A) (t : State) → Part x s t → Shorter s t → Item s
    item_refused : (why : Refusal) (t : State) → IsOfText why → Refused why s t → Item s

  pub data Further (s : State) : Type 0 where
    further_read : (xs : List A) (t : State) → ReadsFurther Part separator xs s t → StopsBefore (λ u. u ≡ separator) t.leaves → Further s
    further_refused : (xs : List A) (at : Span) (t u : State) → ReadsFurther Part separator xs s t → Reads (IsLeaf separator at) 0 t u → (why : Refusal) (v : State) → IsOfText why → Refused why u v → Further s

  pub data Row (s : State) : Type 0 where
    row_read : (xs : List A) (t : State) → ReadsSeparated Part separator xs s t → Row s
    row_refused : (why : Refusal) (t : State) → IsOfText why → RefusesSeparated Part Refused separator s t why → Row s

  module _ (Ready : State → Type 0) (after_leaf : (at : Span) (s t : State) → Reads (IsLeaf separator at) 0 s t → Ready s → Ready t) (after_part : (x : A) (s t : State) → Part x s t → Ready s → Ready t)
      (n : ℕ) (item : (s : State) → length s.leaves < n → Ready s → Item s) where
    further_more : (x : A) (at : Span) {s t u : State} → Reads (IsLeaf separator at) 0 s t → Part x t u → Further u → Further s
    further_more x at {s} {t} {u} q p (further_read xs v more stops) = further_read (x ∷ xs) v (at, t, u, q, p, more) stops
    further_more x at {s} {t} {u} q p (further_refused xs place v w more r why y text refuses) = further_refused (x ∷ xs) place v w (at, t, u, q, p, more) r why y text refuses

    further : (m : ℕ) (s : State) → length s.leaves < m → length s.leaves < n → Ready s → Further s
    further zero s less within ready = absurd (omega (arith, less))
    further (suc m) s less within ready = at (take separator s) (λ t shorter is_ready. further m t (omega (arith, shorter, less)) (omega (arith, shorter, within)) is_ready) where
      behind_item : (at : Span) (t : State) → Reads (IsLeaf separator at) 0 s t → Shorter s t → ((u : State) → Shorter s u → Ready u → Further u) → Ready t → Item t → Further s
      behind_item at t q short rest is_ready (item_read x u p shorter) = further_more x at q p (rest u (omega (arith, short, shorter)) (after_part x t u p is_ready))
      behind_item at t q short rest is_ready (item_refused why u text refuses) = further_refused [] at s t refl q why u text refuses

      at : Taken separator s → ((t : State) → Shorter s t → Ready t → Further t) → Further s
      at (missing stops) rest = further_read [] s refl stops
      at (taken place t q short) rest = behind_item place t q short rest (after_leaf place s t q ready) (item t (omega (arith, short, within)) (after_leaf place s t q ready))

    row_of : (x : A) {s t : State} → Part x s t → Further t → Row s
    row_of x {s} {t} p (further_read xs u more stops) = row_read (x ∷ xs) u ((t, p, more), stops)
    row_of x {s} {t} p (further_refused xs at u v more q why w text refuses) = row_refused why w text (λ _. inr (x ∷ xs, at, u, v, (t, p, more), q, refuses))

    pub separated : (s : State) → length s.leaves < n → Ready s → Row s
    separated s within ready = at (item s within ready) where
      at : Item s → Row s
      at (item_read x t p shorter) = row_of x p (further n t (omega (arith, shorter, within)) (omega (arith, shorter, within)) (after_part x s t p ready))
      at (item_refused why t text refuses) = row_refused why t text (λ _. inl refuses)
