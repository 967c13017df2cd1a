-- The next leaf: whether it is a terminal, or one of some, is decided, and what was read where it is.
use Rattle.sig_parse.proofs.Common.{◌≡◌, ◌⊎◌, ℕ, List, [], ◌∷◌, length, arith, inl, inr, refl, sym, ap, ◌∙◌, subst, Span, Name, Terminal, Leaf, leaf, name, word, number, label, mark, StartsWith, StopsBefore, BeginsName, IsName, State, Reads, IsLeaf, Shorter, map_dec, dec_number, dec_text}
use Rattle.sig_parse.proofs.AheadLemmas.{leaf_is}

-- ---- terminals

pub dec_terminal : (t u : Terminal) → Dec (t ≡ u)
dec_terminal (name a) (name b) = map_dec (ap name) (λ e. cc) (dec_text a b)
dec_terminal (word a) (word b) = map_dec (ap word) (λ e. cc) (dec_text a b)
dec_terminal (number a) (number b) = map_dec (ap number) (λ e. cc) (dec_number a b)
dec_terminal (label a) (label b) = map_dec (ap label) (λ e. cc) (dec_text a b)
dec_terminal (mark a) (mark b) = map_dec (ap mark) (λ e. cc) (dec_text a b)
dec_terminal _ _ = no (λ e. cc)

pub dec_name : (t : Terminal) → Dec (BeginsName t)
dec_name (name text) = yes (text, refl)
dec_name _ = no (λ is. let e = is.1 in cc)

pub dec_digits : (t : Terminal) → Dec ((n : ℕ) × (t ≡ number n))
dec_digits (number n) = yes (n, refl)
dec_digits _ = no (λ is. let e = is.1 in cc)

pub dec_label : (t : Terminal) → Dec ((text : List ℕ) × (t ≡ label text))
dec_label (label text) = yes (text, refl)
dec_label _ = no (λ is. let e = is.1 in cc)

-- ---- leaves

pub starts_or_not : (Begins : Terminal → Type 0) → ((t : Terminal) → Dec (Begins t)) → (leaves : List Leaf) → StartsWith Begins leaves ⊎ StopsBefore Begins leaves
starts_or_not Begins decide [] = inr tt
starts_or_not Begins decide (l ∷ leaves) = elim (decide l.terminal) [ yes begins ↦ inl begins | no stops ↦ inr stops ]

-- the leaves behind the next one
abbrev pub passing : State → List Leaf → State
passing s rest = record { leaves = rest; operators = s.operators }

pub next_read : (t : Terminal) (l : Leaf) (rest : List Leaf) (s : State) → s.leaves ≡ l ∷ rest → l.terminal ≡ t → Reads (IsLeaf t l.at) 0 s (passing s rest)
next_read t l rest s e same = record {
  front = leaf t l.at ∷ [];
  split = e ∙ ap (λ (m : Leaf). m ∷ rest) (leaf_is l t same);
  is = refl;
  counted = omega arith;
  few = λ h. h;
}

pub next_shorter : (l : Leaf) (rest : List Leaf) (s : State) → s.leaves ≡ l ∷ rest → Shorter s (passing s rest)
next_shorter l rest s e = omega (arith, ap length e)

-- this terminal
pub data Taken (t : Terminal) (s : State) : Type 0 where
  taken : (at : Span) (u : State) → Reads (IsLeaf t at) 0 s u → Shorter s u → Taken t s
  missing : StopsBefore (λ v. v ≡ t) s.leaves → Taken t s

pub take : (t : Terminal) (s : State) → Taken t s
take t s = at s.leaves refl where
  at : (ls : List Leaf) → s.leaves ≡ ls → Taken t s
  at [] e = missing (subst (λ (ls : List Leaf). StopsBefore (λ v. v ≡ t) ls) (sym e) tt)
  at (l ∷ rest) e = elim (dec_terminal l.terminal t) [
    | yes same ↦ taken l.at (passing s rest) (next_read t l rest s e same) (next_shorter l rest s e)
    | no other ↦ missing (subst (λ (ls : List Leaf). StopsBefore (λ v. v ≡ t) ls) (sym e) other)
  ]

-- a terminal with a value
pub data TakenOne {V : Type 0} (spelled : V → Terminal) (s : State) : Type 0 where
  taken_one : (v : V) (at : Span) (u : State) → Reads (IsLeaf (spelled v) at) 0 s u → Shorter s u → TakenOne spelled s
  missing_one : StopsBefore (λ t. (v : V) × (t ≡ spelled v)) s.leaves → TakenOne spelled s

pub take_one_of : {V : Type 0} (spelled : V → Terminal) → ((t : Terminal) → Dec ((v : V) × (t ≡ spelled v))) → (s : State) → TakenOne spelled s
take_one_of {V} spelled decide s = at s.leaves refl where
  at : (ls : List Leaf) → s.leaves ≡ ls → TakenOne spelled s
  at [] e = missing_one (subst (λ (ls : List Leaf). StopsBefore (λ t. (v : V) × (t ≡ spelled v)) ls) (sym e) tt)
  at (l ∷ rest) e = elim (decide l.terminal) [
    | yes same ↦ taken_one same.0 l.at (passing s rest) (next_read (spelled same.0) l rest s e same.1) (next_shorter l rest s e)
    | no other ↦ missing_one (subst (λ (ls : List Leaf). StopsBefore (λ t. (v : V) × (t ≡ spelled v)) ls) (sym e) other)
  ]

-- a name
pub data TakenName (s : State) : Type 0 where
  taken_name : (n : Name) (u : State) → Reads (IsName n) 0 s u → Shorter s u → TakenName s
  missing_name : StopsBefore BeginsName s.leaves → TakenName s

pub take_name : (s : State) → TakenName s
take_name s = at (take_one_of name dec_name s) where
  at : TakenOne name s → TakenName s
  at (taken_one text place u r shorter) = taken_name (record { text = text; at = place }) u r shorter
  at (missing_one stops) = missing_name stops
