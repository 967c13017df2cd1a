-- What words say is of the kind for which they say it.
use Rattle.sig_judge.proofs.Common.{◌≡◌, ◌<◌, ◌≤◌, ◌^◌, ℕ, ℤ, zero, suc, pos, neg_ℤ, Bool, true, false, eqb, List, [], ◌∷◌, length, get_or, None, Result, bytes_eq, codes, refl, inl, inr, arith, ltb-true, leb-true, false≢true, FitsSigned, w64, digits_value, Bounded, IsOfKind, Kind, Integer, Boolean, Event, boolean_said, event_said, integer_of, integer_said, is_numeral, is_within, value_said, Word, WordFault, cell_said, cells_said, present_with, seen_said}

fits_pos : (n : ℕ) → n < 2 ^ 63 → FitsSigned w64 (pos n)
fits_pos n lt = record { sfits = lt }

fits_neg : (n : ℕ) → n ≤ 2 ^ 63 → FitsSigned w64 (neg_ℤ (pos n))
fits_neg zero le = record { sfits = omega arith }
fits_neg (suc n) le = record { sfits = omega (arith, le) }

-- the integer of a word that is within 64 bits
signed_fits : (c : ℕ) (cs : List ℕ) (b : Bool) → eqb c 45 ≡ b → is_within (c ∷ cs) ≡ true → FitsSigned w64 (integer_of (c ∷ cs))
signed_fits c cs true is within = rw is (fits_neg (digits_value 10 cs) (leb-true _ _ (rw is at within)))
signed_fits c cs false is within = rw is (fits_pos (digits_value 10 (c ∷ cs)) (ltb-true _ _ (rw is at within)))

integer_fits : (word : List ℕ) → is_within word ≡ true → FitsSigned w64 (integer_of word)
integer_fits [] within = absurd (false≢true within)
integer_fits (c ∷ cs) within = signed_fits c cs (eqb c 45) refl within

-- what a word that is read as told says is absent or of the kind
abbrev Said : Kind → Result ℤ WordFault → Type 0
Said kind said = IsOfKind Bounded kind (seen_said (present_with said))

integer_value : (word : List ℕ) (a b : Bool) → is_numeral word ≡ a → is_within word ≡ b → Said Integer (integer_said word)
integer_value word true true numeral within = rw (numeral, within) (integer_fits word within)
integer_value word true false numeral within = rw (numeral, within) tt
integer_value word false b numeral within = rw numeral tt

boolean_value : (word : List ℕ) (a b : Bool) → bytes_eq word (codes "true") ≡ a → bytes_eq word (codes "false") ≡ b → Said Boolean (boolean_said word)
boolean_value word true b is other = rw is (inr refl)
boolean_value word false true is other = rw (is, other) (inl refl)
boolean_value word false false is other = rw (is, other) tt

event_value : (word : List ℕ) (a : Bool) → bytes_eq word (codes "true") ≡ a → Said Event (event_said word)
event_value word true is = rw is refl
event_value word false is = rw is tt

value_of_kind : (kind : Kind) (word : List ℕ) → Said kind (value_said kind word)
value_of_kind Integer word = integer_value word (is_numeral word) (is_within word) refl refl
value_of_kind Boolean word = boolean_value word (bytes_eq word (codes "true")) (bytes_eq word (codes "false")) refl refl
value_of_kind Event word = event_value word (bytes_eq word (codes "true")) refl

cell_by : (kind : Kind) (word : List ℕ) (dot : Bool) → bytes_eq word (codes ".") ≡ dot → IsOfKind Bounded kind (seen_said (cell_said kind word))
cell_by kind word true is = rw is tt
cell_by kind word false is = rw is (value_of_kind kind word)

pub cell_of_kind : (kind : Kind) (word : List ℕ) → IsOfKind Bounded kind (seen_said (cell_said kind word))
cell_of_kind kind word = cell_by kind word (bytes_eq word (codes ".")) refl

-- the cell at a place is of the kind there
pub cell_at_of_kind : (kinds : List Kind) (words : List Word) (n : ℕ) (d : Kind) → n < length kinds → IsOfKind Bounded (get_or kinds n d) (get_or (cells_said kinds words) n None)
cell_at_of_kind [] words n d lt = absurd (omega arith)
cell_at_of_kind (kind ∷ kinds) [] zero d lt = tt
cell_at_of_kind (kind ∷ kinds) [] (suc n) d lt = tt
cell_at_of_kind (kind ∷ kinds) (word ∷ words) zero d lt = cell_of_kind kind word.text
cell_at_of_kind (kind ∷ kinds) (word ∷ words) (suc n) d lt = cell_at_of_kind kinds words n d (omega (arith, lt))
