-- The failure word, as one number.
use Rattle.sig_interleaving.proofs.Common.{◌≡◌, ◌<◌, ◌≤◌, ◌-◌, ◌^◌, ◌↔◌, ◌∙◌, inl, inr, ℕ, Bool, true, false, cond, refl, sym, ap, arith, None, Option, Some, nat_lt, min, ◌==◌, ◌&&◌, and_from, and_parts, cases_order, eq-eqb, eqb-true, lt-ltb, ltb-true, or_cases, or_left, or_right, no_place, packed, Place, IsWord, IsWordOf, is_before, lesser, word_before}

module _ (a b : Place) (fits_a : a.pos < 2 ^ 32) (fits_b : b.pos < 2 ^ 32) where
  pub less_packed : is_before a b ≡ true → packed a < packed b
  less_packed is = elim (or_cases (nat_lt a.instant b.instant) ((a.instant == b.instant) && nat_lt a.pos b.pos) is) [
    | inl lt ↦ let less = ltb-true a.instant b.instant lt in omega (arith, less, fits_a)
    | inr both ↦
        let parts = and_parts (a.instant == b.instant) (nat_lt a.pos b.pos) both in
        let same = eqb-true a.instant b.instant parts.0 in
        let less = ltb-true a.pos b.pos parts.1 in
        omega (arith, same, less)
  ]

  pub packed_less : packed a < packed b → is_before a b ≡ true
  packed_less less = elim (cases_order a.instant b.instant) [
    | inl same ↦ or_right (nat_lt a.instant b.instant) ((a.instant == b.instant) && nat_lt a.pos b.pos)
        (and_from (a.instant == b.instant) (nat_lt a.pos b.pos) (eq-eqb a.instant b.instant same) (lt-ltb a.pos b.pos (omega (arith, less, same))))
    | inr (inl lt) ↦ or_left (nat_lt a.instant b.instant) ((a.instant == b.instant) && nat_lt a.pos b.pos) (lt-ltb a.instant b.instant lt)
    | inr (inr gt) ↦ absurd (omega (arith, less, gt, fits_b))
  ]

  -- one word packs one place
  pub packed_once : packed a ≡ packed b → a ≡ b
  packed_once same =
      let instant : a.instant ≡ b.instant = omega (arith, same, fits_a, fits_b) in
      let pos : a.pos ≡ b.pos = omega (arith, same, instant) in
      ap (λ n. let c : Place = record { instant = n; pos = a.pos } in c) instant ∙ ap (λ n. let c : Place = record { instant = b.instant; pos = n } in c) pos

-- a place is recorded
pub word_lesser : (word : Option Place) (w : ℕ) → IsWord word w → (place : Place) → place.pos < 2 ^ 32 → place.instant < 2 ^ 32 - 1
    → (v : ℕ) → v ≡ min w (packed place) → IsWord (Some (lesser word place)) v
word_lesser None w is place fits within v least = record {
  is = (let below : packed place < no_place = omega (arith, fits, within) in grind (arith, least, is, below));
  position = fits;
  instant = within;
}
word_lesser (Some word) w is place fits within v least = by (is_before place word) refl where
  by : (b : Bool) → is_before place word ≡ b → IsWordOf (cond b place word) v
  by true before = record {
    is = (let less = less_packed place word fits is.position before in let same = is.is in grind (arith, least, same, less));
    position = fits;
    instant = within;
  }
  by false more = record {
    is =
        let same = is.is in
        let most : packed word ≤ packed place = elim (cases_order (packed place) (packed word)) [
          | inl e ↦ omega (arith, e)
          | inr (inl lt) ↦ absurd (let clash : true ≡ false = sym (packed_less place word fits is.position lt) ∙ more in cc)
          | inr (inr gt) ↦ omega (arith, gt)
        ] in
        grind (arith, least, same, most);
    position = is.position;
    instant = is.instant;
  }

-- the word is before a place
pub word_before_is : (word : Option Place) (w : ℕ) → IsWord word w → (p : Place) → p.pos < 2 ^ 32 → packed p ≤ no_place
    → (b : Bool) → word_before word p ≡ b → (b ≡ true) ↔ (w < packed p)
word_before_is None w is p fits within b test = (
  λ yes. absurd (let clash : false ≡ true = test ∙ yes in cc),
  λ less. absurd (omega (arith, less, is, within)),
)
word_before_is (Some word) w is p fits within b test =
    let same = is.is in (
      λ yes. (let less = less_packed word p is.position fits (test ∙ yes) in omega (arith, less, same)),
      λ less. sym test ∙ packed_less word p is.position fits (omega (arith, less, same)),
    )

pub no_word_told : (word : Option Place) (w : ℕ) → IsWord word w → w ≡ no_place → None ≡ word
no_word_told None w is none = refl
no_word_told (Some word) w is none =
    let same = is.is in
    let fits = is.position in
    let within = is.instant in
    absurd (omega (arith, same, fits, within, none))

-- one number is the word of one place at most
pub word_once : (v w : Option Place) (n : ℕ) → IsWord v n → IsWord w n → v ≡ w
word_once None None n one two = refl
word_once None (Some q) n one two =
    let same = two.is in
    let fits = two.position in
    let within = two.instant in
    absurd (omega (arith, one, same, fits, within))
word_once (Some p) None n one two =
    let same = one.is in
    let fits = one.position in
    let within = one.instant in
    absurd (omega (arith, two, same, fits, within))
word_once (Some p) (Some q) n one two = ap (λ r. Some r) (packed_once p q one.position two.position (one.is ∙ sym two.is))
