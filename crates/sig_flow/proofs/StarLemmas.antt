-- Words with a star.
use Rattle.sig_flow.proofs.Common.{◌≡◌, ◌<◌, ◌+◌, ℕ, List, length, take, drop, get_or, eqb, nat_lt, true, false, refl, ⊎_elim, arith, cases_Bool, lt-ltb, nat_tests, position_or_len_is, Kind, is_star, repeated, star_said, starred, times_said, value_said}

pub no_star : (b : ℕ) → (eqb b 42 ≡ true → ⊥) → eqb b 42 ≡ false
no_star b other = ⊎_elim (λ is. absurd (other is)) (λ is. is) (cases_Bool (eqb b 42))

-- the first star
pub star_at : (kind : Kind) (word : List ℕ) (star : ℕ) → star < length word → ((k : ℕ) → k < star → is_star (get_or word k 0) ≡ false) → is_star (get_or word star 0) ≡ true → star_said kind word ≡ starred (times_said (drop (star + 1) word)) (value_said kind (take star word))
star_at kind word star lt none here =
    rw (position_or_len_is is_star word star 0 (omega arith) none (λ _. here)) (rw (lt-ltb star (length word) lt) refl)

-- no star
pub star_nowhere : (kind : Kind) (word : List ℕ) → ((k : ℕ) → k < length word → is_star (get_or word k 0) ≡ false) → star_said kind word ≡ repeated 1 (value_said kind word)
star_nowhere kind word none =
    let past : nat_lt (length word) (length word) ≡ false = grind (arith, nat_tests) in
    rw (position_or_len_is is_star word (length word) 0 (omega arith) none (λ lt. absurd (omega arith))) (rw past refl)
