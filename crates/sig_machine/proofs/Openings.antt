-- A machine at the opening, and in the next instant.
use Rattle.sig_machine.proofs.Common.{◌≡◌, ◌<◌, ◌≤◌, ◌+◌, ◌==◌, ◌∙◌, ℕ, zero, suc, ℤ, pos, Bool, true, false, List, [], ◌∷◌, ◌++◌, length, nat_lt, replicate, slice_get, slice_index_or, None, Option, Some, cond, refl, sym, ap, subst, arith, eqb-true, ltb-false, ltb-true, no_registers, cell, memories_at, registers_of, stamped, Machine}

-- a stamp before the instant is none of it
stale : (instant stamp : ℕ) (value : ℤ) → stamp < instant → stamped instant (Some stamp) value ≡ None
stale instant stamp value before = by (stamp == instant) refl where
  by : (b : Bool) → (stamp == instant) ≡ b → stamped instant (Some stamp) value ≡ None
  by true e = absurd (let same = eqb-true stamp instant e in omega (arith, before, same))
  by false e = rw e refl

-- where all stamps are before the instant, no signal is written
pub none_written : (m : Machine) → ((number stamp : ℕ) → slice_get m.stamps.items number ≡ Some stamp → stamp < m.instant) → registers_of m ≡ no_registers
none_written m before = λ j signal. at signal j where
  found : (signal : ℕ) (o : Option ℕ) → slice_get m.stamps.items signal ≡ o → stamped m.instant o (cell m.cells.items signal) ≡ None
  found signal None is = refl
  found signal (Some stamp) is = stale m.instant stamp (cell m.cells.items signal) (before signal stamp is)

  at : (signal : ℕ) → registers_of m signal ≡ None
  at signal = by (nat_lt signal m.signals) refl where
    by : (b : Bool) → nat_lt signal m.signals ≡ b → registers_of m signal ≡ None
    by true e = rw e (found signal (slice_get m.stamps.items signal) refl)
    by false e = rw e refl

-- a list of one item
pub replicate_get : (n i a b : ℕ) → slice_get (replicate n a) i ≡ Some b → b ≡ a
replicate_get zero i a b is = absurd (let e : None ≡ Some b = is in cc)
replicate_get (suc n) zero a b is = let e : Some a ≡ Some b = is in cc
replicate_get (suc n) (suc i) a b is = replicate_get n i a b is

pub replicate_or : (n i z : ℕ) → z ≡ 0 → slice_index_or (replicate n z) i 0 ≡ 0
replicate_or zero i z is = let e : ◌≡◌ {A = ℕ} 0 0 = refl in e
replicate_or (suc n) zero z is = is
replicate_or (suc n) (suc i) z is = replicate_or n i z is

-- behind others
pub cell_behind : (first second : List ℤ) (n : ℕ) → cell (first ++ second) (length first + n) ≡ cell second n
cell_behind [] second n = ap (cell second) (let e : 0 + n ≡ n = omega arith in e)
cell_behind (a ∷ first) second n =
    let e : length (a ∷ first) + n ≡ suc (length first + n) = omega arith in
    ap (cell (a ∷ first ++ second)) e ∙ cell_behind first second n

past : (xs : List ℤ) (n : ℕ) → length xs ≤ n → cell xs n ≡ pos 0
past [] n most = refl
past (x ∷ xs) zero most = absurd (omega (arith, most))
past (x ∷ xs) (suc n) most = past xs n (omega (arith, most))

by_less : (P : Bool → Type 0) (a b : ℕ) → (a < b → P true) → (b ≤ a → P false) → P (nat_lt a b)
by_less P a b less most = at (nat_lt a b) refl where
  at : (x : Bool) → nat_lt a b ≡ x → P (nat_lt a b)
  at true e = subst P (sym e) (less (ltb-true a b e))
  at false e = subst P (sym e) (most (ltb-false a b e))

-- the memories of cells behind as many others
pub memories_behind : (first second : List ℤ) (n : ℕ) → n ≡ length first → n ≡ length second → memories_at n (first ++ second) ≡ cell second
memories_behind first second n one two = λ j signal. at signal j where
  at : (signal : ℕ) → memories_at n (first ++ second) signal ≡ cell second signal
  at signal = by_less (λ b. cond b (cell (first ++ second) (n + signal)) (pos 0) ≡ cell second signal) signal n
      (λ less. ap (λ (k : ℕ). cell (first ++ second) (k + signal)) one ∙ cell_behind first second signal)
      (λ most. sym (past second signal (omega (arith, most, two))))

-- cells in front stay
pub cell_front : (first more : List ℤ) (n : ℕ) → n < length first → cell (first ++ more) n ≡ cell first n
cell_front [] more n less = absurd (omega (arith, less))
cell_front (a ∷ first) more zero less = refl
cell_front (a ∷ first) more (suc n) less = cell_front first more n (omega (arith, less))

-- the memories stay where cells are added behind
pub memories_stay : (cells more : List ℤ) (n : ℕ) → n + n ≤ length cells → memories_at n (cells ++ more) ≡ memories_at n cells
memories_stay cells more n room = λ j signal. at signal j where
  at : (signal : ℕ) → memories_at n (cells ++ more) signal ≡ memories_at n cells signal
  at signal = by_less (λ b. cond b (cell (cells ++ more) (n + signal)) (pos 0) ≡ cond b (cell cells (n + signal)) (pos 0)) signal n
      (λ less. cell_front cells more (n + signal) (omega (arith, less, room))) (λ most. refl)
