-- Room for more in a list: some behind its first elements, and some at its end.
use Rattle.sig_pace.proofs.Common.{◌≡◌, ◌<◌, ◌≤◌, ◌+◌, ◌-◌, ◌++◌, ◌⊎◌, inl, inr, ℕ, suc, List, [], ◌∷◌, length, take, drop, cond, get_or, slice_get, refl, sym, ap, ◌∙◌, arith, Some, cases_lt, le-ltb, lt-ltb, get_or-append-add, get_or-drop, get_or-take, get_or_append_left, length-append, length-drop, length-take-le, moved, slice_get-get_or}

-- ---- numbers

pub no_offset : (a : ℕ) → a + 0 ≡ a
no_offset a = omega arith

pub next_offset : (a j : ℕ) → a + suc j ≡ suc a + j
next_offset a j = omega arith

pub same_at : {X : Type 0} (f : ℕ → X) (a b : ℕ) → a ≡ b → f a ≡ f b
same_at f a b same = ap f same

-- ---- room

abbrev pub with_room : {A : Type 0} → ℕ → List A → List A → List A → List A
with_room n more last xs = take n xs ++ (more ++ (drop n xs ++ last))

-- ---- places

pub moved_below : (n more k : ℕ) → k < n → moved n more k ≡ k
moved_below n more k lt = ap (λ b. cond b k (k + more)) (lt-ltb k n lt)

pub moved_above : (n more k : ℕ) → n ≤ k → moved n more k ≡ k + more
moved_above n more k le = ap (λ b. cond b k (k + more)) (le-ltb k n le)

-- ---- what stands there

behind : {A : Type 0} (n : ℕ) (xs ys : List A) (j k : ℕ) (d : A) → length xs ≡ n → k ≡ n + j → get_or (xs ++ ys) k d ≡ get_or ys j d
behind n xs ys j k d len is = ap (λ i. get_or (xs ++ ys) i d) (is ∙ ap (λ m. m + j) (sym len)) ∙ get_or-append-add xs ys j d

module _ {A : Type 0} (n : ℕ) (more last xs : List A) (within : n ≤ length xs) where
  pub room_length : length (with_room n more last xs) ≡ length xs + (length more + length last)
  room_length = omega (arith, length-append (take n xs) (more ++ (drop n xs ++ last)), length-take-le n xs within, length-append more (drop n xs ++ last), length-append (drop n xs) last, length-drop n xs, within)

  pub old_at : (k : ℕ) (d : A) → k < length xs → get_or (with_room n more last xs) (moved n (length more) k) d ≡ get_or xs k d
  old_at k d lt = elim (cases_lt k n) [
    | inl low ↦ ap (λ i. get_or (with_room n more last xs) i d) (moved_below n (length more) k low)
        ∙ get_or_append_left (take n xs) (more ++ (drop n xs ++ last)) d k (omega (arith, length-take-le n xs within, low)) ∙ get_or-take n xs k d low
    | inr high ↦ ap (λ i. get_or (with_room n more last xs) i d) (moved_above n (length more) k high)
        ∙ behind n (take n xs) (more ++ (drop n xs ++ last)) (length more + (k - n)) (k + length more) d (length-take-le n xs within) (omega (arith, high))
        ∙ behind (length more) more (drop n xs ++ last) (k - n) (length more + (k - n)) d refl refl
        ∙ get_or_append_left (drop n xs) last d (k - n) (omega (arith, length-drop n xs, high, lt))
        ∙ get_or-drop n xs (k - n) d ∙ same_at (λ i. get_or xs i d) (n + (k - n)) k (omega (arith, high))
  ]

  pub more_at : (j : ℕ) (d : A) → j < length more → get_or (with_room n more last xs) (n + j) d ≡ get_or more j d
  more_at j d lt = behind n (take n xs) (more ++ (drop n xs ++ last)) j (n + j) d (length-take-le n xs within) refl ∙ get_or_append_left more (drop n xs ++ last) d j lt

  pub last_at : (j : ℕ) (d : A) → get_or (with_room n more last xs) (length xs + length more + j) d ≡ get_or last j d
  last_at j d =
      behind n (take n xs) (more ++ (drop n xs ++ last)) (length more + (length xs - n + j)) (length xs + length more + j) d (length-take-le n xs within) (omega (arith, within))
      ∙ behind (length more) more (drop n xs ++ last) (length xs - n + j) (length more + (length xs - n + j)) d refl refl
      ∙ behind (length xs - n) (drop n xs) last j (length xs - n + j) d (length-drop n xs) refl

-- the same element, whatever would stand past the end
same_found : {A : Type 0} (xs ys : List A) (i k : ℕ) → i < length xs → k < length ys → ((d : A) → get_or xs i d ≡ get_or ys k d) → slice_get xs i ≡ slice_get ys k
same_found [] ys i k lt lt' same = absurd (omega (arith, lt))
same_found (x ∷ xs) ys i k lt lt' same = slice_get-get_or (x ∷ xs) i x lt ∙ ap Some (same x) ∙ sym (slice_get-get_or ys k x lt')

module _ {A : Type 0} (n : ℕ) (more last xs : List A) (within : n ≤ length xs) where
  moved_within : (k : ℕ) → k < length xs → moved n (length more) k < length (with_room n more last xs)
  moved_within k lt = elim (cases_lt k n) [
    | inl low ↦ omega (arith, moved_below n (length more) k low, room_length n more last xs within, lt)
    | inr high ↦ omega (arith, moved_above n (length more) k high, room_length n more last xs within, lt)
  ]

  pub old_found : (k : ℕ) → k < length xs → slice_get xs k ≡ slice_get (with_room n more last xs) (moved n (length more) k)
  old_found k lt = sym (same_found (with_room n more last xs) xs (moved n (length more) k) k (moved_within k lt) lt (λ d. old_at n more last xs within k d lt))

  pub more_found : (j : ℕ) → j < length more → slice_get (with_room n more last xs) (n + j) ≡ slice_get more j
  more_found j lt = same_found (with_room n more last xs) more (n + j) j (omega (arith, room_length n more last xs within, within, lt)) lt (λ d. more_at n more last xs within j d lt)

  pub last_found : (j : ℕ) → j < length last → slice_get (with_room n more last xs) (length xs + length more + j) ≡ slice_get last j
  last_found j lt = same_found (with_room n more last xs) last (length xs + length more + j) j (omega (arith, room_length n more last xs within, lt)) lt (λ d. last_at n more last xs within j d)

-- ---- which place a number is

pub moved_apart : (n more x y : ℕ) → moved n more x ≡ moved n more y → x ≡ y
moved_apart n more x y same = at (cases_lt x n) (cases_lt y n) where
  at : (x < n) ⊎ (n ≤ x) → (y < n) ⊎ (n ≤ y) → x ≡ y
  at (inl low) (inl low') = sym (moved_below n more x low) ∙ same ∙ moved_below n more y low'
  at (inl low) (inr high) = absurd (omega (arith, low, high, moved_below n more x low, moved_above n more y high, same))
  at (inr high) (inl low) = absurd (omega (arith, low, high, moved_above n more x high, moved_below n more y low, same))
  at (inr high) (inr high') = omega (arith, moved_above n more x high, moved_above n more y high', same)

-- no signal is moved into the room
pub moved_outside : (n more x j : ℕ) → j < more → moved n more x ≡ n + j → ⊥
moved_outside n more x j lt same = at (cases_lt x n) where
  at : (x < n) ⊎ (n ≤ x) → ⊥
  at (inl low) = omega (arith, low, moved_below n more x low, same)
  at (inr high) = omega (arith, high, moved_above n more x high, same, lt)

pub moved_before : (n count more x : ℕ) → n ≤ count → x < count → moved n more x < count + more
moved_before n count more x le lt = at (cases_lt x n) where
  at : (x < n) ⊎ (n ≤ x) → moved n more x < count + more
  at (inl low) = omega (arith, low, le, moved_below n more x low)
  at (inr high) = omega (arith, lt, moved_above n more x high)

-- a number is that of an old element, of one in the room, or of one at the end
pub data IsPlace (n count more last k : ℕ) : Type 0 where
  is_old : (x : ℕ) → x < count → moved n more x ≡ k → IsPlace n count more last k
  is_new : (j : ℕ) → j < more → n + j ≡ k → IsPlace n count more last k
  is_last : (j : ℕ) → j < last → count + more + j ≡ k → IsPlace n count more last k

pub place_cases : (n count more last k : ℕ) → n ≤ count → k < count + (more + last) → IsPlace n count more last k
place_cases n count more last k le lt = at (cases_lt k n) (cases_lt k (n + more)) (cases_lt k (count + more)) where
  at : (k < n) ⊎ (n ≤ k) → (k < n + more) ⊎ (n + more ≤ k) → (k < count + more) ⊎ (count + more ≤ k) → IsPlace n count more last k
  at (inl low) room back = is_old k (omega (arith, low, le)) (moved_below n more k low)
  at (inr high) (inl inside) back = is_new (k - n) (omega (arith, high, inside)) (omega (arith, high))
  at (inr high) (inr behind) (inl before) = is_old (k - more) (omega (arith, behind, before)) (moved_above n more (k - more) (omega (arith, behind)) ∙ same_at (λ i. i) (k - more + more) k (omega (arith, behind)))
  at (inr high) (inr behind) (inr after) = is_last (k - (count + more)) (omega (arith, after, lt)) (omega (arith, after))
