-- Fields both ways: what is read is spelled so, and what is spelled so is read again.
use Rattle.sig_file.proofs.Common.{◌≡◌, ℕ, suc, ◌+◌, ◌^◌, ◌<◌, ◌≤◌, Bool, true, false, cond, ltb, List, [], ◌∷◌, ◌++◌, length, get_or, take, drop, Option, Some, None, Result, Ok, Err, refl, sym, ap, subst, ◌∙◌, append_assoc, arith, ◌⊎◌, inl, inr, ltb-false, le-ltb, cases_lt, take_at, drop_at, take-append-drop, length-append, length-take, get_or-drop, get_or-take, get_or_past, be_bytes_4, be_bytes_8, from_be_bytes-to_be_bytes_4, from_be_bytes-to_be_bytes_8, of_z-to_z, to_z-of_z, slice_get, ℤ, Width, w32, w64, byte_len, cast_signed, cast_unsigned, from_be_bytes, to_be_bytes, long_bytes, number_bytes, Reading, ◌>>=◌, choice_at, choice_of, long_at, right_or, text_at, word_at, sfits_to_z, Fits-of_z}
use mir.Val.{SFits}

abbrev pub IsBytes : List ℕ → Type 0
IsBytes bytes = (i : ℕ) → get_or bytes i 0 < 256

IsBytes-drop : (n : ℕ) (bytes : List ℕ) → IsBytes bytes → IsBytes (drop n bytes)
IsBytes-drop n bytes h i = rw get_or-drop (h (n + i))

IsBytes-take : (n : ℕ) (bytes : List ℕ) → IsBytes bytes → IsBytes (take n bytes)
IsBytes-take n bytes h i =
    elim (cases_lt i n) [
      | inl lt ↦ rw (get_or-take n bytes i 0 lt) (h i)
      | inr le ↦ rw (get_or_past (take n bytes) i 0 (omega (arith, length-take n bytes))) (omega arith)
    ]

-- the value of a step that did not fail
pub bind_ok : {A B : Type 0} (r : Result A ℕ) (f : A → Result B ℕ) (y : B) → (r >>= f) ≡ Ok y → (x : A) × (r ≡ Ok x) × (f x ≡ Ok y)
bind_ok (Ok x) f y e = (x, refl, e)
bind_ok (Err d) f y e = absurd cc

-- the step that failed
pub bind_err : {A B : Type 0} (r : Result A ℕ) (f : A → Result B ℕ) (left : ℕ) → (r >>= f) ≡ Err left → (r ≡ Err left) ⊎ ((x : A) × (r ≡ Ok x) × (f x ≡ Err left))
bind_err (Ok x) f left e = inr (x, refl, e)
bind_err (Err d) f left e = inl (let same : d ≡ left = cc in ap (λ (n : ℕ). Err n) same)

-- a rule that was not met
right_err : {A : Type 0} (bytes : List ℕ) (b : Bool) (x : A) (left : ℕ) → right_or bytes b x ≡ Err left → left ≤ length bytes
right_err bytes true x left e = absurd cc
right_err bytes false x left e = let same : length bytes ≡ left = cc in omega arith

-- a rule that was met
pub right_ok : {A : Type 0} (bytes : List ℕ) (b : Bool) (x y : A) → right_or bytes b x ≡ Ok y → (b ≡ true) × (x ≡ y)
right_ok bytes true x y e = (refl, cc)
right_ok bytes false x y e = absurd cc

abbrev done : {A : Type 0} → A → Result A ℕ
done x = Ok x

pub ok_is : {A : Type 0} (x y : A) → done x ≡ done y → x ≡ y
ok_is x y e = cc

-- what a reader took from the front
pub record Takes (bytes text rest : List ℕ) : Type 0 where
  pub parts : bytes ≡ text ++ rest
  pub rest_fits : IsBytes rest

pub Takes-then : (a x b y c : List ℕ) → Takes a x b → Takes b y c → Takes a (x ++ y) c
Takes-then a x b y c p q = record { parts = p.parts ∙ ap (λ (t : List ℕ). x ++ t) q.parts ∙ sym (append_assoc x y c); rest_fits = q.rest_fits }

-- A reader of values that are right and are spelled so.
pub record Reads {A : Type 0} (read : Reading A) (right : A → Type 0) (spell : A → List ℕ) : Type 0 where
  pub takes : (bytes : List ℕ) (x : A) (rest : List ℕ) → IsBytes bytes → read bytes ≡ Ok (x, rest) → Takes bytes (spell x) rest × right x
  pub again : (x : A) (rest : List ℕ) → right x → read (spell x ++ rest) ≡ Ok (x, rest)
  -- no more bytes are left than there were
  pub short : (bytes : List ℕ) (left : ℕ) → IsBytes bytes → read bytes ≡ Err left → left ≤ length bytes

pub shorter : (bytes text rest : List ℕ) (left : ℕ) → Takes bytes text rest → left ≤ length rest → left ≤ length bytes
shorter bytes text rest left t h = omega (arith, ap length t.parts, length-append text rest)

-- ---- readers made of readers

module _ {A C : Type 0} (r1 : Reading A) (r2 : A → Reading C) (right1 : A → Type 0) (right2 : A → C → Type 0) (spell1 : A → List ℕ) (spell2 : C → List ℕ) (get : C → A) where
  then_takes : (first : Reads r1 right1 spell1) (second : (a : A) → right1 a → Reads (r2 a) (right2 a) spell2) (same : (a : A) (c : C) → right1 a → right2 a c → get c ≡ a)
      → (bytes : List ℕ) (x : C) (rest : List ℕ) → IsBytes bytes → (r1 bytes >>= λ a. r2 a.0 a.1) ≡ Ok (x, rest) → Takes bytes (spell1 (get x) ++ spell2 x) rest × (right1 (get x) × right2 (get x) x)
  then_takes first second same bytes x rest fits e =
      let a = bind_ok (r1 bytes) (λ a. r2 a.0 a.1) (x, rest) e in
      let t = first.takes bytes a.0.0 a.0.1 fits a.1 in
      let u = (second a.0.0 t.1).takes a.0.1 x rest t.0.rest_fits a.2 in
      let is : get x ≡ a.0.0 = same a.0.0 x t.1 u.1 in
      subst (λ (y : A). Takes bytes (spell1 y ++ spell2 x) rest × (right1 y × right2 y x)) (sym is) (Takes-then bytes (spell1 a.0.0) a.0.1 (spell2 x) rest t.0 u.0, (t.1, u.1))

  then_again : (first : Reads r1 right1 spell1) (second : (a : A) → right1 a → Reads (r2 a) (right2 a) spell2)
      → (x : C) (rest : List ℕ) → right1 (get x) × right2 (get x) x → (r1 ((spell1 (get x) ++ spell2 x) ++ rest) >>= λ a. r2 a.0 a.1) ≡ Ok (x, rest)
  then_again first second x rest h =
      let one : r1 ((spell1 (get x) ++ spell2 x) ++ rest) ≡ Ok (get x, spell2 x ++ rest) = ap r1 (append_assoc (spell1 (get x)) (spell2 x) rest) ∙ first.again (get x) (spell2 x ++ rest) h.0 in
      ap (λ (r : Result (A × List ℕ) ℕ). r >>= λ a. r2 a.0 a.1) one ∙ (second (get x) h.0).again x rest h.1

  then_short : (first : Reads r1 right1 spell1) (second : (a : A) → right1 a → Reads (r2 a) (right2 a) spell2) → (bytes : List ℕ) (left : ℕ) → IsBytes bytes
      → (r1 bytes >>= λ a. r2 a.0 a.1) ≡ Err left → left ≤ length bytes
  then_short first second bytes left fits e =
      elim (bind_err (r1 bytes) (λ a. r2 a.0 a.1) left e) [
        | inl h ↦ first.short bytes left fits h
        | inr h ↦ (let t = first.takes bytes h.0.0 h.0.1 fits h.1 in shorter bytes (spell1 h.0.0) h.0.1 left t.0 ((second h.0.0 t.1).short h.0.1 left t.0.rest_fits h.2))
      ]

  -- one reader, and another one for its value where this is right, which can be seen in what is read at last
  pub then_reads_if : Reads r1 right1 spell1 → ((a : A) → right1 a → Reads (r2 a) (right2 a) spell2) → ((a : A) (c : C) → right1 a → right2 a c → get c ≡ a)
      → Reads (λ bytes. r1 bytes >>= λ a. r2 a.0 a.1) (λ c. right1 (get c) × right2 (get c) c) (λ c. spell1 (get c) ++ spell2 c)
  then_reads_if first second same = record { takes = then_takes first second same; again = then_again first second; short = then_short first second }

  -- one reader, and another one for its value
  pub then_reads : Reads r1 right1 spell1 → ((a : A) → Reads (r2 a) (right2 a) spell2) → ((a : A) (c : C) → right1 a → right2 a c → get c ≡ a)
      → Reads (λ bytes. r1 bytes >>= λ a. r2 a.0 a.1) (λ c. right1 (get c) × right2 (get c) c) (λ c. spell1 (get c) ++ spell2 c)
  then_reads first second same = then_reads_if first (λ a h. second a) same

-- what is made of a value
abbrev pub made : {B C : Type 0} → (B → C) → B × List ℕ → Result (C × List ℕ) ℕ
made make b = Ok (make b.0, b.1)

module _ {B C : Type 0} (r : Reading B) (right : B → Type 0) (spell : B → List ℕ) (make : B → C) (get : C → B) where
  last_takes : ((b : B) → get (make b) ≡ b) → Reads r right spell → (bytes : List ℕ) (x : C) (rest : List ℕ) → IsBytes bytes → (r bytes >>= made make) ≡ Ok (x, rest)
      → Takes bytes (spell (get x)) rest × (right (get x) × (make (get x) ≡ x))
  last_takes back given bytes x rest fits e =
      let b = bind_ok (r bytes) (made make) (x, rest) e in
      let t = given.takes bytes b.0.0 b.0.1 fits b.1 in
      let p = ok_is (make b.0.0, b.0.1) (x, rest) b.2 in
      let is_x : make b.0.0 ≡ x = ap (λ (y : C × List ℕ). y.0) p in
      let left : b.0.1 ≡ rest = ap (λ (y : C × List ℕ). y.1) p in
      let is : b.0.0 ≡ get x = sym (back b.0.0) ∙ ap get is_x in
      (subst (λ (y : List ℕ). Takes bytes (spell (get x)) y) left (subst (λ (y : B). Takes bytes (spell y) b.0.1) is t.0), (subst right is t.1, ap make (sym is) ∙ is_x))

  last_again : Reads r right spell → (x : C) (rest : List ℕ) → right (get x) × (make (get x) ≡ x) → (r (spell (get x) ++ rest) >>= made make) ≡ Ok (x, rest)
  last_again given x rest h =
      ap (λ (y : Result (B × List ℕ) ℕ). y >>= made make) (given.again (get x) rest h.0) ∙ ap (λ (y : C). Ok (y, rest)) h.1

  last_short : Reads r right spell → (bytes : List ℕ) (left : ℕ) → IsBytes bytes → (r bytes >>= made make) ≡ Err left → left ≤ length bytes
  last_short given bytes left fits e =
      elim (bind_err (r bytes) (made make) left e) [
        | inl h ↦ given.short bytes left fits h
        | inr h ↦ absurd (let no : made make h.0 ≡ Err left = h.2 in cc)
      ]

  -- what is made of the last value that is read
  pub last_reads : ((b : B) → get (make b) ≡ b) → Reads r right spell → Reads (λ bytes. r bytes >>= made make) (λ c. right (get c) × (make (get c) ≡ c)) (λ c. spell (get c))
  last_reads back given = record { takes = last_takes back given; again = last_again given; short = last_short given }

module _ {A : Type 0} (r : Reading A) (right right' : A → Type 0) (spell spell' : A → List ℕ) where
  -- the same reader in other words
  pub reads_so : ((x : A) → right x → right' x) → ((x : A) → right' x → right x) → ((x : A) → right x → spell x ≡ spell' x) → Reads r right spell → Reads r right' spell'
  reads_so to from same given = record {
    takes = λ bytes x rest fits e. (let t = given.takes bytes x rest fits e in (subst (λ (y : List ℕ). Takes bytes y rest) (same x t.1) t.0, to x t.1));
    again = λ x rest h. ap (λ (y : List ℕ). r (y ++ rest)) (sym (same x (from x h))) ∙ given.again x rest (from x h);
    short = given.short;
  }

module _ {A : Type 0} (r : Reading A) (right : A → Type 0) (spell : A → List ℕ) (rule : A → Bool) where
  if_takes : Reads r right spell → (bytes : List ℕ) (x : A) (rest : List ℕ) → IsBytes bytes → (r bytes >>= λ a. right_or bytes (rule a.0) a) ≡ Ok (x, rest) → Takes bytes (spell x) rest × (right x × (rule x ≡ true))
  if_takes given bytes x rest fits e =
      let a = bind_ok (r bytes) (λ a. right_or bytes (rule a.0) a) (x, rest) e in
      let g = right_ok bytes (rule a.0.0) a.0 (x, rest) a.2 in
      let t = given.takes bytes a.0.0 a.0.1 fits a.1 in
      subst (λ (y : A × List ℕ). Takes bytes (spell y.0) y.1 × (right y.0 × (rule y.0 ≡ true))) g.1 (t.0, (t.1, g.0))

  if_again : Reads r right spell → (x : A) (rest : List ℕ) → right x × (rule x ≡ true) → (r (spell x ++ rest) >>= λ a. right_or (spell x ++ rest) (rule a.0) a) ≡ Ok (x, rest)
  if_again given x rest h =
      ap (λ (y : Result (A × List ℕ) ℕ). y >>= λ a. right_or (spell x ++ rest) (rule a.0) a) (given.again x rest h.0) ∙ ap (λ (b : Bool). right_or (spell x ++ rest) b (x, rest)) h.1

  if_short : Reads r right spell → (bytes : List ℕ) (left : ℕ) → IsBytes bytes → (r bytes >>= λ a. right_or bytes (rule a.0) a) ≡ Err left → left ≤ length bytes
  if_short given bytes left fits e =
      elim (bind_err (r bytes) (λ a. right_or bytes (rule a.0) a) left e) [
        | inl h ↦ given.short bytes left fits h
        | inr h ↦ right_err bytes (rule h.0.0) h.0 left h.2
      ]

  -- a reader of what a rule lets through
  pub if_reads : Reads r right spell → Reads (λ bytes. r bytes >>= λ a. right_or bytes (rule a.0) a) (λ x. right x × (rule x ≡ true)) spell
  if_reads given = record { takes = if_takes given; again = if_again given; short = if_short given }

-- ---- numbers

guard_ok : {A : Type 0} (b : Bool) (d : ℕ) (x y : A) → cond b (Err d) (Ok x) ≡ Ok y → (b ≡ false) × (x ≡ y)
guard_ok true d x y e = absurd cc
guard_ok false d x y e = (refl, cc)

guard_err : {A : Type 0} (b : Bool) (d left : ℕ) (x : A) → cond b (Err d) (Ok x) ≡ Err left → d ≡ left
guard_err true d left x e = cc
guard_err false d left x e = absurd cc

whole_left : (bytes : List ℕ) (left : ℕ) → length bytes ≡ left → left ≤ length bytes
whole_left bytes left e = omega arith

record IsWide (w : Width) (limit : ℕ) : Type 0 where
  pub len : (n : ℕ) → length (to_be_bytes w n) ≡ byte_len w
  pub back : (bytes : List ℕ) → length bytes ≡ byte_len w → IsBytes bytes → to_be_bytes w (from_be_bytes w bytes) ≡ bytes
  pub again : (n : ℕ) → n < limit → from_be_bytes w (to_be_bytes w n) ≡ n
  pub below : (bytes : List ℕ) → IsBytes bytes → from_be_bytes w bytes < limit

wide32 : IsWide w32 (2 ^ 32)
wide32 = record {
  len = λ n. refl;
  back = λ bytes len fits. be_bytes_4 bytes _ len fits refl;
  again = λ n lt. from_be_bytes-to_be_bytes_4 n lt;
  below = λ bytes fits. omega (arith, fits 0, fits 1, fits 2, fits 3);
}

wide64 : IsWide w64 (2 ^ 64)
wide64 = record {
  len = λ n. refl;
  back = λ bytes len fits. be_bytes_8 bytes _ len fits refl;
  again = λ n lt. from_be_bytes-to_be_bytes_8 n lt;
  below = λ bytes fits. omega (arith, fits 0, fits 1, fits 2, fits 3, fits 4, fits 5, fits 6, fits 7);
}

word_takes : (w : Width) (limit : ℕ) (wide : IsWide w limit) (bytes : List ℕ) (n : ℕ) (rest : List ℕ) → IsBytes bytes → word_at w bytes ≡ Ok (n, rest) → Takes bytes (to_be_bytes w n) rest × (n < limit)
word_takes w limit wide bytes n rest fits e =
    let g = guard_ok (ltb (length bytes) (byte_len w)) (length bytes) (from_be_bytes w (take (byte_len w) bytes), drop (byte_len w) bytes) (n, rest) e in
    let long : byte_len w ≤ length bytes = ltb-false _ _ g.0 in
    let n-is : from_be_bytes w (take (byte_len w) bytes) ≡ n = ap (λ (p : ℕ × List ℕ). p.0) g.1 in
    let rest-is : drop (byte_len w) bytes ≡ rest = ap (λ (p : ℕ × List ℕ). p.1) g.1 in
    let front : to_be_bytes w n ≡ take (byte_len w) bytes = rw (← n-is) (wide.back (take (byte_len w) bytes) (omega (arith, length-take (byte_len w) bytes)) (IsBytes-take (byte_len w) bytes fits)) in
    (record { parts = rw (front, ← rest-is) (sym (take-append-drop (byte_len w) bytes)); rest_fits = rw (← rest-is) (IsBytes-drop (byte_len w) bytes fits) }, rw (← n-is) (wide.below (take (byte_len w) bytes) (IsBytes-take (byte_len w) bytes fits)))

word_again : (w : Width) (limit : ℕ) (wide : IsWide w limit) (n : ℕ) (rest : List ℕ) → n < limit → word_at w (to_be_bytes w n ++ rest) ≡ Ok (n, rest)
word_again w limit wide n rest lt =
    let len = wide.len n in
    let long : ltb (length (to_be_bytes w n ++ rest)) (byte_len w) ≡ false = le-ltb _ _ (omega (arith, length-append (to_be_bytes w n) rest)) in
    rw (long, take_at (to_be_bytes w n) rest (byte_len w) len, drop_at (to_be_bytes w n) rest (byte_len w) len, wide.again n lt) refl

word_reads : (w : Width) (limit : ℕ) → IsWide w limit → Reads (word_at w) (λ n. n < limit) (to_be_bytes w)
word_reads w limit wide = record { takes = word_takes w limit wide; again = word_again w limit wide; short = λ bytes left fits e. whole_left bytes left (guard_err _ _ left _ e) }

-- a number of four bytes
pub number_reads : Reads (word_at w32) (λ n. n < 2 ^ 32) number_bytes
unfolding number_bytes
number_reads = word_reads w32 (2 ^ 32) wide32

long_takes : (bytes : List ℕ) (v : ℤ) (rest : List ℕ) → IsBytes bytes → long_at bytes ≡ Ok (v, rest) → Takes bytes (long_bytes v) rest × SFits w64 v
unfolding long_bytes
long_takes bytes v rest fits e =
    let b = bind_ok (word_at w64 bytes) (λ n. Ok (cast_signed w64 n.0, n.1)) (v, rest) e in
    let t = word_takes w64 (2 ^ 64) wide64 bytes b.0.0 b.0.1 fits b.1 in
    let p = ok_is (cast_signed w64 b.0.0, b.0.1) (v, rest) b.2 in
    let is : cast_unsigned w64 (cast_signed w64 b.0.0) ≡ b.0.0 = of_z-to_z w64 b.0.0 t.1 in
    let spelled : Takes bytes (long_bytes (cast_signed w64 b.0.0)) b.0.1 = subst (λ (n : ℕ). Takes bytes (to_be_bytes w64 n) b.0.1) (sym is) t.0 in
    subst (λ (y : ℤ × List ℕ). Takes bytes (long_bytes y.0) y.1 × SFits w64 y.0) p (spelled, sfits_to_z (record { fits = t.1 }))

long_again : (v : ℤ) (rest : List ℕ) → SFits w64 v → long_at (long_bytes v ++ rest) ≡ Ok (v, rest)
unfolding long_bytes
long_again v rest fits =
    let below : cast_unsigned w64 v < 2 ^ 64 = (Fits-of_z fits).fits in
    let one : word_at w64 (to_be_bytes w64 (cast_unsigned w64 v) ++ rest) ≡ Ok (cast_unsigned w64 v, rest) = word_again w64 (2 ^ 64) wide64 (cast_unsigned w64 v) rest below in
    ap (λ (r : Result (ℕ × List ℕ) ℕ). r >>= λ n. Ok (cast_signed w64 n.0, n.1)) one ∙ ap (λ (z : ℤ). Ok (z, rest)) (to_z-of_z w64 v fits)

-- a number of eight bytes with its sign
pub long_reads : Reads long_at (SFits w64) long_bytes
long_reads = record { takes = long_takes; again = long_again; short = long_short } where
  long_short : (bytes : List ℕ) (left : ℕ) → IsBytes bytes → long_at bytes ≡ Err left → left ≤ length bytes
  long_short bytes left fits e =
      elim (bind_err (word_at w64 bytes) (made (cast_signed w64)) left e) [
        | inl h ↦ (word_reads w64 (2 ^ 64) wide64).short bytes left fits h
        | inr h ↦ absurd (let no : made (cast_signed w64) h.0 ≡ Err left = h.2 in cc)
      ]

-- ---- texts and choices

text_takes : (n : ℕ) (bytes text rest : List ℕ) → IsBytes bytes → text_at n bytes ≡ Ok (text, rest) → Takes bytes text rest × (length text ≡ n)
text_takes n bytes text rest fits e =
    let g = guard_ok (ltb (length bytes) n) (length bytes) (take n bytes, drop n bytes) (text, rest) e in
    let long : n ≤ length bytes = ltb-false _ _ g.0 in
    let len : length (take n bytes) ≡ n = omega (arith, length-take n bytes) in
    let second : Takes bytes (take n bytes) (drop n bytes) = record { parts = sym (take-append-drop n bytes); rest_fits = IsBytes-drop n bytes fits } in
    subst (λ (p : List ℕ × List ℕ). Takes bytes p.0 p.1 × (length p.0 ≡ n)) g.1 (second, len)

text_again : (n : ℕ) (text rest : List ℕ) → length text ≡ n → text_at n (text ++ rest) ≡ Ok (text, rest)
text_again n text rest len =
    let long : ltb (length (text ++ rest)) n ≡ false = le-ltb _ _ (omega (arith, length-append text rest)) in
    rw (long, take_at text rest n len, drop_at text rest n len) refl

-- so many bytes
pub text_reads : (n : ℕ) → Reads (text_at n) (λ text. length text ≡ n) (λ text. text)
text_reads n = record { takes = text_takes n; again = text_again n; short = λ bytes left fits e. whole_left bytes left (guard_err _ _ left _ e) }

chosen : {A : Type 0} (bytes rest : List ℕ) (o : Option A) (x : A) (left : List ℕ) → choice_of bytes rest o ≡ Ok (x, left) → (o ≡ Some x) × (rest ≡ left)
chosen bytes rest None x left e = absurd cc
chosen bytes rest (Some y) x left e = let p = ok_is (y, rest) (x, left) e in (ap (λ (z : _). Some z.0) p, ap (λ (z : _). z.1) p)

-- each of some choices has a place, where it stands
pub record AreNumbered {A : Type 0} (choices : List A) (place : A → ℕ) : Type 0 where
  pub there : (n : ℕ) (x : A) → slice_get choices n ≡ Some x → n ≡ place x

choice_takes : {A : Type 0} (choices : List A) (place : A → ℕ) (numbered : AreNumbered choices place) (bytes : List ℕ) (x : A) (rest : List ℕ) → IsBytes bytes → choice_at choices bytes ≡ Ok (x, rest)
    → Takes bytes (place x ∷ []) rest × (slice_get choices (place x) ≡ Some x)
choice_takes choices place numbered [] x rest fits e = absurd cc
choice_takes choices place numbered (byte ∷ left) x rest fits e =
    let c = chosen (byte ∷ left) left (slice_get choices byte) x rest e in
    let is : byte ≡ place x = numbered.there byte x c.0 in
    (record { parts = ap (λ (n : ℕ). n ∷ left) is ∙ ap (λ (r : List ℕ). place x ∷ r) c.1; rest_fits = subst IsBytes c.1 (λ i. fits (suc i)) }, ap (slice_get choices) (sym is) ∙ c.0)

none_chosen : {A : Type 0} (bytes rest : List ℕ) (o : Option A) (left : ℕ) → choice_of bytes rest o ≡ Err left → length bytes ≡ left
none_chosen bytes rest None left e = cc
none_chosen bytes rest (Some x) left e = absurd cc

choice_short : {A : Type 0} (choices : List A) (bytes : List ℕ) (left : ℕ) → choice_at choices bytes ≡ Err left → left ≤ length bytes
choice_short choices [] left e = let same : 0 ≡ left = cc in omega arith
choice_short choices (byte ∷ rest) left e = whole_left (byte ∷ rest) left (none_chosen (byte ∷ rest) rest (slice_get choices byte) left e)

-- a byte that is the place of one of these
pub choice_reads : {A : Type 0} (choices : List A) (place : A → ℕ) → AreNumbered choices place → Reads (choice_at choices) (λ x. slice_get choices (place x) ≡ Some x) (λ x. place x ∷ [])
choice_reads choices place numbered = record {
  takes = choice_takes choices place numbered;
  again = λ x rest h. ap (choice_of (place x ∷ rest) rest) h;
  short = λ bytes left fits e. choice_short choices bytes left e;
}
