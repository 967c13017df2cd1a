-- What an instruction keeps of cells, stamps and counts.
use Rattle.sig_exec.proofs.Common.{if◌then◌else◌, ◌≡◌, ◌<◌, ◌≤◌, ◌+◌, inl, inr, ℕ, zero, suc, ℤ, Bool, true, false, List, [], ◌∷◌, length, set, take, drop, None, Some, refl, sym, ap, ◌∙◌, arith, eq-eqb, slice_index_or, ◌==◌, take-set-lt, drop-set-lt, drop-set-add, take-set-le, get_or-take, get_or_past, length-take-le, cases_lt, Seen, seen_at, ImageView, cell, Cells, HaveSignals, left_by, left_of, registers_on, seen_on, shown, shown_all, taken_after, Instruction, Work, Next}
use Rattle.sig_exec.proofs.OperationOutcomes.{behind_first, value_in}

-- ---- what is shown

shown_itself : (instant : ℕ) (v : ℤ) → shown instant instant v ≡ Some v
shown_itself instant v = rw (eq-eqb instant instant refl) refl

shown_set : (instant : ℕ) (stamps : List ℕ) (cells : List ℤ) (x : ℕ) (v : ℤ) → x < length stamps → x < length cells
    → shown_all instant (set stamps x instant) (set cells x v) ≡ set (shown_all instant stamps cells) x (Some v)
shown_set instant [] cells x v a b = absurd (omega (arith, a))
shown_set instant (t ∷ stamps) [] x v a b = absurd (omega (arith, b))
shown_set instant (t ∷ stamps) (w ∷ cells) zero v a b = ap (λ (o : Seen). o ∷ shown_all instant stamps cells) (shown_itself instant v)
shown_set instant (t ∷ stamps) (w ∷ cells) (suc x) v a b =
    ap (λ (l : List Seen). shown instant t w ∷ l) (shown_set instant stamps cells x v (omega (arith, a)) (omega (arith, b)))

shown_at : (instant : ℕ) (stamps : List ℕ) (cells : List ℤ) (x : ℕ) → x < length stamps → x < length cells
    → seen_at (shown_all instant stamps cells) x ≡ shown instant (slice_index_or stamps x 0) (cell cells x)
shown_at instant [] cells x a b = absurd (omega (arith, a))
shown_at instant (t ∷ stamps) [] x a b = absurd (omega (arith, b))
shown_at instant (t ∷ stamps) (w ∷ cells) zero a b = refl
shown_at instant (t ∷ stamps) (w ∷ cells) (suc x) a b = shown_at instant stamps cells x (omega (arith, a)) (omega (arith, b))

shown_length : (instant : ℕ) (stamps : List ℕ) (cells : List ℤ) (n : ℕ) → n ≤ length stamps → n ≤ length cells → n ≤ length (shown_all instant stamps cells)
shown_length instant stamps cells zero a b = omega arith
shown_length instant [] cells (suc n) a b = absurd (omega (arith, a))
shown_length instant (t ∷ stamps) [] (suc n) a b = absurd (omega (arith, b))
shown_length instant (t ∷ stamps) (w ∷ cells) (suc n) a b = let h = shown_length instant stamps cells n (omega (arith, a)) (omega (arith, b)) in omega (arith, h)

-- what a signal is
pub registers_at : (image : ImageView) (instant : ℕ) (m : Cells) → HaveSignals image m → (x : ℕ) → x < length image.signals → seen_at (registers_on image instant m) x ≡ seen_on instant m x
registers_at image instant m has x below =
    let a = has.stamps in let b = has.cells in
    get_or-take (length image.signals) (shown_all instant m.stamps m.values) x None below
    ∙ shown_at instant m.stamps m.values x (omega (arith, a, below)) (omega (arith, b, below))

pub registers_length : (image : ImageView) (instant : ℕ) (m : Cells) → HaveSignals image m → length (registers_on image instant m) ≡ length image.signals
registers_length image instant m has =
    length-take-le (length image.signals) (shown_all instant m.stamps m.values) (shown_length instant m.stamps m.values (length image.signals) has.stamps has.cells)

shown_value : (b : Bool) (c v : ℤ) → (if b then Some c else None) ≡ Some v → c ≡ v
shown_value true c v e = cc
shown_value false c v e = absurd (let f : None ≡ Some v = e in cc)

-- a signal that was written has the value of its cell
pub cell_of_seen : (image : ImageView) (instant : ℕ) (m : Cells) → HaveSignals image m → (x : ℕ) → ((v : ℤ) × (seen_at (registers_on image instant m) x ≡ Some v))
    → (x < length image.signals) × (cell m.values x ≡ value_in (seen_at (registers_on image instant m) x))
cell_of_seen image instant m has x (v, is) = elim (cases_lt x (length image.signals)) [
  | inl below ↦
      let e = shown_value (slice_index_or m.stamps x 0 == instant) (cell m.values x) v (sym (registers_at image instant m has x below) ∙ is) in
      (below, e ∙ sym (ap value_in is))
  | inr past ↦
      let count = registers_length image instant m has in
      let none : seen_at (registers_on image instant m) x ≡ None = get_or_past (registers_on image instant m) x None (omega (arith, past, count)) in
      absurd (let f : None ≡ Some v = sym none ∙ is in cc)
]

-- ---- what is left of the flows

drop_next : (t : ℕ) (flow : List ℤ) → drop (suc t) flow ≡ behind_first (drop t flow)
drop_next zero [] = refl
drop_next zero (v ∷ flow) = refl
drop_next (suc t) [] = refl
drop_next (suc t) (v ∷ flow) = drop_next t flow

left_set : (taken : List ℕ) (flows : List (List ℤ)) (x : ℕ)
    → left_of (set taken x (slice_index_or taken x 0 + 1)) flows ≡ set (left_of taken flows) x (behind_first (slice_index_or (left_of taken flows) x []))
left_set [] flows x = refl
left_set (t ∷ taken) [] zero = refl
left_set (t ∷ taken) [] (suc x) = refl
left_set (t ∷ taken) (flow ∷ flows) zero =
    ap (λ (l : List ℤ). l ∷ left_of taken flows) (ap (λ (k : ℕ). drop k flow) (let e : t + 1 ≡ suc t = omega arith in e) ∙ drop_next t flow)
left_set (t ∷ taken) (flow ∷ flows) (suc x) = ap (λ (l : List (List ℤ)). drop t flow ∷ l) (left_set taken flows x)

pub left_at : (taken : List ℕ) (flows : List (List ℤ)) (x : ℕ) → length taken ≡ length flows → x < length flows
    → slice_index_or (left_of taken flows) x [] ≡ drop (slice_index_or taken x 0) (slice_index_or flows x [])
left_at [] [] x same below = absurd (omega (arith, below))
left_at [] (flow ∷ flows) x same below = absurd (omega (arith, same))
left_at (t ∷ taken) [] x same below = absurd (omega (arith, below))
left_at (t ∷ taken) (flow ∷ flows) zero same below = refl
left_at (t ∷ taken) (flow ∷ flows) (suc x) same below = left_at taken flows x (omega (arith, same)) (omega (arith, below))

pub left_length : (taken : List ℕ) (flows : List (List ℤ)) → length taken ≡ length flows → length (left_of taken flows) ≡ length flows
left_length [] [] same = refl
left_length [] (flow ∷ flows) same = absurd (omega (arith, same))
left_length (t ∷ taken) [] same = absurd (omega (arith, same))
left_length (t ∷ taken) (flow ∷ flows) same = let e = left_length taken flows (omega (arith, same)) in omega (arith, e)

-- ---- the cells that an instruction leaves

module _ (image : ImageView) (flows : List (List ℤ)) (instruction : Instruction) (v : ℤ) (instant : ℕ) (old : Cells) where
  abbrev at : ℕ
  at = instruction.target

  abbrev n : ℕ
  n = length image.signals

  abbrev new : Cells
  new = left_by instruction v instant old

  shows : at < length old.stamps → at < length old.values → registers_on image instant new ≡ take n (set (shown_all instant old.stamps old.values) at (Some v))
  shows stamps cells = ap (λ (l : List Seen). take n l) (shown_set instant old.stamps old.values at v stamps cells)

  abbrev memories : Cells → List ℤ
  memories m = take (length image.memories) (drop n m.values)

  module _ (stamps : at < length old.stamps) (cells : at < length old.values) where
    pub signal_registers : (x : ℕ) → at ≡ x → x < n → registers_on image instant new ≡ set (registers_on image instant old) x (Some v)
    signal_registers x is below =
        shows stamps cells ∙ take-set-lt n (shown_all instant old.stamps old.values) at (Some v) (omega (arith, is, below))
        ∙ ap (λ (k : ℕ). set (registers_on image instant old) k (Some v)) is

    pub signal_memories : (x : ℕ) → at ≡ x → x < n → memories new ≡ memories old
    signal_memories x is below = ap (take (length image.memories)) (drop-set-lt n old.values at v (omega (arith, is, below)))

    pub memory_registers : (m : ℕ) → at ≡ n + m → registers_on image instant new ≡ registers_on image instant old
    memory_registers m is = shows stamps cells ∙ take-set-le n (shown_all instant old.stamps old.values) at (Some v) (omega (arith, is))

    pub memory_memories : (m : ℕ) → at ≡ n + m → m < length image.memories → memories new ≡ set (memories old) m v
    memory_memories m is below =
        ap (λ (k : ℕ). take (length image.memories) (drop n (set old.values k v))) is
        ∙ ap (take (length image.memories)) (drop-set-add n old.values m v)
        ∙ take-set-lt (length image.memories) (drop n old.values) m v below

  pub flows_same : taken_after instruction.work old.taken ≡ old.taken → left_of new.taken flows ≡ left_of old.taken flows
  flows_same same = ap (λ (l : List ℕ). left_of l flows) same

  pub flows_read : (x : ℕ) → instruction.work ≡ Next x → left_of new.taken flows ≡ set (left_of old.taken flows) x (behind_first (slice_index_or (left_of old.taken flows) x []))
  flows_read x is = ap (λ (w : Work). left_of (taken_after w old.taken) flows) is ∙ left_set old.taken flows x
