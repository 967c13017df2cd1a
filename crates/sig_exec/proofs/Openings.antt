-- A machine before the first instant, and at the start of each.
use Rattle.sig_exec.proofs.Common.{◌≡◌, ◌<◌, ◌≤◌, ◌++◌, ℕ, zero, suc, ℤ, pos, Bool, true, false, List, [], ◌∷◌, length, take, drop, replicate, None, Some, refl, sym, ap, ◌∙◌, arith, eqb-true, append_assoc, slice_get, ◌==◌, length-map, length-replicate, Seen, guards_of, ImageView, State, cleared, opening, ImageMemory, Lowers, inits_of, Cells, AreCellsOf, left_of, shown, shown_all, state_on, ImageInstructions}
use Rattle.sig_exec.proofs.InstructionWorks.{has_cells}

-- a stamp before the instant is none of it
stale : (instant stamp : ℕ) (value : ℤ) → stamp < instant → shown instant stamp value ≡ None
stale instant stamp value before = by (stamp == instant) refl where
  by : (b : Bool) → (stamp == instant) ≡ b → shown instant stamp value ≡ None
  by true e = absurd (let same = eqb-true stamp instant e in omega (arith, before, same))
  by false e = rw e refl

none_shown : (instant : ℕ) (stamps : List ℕ) (cells : List ℤ) (n : ℕ) → ((k s : ℕ) → slice_get stamps k ≡ Some s → s < instant) → n ≤ length stamps → n ≤ length cells
    → take n (shown_all instant stamps cells) ≡ replicate n None
none_shown instant stamps cells zero before a b = refl
none_shown instant [] cells (suc n) before a b = absurd (omega (arith, a))
none_shown instant (t ∷ stamps) [] (suc n) before a b = absurd (omega (arith, b))
none_shown instant (t ∷ stamps) (v ∷ cells) (suc n) before a b =
    ap (λ (o : Seen). o ∷ take n (shown_all instant stamps cells)) (stale instant t v (before 0 t refl))
    ∙ ap (λ (l : List Seen). None ∷ l) (none_shown instant stamps cells n (λ k. before (suc k)) (omega (arith, a)) (omega (arith, b)))

-- at the start of a later instant no signal is written
pub state_cleared : (image : ImageView) (lowered : ImageInstructions) → Lowers image lowered → (flows : List (List ℤ)) (before : ℕ) (m : Cells) → AreCellsOf image lowered flows before m → (instant : ℕ) → before < instant
    → state_on image flows instant m ≡ cleared (guards_of image) (state_on image flows before m)
state_cleared image lowered lowers flows before m is instant later =
    let has = has_cells image lowered lowers flows before m is in
    let none = none_shown instant m.stamps m.values (length image.signals) (λ k s there. let few = is.past k s there in omega (arith, few, later)) has.stamps has.cells in
    λ j. let s : State = record { registers = none j; memories = (state_on image flows before m).memories; flows = (state_on image flows before m).flows } in s

-- ---- before the first instant

drop_front : {A : Type 0} (front rest : List A) (n : ℕ) → n ≡ length front → drop n (front ++ rest) ≡ rest
drop_front [] rest zero e = refl
drop_front [] rest (suc n) e = absurd (omega (arith, e))
drop_front (x ∷ front) rest zero e = absurd (omega (arith, e))
drop_front (x ∷ front) rest (suc n) e = drop_front front rest n (omega (arith, e))

take_front : {A : Type 0} (front rest : List A) (n : ℕ) → n ≡ length front → take n (front ++ rest) ≡ front
take_front [] rest zero e = refl
take_front [] rest (suc n) e = absurd (omega (arith, e))
take_front (x ∷ front) rest zero e = absurd (omega (arith, e))
take_front (x ∷ front) rest (suc n) e = ap (λ (l : List _). x ∷ l) (take_front front rest n (omega (arith, e)))

none_taken : (flows : List (List ℤ)) (z : ℕ) → z ≡ 0 → left_of (replicate (length flows) z) flows ≡ flows
none_taken [] z e = refl
none_taken (flow ∷ flows) z e = ap (λ (k : ℕ). drop k flow ∷ left_of (replicate (length flows) z) flows) e ∙ ap (λ (l : List (List ℤ)). flow ∷ l) (none_taken flows z e)

pub state_opening : (image : ImageView) (lowered : ImageInstructions) → Lowers image lowered → (flows : List (List ℤ)) (instant : ℕ) (m : Cells) → m.values ≡ lowered.cells.items → m.taken ≡ replicate (length flows) 0
    → cleared (guards_of image) (state_on image flows instant m) ≡ cleared (guards_of image) (opening (guards_of image) flows)
state_opening image lowered lowers flows instant m cells taken =
    let (more, all) = lowers.opening in
    let zeros = replicate (length image.signals) (pos 0) in
    let inits = inits_of image in
    let whole : m.values ≡ zeros ++ (inits ++ more) = cells ∙ all ∙ append_assoc zeros inits more in
    let memories : take (length image.memories) (drop (length image.signals) m.values) ≡ inits =
    ap (λ (l : List ℤ). take (length image.memories) (drop (length image.signals) l)) whole
    ∙ ap (take (length image.memories)) (drop_front zeros (inits ++ more) (length image.signals) (sym (length-replicate (length image.signals) (pos 0))))
    ∙ take_front inits more (length image.memories) (sym (length-map image.memories (λ (memory : ImageMemory). memory.init))) in
    let left : left_of m.taken flows ≡ flows = ap (λ (l : List ℕ). left_of l flows) taken ∙ none_taken flows 0 refl in
    λ j. let s : State = record { registers = replicate (length image.signals) None; memories = memories j; flows = left j } in s
