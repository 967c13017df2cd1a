-- What actors have left, which falls as one goes on.
use Rattle.sig_interleaving.proofs.Common.{◌≡◌, ◌<◌, ◌≤◌, ◌-◌, ◌+◌, ◌*◌, ◌∙◌, ℕ, zero, suc, false, List, [], ◌∷◌, length, map, set, refl, sym, ap, subst, arith, None, Some, slice_get, suc-mul, left_at, left_from, one_to_end, Actor, code_of, ended_at, moved_on, PlanView, moved_cases, same_Some}

-- one more event of an actor leaves less to it
abbrev pub Falls : ℕ → ℕ → Actor → Actor → Type 0
Falls limit count a next = left_at limit count next < left_at limit count a

pub end_falls : (limit count : ℕ) (a : Actor) → a.ended ≡ false → Falls limit count a (ended_at a)
end_falls limit count a runs =
    let one : one_to_end a.ended ≡ 1 = ap one_to_end runs in
    omega (arith, one)

one_less : (i limit count : ℕ) → i ≤ limit → (limit + 1 - i) * count ≡ (limit + 1 - (i + 1)) * count + count
one_less i limit count le =
    let same : limit + 1 - i ≡ suc (limit + 1 - (i + 1)) = omega (arith, le) in
    ap (λ n. n * count) same ∙ suc-mul (limit + 1 - (i + 1)) count

-- an actor that goes on within its limit
pub moved_falls : (limit count : ℕ) (a b : Actor) → a.instant ≤ limit → a.step < count → b.instant ≡ a.instant → b.step ≡ a.step → b.ended ≡ a.ended
    → Falls limit count a (moved_on count b)
moved_falls limit count a b within inside instant step ended =
    let e : one_to_end b.ended ≡ one_to_end a.ended = ap one_to_end ended in
    moved_cases (Falls limit count a) count b
    (λ less.
    let rows : (limit + 1 - b.instant) * count ≡ (limit + 1 - a.instant) * count = ap (λ n. (limit + 1 - n) * count) instant in
    omega (arith, rows, step, less, e))
    (λ over.
    let rows : (limit + 1 - (b.instant + 1)) * count ≡ (limit + 1 - (a.instant + 1)) * count = ap (λ n. (limit + 1 - (n + 1)) * count) instant in
    omega (arith, rows, one_less a.instant limit count within, inside, e))

-- of a list of actors, one has less left
pub left_falls : (plan : PlanView) (limit j : ℕ) (xs : List Actor) (k : ℕ) (a next : Actor) → slice_get xs k ≡ Some a
    → Falls limit (length (code_of plan (j + k)).steps) a next → left_from plan limit j (set xs k next) < left_from plan limit j xs
left_falls plan limit j [] k a next at less = absurd (let e : None ≡ Some a = at in cc)
left_falls plan limit j (x ∷ xs) zero a next at less =
    let first : j + 0 ≡ j = omega arith in
    let here : Falls limit (length (code_of plan j).steps) x next = subst (λ (n : ℕ). Falls limit (length (code_of plan n).steps) x next) first (subst (λ (y : Actor). Falls limit (length (code_of plan (j + 0)).steps) y next) (sym (same_Some x a at)) less) in
    omega (arith, here)
left_falls plan limit j (x ∷ xs) (suc k) a next at less =
    let later : j + suc k ≡ (j + 1) + k = omega arith in
    let rest = left_falls plan limit (j + 1) xs k a next at (subst (λ (n : ℕ). Falls limit (length (code_of plan n).steps) a next) later less) in
    omega (arith, rest)

-- lists in which one place is set
pub map_set : {X Y : Type 0} (f : X → Y) (xs : List X) (k : ℕ) (x : X) → map f (set xs k x) ≡ set (map f xs) k (f x)
map_set f [] k x = refl
map_set f (y ∷ xs) zero x = refl
map_set f (y ∷ xs) (suc k) x = ap (λ ys. f y ∷ ys) (map_set f xs k x)

pub set_there : {X : Type 0} (xs : List X) (k : ℕ) (x : X) → slice_get xs k ≡ Some x → set xs k x ≡ xs
set_there [] k x at = refl
set_there (y ∷ xs) zero x at = ap (λ z. z ∷ xs) (sym (same_Some y x at))
set_there (y ∷ xs) (suc k) x at = ap (λ ys. y ∷ ys) (set_there xs k x at)
