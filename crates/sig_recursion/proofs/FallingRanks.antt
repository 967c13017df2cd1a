-- Ranks that fall along calls.
use Rattle.sig_recursion.proofs.Common.{◌≡◌, ◌⊎◌, ℕ, List, [], ◌∙◌, subst, inl, inr, false, Option, Some, length, get_or, ◌+◌, ◌<◌, ◌≤◌, arith, Contains, leb, Vec, All, get_or_past, length-map, All-contains, cases_lt, leb-false, ProcessModel, Reaches, callees_at, graph_in, graph_of, rank_of, IsFalling, Path, Here, There, place_of, process_texts}
use Rattle.sig_recursion.proofs.CallsByPlace.{reaches_same}
use Rattle.sig_recursion.proofs.CallWalks.{callees_are}

-- no path leads to a higher rank
pub path_falls : (graph : List (List ℕ)) (ranks : List (Option ℕ)) (a b : ℕ) → IsFalling graph ranks → Path graph a b → rank_of ranks b ≤ rank_of ranks a
path_falls graph ranks a b f Here = omega arith
path_falls graph ranks a b f (There {from} {next} call rest) = let h = f.falls a next call in let k = path_falls graph ranks next b f rest in omega arith

-- a place of lower rank than the target does not lead there
pub rises_apart : (all : List ProcessModel) (graph : List (List ℕ)) (ranks : List (Option ℕ)) (t u : List ℕ) (a b : ℕ) → graph ≡ graph_of all → IsFalling graph ranks
    → Some a ≡ place_of (process_texts all) t → Some b ≡ place_of (process_texts all) u → rank_of ranks a < rank_of ranks b → Reaches all t u → ⊥
rises_apart all graph ranks t u a b g f e h low r =
    let P : List (List ℕ) → Type 0 = λ k. IsFalling k ranks in
    let falls = path_falls (graph_of all) ranks a b (subst P g f) ((reaches_same all t u a b e h).1 r) in omega arith

-- what a loop over places has seen to fall
abbrev pub FallsBelow : List (List ℕ) → List (Option ℕ) → ℕ → Type 0
FallsBelow graph ranks n = (place : ℕ) → place < n → All (λ next. rank_of ranks next ≤ rank_of ranks place) (callees_at graph place)

pub falls_more : (callees : List (Vec ℕ)) (ranks : List (Option ℕ)) (i : ℕ) (x : Vec ℕ) (row : List ℕ) → i < length callees → x ≡ get_or callees i x → row ≡ x.items → All (λ next. rank_of ranks next ≤ rank_of ranks i) row
    → FallsBelow (graph_in callees) ranks i → FallsBelow (graph_in callees) ranks (i + 1)
falls_more callees ranks i x row h is e here before place below = elim (cases_lt place i) [
  | inl l ↦ before place l
  | inr g ↦ (let s : i ≡ place = omega arith in
      let P : ℕ → Type 0 = λ p. All (λ next. rank_of ranks next ≤ rank_of ranks p) (callees_at (graph_in callees) p) in
      let Q : List ℕ → Type 0 = λ l. All (λ next. rank_of ranks next ≤ rank_of ranks i) l in
      subst P s (subst Q (e ∙ callees_are callees i x h is) here))
]

falls_inside : (callees : List (Vec ℕ)) (ranks : List (Option ℕ)) (n : ℕ) → length callees ≤ n → FallsBelow (graph_in callees) ranks n → (place next : ℕ) → Contains (callees_at (graph_in callees) place) next → ((place < n) ⊎ (n ≤ place)) → rank_of ranks next ≤ rank_of ranks place
falls_inside callees ranks n h below place next c (inl l) = All-contains (λ k. rank_of ranks k ≤ rank_of ranks place) (callees_at (graph_in callees) place) next (below place l) c
falls_inside callees ranks n h below place next c (inr g) =
    let size : length (graph_in callees) ≡ length callees = length-map callees _ in
    let none : callees_at (graph_in callees) place ≡ [] = get_or_past (graph_in callees) place [] (omega arith) in
    let P : List ℕ → Type 0 = λ l. Contains l next in
    let inside : Contains [] next = subst P none c in
    let lost : inside.0 < 0 = inside.1 in absurd (omega arith)

pub falls_all : (callees : List (Vec ℕ)) (ranks : List (Option ℕ)) (n : ℕ) → length callees ≤ n → FallsBelow (graph_in callees) ranks n → IsFalling (graph_in callees) ranks
falls_all callees ranks n h below = record { falls = λ place next c. falls_inside callees ranks n h below place next c (cases_lt place n) }

-- a test of two ranks that fails
pub ranked_below : (x y a b : ℕ) → x ≡ a → y ≡ b → leb x y ≡ false → b < a
ranked_below x y a b e f h = let l = leb-false x y h in omega arith
