-- Each step on the failure word keeps its rule.
use Rattle.std.proofs.Common.{◌≡◌, ◌≢◌, ℕ, zero, suc, ◌+◌, ◌≤◌, min, List, [], ◌∷◌, ◌++◌, set, sym, refl, ap, ◌∙◌, subst, ⊎_elim, arith}
use Rattle.std.specs.Prelude.{slice_index, slice_set}
use mathlib.Core.Option.{some, some-injective, some-ne-none}
use lib.ListN.{get_elem?}
use Rattle.atomic_table.specs.Table.{State, Me, keeps, Allows, Splits, Joins, Seen, opening}
use Rattle.atomic_table.proofs.Lists.{at_set, at_snoc, set_else}
use Rattle.sig_base.specs.Places.{no_place}
use Rattle.sig_halt.specs.declared.rule.Sight.{Sight}
use Rattle.sig_halt.specs.Rule.{sight, least_recorded, all_parts, IsAtMostSeen, IdleHasNone, IsLeast, looked, failed, kept, given, joined, spent, IsBelow}

-- the least that the seats but this one recorded
abbrev others : List Sight → ℕ → ℕ
others [] k = no_place
others (v ∷ vs) zero = least_recorded vs
others (v ∷ vs) (suc k) = min v.recorded (others vs k)

least_at : (vs : List Sight) (k : ℕ) (v : Sight) → get_elem? vs k ≡ some v → least_recorded vs ≡ min v.recorded (others vs k)
least_at [] k v e = absurd (some-ne-none v (sym e))
least_at (x ∷ xs) zero v e = ap (λ (y : Sight). min y.recorded (least_recorded xs)) (some-injective x v e)
least_at (x ∷ xs) (suc k) v e = let h = least_at xs k v e in omega arith

least_set : (vs : List Sight) (k : ℕ) (v w : Sight) → get_elem? vs k ≡ some v → least_recorded (set vs k w) ≡ min w.recorded (others vs k)
least_set [] k v w e = absurd (some-ne-none v (sym e))
least_set (x ∷ xs) zero v w e = refl
least_set (x ∷ xs) (suc k) v w e = let h = least_set xs k v w e in omega arith

least_le : (vs : List Sight) (k : ℕ) (v : Sight) → get_elem? vs k ≡ some v → least_recorded vs ≤ v.recorded
least_le vs k v e = let h = least_at vs k v e in omega arith

least_none : (vs : List Sight) → least_recorded vs ≤ no_place
least_none [] = omega arith
least_none (v ∷ vs) = let h = least_none vs in omega arith

others_none : (vs : List Sight) (k : ℕ) → others vs k ≤ no_place
others_none [] k = omega arith
others_none (v ∷ vs) zero = least_none vs
others_none (v ∷ vs) (suc k) = let h = others_none vs k in omega arith

least_snoc : (vs : List Sight) (w : Sight) → least_recorded (vs ++ w ∷ []) ≡ min w.recorded (least_recorded vs)
least_snoc [] w = refl
least_snoc (v ∷ vs) w = let h = least_snoc vs w in omega arith

parts_set : (vs : List Sight) (k : ℕ) (v w : Sight) → get_elem? vs k ≡ some v → all_parts (set vs k w) + v.parts ≡ all_parts vs + w.parts
parts_set [] k v w e = absurd (some-ne-none v (sym e))
parts_set (x ∷ xs) zero v w e = let h : x.parts ≡ v.parts = ap (λ (y : Sight). y.parts) (some-injective x v e) in omega arith
parts_set (x ∷ xs) (suc k) v w e = let h = parts_set xs k v w e in omega arith

parts_snoc : (vs : List Sight) (w : Sight) → all_parts (vs ++ w ∷ []) ≡ all_parts vs + w.parts
parts_snoc [] w = omega arith
parts_snoc (v ∷ vs) w = let h = parts_snoc vs w in omega arith

parts_le : (vs : List Sight) (k : ℕ) (v : Sight) → get_elem? vs k ≡ some v → v.parts ≤ all_parts vs
parts_le [] k v e = absurd (some-ne-none v (sym e))
parts_le (x ∷ xs) zero v e = let h : x.parts ≡ v.parts = ap (λ (y : Sight). y.parts) (some-injective x v e) in omega arith
parts_le (x ∷ xs) (suc k) v e = let h = parts_le xs k v e in omega arith

-- each seat
abbrev Each : (Sight → Type 0) → List Sight → Type 0
Each F vs = (number : ℕ) (v : Sight) → get_elem? vs number ≡ some v → F v

each_set : (F : Sight → Type 0) (vs : List Sight) (k : ℕ) (w : Sight) → F w → Each F vs → Each F (set vs k w)
each_set F vs k w mine all j u e = ⊎_elim (λ (x : (j ≡ k) × (w ≡ u)). subst F x.1 mine) (λ (x : (j ≢ k) × (get_elem? vs j ≡ some u)). all j u x.1) (at_set vs k j w u e)

each_snoc : (F : Sight → Type 0) (vs : List Sight) (w : Sight) → F w → Each F vs → Each F (vs ++ w ∷ [])
each_snoc F vs w mine all j u e = ⊎_elim (λ x. all j u x) (λ (x : w ≡ u). subst F x mine) (at_snoc vs w u j e)

-- with no parts there is no record
nobody : (vs : List Sight) → all_parts vs ≡ 0 → IdleHasNone vs → least_recorded vs ≡ no_place
nobody [] none idle = refl
nobody (v ∷ vs) none idle =
    let p : v.parts ≡ 0 = omega arith in let r : v.recorded ≡ no_place = idle 0 v refl p in let q : all_parts vs ≡ 0 = omega arith in let h = nobody vs q (λ j u e. idle (suc j) u e) in omega arith

-- the seat with all parts has recorded the least
alone : (vs : List Sight) (k : ℕ) (v : Sight) → get_elem? vs k ≡ some v → all_parts vs ≡ v.parts → IdleHasNone vs → others vs k ≡ no_place
alone [] k v e total idle = absurd (some-ne-none v (sym e))
alone (x ∷ xs) zero v e total idle =
    let h : x.parts ≡ v.parts = ap (λ (y : Sight). y.parts) (some-injective x v e) in let q : all_parts xs ≡ 0 = omega arith in nobody xs q (λ j u e. idle (suc j) u e)
alone (x ∷ xs) (suc k) v e total idle =
    let le = parts_le xs k v e in let p : x.parts ≡ 0 = omega arith in let r : x.recorded ≡ no_place = idle 0 x refl p in let q : all_parts xs ≡ v.parts = omega arith in
    let h = alone xs k v e q (λ j u e. idle (suc j) u e) in omega arith

-- the making of the word and the first seat
pub begins : (parts : ℕ) → IsLeast parts (opening (no_place ∷ []) [] (sight parts no_place no_place))
begins parts = (no_place, refl, refl, seen, omega arith, idle)
  where
    seen : IsAtMostSeen no_place (sight parts no_place no_place ∷ [])
    seen zero u e = subst (λ (y : Sight). no_place ≤ y.seen) (some-injective (sight parts no_place no_place) u e) (omega arith)
    seen (suc j) u e = absurd (some-ne-none u (sym e))

    idle : IdleHasNone (sight parts no_place no_place ∷ [])
    idle zero u e = subst (λ (y : Sight). y.parts ≡ 0 → y.recorded ≡ no_place) (some-injective (sight parts no_place no_place) u e) (λ _. refl)
    idle (suc j) u e = absurd (some-ne-none u (sym e))

module _ (parts : ℕ) where
  -- a load
  pub looks : (slots id : ℕ) (me : Me (Unit {0}) Sight) → Allows (IsLeast parts) slots id me 0 (λ n. n) (λ found after. IsBelow found me.0 × (after ≡ (looked me.0 found, me.1)))
  looks slots id me s h _ at _ =
      let v = me.0 in let found = slice_index s.words 0 in let w = looked v found in let is : found ≡ h.0 = ap (λ ws. slice_index ws 0) h.1 in
      let old = least_at s.views id v at in let new = least_set s.views id v w at in let sum = parts_set s.views id v w at in let low = h.3 id v at in let total = h.4 in let least = h.2 in (
        w,
        keeps,
        tt,
        (
          found,
          ap (λ ws. slice_set ws 0 found) h.1,
          omega arith,
          each_set (λ u. found ≤ u.seen) s.views id w (omega arith) (λ j u e. let x = h.3 j u e in omega arith),
          omega arith,
          each_set (λ u. u.parts ≡ 0 → u.recorded ≡ no_place) s.views id w (h.5 id v at) h.5,
        ),
        ((omega arith, omega arith), refl),
      )

  -- a fetch_min
  pub fails : (slots id place : ℕ) (me : Me (Unit {0}) Sight) → 1 ≤ me.0.parts
      → Allows (IsLeast parts) slots id me 0 (λ n. min n place) (λ found after. IsBelow found me.0 × (after ≡ (failed me.0 place found, me.1)))
  fails slots id place me some_part s h _ at _ =
      let v = me.0 in let found = slice_index s.words 0 in let w = failed v place found in let is : found ≡ h.0 = ap (λ ws. slice_index ws 0) h.1 in
      let old = least_at s.views id v at in let new = least_set s.views id v w at in let sum = parts_set s.views id v w at in let low = h.3 id v at in let total = h.4 in let least = h.2 in (
        w,
        keeps,
        tt,
        (
          min found place,
          ap (λ ws. slice_set ws 0 (min found place)) h.1,
          omega arith,
          each_set (λ u. min found place ≤ u.seen) s.views id w (omega arith) (λ j u e. let x = h.3 j u e in omega arith),
          omega arith,
          each_set (λ u. u.parts ≡ 0 → u.recorded ≡ no_place) s.views id w (λ idle. absurd (omega arith)) h.5,
        ),
        ((omega arith, omega arith), refl),
      )

  -- a split of a seat
  pub splits : (id : ℕ) (v : Sight) → 2 ≤ v.parts → Splits (IsLeast parts) id v (kept v) (given v)
  splits id v two s h at =
      let vs = set s.views id (kept v) in let old = least_at s.views id v at in let new = least_set s.views id v (kept v) at in let more = least_snoc vs (given v) in let bound = least_none vs in
      let sum = parts_set s.views id v (kept v) at in let sum' = parts_snoc vs (given v) in let low = h.3 id v at in let total = h.4 in let least = h.2 in (
        h.0,
        h.1,
        omega arith,
        each_snoc (λ u. h.0 ≤ u.seen) vs (given v) low (each_set (λ u. h.0 ≤ u.seen) s.views id (kept v) low h.3),
        omega arith,
        each_snoc (λ u. u.parts ≡ 0 → u.recorded ≡ no_place) vs (given v) (λ _. refl) (each_set (λ u. u.parts ≡ 0 → u.recorded ≡ no_place) s.views id (kept v) (λ idle. absurd (omega arith)) h.5),
      )

  -- a join of two seats
  pub joins : (id : ℕ) (v : Sight) (other : ℕ) (u : Sight) → 1 ≤ v.parts → Joins (IsLeast parts) id v other u (joined v u) spent
  joins id v other u some_part s h at apart at' =
      let both = joined v u in let vs = set s.views id both in let was : get_elem? s.views other ≡ some u = sym (set_else s.views id other both apart) ∙ at' in
      let old = least_at s.views id v at in let new = least_set s.views id v both at in let before = least_at vs other u at' in let after = least_set vs other u spent at' in
      let theirs = least_le s.views other u was in let bound = others_none vs other in
      let here : get_elem? (set vs other spent) id ≡ some both = set_else vs other id spent (λ e. apart (sym e)) ∙ at_here s.views id v both at in
      let mine = least_le (set vs other spent) id both here in
      let sum = parts_set s.views id v both at in let sum' = parts_set vs other u spent at' in let low = h.3 id v at in let low' = h.3 other u was in let total = h.4 in let least = h.2 in
      let bound' : h.0 ≤ no_place = let b = least_none s.views in omega arith in (
        h.0,
        h.1,
        omega arith,
        each_set (λ x. h.0 ≤ x.seen) vs other spent bound' (each_set (λ x. h.0 ≤ x.seen) s.views id both (omega arith) h.3),
        omega arith,
        each_set (λ x. x.parts ≡ 0 → x.recorded ≡ no_place) vs other spent (λ _. refl) (each_set (λ x. x.parts ≡ 0 → x.recorded ≡ no_place) s.views id both (λ idle. absurd (omega arith)) h.5),
      )
    where
      at_here : (l : List Sight) (i : ℕ) (a b : Sight) → get_elem? l i ≡ some a → get_elem? (set l i b) i ≡ some b
      at_here [] i a b e = absurd (some-ne-none a (sym e))
      at_here (x ∷ xs) zero a b e = refl
      at_here (x ∷ xs) (suc i) a b e = at_here xs i a b e

  -- the close: with all parts, the seat's least is the word
  pub closes : (id : ℕ) (v : Sight) (s : State (Unit {0}) Sight) → v.parts ≡ parts → v.recorded ≤ no_place → Seen (IsLeast parts) id v s → (s.words ≡ v.recorded ∷ []) × (v.recorded ≤ v.seen)
  closes id v s all bound seen =
      let h = seen.0 in let at = seen.1 in let old = least_at s.views id v at in let idle = alone s.views id v at (h.4 ∙ sym all) h.5 in let low = h.3 id v at in let least = h.2 in
      let is : h.0 ≡ v.recorded = omega arith in (h.1 ∙ ap (λ n. n ∷ []) is, omega arith)
