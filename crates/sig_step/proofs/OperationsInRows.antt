-- Operations in a row that have one slot.
use Rattle.sig_step.proofs.Common.{◌≡◌, ◌<◌, ◌+◌, ◌++◌, ◌∷◌, [], ◌∙◌, inl, inr, ℕ, List, length, sym, subst, arith, get_pushed, some_at, Step, AreRows, IsRow}

-- a row from the next step on
pub row_behind : (steps : List Step) (before from to : ℕ) → IsRow steps before to → before + 1 ≡ from → from < to → IsRow steps from to
row_behind steps before from to row next inside = record {
  forth = omega (arith, inside);
  inside = row.inside;
  each = λ number first step later below at there.
      let within = row.inside in
      let (origin, begins) = some_at steps before (omega (arith, next, inside, within)) in
      let one = row.each from origin first (omega (arith, next)) inside begins at in
      let other = row.each number origin step (omega (arith, next, later)) below begins there in
      record { operation = other.operation; does = other.does; of = other.of ∙ sym one.of };
}

-- one row more
pub rows_longer : (steps : List Step) (rows : List ℕ) (to : ℕ) → AreRows steps rows → IsRow steps (length rows) to → AreRows steps (rows ++ to ∷ [])
rows_longer steps rows to are is = λ from end at. elim (get_pushed rows to from end at) [
  | inl before ↦ are from end before
  | inr last ↦ subst (λ (n : ℕ). IsRow steps from n) last.1 (subst (λ (n : ℕ). IsRow steps n to) (sym last.0) is)
]
