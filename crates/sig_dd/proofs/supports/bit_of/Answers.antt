use Rattle.sig_dd.proofs.{◌≡◌, ◌≢◌, ◌<◌, ◌*◌, ◌^◌, ◌%◌, ◌∙◌, inl, inr, ℕ, sym, subst, arith, cases_eq, bit_at_set_same, bit_at_set_other, w64, HasBit, no_bit}
use Rattle.sig_dd.proofs.supports.bit_of.Goals as goal

same_bit : (k : ℕ) → k < 64 → HasBit (1 * 2 ^ k % 2 ^ 64) k
same_bit k lt = bit_at_set_same w64 0 k lt

other_bit : (k place : ℕ) → k < 64 → place ≢ k → HasBit (1 * 2 ^ k % 2 ^ 64) place → ⊥
other_bit k place lt ne has = no_bit place (sym (bit_at_set_other w64 0 k lt place ne) ∙ has)

pub returns-then-variable-block : goal.returns-then-variable-block
returns-then-variable-block c = λ place lt.
    let here = c.if-variable-block.true in
    let k : ℕ = c.args.variable % 64 in
    let within : k < 64 = omega arith in (
      (λ has. elim (cases_eq place k) [
        | inl same ↦ omega (arith, here, same)
        | inr differ ↦ absurd (other_bit k place within differ has)
      ]),
      (λ is. let same : place ≡ k = omega (arith, here, is, lt) in subst (λ (p : ℕ). HasBit (1 * 2 ^ k % 2 ^ 64) p) (sym same) (same_bit k within)),
    )
