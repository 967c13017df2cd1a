-- What stands around operations whose guard is not always true.
use Rattle.std.proofs.Common.{◌≡◌, ◌≢◌, ◌≤◌, ◌++◌, ℕ, zero, suc, refl, arith}
use Rattle.std.specs.Prelude.{codes, replicate}
use Rattle.sig_file.specs.Images.{ImageView}
use Rattle.sig_c.specs.Written.{Scope}
use Rattle.sig_c.specs.Layout.{expression_text}
use Rattle.sig_c_step.specs.Translation.{guard_of}
use Rattle.sig_c_write.specs.inner.Blocks.{block_closing, block_opening, margin_of}

pub margin_other : (guard : ℕ) → guard ≢ 1 → margin_of guard ≡ replicate 8 32
margin_other zero other = refl
margin_other (suc zero) other = absurd (other refl)
margin_other (suc (suc n)) other = refl

pub closing_other : (guard : ℕ) → guard ≢ 1 → block_closing guard ≡ codes "    }\n"
closing_other zero other = refl
closing_other (suc zero) other = absurd (other refl)
closing_other (suc (suc n)) other = refl

pub opening_node : (image : ImageView) (scope : Scope) (guard : ℕ) → 2 ≤ guard → block_opening image scope guard ≡ codes "    if (" ++ (expression_text scope (guard_of image guard) ++ codes ") {\n")
opening_node image scope zero large = absurd (omega (arith, large))
opening_node image scope (suc zero) large = absurd (omega (arith, large))
opening_node image scope (suc (suc n)) large = refl
