-- Lines of statements in two parts.
use Rattle.std.proofs.Common.{◌≡◌, ◌++◌, List, ℕ, refl, append_assoc}
use Rattle.sig_c.specs.SmallC.{Statements, none, more}
use Rattle.sig_c.specs.Written.{Scope}
use Rattle.sig_c.specs.Layout.{lines_text}
use Rattle.sig_c_step.specs.Translation.{joined}

pub lines_joined : (margin : List ℕ) (scope : Scope) (a b : Statements) → lines_text margin scope (joined a b) ≡ lines_text margin scope a ++ lines_text margin scope b
lines_joined margin scope none b = refl
lines_joined margin scope (more statement rest) b = rw (lines_joined margin scope rest b) (simp append_assoc)
