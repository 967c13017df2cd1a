-- Places in a text.
use Rattle.std.specs.Prelude.{◌+◌, ◌==◌}
use Rattle.sig_lex.specs.Prelude.{ℕ, List, length, count_by, after_last, Span}

-- The place of what follows these bytes: one more line than they have newlines, and one more column
-- than they have bytes after their last newline.
abbrev pub place_after : List ℕ → Span
place_after front = record {
  line = 1 + count_by (λ b. b == 10) front;
  col = 1 + length (after_last (λ b. b == 10) front);
}
