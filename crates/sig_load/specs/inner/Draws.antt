-- The draws, from a seed on.
use Rattle.std.specs.Prelude.{◌==◌, ℕ, zero, suc, ◌+◌, ◌*◌, ◌/◌, ◌%◌, ◌^◌, Bool}

-- the state after one more draw
abbrev pub next_state : ℕ → ℕ
next_state x = (x * 6364136223846793005 + 1442695040888963407) % 2 ^ 64

-- the state after so many draws
unfoldable pub state_after : ℕ → ℕ → ℕ
state_after seed zero = seed
state_after seed (suc n) = next_state (state_after seed n)

-- the draw of this number, counted from 1
abbrev pub draw : ℕ → ℕ → ℕ
draw seed n = state_after seed n / 2 ^ 32

abbrev pub is_odd : ℕ → Bool
is_odd n = n % 2 == 1
