-- Counts of faults and misses. They never fall, and stay at 2 ^ 64 - 1 once they are there.
use Rattle.std.specs.Prelude.{ℕ, ◌+◌, ◌-◌, ◌^◌, ◌<◌, ◌≤◌, min}

-- a count after one more; it stays at its last value
abbrev pub raised : ℕ → ℕ
raised count = min (count + 1) (2 ^ 64 - 1)

-- a count rose between two moments, or stands at its last value
abbrev pub Rose : ℕ → ℕ → Type 0
Rose before now = raised before ≤ now

-- a count did not rise between two moments, and has not come to its last value
abbrev pub DidNotRise : ℕ → ℕ → Type 0
DidNotRise before now = now < raised before
