-- Places in a run: their order, and each as one word.
use Rattle.std.specs.Prelude.{◌≡◌, ◌⊎◌, ◌<◌, ◌≤◌, ℕ, ◌+◌, ◌-◌, ◌*◌, ◌^◌}
use Rattle.sig_base.specs.declared.place.Place.{Place}

-- a place is before another: at an earlier instant, or at an earlier position of the same one
abbrev pub IsBefore : Place → Place → Type 0
IsBefore p q = (p.instant < q.instant) ⊎ ((p.instant ≡ q.instant) × (p.pos < q.pos))

-- a place is before another, or the same
abbrev pub IsNotAfter : Place → Place → Type 0
IsNotAfter p q = (p.instant < q.instant) ⊎ ((p.instant ≡ q.instant) × (p.pos ≤ q.pos))

-- a place as one word
abbrev pub packed : Place → ℕ
packed p = p.instant * 2 ^ 32 + p.pos

-- the word of no place
abbrev pub no_place : ℕ
no_place = 2 ^ 64 - 1
