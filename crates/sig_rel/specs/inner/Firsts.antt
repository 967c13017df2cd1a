-- Tables of equations: to each number the first equation that is such a one.
use Rattle.std.specs.Prelude.{◌≡◌, ◌<◌, ◌==◌, if◌then◌else◌}
use Rattle.sig_rel.specs.Prelude.{ℕ, Bool, false, not, List, length, Option, None, Some, map, position, slice_get, slice_index_or, range_with_len, Equation, Kernel}
use Rattle.sig_rel.specs.inner.Tables.{counted_for, is_excused}

-- to each number below that of the signals the first equation that is such a one to it
pub record AreFirsts (is_such : ℕ → Equation → Bool) (kernel : Kernel) (firsts : List (Option ℕ)) : Type 0 where
  pub count : length firsts ≡ length kernel.signals
  pub each : (x : ℕ) → x < length kernel.signals → slice_index_or firsts x None ≡ position (is_such x) kernel.equations

-- the number of an equation that is such a one, where there is none before it
abbrev pub first_or : Option ℕ → Bool → ℕ → Option ℕ
first_or (Some first) is_such number = Some first
first_or None is_such number = if is_such then Some number else None

-- a number at a place where none is
abbrev pub first_where : ℕ → ℕ → Option ℕ → ℕ → Option ℕ
first_where k place old number = first_or old (k == place) number

-- an equation is a reason against the first equation of a class
abbrev pub is_unexcused_by : List ℕ → ℕ → Equation → Option Equation → Bool
is_unexcused_by least class equation None = false
is_unexcused_by least class equation (Some counted) = not (is_excused least class counted.form equation)

abbrev pub is_unexcused : List Equation → List ℕ → ℕ → Equation → Option ℕ → Bool
is_unexcused equations least class equation None = false
is_unexcused equations least class equation (Some number) = is_unexcused_by least class equation (slice_get equations number)

-- the first equation of a class stays where another one is no reason against it
abbrev pub kept_by : List Equation → List ℕ → ℕ → Equation → Option ℕ → Option ℕ
kept_by equations least class equation first = if is_unexcused equations least class equation first then None else first

-- the counted equation of each class
abbrev pub AreCounted : Kernel → List ℕ → List (Option ℕ) → Type 0
AreCounted kernel least counted = counted ≡ map (counted_for kernel least) (range_with_len 0 (length kernel.signals))
