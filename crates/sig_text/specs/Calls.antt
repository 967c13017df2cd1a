-- The calls of an object in memory, some of which are to fail.
use Rattle.std.specs.Prelude.{ℕ, Bool, List, if◌then◌else◌}
use Rattle.std.specs.List.{Contains}
use Rattle.sig_text.specs.Counts.{raised}

-- how many calls were made, the numbers of those that are to fail, counted from 1, and how many failed
pub record CallsMade : Type 0 where
  pub made : ℕ
  pub failing : List ℕ
  pub faults : ℕ

-- the next call is to fail
abbrev pub NextFails : CallsMade → Type 0
NextFails calls = Contains calls.failing (raised calls.made)

-- the calls after one more, which failed or not
abbrev pub after_call : CallsMade → Bool → CallsMade
after_call calls failed = record calls {
  made = raised calls.made;
  faults = if failed then raised calls.faults else calls.faults;
}
