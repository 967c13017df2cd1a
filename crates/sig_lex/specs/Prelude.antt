-- What the definitions and the clauses of this crate cite of std and of the crates below, passed on from one place.
pub use Rattle.std.specs.Char.{is_ascii_alphabetic, is_ascii_alphanumeric, is_ascii_digit}
pub use Rattle.std.specs.List.{AllByRecursion, AllPass, after_last, prefix_len}
pub use Rattle.std.specs.Prelude.{All, Bool, IfErr, IfOk, IsErrAnd, IsTrue, List, MatchResult, None, OnOk, Option, Some, SomeIff, [], codes, count_by, drop, false, length, map, nat_le, not, option_map, option_to_list, slice_index, slice_index_or, slice_range, take, true, ℕ, ◌&&◌, ◌++◌, ◌+◌, ◌-◌, ◌<◌, ◌==◌, ◌^◌, ◌||◌, ◌↔◌, ◌∷◌, ◌≡◌, ◌≢◌, ◌≤◌, ◌⊎◌}
pub use Rattle.std.specs.Str.Parse.{digits_value}
pub use Rattle.sig_base.specs.Lines.{refusal, refusal_at}
pub use Rattle.sig_base.specs.declared.limits.TheConstants.{PROGRAM_BYTES}
pub use Rattle.sig_base.specs.declared.span.Span.{Span}
