-- What the definitions and the clauses of this crate cite of std and of the crates below, passed on from one place.
pub use Rattle.std.specs.Cmp.Lexicographic.{slice_cmp}
pub use Rattle.std.specs.Ordering.{nat_cmp}
pub use Rattle.std.specs.Char.{is_ascii_alphabetic, is_ascii_alphanumeric, is_ascii_digit}
pub use Rattle.std.specs.Fmt.{signed_decimal}
pub use Rattle.std.specs.List.{after_first, before_first, position_or_len, slice_split}
pub use Rattle.std.specs.Prelude.{Bool, Err, IfErr, IfNone, IfOk, IfSome, IsErrAnd, IsTrue, List, MatchOption, MatchResult, None, Ok, OnErr, OnOk, Option, Result, Some, [], bytes_eq, codes, decimal, drop, false, flat_map, if◌then◌else◌, is_none, length, map, nat_le, nat_lt, neg_ℤ, option_to_list, pos, replicate, slice_index_or, sum_by, take, true, vec_len, ℕ, ℤ, ◌&&◌, ◌++◌, ◌+◌, ◌<◌, ◌==◌, ◌^◌, ◌||◌, ◌↔◌, ◌∷◌, ◌≡◌, ◌≤◌, ◌⊎◌}
pub use Rattle.std.specs.Str.{all_ascii_digits}
pub use Rattle.std.specs.Str.Lines.{lines, strip_carriage_return}
pub use Rattle.std.specs.Str.Parse.{digits_value}
pub use Rattle.sig_base.specs.declared.limits.TheConstants.{EVENTS, VALUES}
pub use Rattle.sig_text.specs.Counts.{Rose}
pub use Rattle.sig_text.specs.Sink.{TookPrefix}
pub use Rattle.sig_kernel.specs.OutputText.{line_of, line_with, truth_text, value_text}
pub use Rattle.sig_kernel.specs.Prelude.{Boolean, Event, Integer, IsDistinct, Kind, Signal, list_all}
pub use Rattle.sig_kernel.specs.Validity.{AreFlowsFor, inputs_of}
pub use Rattle.sig_kernel.specs.declared.kernel.Kernel.{Kernel}
