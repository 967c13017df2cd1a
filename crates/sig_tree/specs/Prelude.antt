-- What the definitions and the clauses of this crate cite of std and of the crates below, passed on from one place.
pub use Rattle.std.specs.Int.{w64}
pub use Rattle.std.specs.List.{AllByRecursion, AllZip}
pub use Rattle.std.specs.Ordering.{int_eq}
pub use Rattle.std.specs.Prelude.{Any, Bool, Contains, FitsSigned, IsSome, List, None, Option, Some, [], bytes_eq, codes, count_by, decimal, false, find, flat_map, fold, if◌then◌else◌, length, map, neg_ℤ, option_and_then, option_map, option_to_list, pos, slice_get, slice_index_or, slice_range, suc, sum_by, true, unwrap_or, zero, zip, ℕ, ℤ, ⊤, ◌&&◌, ◌*◌, ◌++◌, ◌+◌, ◌-◌, ◌<◌, ◌==◌, ◌^◌, ◌||◌, ◌∷◌, ◌≡◌, ◌≢◌, ◌≤◌, ◌⊎◌}
pub use Rattle.sig_base.specs.Functions.{And, Difference, Equal, Function, Gives, Greater, GreaterEqual, Less, LessEqual, Negative, Not, NotEqual, Or, Product, Quotient, Remainder, Sum, Xor}
pub use Rattle.sig_base.specs.Traces.{AreOfKinds, Bounded, Instant, IsLongest, IsValue, Seen, Trace, reduce, seen_at}
pub use Rattle.sig_base.specs.declared.ids.Kind.{Kind}
pub use Rattle.sig_base.specs.declared.ids.Kind.TheVariants.{Boolean, Event, Integer}
pub use Rattle.sig_base.specs.declared.limits.TheConstants.{NESTING, OPERATORS, PROGRAM_BYTES}
pub use Rattle.sig_base.specs.declared.signal.Signal.{Signal}
pub use Rattle.sig_base.specs.declared.span.Span.{Span}
pub use Rattle.sig_lex.specs.Lexemes.{text_of}
pub use Rattle.sig_lex.specs.Tokens.{AreTokens}
pub use Rattle.sig_lex.specs.declared.token.Token.{Token}
pub use Rattle.sig_lex.specs.declared.token.TokenKind.{TokenKind}
pub use Rattle.sig_lex.specs.declared.token.TokenKind.TheVariants.{Label, Last, Mark, Name, Number, Word}
