-- What the definitions and the clauses of this crate cite of std and of the crates below, passed on from one place.
pub use Rattle.std.specs.Fmt.{signed_decimal}
pub use Rattle.std.specs.List.{AllByRecursion, AllPass, IsDistinct, list_all, list_any}
pub use Rattle.std.specs.Ordering.{int_eq}
pub use Rattle.std.specs.Prelude.{Bool, Contains, IsTrue, List, None, Option, Some, [], bytes_eq, codes, count_by, drop, false, flat_map, if◌then◌else◌, is_some, length, map, nat_lt, pos, slice_get, slice_index_or, take, true, ℕ, ℤ, ⊤, ◌&&◌, ◌++◌, ◌+◌, ◌<◌, ◌==◌, ◌^◌, ◌||◌, ◌↔◌, ◌∷◌, ◌≡◌, ◌≤◌}
pub use Rattle.sig_base.specs.Functions.{And, Difference, Equal, Function, Gives, Greater, GreaterEqual, Identity, Less, LessEqual, Negative, Not, NotEqual, Or, Product, Quotient, Remainder, Sum, Xor}
pub use Rattle.sig_base.specs.Traces.{AreOfKinds, Bounded, Instant, IsInteger, IsLongest, IsPrefixOf, IsValue, Range, Seen, Trace, Unbounded, flow_of, has_64_bits, is_silent, reduce, seen_at}
pub use Rattle.sig_base.specs.declared.ids.Kind.{Kind}
pub use Rattle.sig_base.specs.declared.ids.Kind.TheVariants.{Boolean, Event, Integer}
pub use Rattle.sig_base.specs.declared.ids.SigId.{SigId}
pub use Rattle.sig_base.specs.declared.limits.TheConstants.{SIGNALS}
pub use Rattle.sig_base.specs.declared.signal.Signal.{Signal}
pub use Rattle.sig_base.specs.declared.span.Span.{Span}
