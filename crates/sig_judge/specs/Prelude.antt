-- What the definitions and the clauses of this crate cite of std and of the crates below, passed on from one place.
pub use Rattle.std.specs.List.{AllByRecursion, AllZip}
pub use Rattle.std.specs.Prelude.{Bool, Err, IfErr, IfNone, IfOk, IfSome, IsErrAnd, IsTrue, List, MatchResult, None, Ok, OnOk, Option, Result, Some, [], bytes_eq, codes, count_by, decimal, false, flat_map, if◌then◌else◌, is_some, length, map, nat_lt, option_map, option_to_list, pos, slice_index_or, true, unwrap_or, vec_len, ℕ, ℤ, ◌&&◌, ◌++◌, ◌+◌, ◌<◌, ◌==◌, ◌^◌, ◌↔◌, ◌∷◌, ◌≡◌, ◌≤◌, ◌⊎◌}
pub use Rattle.sig_base.specs.Traces.{AreOfKinds, Bounded, Instant, IsOfKind, Seen, Trace, seen_at}
pub use Rattle.sig_tree.specs.Constants.{is_function}
pub use Rattle.sig_tree.specs.FlatSyntax.{Binary, Cell, Const, Defines, Delay, Equal, FlatBody, FlatEquation, FlatExpression, Sig, Unary, flat_body_of, flat_equation_of, flat_expression_of}
pub use Rattle.sig_tree.specs.Operators.{Changes, Combines, Constant, Operand, Signal, both_of, clock_of, delayed, held, merged, sampled, without}
pub use Rattle.sig_tree.specs.ProcessTraces.{HoldsAt, IsProcessTrace, IsTraceOf, kinds_of}
pub use Rattle.sig_tree.specs.Steps.{BodySteps, EquationSteps, Steps, kept}
pub use Rattle.sig_flow.specs.First.{AllGood, IsFirst, Judge}
pub use Rattle.sig_flow.specs.Flows.{is_line_byte, kind_named}
pub use Rattle.sig_flow.specs.Lines.{Line, lines_of, numbered}
pub use Rattle.sig_flow.specs.Prelude.{Integer, IsDistinct, Kind, VALUES, lines, list_all, position_or_len}
pub use Rattle.sig_flow.specs.Values.{value_said}
pub use Rattle.sig_flow.specs.Words.{Word, words_from, words_of}
pub use Rattle.sig_flow.specs.declared.value.WordFault.{WordFault}
pub use Rattle.sig_flow.specs.declared.value.WordFault.TheVariants.{Bad, Outside}
