-- What the proofs of this crate cite of std, of the crates below and of its own specs, passed on from one place.
pub use Rattle.std.proofs.Common.{Bool, Err, FitsSigned, IfErr, IfOk, IsErrAnd, List, MatchResult, None, Ok, Option, Result, Some, [], ap, append-nil, append_assoc, arith, bytes_eq, codes, cond, count_by, drop, drop-cons, eq-eqb, eqb, eqb-true, ext_get_or, false, flat_map, get_or, get_or-set_other, get_or-set_same, get_or-take, inl, inr, int_div, int_rem, is_some, leb-true, length, length-append, length-set, length-take-le, ltb-true, map, ne_eqb, neg_ℤ, negsuc, not, option_map, pos, refl, rules, set, subst, suc, sym, take, take-append-drop, take_all, true, unwrap_or, vec_len, w64, zero, ℕ, ℤ, ⊎_elim, ◌&&◌, ◌*ℤ◌, ◌++◌, ◌+ℤ◌, ◌+◌, ◌-ℤ◌, ◌<◌, ◌^◌, ◌∙◌, ◌∷◌, ◌≡◌, ◌≢◌, ◌≤◌, ◌⊎◌}
pub use Rattle.std.proofs.Math.ListN.{get_or-append, get_or-map}
pub use Rattle.std.proofs.lemmas.Int.{ints, quot-rem, to_z-of_z}
pub use Rattle.std.proofs.lemmas.List.{map-append, take_more, take_more_set}
pub use Rattle.std.proofs.lemmas.List.Concat.{flat_map-cons}
pub use Rattle.std.proofs.lemmas.List.Folds.{list_all_at}
pub use Rattle.std.proofs.lemmas.List.Sums.{list_all-from_AllPass, sum_by-append}
pub use Rattle.std.specs.Int.{cast_unsigned}
pub use Rattle.sig_lists.proofs.Each.{all_front}
pub use Rattle.sig_base.specs.Functions.{And, Less, Or, Xor, remainder}
pub use Rattle.sig_base.specs.Traces.{AreOfKinds, IsOfKind}
pub use Rattle.sig_tree.specs.FlatSyntax.{flat_body_of, flat_equation_of, flat_expression_of}
pub use Rattle.sig_tree.specs.Operators.{Constant}
pub use Rattle.sig_tree.specs.ProcessTraces.{IsTraceOf, kinds_of}
pub use Rattle.sig_tree.specs.declared.expr.BinOp.{BinOp}
pub use Rattle.sig_tree.specs.declared.expr.BinOp.TheVariants.{Add, Default, Div, Eq, Ge, Gt, Le, Lt, Meet, Mod, Mul, Ne, Plus, Sub, When}
pub use Rattle.sig_tree.proofs.Common.{AllZip, AppliesToBoth, BodySteps, Bounded, Combines, Defines, Difference, Equal, EquationSteps, FlatBody, FlatEquation, FlatExpression, Function, Greater, GreaterEqual, HoldThroughout, HoldsAt, HoldsBehind, Instant, IsProcessTrace, Leads, LessEqual, NotEqual, Operand, Product, Quotient, Remainder, Seen, Sum, Trace, instant_at, is_function, zip_back, zip_left, zip_same}
pub use Rattle.sig_tree.proofs.UpTo.{holds_up_to}
pub use Rattle.sig_judge.specs.Rows.{seen_of}
pub use Rattle.sig_judge.specs.TraceFiles.{Body, IsFirstBadPlace, IsTraceFile, are_names, bad_header, bad_row, body_of, cell_fault, cell_said, cells_fault, cells_said, column_of, header_fault, instants_said, is_header, is_named_once, kinds_named, names_in, no_header, present_with, row_judge, seen_said, text_fault, texts_of}
pub use Rattle.sig_judge.specs.Verdicts.{IsBroken, IsVerdict}
pub use Rattle.sig_judge.specs.declared.equation.Equation.{Equation}
pub use Rattle.sig_judge.specs.declared.header.Header.{Header}
pub use Rattle.sig_judge.specs.declared.header.Start.{Start}
pub use Rattle.sig_judge.specs.declared.node.Node.{Node}
pub use Rattle.sig_judge.specs.declared.operator.Found.{Found}
pub use Rattle.sig_judge.specs.declared.trace.Seen.TheVariants.{Absent, Value}
pub use Rattle.sig_judge.specs.declared.trace_answer.TraceAnswer.{TraceAnswer}
pub use Rattle.sig_judge.specs.declared.trace_answer.TraceAnswer.TheVariants.{BadHeader, BadLine, OutOfMemory}
pub use Rattle.sig_judge.specs.declared.verdict.Verdict.{Verdict}
pub use Rattle.sig_judge.specs.declared.verdict.Verdict.TheVariants.{Accepted, Broken}
pub use Rattle.sig_judge.specs.inner.Decides.{Agree, BreaksAt, DecidesSeen, DecidesValue, DecidesWhether, HasPresence, operand_of}
pub use Rattle.sig_judge.specs.inner.Headers.{IsHeaderOf, IsPlace, Named, body_behind, header_line, instants_in, line_of}
pub use Rattle.sig_judge.specs.inner.Nodes.{equation_of, node_expression, without_prefix}
pub use Rattle.sig_flow.specs.Values.{boolean_said, event_said}
pub use Rattle.sig_flow.specs.declared.value.WordFault.{WordFault}
pub use Rattle.sig_flow.proofs.Common.{AllByRecursion, AllGood, AllPass-from_list_all, Boolean, Event, Integer, IsDistinct, IsFirst, Kind, Line, Signal, Word, and_second, bytes_eq-Decides, cases_Bool, cases_eq, cases_order, common_steps, digits_value, drop_more, err_from_is_err_and, false≢true, first_fault, get_or_default, integer_of, integer_said, is_line_byte, is_numeral, is_within, kind_named, length-map, lines, lines_of, list_all, list_all-append, numbered, other_bytes, passes_at_first, position_or_len, sum_by-cons, value_said, word_of, words_behind, words_from, words_of}
pub use Rattle.sig_flow.proofs.FirstLemmas.{first_from_some, good_from_none, judged_at, not_both, one_first}
pub use Rattle.sig_flow.proofs.InputLemmas.{kind_at, names_differ, nobody}
