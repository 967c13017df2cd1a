-- What the proofs of this crate cite of std, of the crates below and of its own specs, passed on from one place.
pub use Rattle.std.proofs.Common.{All, Bool, Bor, Err, FitsSigned, IfErr, IfNone, IfOk, IfSome, IsErrAnd, IsTrue, List, MatchResult, None, Ok, Option, Result, Some, [], ap, append-nil, append_assoc, arith, bytes_eq, codes, cond, decimal, drop, eqb, ext_get_or, false, flat_map, get_or, get_or-drop, get_or-set_other, get_or-set_same, if◌then◌else◌, inl, inr, int_le, leb-true, length, length-append, length-drop, length-set, length-take-le, lt-ltb, ltb-true, map, nat_le, nat_lt, ne_eqb, neg_ℤ, negsuc, pos, refl, replicate, rules, set, subst, suc, sum_by, sym, take, take-append-drop, take_all, to_z, to_z-of_z, true, true≢false, unsigned_abs, vec_len, w64, zero, ℕ, ℤ, ⊎_elim, ◌&&◌, ◌*◌, ◌++◌, ◌+◌, ◌-◌, ◌<◌, ◌==◌, ◌^◌, ◌∙◌, ◌∷◌, ◌≡◌, ◌≢◌, ◌≤◌, ◌⊎◌}
pub use Rattle.std.proofs.lemmas.Bool.{agree_below_at, and_from, cases_Bool, cases_eq, cases_lt, cases_order}
pub use Rattle.std.proofs.lemmas.Bool.Decides.{nat_tests, not_from_Decides}
pub use Rattle.std.proofs.lemmas.Fmt.{length-decimal-le, length_signed_le}
pub use Rattle.std.proofs.lemmas.Grind.{common_steps}
pub use Rattle.std.proofs.lemmas.Int.{to_z_pos}
pub use Rattle.std.proofs.lemmas.Int.Digits.{digits_more, digits_value_more}
pub use Rattle.std.proofs.lemmas.List.{drop-set, drop_all, drop_more, get_or-map, get_or-take, length-map}
pub use Rattle.std.proofs.lemmas.List.Concat.{flat_map-append}
pub use Rattle.std.proofs.lemmas.List.Folds.{list_all-append}
pub use Rattle.std.proofs.lemmas.List.Splits.{length-slice_split, slice_split-cons_yes, slice_split_first, slice_split_none}
pub use Rattle.std.proofs.lemmas.List.Sums.{passes_at_first, position_or_len_is, split_at_first, sum_by-cons}
pub use Rattle.std.proofs.lemmas.Map.Keys.{apart_from_distinct}
pub use Rattle.std.proofs.lemmas.Map.Text.{btree_map_updates_str}
pub use Rattle.std.proofs.lemmas.Result.{err_from_is_err_and, on_ok_weaker}
pub use Rattle.std.proofs.lemmas.Slice.Eq.{bytes_eq-Decides}
pub use Rattle.std.proofs.lemmas.Str.Parse.{IsNumeralModel, digit_at, digits_value-take-le, digits_value_short, numerals_by_value, tells_all_ascii_digits}
pub use Rattle.std.specs.Char.{digit_value, is_ascii_alphabetic}
pub use Rattle.std.specs.Fmt.{signed_decimal}
pub use Rattle.std.specs.BTreeMap.{get_by}
pub use Rattle.std.specs.Cmp.Lexicographic.{slice_cmp}
pub use Rattle.std.specs.Ordering.{nat_cmp}
pub use Rattle.std.specs.Int.{IsInRange}
pub use Rattle.std.specs.List.{after_first, before_first, onto_first, position_or_len, slice_split}
pub use Rattle.std.specs.Str.{all_ascii_digits}
pub use Rattle.std.specs.Str.Lines.{lines, lines_of_parts, strip_carriage_return}
pub use Rattle.std.specs.Str.Parse.{AllDigits, digits_value}
pub use lib.Dec.{leb-zero}
pub use Rattle.sig_lists.proofs.Bytes.{other_bytes}
pub use Rattle.sig_lists.proofs.Fronts.{written}
pub use Rattle.sig_lists.proofs.Truths.{and_first, and_second}
pub use Rattle.sig_base.specs.declared.ids.Kind.TheVariants.{Event}
pub use Rattle.sig_text.specs.Sink.{Joins, TookPrefix, TookPrefix-longer, TookPrefix-then}
pub use Rattle.sig_kernel.specs.OutputText.{line_with, value_text}
pub use Rattle.sig_kernel.specs.declared.kernel.Kernel.{Kernel}
pub use Rattle.sig_kernel.proofs.Common.{AllByRecursion, AllPass-from_list_all, AreFlowsFor, Boolean, Integer, IsDistinct, Kind, Signal, and_parts, false≢true, get_or_default, has_64_bits, inputs_of, list_all, value_is}
pub use Rattle.sig_flow.specs.Digits.{IsShortNumber, is_digits, short_number}
pub use Rattle.sig_flow.specs.Events.{AreEvents, IsFirstBadEvent, event_fault, event_judge, events_among}
pub use Rattle.sig_flow.specs.First.{AllGood, IsFirst, Judge, first_fault}
pub use Rattle.sig_flow.specs.Flows.{AreFlows, AreFlowsIn, Body, IsFirstBadPlace, IsFirstIn, body_of, file_body, flow_in, is_line_byte, is_name, is_name_byte, kind_named, line_judge, named_fault, text_fault, value_judge, values_for, values_of, word_fault, words_fault}
pub use Rattle.sig_flow.specs.Inputs.{ArePlaces, IsInput}
pub use Rattle.sig_flow.specs.Lines.{Line, lines_of, numbered}
pub use Rattle.sig_flow.specs.NextWords.{word_of, words_behind}
pub use Rattle.sig_flow.specs.OutputLines.{longest_line}
pub use Rattle.sig_flow.specs.Values.{integer_of, integer_said, is_numeral, is_star, is_within, repeated, run_length, run_said, run_values, star_said, starred, times_said, truth_word, value_said}
pub use Rattle.sig_flow.specs.Words.{Word, is_blank, words_among, words_from, words_of}
pub use Rattle.sig_flow.specs.declared.answer.EventAnswer.{EventAnswer}
pub use Rattle.sig_flow.specs.declared.answer.FlowAnswer.{FlowAnswer}
pub use Rattle.sig_flow.specs.declared.answer.FlowAnswer.TheVariants.{BadLine, OutOfMemory}
pub use Rattle.sig_flow.specs.declared.event.FileEvent.{FileEvent}
pub use Rattle.sig_flow.specs.declared.value.Run.{Run}
pub use Rattle.sig_flow.specs.declared.value.WordFault.{WordFault}
pub use Rattle.sig_flow.specs.declared.value.WordFault.TheVariants.{Bad, Outside}
pub use Rattle.sig_flow.specs.declared.version.Version.{Version}
pub use Rattle.sig_flow.specs.declared.version.Version.TheVariants.{One, Two}
pub use Rattle.sig_flow.specs.inner.Bodies.{body_behind}
