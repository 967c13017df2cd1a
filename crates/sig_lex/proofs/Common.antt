-- What the proofs of this crate cite of std, of the crates below and of its own specs, passed on from one place.
pub use Rattle.std.proofs.Common.{All, Bool, Contains, Err, IfErr, IfOk, IsErrAnd, IsUtf8, List, MatchResult, None, Ok, OkIff, Option, Result, Some, [], add-zero, ap, append-nil, append_assoc, arith, bytes_eq, cond, drop, drop-drop, drop_at, eq-eqb, eqb, eqb-true, false, get_or, get_or-append-add, get_or-drop, get_or-take, inl, inr, le-leb, leb, leb-true, length, length-append, length-drop, length-take, length-take-le, map, ne_eqb, not, option_map, option_to_list, refl, subst, suc, sym, take, take_at, true, zero, ℕ, ⊎_elim, ◌&&◌, ◌++◌, ◌+◌, ◌-◌, ◌<◌, ◌^◌, ◌↔◌, ◌∙◌, ◌∷◌, ◌≡◌, ◌≢◌, ◌≤◌, ◌⊎◌}
pub use Rattle.std.proofs.lemmas.Bool.{and_from, and_left, and_parts, and_right, cases_Bool, cases_lt, false_from_ne_true, false≢true, iff_false, lt-leb, not-true}
pub use Rattle.std.proofs.lemmas.Bool.Decides.{nat_tests}
pub use Rattle.std.proofs.lemmas.List.{get_or_append_left, get_or_at, get_or_past, map-append, take_more, take_rest}
pub use Rattle.std.proofs.lemmas.List.Folds.{Any-from_list_any, list_any_at}
pub use Rattle.std.proofs.lemmas.List.Recursion.{and_at}
pub use Rattle.std.proofs.lemmas.List.Sums.{count_by_more_no, count_by_more_yes, position_or_len_is, prefix_len-le-length, prefix_len_is, prefix_len_passes, suffix_len-le-length, suffix_len-take_no, suffix_len-take_yes}
pub use Rattle.std.proofs.lemmas.Slice.Eq.{bytes_eq-Decides}
pub use Rattle.std.proofs.lemmas.Str.{IsUtf8-from_ascii}
pub use Rattle.std.proofs.lemmas.Str.Ascii.{IsAscii-from_all}
pub use Rattle.std.proofs.lemmas.Str.Parse.{numerals_by_value, parse_digits, tells_by_index}
pub use Rattle.std.specs.Char.{is_ascii_alphabetic, is_ascii_digit}
pub use Rattle.std.specs.Int.{IsInRange}
pub use Rattle.std.specs.List.{AllByRecursion, AllPass, list_all, list_any, prefix_len, suffix_len}
pub use Rattle.std.specs.Result.{result_ok}
pub use Rattle.std.specs.Str.Parse.{ParsesUnsigned, digits_value}
pub use Rattle.memchr.specs.Find.{IsFirstByte, is_byte}
pub use Rattle.sig_lists.proofs.Contained.{contained_or_not}
pub use Rattle.sig_lists.proofs.Each.{all_both}
pub use Rattle.sig_base.specs.declared.span.Span.{Span}
pub use Rattle.sig_lex.specs.Bytes.{first, is_blank, is_label_byte, is_name_byte, is_percent, is_quote}
pub use Rattle.sig_lex.specs.Lexemes.{EndsWord, IsLabelText, IsPrintable, IsSpaced, IsSpelled, Lexeme, Spaced, Spells, lexeme_of, lexemes, printed_text, spaced_text, text_of, the_end, word_of}
pub use Rattle.sig_lex.specs.Slices.{EndsOnce, InOrder, StandsIn}
pub use Rattle.sig_lex.specs.Tables.{IsMark, IsWord, marks, words}
pub use Rattle.sig_lex.specs.Tokens.{AreTokens, BeginsWithFault, IsComment, IsDigits, IsFirstFault, IsLabel, IsLexeme, IsLongNumber, IsLongestMark, IsNameOrWord, IsOpenComment, IsOpenLabel, IsOther, IsPiece, IsStray, Piece, Stand, greatest_number, token_at, token_of, tokens_among}
pub use Rattle.sig_lex.specs.declared.answer.LexAnswer.{LexAnswer}
pub use Rattle.sig_lex.specs.declared.answer.LexAnswer.TheVariants.{BadByte, LongNumber, OpenComment, OutOfMemory}
pub use Rattle.sig_lex.specs.declared.token.Token.{Token}
pub use Rattle.sig_lex.specs.declared.token.TokenKind.{TokenKind}
pub use Rattle.sig_lex.specs.declared.token.TokenKind.TheVariants.{Label, Last, Mark, Name, Number, Word}
pub use Rattle.sig_lex.specs.inner.Places.{place_after}
