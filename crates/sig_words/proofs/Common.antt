-- What the proofs of this crate cite of std, of the crates below and of its own specs, passed on from one place.
pub use Rattle.std.proofs.Common.{Bool, Bor, Err, IfErr, IfOk, IsUtf8, List, MatchResult, None, Ok, Option, Result, Some, String, [], ap, append-nil, append_assoc, ap₂, arith, bytes_eq, chars, codes, cond, drop, encode_utf8_all, eqb, false, find, flat_map, fold, if◌then◌else◌, inl, inr, is_some, length, not, option_and_then, option_map, option_to_list, refl, rules, slice_get, slice_index, string_bytes, subst, suc, sym, take, true, unwrap_or, ℕ, ◌++◌, ◌+◌, ◌<◌, ◌==◌, ◌||◌, ◌∙◌, ◌∷◌, ◌≡◌, ◌≢◌, ◌≤◌, ◌⊎◌}
pub use Rattle.std.proofs.Math.Bool.{and-false, or-true}
pub use Rattle.std.proofs.lemmas.Bool.{false≢true}
pub use Rattle.std.proofs.lemmas.Bool.Decides.{nat_tests}
pub use Rattle.std.proofs.lemmas.Option.{none-some, same_Some, some_pair_parts}
pub use Rattle.std.proofs.lemmas.Result.{err_from_is_err_and}
pub use Rattle.std.proofs.lemmas.Slice.Eq.{bytes_eq-Decides}
pub use Rattle.std.proofs.lemmas.Str.{IsCharBoundary-after_ascii, IsUtf8-drop, IsUtf8-string_bytes, encodes-chars}
pub use Rattle.std.proofs.lemmas.Str.Parse.{IsNumeralModel, numerals_by_value}
pub use Rattle.std.specs.Char.{digit_value, is_ascii_digit}
pub use Rattle.std.specs.List.{AllByRecursion, list_all, position_or_len}
pub use Rattle.std.specs.Str.Parse.{AllDigits, digits_value}
pub use Rattle.std.specs.declared.alloc.Global.{Global}
pub use Rattle.clap.specs.Faults.{bundle_step_fault, default_fault, fault_of, given_default_fault, is_simple_and_free, long_fault, other_fault, repeat_fault, settle_fault, step_fault, turn_fault}
unfoldable pub use Rattle.clap.specs.Faults.{defaults_fault, flags_fault, walk_fault}
pub use Rattle.clap.specs.Kinds.{HasKind, IsAmong, Kinds, or_else}
pub use Rattle.clap.specs.Lexer.{has_byte, long_of, name_and_value, short_of}
pub use Rattle.clap.specs.Matches.{found_of, one_text}
pub use Rattle.clap.specs.Simple.{App, Shape, app_of, app_of_fields, is_simple, matches_of, new_app, on_top, with_rule}
pub use Rattle.clap.specs.Values.{kind_of, read_as}
pub use Rattle.clap.specs.Walk.{Held, Row, Rule, Step, Text, Waiting, Walk, after_step, all_of, arg_by_long, first_of, has_row, idle, is_empty, one_of, option, positional, rows_of, rule_of, settled, settled_rows, subcommand_or_other, used, with_default, with_values, without}
unfoldable pub use Rattle.clap.specs.Walk.{walked}
pub use Rattle.clap.specs.declared.builder.action.ArgAction.TheVariants.{Set}
pub use Rattle.clap.specs.declared.builder.command.Command.TheOpen.{Command-F}
pub use Rattle.clap.specs.declared.builder.value_parser.Reading.TheVariants.{AsWritten}
pub use Rattle.clap.specs.declared.error.Error.{Error}
pub use Rattle.clap.specs.declared.error.kind.ErrorKind.{ErrorKind}
pub use Rattle.clap.specs.declared.error.kind.ErrorKind.TheVariants.{OutOfMemory, TooManyValues, UnknownArgument}
pub use Rattle.clap.specs.declared.parser.matches.ValueSource.{ValueSource}
pub use Rattle.clap.specs.declared.parser.matches.ValueSource.TheVariants.{CommandLine, DefaultValue}
pub use Rattle.clap.proofs.WalkLemmas.{first_value-rows, one_text-rows, raw_values-rows}
pub use Rattle.sig_words.specs.Commands.{AreSeedAndStages, AreSettings, HasPlainWords, IsCommand, IsFlag, IsSetting, OptionValues, files_of, option_values, options_of, settings_of, spelling, verb_of}
pub use Rattle.sig_words.specs.Readings.{Apart, IsGood, IsReading, Item, Joined, Pace, Plain, Reading, Word, is_plain, name_of, paces, plain_in, plain_words, texts, values_in, values_of, written, written_behind}
pub use Rattle.sig_words.specs.declared.answer.WordsAnswer.{WordsAnswer}
pub use Rattle.sig_words.specs.declared.command.Command.{Command}
pub use Rattle.sig_words.specs.declared.command.Command.TheVariants.{Build, Check, Code, Exec, Judge, Load, Play, Print, Run, Tree}
pub use Rattle.sig_words.specs.declared.command.Settings.{Settings}
pub use Rattle.sig_words.specs.declared.option.OptionName.{OptionName}
pub use Rattle.sig_words.specs.declared.option.OptionName.TheVariants.{Capacity, Instants, Workers}
pub use Rattle.sig_words.specs.declared.verb.Options.{Options}
pub use Rattle.sig_words.specs.declared.verb.Verb.{Verb}
pub use Rattle.sig_words.specs.inner.Lines.{Shows, command_line, line_shape, option_rule, pace_rule, plain_rule}
pub use Rattle.sig_words.specs.inner.Numbers.{IsNumber, IsNumberWithin}
pub use Rattle.sig_words.specs.inner.Said.{HasPlainValue, IsMadeWith, IsSaid, Said, referents, said_by, said_values}
