-- What the proofs of this crate cite of std, of the crates below and of its own specs, passed on from one place.
pub use Rattle.std.proofs.Common.{Any, Bool, Bor, Contains, Err, FitsSigned, IsSome, List, None, Option, Result, Some, [], add-zero, ap, append-nil, append_assoc, arith, bytes_eq, codes, cond, count_by, decimal, drop, eq-eqb, eqb-true, false, find, flat_map, fold, get_or, get_or-append-add, if◌then◌else◌, inl, inr, leb-true, length, length-append, length-drop, length-take, map, min, mul-le-mul_left, ne_eqb, neg_ℤ, not, option_and_then, option_map, option_to_list, pos, refl, slice_get, slice_range, subst, suc, sym, take, true, w64, zero, zip, ℕ, ℤ, ◌*◌, ◌++◌, ◌+◌, ◌-◌, ◌<◌, ◌==◌, ◌^◌, ◌||◌, ◌∙◌, ◌∷◌, ◌≡◌, ◌≢◌, ◌≤◌, ◌⊎◌}
pub use Rattle.std.proofs.lemmas.Bool.{cases_eq, or_cases, true_from_ne_false}
pub use Rattle.std.proofs.lemmas.Fmt.{decimal_is_IsNumeral_wide, length-decimal-le}
pub use Rattle.std.proofs.lemmas.List.{at_drop_more, drop_all}
pub use Rattle.std.proofs.lemmas.List.Elements.{Contains-append_left, Contains-push}
pub use Rattle.std.proofs.lemmas.List.Sums.{count_by-le-length, sum_by-append, sum_by-cons}
pub use Rattle.std.proofs.lemmas.Option.{slice_get_within}
pub use Rattle.std.proofs.lemmas.Result.{err_from_is_err_and}
pub use Rattle.std.proofs.lemmas.Slice.Zip.{zip_end}
pub use Rattle.std.proofs.lemmas.Str.Parse.{digit_from_value}
pub use Rattle.std.specs.Char.{is_ascii_alphanumeric}
pub use Rattle.std.specs.Int.{is_in_range}
pub use Rattle.std.specs.List.{after_last}
unfoldable pub use Rattle.std.specs.List.{IsDistinct}
pub use Rattle.std.specs.Str.Parse.{AllDigits}
pub use Rattle.sig_lists.proofs.Each.{all_so, holds_at}
pub use Rattle.sig_base.specs.Traces.{IsInteger, IsValue}
pub use Rattle.sig_base.specs.declared.limits.TheConstants.{PROGRAM_BYTES, SIGNALS}
pub use Rattle.sig_base.specs.declared.signal.Signal.{Signal}
pub use Rattle.sig_lex.specs.Lexemes.{IsNameText}
pub use Rattle.sig_lex.specs.declared.token.TokenKind.{TokenKind}
pub use Rattle.sig_lex.specs.declared.token.TokenKind.TheVariants.{Label, Last, Mark, Name as NameToken, Number as NumberToken, Word}
pub use Rattle.sig_lex.proofs.Common.{AllPass, EndsOnce, InOrder, IsSpelled, Lexeme, Spells, all_both, and_parts, contained_or_not, digits_value, false_from_ne_true, first, is_ascii_alphabetic, is_name_byte, lexeme_of, lexemes, place_after, suffix_len, text_of, the_end, token_at}
pub use Rattle.sig_tree.specs.Candidates.{DeclaredTwice, DefinedTwice, InputDefined, Recursive, Undefined, candidate}
pub use Rattle.sig_tree.specs.Declarations.{Role, Use, behind, body_of_model, called_by, called_in, declarations, heading_of_model, left_sides, left_sides_of, locals_of_model, names_of_constant, names_of_expression, names_of_init, process_of, signals_used, texts, uses_of_equation, uses_of_inits, uses_of_right}
pub use Rattle.sig_tree.specs.FlatBody.{Binding, BoundConstant, BoundSignal, binding_of, bound_constants, bound_from, cluster_at, cluster_of, cluster_of_call, copied_signals, copy_of, copy_prefix, declared_init, first_copy, first_progress, flat_name, flat_of, flat_right, init_value, is_named, signal_bound, signal_of, signals_declared, truth_value, value_bound, value_of}
pub use Rattle.sig_tree.specs.FlatSyntax.{Defines as DefinesFlat, Equal as EqualFlat, flat_body_of, flat_expression_of}
pub use Rattle.sig_tree.specs.Kinds.{ConstantRule, FirstConstant, FormRow, NoConstant, OneConstant, Takes, accepts, binary_kind, binary_row, cell_row, delay_row, is_constant, is_parameter, kind_of, kind_of_constant, kind_of_name, kind_of_parameter, kind_of_result, parameter_kind, stored, unary_kind, unary_row}
pub use Rattle.sig_tree.specs.Leaves.{leaf_of, terminal_of}
pub use Rattle.sig_tree.specs.Processes.{IsProcess}
pub use Rattle.sig_tree.specs.Rules.{ByCall, CallsByName, DiffersFrom, DoesNotTake, HasInit, IsCluster, IsGiven, IsUnfit, Itself, MayNotBeFirst, MayNotBeSecond, Reaches, RefusesOne, RefusesTwo, bad_calls, bad_calls_of, bad_pragmas, bad_pragmas_of, bare_alone, bare_constants, bare_in_equation, bare_in_expression, clash_of_arguments, clash_of_init, clashes, clashes_of_call, clashes_of_constants, clashes_of_equation, clashes_of_expression, clashes_of_inits, clashes_of_results, declared_twice, defined_twice, missing_inits, missing_inits_in, missing_inits_of_equation, missing_inits_of_right, number_of, recursive_calls, undefined, unknown_names, unknown_use}
pub use Rattle.sig_tree.specs.SignalNames.{AtOperators, IsGraphic, IsSignalName, NamesOperators, placed_name}
pub use Rattle.sig_tree.specs.Sound.{AreExpandable, Fits, IsLow, IsRead, IsReady, IsSized, IsSmall, IsSmallRight, IsTree, flat_weight, flat_weights, size_of, weight, weights}
pub use Rattle.sig_tree.specs.Syntax.{Defines, Equal, expression_of, program_of, right_side_of}
pub use Rattle.sig_tree.specs.WellFormed.{IsWellFormed, rules_on}
pub use Rattle.sig_tree.specs.WellMade.{Allows, IsMade, IsMadeEquation, IsWellMade, IsWhole, MayBegin, defines, flat_kind, kind_numbered}
pub use Rattle.sig_tree.specs.declared.expr.BinOp.{BinOp}
pub use Rattle.sig_tree.specs.declared.expr.Constant.{Constant}
pub use Rattle.sig_tree.specs.declared.expr.Constant.TheVariants.{Bool as Truthful, Int, Param}
pub use Rattle.sig_tree.specs.declared.expr.UnOp.{UnOp}
pub use Rattle.sig_tree.specs.declared.expr.UnOp.TheVariants.{Neg}
pub use Rattle.sig_tree.specs.declared.process.Item.{Item}
pub use Rattle.sig_tree.specs.declared.process.RunOn.{RunOn}
pub use Rattle.sig_tree.proofs.CandidateLemmas.{each_append, each_flat}
pub use Rattle.sig_tree.proofs.Common.{AllByRecursion, AreBodies, AreConstants, AreFurtherBodies, AreGroups, AreLocals, Between, Binary, Bodies, Boolean, Bounded, Called, Candidate, Cell, Computed, Const, Copy, Declared, Defined, Delay, Each, Enclosed, Ended, Equated, Equations, Event, Expanded, Expands, Expression, FlatBody, FlatEquation, FlatExpression, Further, HasTree, Heading, Integer, IsBare, IsBody, IsClockEquation, IsConstant, IsDefinition, IsExpression, IsFlatBody, IsGroup, IsInit, IsInterface, IsItem, IsLeft, IsLocalGroup, IsModel, IsName, IsOptionalInit, IsPlainItem, IsRight, Kind, Leaf, Limits, Listed, Modelled, Named, NoneHolds, Number, Offence, Placement, ProcessModel, ProcessModels, Progress, RightSide, Separated, Sig, Span, Terminal, Together, Token, Truth, Unary, all_processes, append_cancel_left, bytes_eq-Decides, called_copy, cases_lt, each, equations_of_model, inputs_defined, inputs_of, kind_word, label, leaf, leaves_of, level_of, mark, more_bodies, more_models, name, name_leaf, no_body, no_model, number, outputs_defined, outputs_of, same_Some, with_copy, word}
pub use Rattle.sig_scope.specs.declared.scope.Interface.{Interface}
pub use Rattle.sig_scope.proofs.Common.{Body, Declaration, Input, Local, Name, Output, Parameter, Process, bodies_in, declaration_in, declaration_of, declarations_in, declared_as, equations_in, equations_inside, equations_of, get_or_default, interface_models, length-map, locals_of, map-append, model_of, name_of, out-Process, params_of, placement_of, pragmas_of_model, read_mapped, those_inner, with_inner}
pub use Rattle.sig_scope.proofs.FirstPlaces.{is_found, is_missing, within}
pub use Rattle.sig_scope.proofs.Trees.{body_is, pragmas_are}
pub use Rattle.sig_call.specs.Bindings.{binding_found, bindings_in, bindings_of, bound_in, texts_bound}
pub use Rattle.sig_call.specs.Constants.{HasBoundedInits, IsBounded, IsBoundedConstant, IsBoundedEquation, IsBoundedInit, IsBoundedProcess, IsBoundedRight}
pub use Rattle.sig_call.specs.Making.{Advances, IsRefused, IsRefusedBy, Leads, Made, NeedsMore, NeedsTooMany, signals_copied, with_equations, with_progress, with_signals}
pub use Rattle.sig_call.specs.Places.{AtPlaces, AtPlacesOfBody, AtPlacesOfEquation, IsWithin}
pub use Rattle.sig_call.specs.declared.answer.CallAnswer.{CallAnswer}
pub use Rattle.sig_call.specs.declared.answer.CallAnswer.TheVariants.{OutOfMemory, TooManySignals}
pub use Rattle.sig_call.specs.inner.Copies.{copy_in}
pub use Rattle.sig_call.specs.inner.MadeOf.{made_of}
