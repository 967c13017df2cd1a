-- What the proofs of this crate cite of std, of the crates below and of its own specs, passed on from one place.
pub use Rattle.std.proofs.Math.Seq.{take-append_seam}
pub use Rattle.std.proofs.lemmas.List.{take-append-drop, take-map}
pub use Rattle.std.proofs.Common.{Bool, drop, ℤ, Err, IfErr, IfOk, IsErrAnd, IsTrue, List, MatchResult, Ok, Result, [], ap, arith, bytes_eq, false, inl, inr, le-leb, leb-true, length, map, nat_le, refl, subst, suc, sym, take, zero, ℕ, ⊎_elim, ◌&&◌, ◌*◌, ◌+◌, ◌<◌, ◌^◌, ◌∙◌, ◌∷◌, ◌≡◌, ◌≤◌, ◌⊎◌}
pub use Rattle.std.proofs.lemmas.Bool.{cases_lt}
pub use Rattle.std.proofs.lemmas.Nat.{mul-le}
unfoldable pub use Rattle.std.specs.List.{IsDistinct}
pub use Rattle.sig_lex.specs.Tokens.{AreTokens, IsFirstFault}
pub use Rattle.sig_lex.specs.declared.answer.LexAnswer.{LexAnswer}
pub use Rattle.sig_lex.proofs.Total.{tokens_or_fault}
pub use Rattle.sig_lex.proofs.Unique.{list_or_fault, one_first_fault, one_list}
pub use Rattle.sig_tree.specs.FlatSyntax.{Delay}
pub use Rattle.sig_tree.specs.Grammar.{IsText}
pub use Rattle.sig_tree.specs.WellFormed.{IsFirstOffence, rules_of}
pub use Rattle.sig_tree.specs.declared.flat.Flat.{Flat}
pub use Rattle.sig_tree.proofs.CandidateLemmas.{none_first, one_first}
pub use Rattle.sig_tree.proofs.DecidedCandidates.{none_or_first}
pub use Rattle.sig_tree.proofs.DecidedRules.{decided_rules}
pub use Rattle.sig_tree.proofs.OneExpansion.{one_body}
pub use Rattle.sig_tree.proofs.ReadProcesses.{tree_once}
pub use Rattle.sig_flat.specs.Places.{AtTaken}
pub use Rattle.sig_flat.proofs.Common.{AtPlacesOfKernel, AtTakenOfBody, AtTakenOfEquation, Binary, Cell, Defines, Equal, Equation, IfOk-weaker, IsKernelTrace, IsProcessTrace, IsValid, Kernel, Trace, Unary, and_from, flat_equation_of, kernel_of, place_of, restricted}
pub use Rattle.sig_type.specs.declared.answer.TypeAnswer.{TypeAnswer}
pub use Rattle.sig_base.specs.Traces.{Bounded, IsLongest, IsPrefixOf, reduce}
pub use Rattle.sig_call.proofs.Common.{AllByRecursion, AtPlaces, AtPlacesOfBody, AtPlacesOfEquation, Const, FlatBody, FlatEquation, FlatExpression, HasTree, IsBounded, IsFlatBody, IsSignalName, IsSized, IsTree, IsWellFormed, IsWellMade, IsWithin, NamesOperators, Offence, ProcessModel, SIGNALS, Sig, Signal, Span, Token, all_processes, all_so, and_parts, err_from_is_err_and, flat_body_of, flat_weights, leaves_of, length-map, program_of}
pub use Rattle.sig_call.proofs.Existence.{some_body}
pub use Rattle.sig_call.proofs.FlatPlaces.{operators_of}
pub use Rattle.sig_parse.proofs.Common.{IsFirstRefusal, both_limits, end_of}
pub use Rattle.sig_parse.specs.declared.parse_answer.ParseAnswer.{ParseAnswer}
pub use Rattle.sig_parse.proofs.RefusedPrograms.{no_answer, one_answer}
pub use Rattle.sig_parse.proofs.VerdictsOfTexts.{tree_or_first_refusal}
pub use Rattle.sig_front.specs.Flats.{IsFlatText, IsGood, IsNoFlatText, IsTooLarge, Offends, answer_for}
pub use Rattle.sig_front.specs.Kernels.{HasLargeKernel, HasTracesOf, IsKernelText, IsNoKernelText, IsProgramTrace}
pub use Rattle.sig_front.specs.Texts.{IsNoText}
pub use Rattle.sig_front.specs.declared.answer.FrontAnswer.{FrontAnswer}
pub use Rattle.sig_front.specs.declared.answer.FrontAnswer.TheVariants.{Lex, OutOfMemory, Parse, TooManySignals, «Type»}
