-- What the proofs of this crate cite of std, of the crates below and of its own specs, passed on from one place.
pub use Rattle.std.proofs.Common.{Any, Bool, Bor, Contains, IsTrue, List, None, Option, Some, [], ap, append-nil, append_assoc, arith, drop, encode_utf8, false, flat_map, get_or, inl, inr, is_some, length, length-take-le, lit<, map, not, option_map, refl, slice_get, subst, suc, sym, take, take-append-drop, take_all, true, zero, zip, ℕ, ◌*◌, ◌++◌, ◌+◌, ◌<◌, ◌^◌, ◌↔◌, ◌∙◌, ◌∷◌, ◌≡◌, ◌≢◌, ◌≤◌, ◌⊎◌}
pub use Rattle.std.proofs.Math.Nat.{pow-le-pow_right}
pub use Rattle.std.proofs.Output.{has_written_append, has_written_of_eq, writes_in_calls_nil}
pub use Rattle.std.proofs.lemmas.Option.{get_or_from_slice_get, slice_get_read, slice_get_within}
pub use Rattle.std.specs.Fmt.{HasWritten, IsPlainFormatter}
pub use Rattle.sig_lists.proofs.Fronts.{written}
pub use Rattle.sig_tree.specs.Candidates.{BadCall, BadPragma, DeclaredTwice, DefinedTwice, Recursive, Undefined}
pub use Rattle.sig_tree.specs.Declarations.{OfSignal, left_sides, uses_of_right}
pub use Rattle.sig_tree.specs.Rules.{DoesNotTake, HasInit, IsCluster, IsDigit, IsSignal, bad_calls, bad_calls_of, bad_pragmas, bad_pragmas_of, bare_alone, bare_constants, bare_in_equation, bare_operands, clash_of_constant, missing_init, missing_inits, missing_inits_in, missing_inits_of_equation, number_of, recursive_calls}
pub use Rattle.sig_tree.specs.Syntax.{right_side_of}
pub use Rattle.sig_tree.proofs.CandidateLemmas.{each_append, each_flat, each_map}
pub use Rattle.sig_tree.proofs.Common.{IsFirst, Offence, Placement, Span, rules_of}
pub use Rattle.sig_scope.specs.declared.declared.Declared.{Declared}
pub use Rattle.sig_scope.proofs.Common.{declaration_in, declarations_in, flat_map-append, length-map, name_of, place_of, placement_of, pragmas_of_model, read_mapped, take_more}
pub use Rattle.sig_scope.proofs.FirstPlaces.{place_found}
pub use Rattle.sig_scope.proofs.Trees.{name_is, pragmas_are}
pub use Rattle.sig_recursion.proofs.Common.{IsCovered, Reaches, called_in, front_more, get_or-map, graph_in, names_in, process_texts, texts}
pub use Rattle.sig_kinds.proofs.Common.{AllByRecursion, Body, Candidate, Constant, Declaration, Equations, Expr, Expression, FormRow, Interface, Kind, Name, NoneHolds, ProcessModel, Use, behind, bodies_in, body_is, candidate, clash_of_init, clash_of_left, clashes, clashes_of_constants, clashes_of_equation, clashes_of_expression, clashes_of_results, declaration_of, declarations, declared_twice, defined_twice, each, equations_of, equations_of_model, expression_of, grown, inputs_defined, interface_models, kind_of, locals_of, map-append, map-map, model_of, names_of_constant, names_of_expression, names_of_init, outputs_of, params_of, program_of, rules_on, signals_used, undefined, unknown_names, unknown_use, uses_of_equation}
pub use Rattle.sig_kinds.proofs.EachHasAKind.{are_kinds}
pub use Rattle.sig_kinds.proofs.Refusals.{refused_one, refused_two}
pub use Rattle.sig_type.specs.Answers.{shown}
pub use Rattle.sig_type.specs.declared.finding.Finding.{Finding}
pub use Rattle.sig_type.specs.declared.finding.First.{First}
pub use Rattle.sig_type.specs.inner.Asked.{calls_in, clashes_in, definitions_in, given_in, lefts_given, placed_twice, recursive_in, repeated, result_at, undefined_in}
pub use Rattle.sig_type.specs.inner.Findings.{Finds, IsFoundOf, IsKept, offence_in, sooner}
pub use Rattle.sig_type.specs.inner.Unknown.{unknown_in, unknown_signals, unknown_uses}
