-- What the definitions and the clauses of this crate cite of std and of the crates below, passed on from one place.
pub use Rattle.std.specs.Fmt.{WritesOnOk}
pub use Rattle.std.specs.Prelude.{Any, Contains, IfErr, IfOk, IsTrue, List, MatchOption, None, OnOk, Option, Some, [], codes, encode_utf8, false, flat_map, length, map, option_map, slice_get, take, true, zip, ℕ, ⊤, ◌++◌, ◌↔◌, ◌∷◌, ◌≡◌, ◌≢◌, ◌≤◌, ◌⊎◌}
pub use Rattle.sig_base.specs.Lines.{refusal, refusal_at}
pub use Rattle.sig_tree.specs.Candidates.{BadCall, BadPragma, BareConstant, Candidate, Clash, DeclaredTwice, DefinedTwice, InputDefined, IsFirst, NoInit, NoneHolds, Offence, Recursive, Undefined, Unknown, candidate, each}
pub use Rattle.sig_tree.specs.Declarations.{Declaration, Use, all_processes, called_in, declaration_of, left_sides, name_of, names_of_constant, names_of_expression, names_of_init, params_of, process_of, texts, uses_of_equation, uses_of_inits, uses_of_right, with_earlier}
pub use Rattle.sig_tree.specs.Kinds.{is_constant, is_negative_number, kind_of}
pub use Rattle.sig_tree.specs.Prelude.{AllByRecursion, Kind}
pub use Rattle.sig_tree.specs.Rules.{DiffersFrom, DoesNotTake, HasInit, IsCluster, IsDigit, IsGiven, IsSignal, IsUnfit, MayNotBeFirst, MayNotBeSecond, Reaches, bad_calls_of, bad_pragmas_of, bare_alone, bare_in_equation, bare_in_expression, bare_operands, clash_of_constant, clash_of_init, clash_of_left, clashes_of_call, clashes_of_constants, clashes_of_equation, clashes_of_expression, clashes_of_inits, clashes_of_results, missing_init, missing_inits, missing_inits_of_equation, missing_inits_of_right, number_of, place_of_constant, unknown_use}
pub use Rattle.sig_tree.specs.Syntax.{Defines, Equations, ProcessModel, equations_of, expression_of, model_of, placement_of, program_of, right_side_of}
pub use Rattle.sig_tree.specs.WellFormed.{IsFirstOffence, IsWellFormed, rules_of, rules_on}
pub use Rattle.sig_tree.specs.declared.expr.Name.{Name}
pub use Rattle.sig_scope.specs.Declarations.{declarations_in}
pub use Rattle.sig_scope.specs.Places.{place_of}
pub use Rattle.sig_scope.specs.Walked.{bodies_in, interface_models, names_in, process_texts}
pub use Rattle.sig_recursion.specs.Calls.{graph_in, graph_of}
pub use Rattle.sig_kinds.specs.Forms.{form_in}
