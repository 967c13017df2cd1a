-- What the proofs of this crate cite of std, of the crates below and of its own specs, passed on from one place.
pub use Rattle.std.proofs.Common.{Bool, Bor, Err, IsTrue, List, None, Ok, OnOk, Option, Result, Some, [], ap, append-nil, append_assoc, cond, false, flat_map, length, map, not, option_map, refl, reverse, subst, sym, take, true, ◌++◌, ◌↔◌, ◌∙◌, ◌∷◌, ◌≡◌}
pub use Rattle.std.proofs.lemmas.List.{reverse-append}
pub use Rattle.sig_lists.proofs.Each.{all_back, all_both, all_front}
pub use Rattle.sig_lists.proofs.Grown.{grows}
pub use Rattle.sig_tree.specs.Candidates.{Clash, candidate}
pub use Rattle.sig_tree.specs.Declarations.{OfProcess, Use, behind, declarations, names_of_constant, names_of_expression, names_of_init, process_of, signals_used, uses_of, uses_of_equation, uses_of_inits}
pub use Rattle.sig_tree.specs.Kinds.{FormRow, accepts, binary_kind, binary_row, cell_row, delay_row, kind_of, kind_of_result, stored, unary_kind, unary_row}
pub use Rattle.sig_tree.specs.Rules.{RefusesOne, RefusesTwo, clash_of_arguments, clash_of_init, clash_of_left, clashes, clashes_of_call, clashes_of_constants, clashes_of_equation, clashes_of_expression, clashes_of_inits, clashes_of_results, declared_twice, defined_twice, inputs_defined, undefined, unknown_names, unknown_use}
pub use Rattle.sig_tree.specs.Syntax.{Defines, Equal, expression_of, program_of}
pub use Rattle.sig_tree.specs.WellFormed.{IsWellFormed, rules_on}
pub use Rattle.sig_tree.specs.declared.expr.Constant.{Constant}
pub use Rattle.sig_tree.specs.declared.expr.Expr.{Expr}
pub use Rattle.sig_tree.proofs.Common.{AllByRecursion, Binary, Boolean, Called, Candidate, Cell, Computed, Delay, Equations, Expression, Integer, Kind, Named, NoneHolds, Number, Together, Truth, Unary, all_processes, each}
pub use Rattle.sig_scope.specs.Typed.{AreKinds, expressions_of, kinds_in, kinds_of_model, kinds_of_program, known, nodes}
pub use Rattle.sig_scope.specs.declared.scope.Interface.{Interface}
pub use Rattle.sig_scope.proofs.Common.{Body, Declaration, Name, ProcessModel, bodies_in, declaration_of, equations_of, equations_of_model, grown, inputs_of, interface_models, locals_of, map-append, map-map, model_of, outputs_of, params_of}
pub use Rattle.sig_scope.proofs.Trees.{body_is}
pub use Rattle.sig_kinds.specs.Forms.{binary_refused, unary_refused}
