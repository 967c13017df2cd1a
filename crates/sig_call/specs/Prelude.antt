-- What the definitions and the clauses of this crate cite of std and of the crates below, passed on from one place.
pub use Rattle.std.specs.List.{AllByRecursion, IsDistinct}
pub use Rattle.std.specs.Prelude.{Err, IfOk, IsTrue, List, None, Ok, OnOk, Option, Result, Some, [], bytes_eq, find, length, map, option_map, ℕ, ℤ, ⊤, ◌*◌, ◌++◌, ◌+◌, ◌<◌, ◌^◌, ◌↔◌, ◌∷◌, ◌≡◌, ◌≢◌, ◌≤◌}
pub use Rattle.sig_base.specs.Traces.{Bounded, IsInteger}
pub use Rattle.sig_base.specs.declared.limits.TheConstants.{PROGRAM_BYTES, SIGNALS}
pub use Rattle.sig_base.specs.declared.signal.Signal.{Signal}
pub use Rattle.sig_base.specs.declared.span.Span.{Span}
pub use Rattle.sig_tree.specs.Declarations.{Declaration, all_processes, declarations, equations_of_model, locals_of, outputs_of, params_of, pragmas_of_model}
pub use Rattle.sig_tree.specs.FlatBody.{Binding, BoundConstant, BoundSignal, Copy, Expands, IsFlatBody, Progress, binding_of, bound_constants, bound_from, called_copy, cluster_at, cluster_of, cluster_of_call, copied_signals, copy_of, copy_prefix, declared_init, flat_name, flat_of, flat_right, flat_unary, init_value, inputs_defined, is_named, outputs_defined, signal_of, signals_declared, value_of, with_copy}
pub use Rattle.sig_tree.specs.FlatSyntax.{Defines as DefinesFlat, Equal, FlatBody, FlatEquation, flat_body_of, flat_equation_of, flat_expression_of}
pub use Rattle.sig_tree.specs.Grammar.{IsText}
pub use Rattle.sig_tree.specs.Rules.{number_of}
pub use Rattle.sig_tree.specs.SignalNames.{IsSignalName, NamesOperators}
pub use Rattle.sig_tree.specs.Sound.{AreExpandable, IsLow, IsReady, IsSized, IsSmall, IsTree, flat_weights}
pub use Rattle.sig_tree.specs.Syntax.{Binary, Called, Cell, Computed, Defines, Delay, Equations, Expression, Named, Number, ProcessModel, RightSide, Together, Truth, Unary, equations_of, expression_of, model_of, program_of, right_side_of}
pub use Rattle.sig_tree.specs.WellFormed.{IsWellFormed}
pub use Rattle.sig_tree.specs.WellMade.{IsWellMade}
pub use Rattle.sig_tree.specs.declared.expr.Constant.{Constant}
pub use Rattle.sig_tree.specs.declared.expr.Constant.TheVariants.{Bool, Int, Param}
pub use Rattle.sig_scope.specs.Declarations.{declarations_in}
pub use Rattle.sig_scope.specs.Walked.{bodies_in, interface_models}
