-- What the definitions and the clauses of this crate cite of std and of the crates below, passed on from one place.
pub use Rattle.std.specs.Cmp.Lexicographic.{slice_cmp}
pub use Rattle.std.specs.Ordering.{nat_cmp}
pub use Rattle.std.specs.Prelude.{Contains, IfOk, IfSome, IsTrue, List, None, OnOk, Option, Some, [], bytes_eq, cond, flat_map, length, map, option_map, suc, ℕ, ◌++◌, ◌<◌, ◌↔◌, ◌∷◌, ◌≡◌}
pub use Rattle.sig_tree.specs.Candidates.{Candidate, NoneHolds}
pub use Rattle.sig_tree.specs.Declarations.{Declaration, Input, Local, Output, Parameter, Role, all_processes, declaration_of, declarations, declared_as, equations_in, equations_of_model, inputs_of, locals_of, name_of, outputs_of, params_of, process_of, with_inner}
pub use Rattle.sig_tree.specs.Kinds.{kind_of, kind_of_constant, kind_of_name, parameter_kind}
pub use Rattle.sig_tree.specs.Prelude.{Integer, Kind}
pub use Rattle.sig_tree.specs.Rules.{HasInit, IsGiven, IsSignal}
pub use Rattle.sig_tree.specs.Syntax.{Binary, Called, Cell, Computed, Defines, Delay, Equal, Equations, Expression, Named, Number, ProcessModel, Together, Truth, Unary, declared_of, equations_of, model_of, program_of}
pub use Rattle.sig_tree.specs.WellFormed.{IsWellFormed, rules_of}
pub use Rattle.sig_tree.specs.declared.expr.Name.{Name}
pub use Rattle.sig_tree.specs.declared.process.Body.{Body}
pub use Rattle.sig_tree.specs.declared.process.Item.{Item}
pub use Rattle.sig_tree.specs.declared.process.Process.{Process}
