-- What the definitions and the clauses of this crate cite of std and of the crates below, passed on from one place.
pub use Rattle.std.specs.Prelude.{Bool, Err, FitsSigned, IfErr, IfOk, IfSome, IsSomeAnd, List, None, Ok, OnOk, Option, Result, Some, SomeIff, [], false, length, map, nat_lt, not, pos, slice_get, slice_index_or, slice_set, true, unwrap_or, zero, suc, ℕ, ℤ, ⊤}
pub use Rattle.std.specs.Int.{w64}
pub use Rattle.sig_model.specs.Actors.{Registers, is_true, truths_of}
pub use Rattle.sig_model.specs.Operating.{Gives, Outcome, bounded, computed, next_of}
pub use Rattle.sig_model.specs.Prelude.{Cause, Depends, EqId, FunOp, Holds, Implies, Seen, SigId, function_of, test}
pub use Rattle.sig_model.specs.Results.{truth_value}
pub use Rattle.sig_dd.specs.declared.node.Ref.{Ref}
pub use Rattle.sig_dd.specs.Diagram.{truth_of}
pub use Rattle.sig_dd.specs.Nodes.{IsRefOf, node_of}
pub use Rattle.sig_dd.specs.declared.node.Node.{Node}
pub use Rattle.sig_values.specs.Answers.{answered}
