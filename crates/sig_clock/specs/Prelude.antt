-- What the definitions and the clauses of this crate cite of std and of the crates below, passed on from one place.
pub use Rattle.std.specs.List.{range_with_len}
pub use Rattle.std.specs.Prelude.{Bool, Contains, IfOk, IfSome, List, None, OnOk, Option, Some, [], false, filter, if◌then◌else◌, is_some, length, map, nat_lt, not, pos, slice_get, slice_index, slice_index_or, slice_set, suc, take, true, zero, ℕ, ℤ, ◌&&◌, ◌++◌, ◌+◌, ◌<◌, ◌==◌, ◌||◌, ◌↔◌, ◌∷◌, ◌≡◌, ◌≢◌, ◌≤◌, ◌⊎◌}
pub use Rattle.sig_kernel.specs.KernelTraces.{IsReaction, Memory}
pub use Rattle.sig_kernel.specs.Prelude.{AllByRecursion, AllPass, Boolean, Instant, Integer, Kind, Range, Seen, SigId, Signal, int_eq, is_silent, list_all, list_any, seen_at}
pub use Rattle.sig_kernel.specs.Table.{kind_at}
pub use Rattle.sig_kernel.specs.Validity.{IsValid, form_within, operand_within}
pub use Rattle.sig_kernel.specs.declared.equation.Equation.{Equation}
pub use Rattle.sig_kernel.specs.declared.equation.Form.{Form}
pub use Rattle.sig_kernel.specs.declared.equation.Form.TheVariants.{Default, Delay, Event, Fun, Sync, When, WhenConst}
pub use Rattle.sig_kernel.specs.declared.equation.FunOp.{FunOp}
pub use Rattle.sig_kernel.specs.declared.equation.FunOp.TheVariants.{Add, And, Div, Eq, Ge, Gt, Id, Le, Lt, Mod, Mul, Ne, Neg, Not, Or, Sub, Xor}
pub use Rattle.sig_kernel.specs.declared.equation.Operand.{Operand}
pub use Rattle.sig_kernel.specs.declared.equation.Operand.TheVariants.{Const, Sig}
pub use Rattle.sig_kernel.specs.declared.kernel.Kernel.{Kernel}
pub use Rattle.sig_dd.specs.Diagram.{Agree, Depends, truth_of, with_truth}
pub use Rattle.sig_dd.specs.Nodes.{Holds, test}
pub use Rattle.sig_dd.specs.declared.node.Node.{Node}
pub use Rattle.sig_dd.specs.declared.node.Ref.{Ref}
