-- What the definitions and the clauses of this crate cite of std and of the crates below, passed on from one place.
pub use Rattle.std.specs.Prelude.{Err, IfOk, List, None, Ok, OnOk, Option, Result, Some, [], bytes_eq, codes, decimal, length, map, pos, suc, take, true, zero, ℕ, ℤ, ⊤, ◌*◌, ◌++◌, ◌+◌, ◌<◌, ◌^◌, ◌||◌, ◌↔◌, ◌∷◌, ◌≡◌, ◌≢◌, ◌≤◌, ◌⊎◌}
pub use Rattle.sig_base.specs.Traces.{Fits, IsOfKind}
pub use Rattle.sig_tree.specs.FlatSyntax.{Binary, Cell, Const as ConstOf, Defines, Delay as DelayOf, Equal, FlatBody, FlatEquation, FlatExpression, Sig as SigOf, Unary, flat_body_of, flat_equation_of, flat_expression_of}
pub use Rattle.sig_tree.specs.Kinds.{binary_row, kind_of_result, merged, stored, unary_row}
pub use Rattle.sig_tree.specs.Operators.{AppliesToBoth, AppliesToOne, Changes, Combines, Constant, Operand as Found, Signal, clock_of, delayed, held, sampled}
pub use Rattle.sig_tree.specs.ProcessTraces.{IsProcessTrace}
pub use Rattle.sig_tree.specs.SignalNames.{IsSignalName, NamesOperators}
pub use Rattle.sig_tree.specs.Sound.{flat_weights}
pub use Rattle.sig_tree.specs.WellMade.{IsWellMade}
pub use Rattle.sig_tree.specs.declared.expr.BinOp.{BinOp}
pub use Rattle.sig_tree.specs.declared.expr.BinOp.TheVariants.{Add as AddOf, And as AndOf, Default as DefaultOf, Div as DivOf, Eq as EqOf, Ge as GeOf, Gt as GtOf, Le as LeOf, Less, Lt as LtOf, Meet, Mod as ModOf, Mul as MulOf, Ne as NeOf, Or as OrOf, Plus, Sub as SubOf, When as Sampled, Xor as XorOf}
pub use Rattle.sig_tree.specs.declared.expr.UnOp.{UnOp}
pub use Rattle.sig_tree.specs.declared.expr.UnOp.TheVariants.{Clock, Neg as NegOf, Not as NotOf, When as WhenOf}
pub use Rattle.sig_kernel.specs.KernelTraces.{IsKernelTrace, Meets, Memory, function_of, where_present}
pub use Rattle.sig_kernel.specs.OutputText.{output_text}
pub use Rattle.sig_kernel.specs.Prelude.{AllByRecursion, AllPass, Boolean, Bounded, Instant, Integer, IsDistinct, IsLongest, IsPrefixOf, Kind, SIGNALS, SigId, Span, Trace, flow_of, list_any, reduce, seen_at}
pub use Rattle.sig_kernel.specs.Table.{operands_of}
pub use Rattle.sig_kernel.specs.Validity.{HasParts, IsValid, form_within, inputs_of, is_signal}
pub use Rattle.sig_kernel.specs.declared.equation.Equation.{Equation}
pub use Rattle.sig_kernel.specs.declared.equation.Form.{Form}
pub use Rattle.sig_kernel.specs.declared.equation.Form.TheVariants.{Default, Delay, Event, Fun, Sync, When, WhenConst}
pub use Rattle.sig_kernel.specs.declared.equation.FunOp.{FunOp}
pub use Rattle.sig_kernel.specs.declared.equation.FunOp.TheVariants.{Add, And, Div, Eq, Ge, Gt, Id, Le, Lt, Mod, Mul, Ne, Neg, Not, Or, Sub, Xor}
pub use Rattle.sig_kernel.specs.declared.equation.Operand.{Operand}
pub use Rattle.sig_kernel.specs.declared.equation.Operand.TheVariants.{Const, Sig}
pub use Rattle.sig_kernel.specs.declared.kernel.Kernel.{Kernel}
