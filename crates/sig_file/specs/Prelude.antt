-- What the definitions and the clauses of this crate cite of std and of the crates below, passed on from one place.
pub use Rattle.std.specs.Cmp.Lexicographic.{slice_cmp}
pub use Rattle.std.specs.Int.{Width, byte_len, cast_signed, cast_unsigned, from_be_bytes, to_be_bytes, w32, w64}
pub use Rattle.std.specs.List.{flat_map, list_all, list_any}
pub use Rattle.std.specs.Prelude.{All, IfSome, Bool, Contains, Err, IfErr, IfOk, IsErrAnd, IsTrue, List, MatchResult, None, Ok, OnOk, Option, Result, Some, [], bytes_eq, codes, drop, false, if◌then◌else◌, length, map, nat_le, nat_lt, not, slice_get, slice_set, take, true, zero, suc, ℕ, ℤ, ◌&&◌, ◌++◌, ◌+◌, ◌-◌, ◌<◌, ◌==◌, ◌^◌, ◌||◌, ◌∷◌, ◌≡◌, ◌≢◌, ◌≤◌, ◌⊎◌}
pub use Rattle.sig_base.specs.Traces.{has_64_bits}
pub use Rattle.std.specs.Ordering.{int_eq, nat_cmp}
pub use Rattle.std.specs.Prelude.{negsuc, pos}
pub use Rattle.sig_base.specs.declared.ids.Kind.{Kind}
pub use Rattle.sig_base.specs.declared.ids.Kind.TheVariants.{Boolean, Event, Integer}
pub use Rattle.sig_base.specs.declared.ids.SigId.{SigId}
pub use Rattle.sig_base.specs.declared.limits.TheConstants.{NODES, SIGNALS}
pub use Rattle.sig_base.specs.declared.span.Span.{Span}
pub use Rattle.sig_kernel.specs.Table.{Row, constant_is, function_rows, is_kind, kind_fits}
pub use Rattle.sig_kernel.specs.Validity.{is_signal, value_is}
pub use Rattle.sig_kernel.specs.declared.equation.FunOp.{FunOp}
pub use Rattle.sig_kernel.specs.declared.equation.FunOp.TheVariants.{Add, And, Div, Eq, Ge, Gt, Id, Le, Lt, Mod, Mul, Ne, Neg, Not, Or, Sub, Xor}
pub use Rattle.sig_kernel.specs.declared.equation.Operand.{Operand}
pub use Rattle.sig_kernel.specs.declared.equation.Operand.TheVariants.{Const, Sig}
pub use Rattle.sig_kernel.specs.declared.table.Sort.{Sort}
pub use Rattle.sig_kernel.specs.declared.table.Sort.TheVariants.{Integer as AnInteger, Truth, Event as AnEvent}
pub use Rattle.std.specs.Prelude.{replicate}
pub use Rattle.sig_base.specs.Functions.{Function, Gives, Quotient, Remainder}
pub use Rattle.sig_base.specs.Traces.{Bounded, Instant, Seen, Trace, seen_at}
pub use Rattle.sig_dd.specs.Diagram.{Diagram, value_at}
pub use Rattle.sig_dd.specs.Nodes.{diagram}
pub use Rattle.sig_dd.specs.Walks.{Asks}
pub use Rattle.sig_dd.specs.declared.node.Node.{Node}
pub use Rattle.sig_dd.specs.declared.node.Ref.{Ref}
pub use Rattle.sig_kernel.specs.KernelTraces.{HaveValues, function_of}
pub use Rattle.sig_kernel.specs.OutputText.{line_of}
