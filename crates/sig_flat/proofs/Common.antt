-- What the proofs of this crate cite of std, of the crates below and of its own specs, passed on from one place.
pub use Rattle.std.proofs.Common.{Bool, FitsSigned, IsTrue, List, None, Option, Some, [], ap, append-nil, append_assoc, arith, bytes_eq, count_by, drop, drop-cons, false, get_or, get_or-take, if◌then◌else◌, inl, inr, int_eq, is_some, length, length-append, length-take, length-take-le, lt-ltb, map, min, nat_eq, ne_eqb, option_map, option_to_list, pos, refl, replicate, slice_get, slice_index_or, subst, suc, sym, take, take-append-drop, take_at, true, unwrap_or, w64, zero, ℕ, ℤ, ⊎_elim, ◌&&◌, ◌*◌, ◌++◌, ◌+◌, ◌-◌, ◌<◌, ◌^◌, ◌||◌, ◌↔◌, ◌∙◌, ◌∷◌, ◌≡◌, ◌≢◌, ◌≤◌, ◌⊎◌}
pub use Rattle.std.proofs.lemmas.Bool.{and_from, or_right}
pub use Rattle.std.proofs.lemmas.Bool.Decides.{eqb_tells}
pub use Rattle.std.proofs.lemmas.Grind.{common_steps}
pub use Rattle.std.proofs.lemmas.List.{drop-take, length-map, length-replicate, take-append-le, take-replicate}
pub use Rattle.std.proofs.lemmas.List.Recursion.{is_count_by}
pub use Rattle.std.proofs.lemmas.Result.{IfOk-weaker}
pub use Rattle.std.specs.List.{range_with_len}
pub use Rattle.std.specs.Prelude.{⊤}
pub use Rattle.sig_lists.proofs.Each.{all_added, all_so}
pub use Rattle.sig_lists.proofs.Joined.{one_longer}
pub use Rattle.sig_base.specs.Functions.{Identity, Tells}
pub use Rattle.sig_base.specs.Traces.{Fits}
pub use Rattle.sig_base.specs.declared.limits.TheConstants.{SIGNALS}
pub use Rattle.sig_tree.specs.FlatSyntax.{Binary, Cell, Delay as DelayOf, Sig as SigOf, Unary, flat_equation_of, flat_expression_of}
pub use Rattle.sig_tree.specs.Kinds.{Alike, AnyThenTruth, ConstantRule, FirstConstant, FormRow, Integers, NoConstant, OneConstant, Takes, Truths, accepts, binary_kind, binary_row, cell_row, delay_row, kind_of_result, merged, stored, unary_kind, unary_row}
pub use Rattle.sig_tree.specs.Operators.{Constant, Operand as Found, is_true}
pub use Rattle.sig_tree.specs.ProcessTraces.{IsTraceOf, kinds_of}
pub use Rattle.sig_tree.specs.SignalNames.{AtOperators, IsSignalName, NamesOperators, placed_name}
pub use Rattle.sig_tree.specs.Sound.{flat_weight, flat_weights}
pub use Rattle.sig_tree.specs.WellMade.{Allows, IsMade, IsMadeEquation, IsWellMade, IsWhole, MayBegin, defines as defines_flat, flat_kind, is_constant, kind_numbered}
pub use Rattle.sig_tree.specs.declared.expr.BinOp.{BinOp}
pub use Rattle.sig_tree.specs.declared.expr.BinOp.TheVariants.{Add, And, Default, Div, Eq, Ge, Gt, Le, Less, Lt, Meet, Mod, Mul, Ne, Or, Plus, Sub, When, Xor}
pub use Rattle.sig_tree.specs.declared.expr.UnOp.{UnOp}
pub use Rattle.sig_tree.specs.declared.expr.UnOp.TheVariants.{Clock, Neg, Not as NotOf, When as WhenOf}
pub use Rattle.sig_tree.specs.declared.flat.FlatEq.{FlatEq}
pub use Rattle.sig_tree.specs.declared.flat.FlatExpr.{FlatExpr}
pub use Rattle.sig_tree.proofs.Common.{AllZip, AppliesToBoth, AppliesToOne, BodySteps, Changes, Combines, Const, Defines, Difference, Equal, EquationSteps, Event, FlatBody, FlatEquation, FlatExpression, FunctionAnd, FunctionLess, FunctionNot, FunctionOr, FunctionXor, Greater, GreaterEqual, HoldThroughout, HoldsAt, IsLongest, IsProcessTrace, LessEqual, Negative, NoneSilent, NotEqual, Product, Quotient, Remainder, Steps, Sum, both_of, cases_lt, cases_order, clock_of, delayed, either_of, held, kept, none-some, sampled, without}
pub use Rattle.sig_kernel.specs.KernelTraces.{HaveValues, or_else, where_true}
pub use Rattle.sig_kernel.specs.OutputText.{seen_line}
pub use Rattle.sig_kernel.specs.Table.{arithmetic, comparison, connective, equality, function_rows, handed_on, kind_is, merged as merged_rows, row, target_of}
pub use Rattle.sig_kernel.specs.Validity.{HasParts, IsValid, form_within, is_signal, is_target, operand_within, target_within}
pub use Rattle.sig_kernel.specs.declared.equation.Equation.{Equation}
pub use Rattle.sig_kernel.specs.declared.equation.Form.{Form}
pub use Rattle.sig_kernel.specs.declared.equation.Form.TheVariants.{Delay, Event as EventOf, Fun, Sync, WhenConst}
pub use Rattle.sig_kernel.specs.declared.equation.FunOp.{FunOp}
pub use Rattle.sig_kernel.specs.declared.equation.FunOp.TheVariants.{Id, Not}
pub use Rattle.sig_kernel.specs.declared.equation.Operand.{Operand}
pub use Rattle.sig_kernel.specs.declared.equation.Operand.TheVariants.{Sig}
pub use Rattle.sig_kernel.specs.declared.kernel.Kernel.{Kernel}
pub use Rattle.sig_kernel.specs.declared.table.Sort.{Sort}
pub use Rattle.sig_kernel.specs.declared.table.Sort.TheVariants.{Any, Event as AnEvent, Integer as AnInteger, Truth}
pub use Rattle.sig_kernel.proofs.Common.{AllByRecursion, AllPass, AllPass-from_list_all, AreOfKinds, Boolean, Bounded, DefinesEach, Function, Gives, Instant, Integer, IsDistinct, IsFunction, IsKernelTrace, IsOfKind, IsPrefixOf, IsValue, Kind, Meets, Memory, Range, Row, Seen, SigId, Signal, Span, Trace, constant_is, defines, false≢true, fits_by_test, flow_of, form_fits, function_of, handed_on_where, inputs_of, instant_text, is_kind, is_silent, keeps_to, keeps_to_one, kind_fits, kind_of, last_of, list_all, list_any, operand_is, operands_of, output_text, outputs_of, reduce, remembered, seen_at, seen_lines, target_fits, where_present}
pub use Rattle.sig_flat.specs.Bodies.{EquationSpeaks, IsBelow, IsSignal, NamesBelow, NamesItsSignals, Speaks}
pub use Rattle.sig_flat.specs.KernelOf.{Made, Site, Together, Translated, binary, binary_form, by_one, cell, clocked, cluster_at, kernel_of, kind_at, less, made_of, made_signal, meet, named, next, operands_from, own, place_of, plus, sampled_form, signal_id, signal_in, translate, unary_form, with_all_syncs, with_clock_equations, with_clocks, with_equation, with_flat_equation, with_flat_equations, with_own, with_signal, with_syncs}
pub use Rattle.sig_flat.specs.Places.{AtPlacesOfKernel, AtTakenOfBody, AtTakenOfEquation}
pub use Rattle.sig_flat.specs.Restricted.{restricted}
pub use Rattle.sig_flat.specs.Rows.{AreMet, found_at}
pub use Rattle.sig_flat.specs.declared.term.Term.{Term}
pub use Rattle.sig_flat.specs.inner.Drafts.{left_of, translated}
