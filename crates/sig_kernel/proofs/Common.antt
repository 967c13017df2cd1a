-- What the proofs of this crate cite of std, of the crates below and of its own specs, passed on from one place.
pub use Rattle.std.proofs.Common.{Bool, Contains, IsTrue, List, None, Option, Some, [], ap, append-nil, append_assoc, arith, bytes_eq, cond, count_by, drop, false, get_or, inl, inr, int_eq, le-ltb, length, lt-ltb, map, nat_lt, not, option_to_list, pos, refl, slice_get, slice_index_or, subst, suc, sym, take, true, zero, ℕ, ℤ, ◌&&◌, ◌++◌, ◌<◌, ◌||◌, ◌↔◌, ◌∙◌, ◌∷◌, ◌≡◌, ◌≤◌, ◌⊎◌}
pub use Rattle.std.proofs.Math.Bool.{and-false}
pub use Rattle.std.proofs.lemmas.Bool.{and_parts, false≢true}
pub use Rattle.std.proofs.lemmas.Bool.Decides.{Decides-int_eq}
pub use Rattle.std.proofs.lemmas.List.{get_or_default}
pub use Rattle.std.proofs.lemmas.List.Sums.{AllPass-from_list_all, list_all-from_AllPass}
pub use Rattle.std.proofs.lemmas.Map.Keys.{IsDistinct-cons, IsDistinct-head, IsDistinct-tail}
pub use Rattle.std.specs.List.{AllByRecursion, AllPass, list_all, list_any}
unfoldable pub use Rattle.std.specs.List.{IsDistinct}
pub use Rattle.std.specs.Prelude.{⊤}
pub use Rattle.sig_lists.proofs.Each.{at_element}
pub use Rattle.sig_base.specs.Functions.{Function, Gives}
pub use Rattle.sig_base.specs.Traces.{AreOfKinds, Bounded, Instant, IsInteger, IsOfKind, IsPrefixOf, IsValue, Range, Seen, Trace, Unbounded, flow_of, has_64_bits, is_silent, reduce, seen_at}
pub use Rattle.sig_base.specs.declared.ids.Kind.{Kind}
pub use Rattle.sig_base.specs.declared.ids.Kind.TheVariants.{Boolean, Integer}
pub use Rattle.sig_base.specs.declared.ids.SigId.{SigId}
pub use Rattle.sig_base.specs.declared.signal.Signal.{Signal}
pub use Rattle.sig_base.specs.declared.span.Span.{Span}
pub use Rattle.sig_base.proofs.TraceLemmas.{fits_by_test, flow_append, flow_reduced, one_longest, silent_at}
pub use Rattle.sig_kernel.specs.KernelTraces.{AreAbsent, IsFunction, IsKernelTrace, IsReaction, IsTraceIn, Meets, Memory, function_of, last_of, remembered, where_present}
pub use Rattle.sig_kernel.specs.OutputText.{instant_text, output_text, outputs_of, seen_lines}
pub use Rattle.sig_kernel.specs.Table.{Row, constant_is, form_fits, handed_on_where, is_kind, keeps_to, keeps_to_one, kept, kind_at, kind_fits, kind_of, operand_is, operands_are, operands_of, rows_of, target_fits}
pub use Rattle.sig_kernel.specs.Validity.{AreFlowsFor, AreWellMade, DefinesEach, defines, inputs_of, value_is}
pub use Rattle.sig_kernel.specs.declared.equation.Equation.{Equation}
pub use Rattle.sig_kernel.specs.declared.equation.Form.{Form}
pub use Rattle.sig_kernel.specs.declared.equation.Form.TheVariants.{Default, Delay, Event, Fun, Sync, When, WhenConst}
pub use Rattle.sig_kernel.specs.declared.equation.Operand.{Operand}
pub use Rattle.sig_kernel.specs.declared.equation.Operand.TheVariants.{Const, Sig}
pub use Rattle.sig_kernel.specs.declared.kernel.Kernel.{Kernel}
pub use Rattle.sig_kernel.specs.declared.table.Sort.{Sort}
pub use Rattle.sig_kernel.specs.declared.table.Sort.TheVariants.{Any, Event as AnEvent, Integer as AnInteger, Truth}
