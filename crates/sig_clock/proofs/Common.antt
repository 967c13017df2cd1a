-- What the proofs of this crate cite of std, of the crates below and of its own specs, passed on from one place.
pub use Rattle.std.proofs.Common.{Bool, Contains, List, None, Option, Some, [], add-one, ap, arith, cond, false, filter, get_or, get_or-set_other, get_or-set_same, inl, inr, int_eq, is_some, length, ltb-true, map, nat_lt, not, pos, refl, slice_get, slice_set, subst, suc, sym, take_all, true, zero, ℕ, ℤ, ◌&&◌, ◌++◌, ◌+◌, ◌<◌, ◌==◌, ◌||◌, ◌∙◌, ◌∷◌, ◌≡◌, ◌≤◌, ◌⊎◌}
pub use Rattle.std.proofs.Math.Bool.{or-false}
pub use Rattle.std.proofs.Math.ListN.{get_or-eq_default}
pub use Rattle.std.proofs.Math.Seq.{drop-length}
pub use Rattle.std.proofs.lemmas.Bool.{and_from, cases_order}
pub use Rattle.std.proofs.lemmas.List.{nil_from_length}
pub use Rattle.std.proofs.lemmas.List.Elements.{filter-append}
pub use Rattle.std.proofs.lemmas.List.FromFn.{get_or-map-range_with_len, length-map-range_with_len}
pub use Rattle.std.proofs.lemmas.Option.{slice_get-get_or, slice_get_within}
pub use Rattle.std.specs.List.{range_with_len}
pub use Rattle.sig_lists.proofs.Contained.{at_contained, contains_at, contains_cons, contains_head, contains_later, contains_none, contains_one}
pub use Rattle.sig_lists.proofs.Fronts.{written}
pub use Rattle.sig_lists.proofs.Places.{item_at}
pub use Rattle.sig_lists.proofs.Ranges.{range_from_zero}
pub use Rattle.sig_lists.proofs.Truths.{two_parts}
pub use Rattle.sig_base.specs.Functions.{And, Equal, Identity, Not, NotEqual, Or, Tells, Xor}
pub use Rattle.sig_base.specs.Traces.{is_silent as is_silent_instant}
pub use Rattle.sig_kernel.specs.KernelTraces.{HaveValues, IsReaction as IsInstant, or_else as seen_or_else, where_present as seen_where_present, where_true as seen_where_true}
pub use Rattle.sig_kernel.specs.Table.{defines_well, equality, function_rows, handed_on, kind_is, merged}
pub use Rattle.sig_kernel.specs.Validity.{IsValid, form_within, is_below, is_signal, operand_within}
pub use Rattle.sig_kernel.specs.declared.equation.Equation.{Equation}
pub use Rattle.sig_kernel.specs.declared.equation.Form.{Form}
pub use Rattle.sig_kernel.specs.declared.equation.Form.TheVariants.{Default, Delay, Event, Fun, Sync, When, WhenConst}
pub use Rattle.sig_kernel.specs.declared.equation.FunOp.{FunOp}
pub use Rattle.sig_kernel.specs.declared.equation.FunOp.TheVariants.{Add, Div, Eq, Ge, Gt, Id, Le, Lt, Mod, Mul, Ne, Neg, Sub}
pub use Rattle.sig_kernel.specs.declared.equation.Operand.{Operand}
pub use Rattle.sig_kernel.specs.declared.equation.Operand.TheVariants.{Const, Sig}
pub use Rattle.sig_kernel.specs.declared.kernel.Kernel.{Kernel}
pub use Rattle.sig_kernel.specs.declared.table.Sort.{Sort}
pub use Rattle.sig_kernel.specs.declared.table.Sort.TheVariants.{Event as AnEvent, Integer as AnInteger, Truth}
pub use Rattle.sig_kernel.proofs.Common.{AllByRecursion, AllPass, AreAbsent, AreOfKinds, Boolean, Decides-int_eq, Function, Gives, Instant, Integer, IsFunction, IsOfKind, IsValue, Kind, Meets, Memory, Range, Seen, SigId, Signal, and_parts, false≢true, form_fits, function_of, get_or_default, handed_on_where, is_kind, keeps_to_one, kind_at, kind_fits, kind_of, list_all, list_any, operand_is, operands_are, operands_of, seen_at, target_fits}
pub use Rattle.sig_dd.specs.Diagram.{truth_of}
unfoldable pub use Rattle.sig_dd.specs.Diagram.{with_truth}
pub use Rattle.sig_clock.specs.Abstractions.{abstraction_of, status_of, truth_of_value}
pub use Rattle.sig_clock.specs.ClockFunctions.{Allows, IsClockFunction, KeepsTo}
pub use Rattle.sig_clock.specs.ClockRefusals.{HasClocks, IsFirstPinned, IsLeast, IsMissingRoot, IsOpen, IsPossible, IsPossibleWithout, IsUnsolved}
pub use Rattle.sig_clock.specs.Clocks.{AreInOrder}
pub use Rattle.sig_clock.specs.Conditions.{AreFreeBy, added, frees, is_condition, is_free, signal_id}
pub use Rattle.sig_clock.specs.Layers.{AgreeOn, EntersBy, HasLayer, IsDead, IsDetermined, IsEarlier, IsSolved}
pub use Rattle.sig_clock.specs.Pinned.{IsFree, IsPinned}
pub use Rattle.sig_clock.specs.Reactions.{IsReaction, Reaction, Speaks, Status, are_statuses, constant_truth, function_truth, has_truth, is_boolean_kind, is_integer, is_integer_kind, is_present, is_silent, is_status_of, is_with, meets, operand_truth, or_else, same_status, same_truth, status_at, truth_function, truth_of_status, where_present, where_true}
pub use Rattle.sig_clock.specs.SameClocks.{AreLeast, AreRelated, Equivalence, SameClock, given, itself, joined, related, signals_among, turned}
pub use Rattle.sig_clock.specs.inner.Links.{AreJoined, Tied, relabel_one}
