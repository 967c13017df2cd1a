-- What the proofs of this crate cite of std, of the crates below and of its own specs, passed on from one place.
pub use Rattle.std.proofs.Common.{List, None, Option, Some, [], ap, append-nil, append_assoc, arith, drop, false, get_or, if◌then◌else◌, inl, inr, length, length-append, map, option_to_list, pos, refl, slice_get, slice_index_or, subst, suc, sym, take, zero, ℕ, ℤ, ◌++◌, ◌+◌, ◌-◌, ◌<◌, ◌∙◌, ◌∷◌, ◌≡◌, ◌≤◌, ◌⊎◌}
pub use Rattle.std.proofs.lemmas.Bool.{cases_eq}
pub use Rattle.std.proofs.lemmas.Bool.Decides.{eqb_tells}
pub use Rattle.std.proofs.lemmas.Option.{slice_get_within}
pub use Rattle.std.proofs.lemmas.List.Prefix.{front_rest}
pub use Rattle.std.proofs.lemmas.List.FromFn.{get_or-map-range_with_len, length-map-range_with_len}
pub use Rattle.std.specs.List.{AllByRecursion, range_with_len}
pub use Rattle.sig_lists.proofs.Places.{got, some_at}
pub use Rattle.sig_base.specs.Traces.{Fits, IsLongest, IsOfKind, NoneSilent, Seen, reduce, seen_at}
pub use Rattle.sig_base.specs.declared.signal.Signal.{Signal}
pub use Rattle.sig_base.proofs.TraceLemmas.{fits_reduced, flow_append, one_begins_the_other, one_longest, prefix_fits, prefix_length, prefix_of_prefix, prefix_speaks, reduced, same_by_prefixes, speaks}
pub use Rattle.sig_kernel.specs.KernelTraces.{IsKernelTrace}
pub use Rattle.sig_kernel.specs.Validity.{inputs_of}
pub use Rattle.sig_kernel.proofs.RangeLemmas.{wide_reaction}
pub use Rattle.sig_kernel.proofs.TraceLemmas.{comes_from, goes_on, no_instants, prefix_trace, reduced_trace}
pub use Rattle.sig_kernel.proofs.ValueLemmas.{flows_fit}
pub use Rattle.sig_clock.proofs.AbstractLemmas.{of_kind}
pub use Rattle.sig_plan.specs.declared.ended.Cause.{Cause}
pub use Rattle.sig_plan.specs.declared.ended.Cause.TheVariants.{Limit}
pub use Rattle.sig_model.specs.Causes.{HasFault}
pub use Rattle.sig_meaning_laws.specs.Reactions.{IsNext, TakesNext}
pub use Rattle.sig_meaning_laws.proofs.Numbers.{at_most_or}
pub use Rattle.sig_meaning_laws.proofs.References.{count_inputs, speaks_last, speaks_more, taken_at}
pub use Rattle.sig_meaning_laws.proofs.Results.{within_bounds}
pub use Rattle.sig_deciding_laws.proofs.KernelRuns.{kernel_end_at_first, one_at_most, some_kernel_end}
pub use Rattle.sig_system_laws.specs.BoundedLinks.{Capacity, HasRoom, HoldsAll, IsLink, IsReachedFromWithin, IsReachedWithin, IsStill}
pub use Rattle.sig_system_laws.specs.Faults.{IsAtFault}
pub use Rattle.sig_system_laws.specs.Joined.{AreJoined, HasKind, HasOutput, flows_of}
pub use Rattle.sig_system_laws.specs.Prelude.{AreFlowsFor, Bounded, Ended, Exhausted, Instant, IsAcceptedKernel, IsKernelEnd, IsPrefixOf, IsReaction, IsValid, IsValue, Kernel, Kind, Place, SigId, Trace, Unbounded, flow_of, is_silent, kind_of, remembered}
pub use Rattle.sig_system_laws.specs.Systems.{AreAccepted, Begins, Given, IsEnabled, IsFinal, IsReached, IsReachedFrom, Outside, Output, Source, State, TakesFrom, carried, committed, from_source, given_by, start}
