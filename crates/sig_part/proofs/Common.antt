-- What the proofs of this crate cite of std, of the crates below and of its own specs, passed on from one place.
pub use Rattle.std.proofs.Common.{All, Bool, Contains, List, None, Option, Some, [], ap, append_assoc, arith, eq-eqb, eqb, eqb-true, false, filter_map, get_or, get_or-set_other, get_or-set_same, if◌then◌else◌, inl, inr, length, length-append, length-set, map, not, refl, replicate, rules, set, slice_get, slice_index_or, subst, suc, sum_by, sym, take, true, vec_len, zero, ℕ, ◌++◌, ◌+◌, ◌-◌, ◌<◌, ◌↔◌, ◌∙◌, ◌∷◌, ◌≡◌, ◌≢◌, ◌≤◌, ◌⊎◌}
pub use Rattle.std.proofs.lemmas.Bool.{cases_Bool}
pub use Rattle.std.proofs.lemmas.List.{length-replicate, nil_from_length}
pub use Rattle.std.proofs.lemmas.List.Sums.{count_by-le-length, sum_by-set}
pub use Rattle.std.proofs.lemmas.Result.{IfErr-weaker}
pub use Rattle.sig_lists.proofs.Chosen.{chosen, chosen_from}
pub use Rattle.sig_lists.proofs.Fronts.{written}
pub use Rattle.sig_lists.proofs.Joined.{get_pushed}
pub use Rattle.sig_lists.proofs.Places.{read_is}
pub use Rattle.sig_base.specs.declared.limits.TheConstants.{LINKS}
pub use Rattle.sig_dd.proofs.Common.{Contains-push, Contains-push_cases, IsSupport, get_or_read, length_push}
pub use Rattle.sig_plan.specs.Parts.{IsNeededFor, IsUsed, NeedsTooManyLinks}
pub use Rattle.sig_plan.specs.declared.op.Op.{Op}
pub use Rattle.sig_plan.specs.declared.parts.LinkInfo.{LinkInfo}
pub use Rattle.sig_plan.proofs.Common.{All-map, AreImports, AreParts, AreSignalLinks, AreWritten, ClocksView, Contains-append_cases, Contains-append_left, Contains-append_right, Depends, Holds, IfOk-weaker, Imports, IsEarlierLink, IsOutput, IsWrittenElsewhere, Kernel, Needs, Node, Operation, Ref, SigId, Signal, at_contained, cases_eq, cases_order, cluster_at, cluster_count, cluster_of, contains_at, contains_cons, contains_head, contains_none, false≢true, get_map, get_or_append_left, get_or_push, guarded, length-map, length-range_with_len, map-range_with_len_more, map_get, operation_in, operations_in, output, presence_in, range_with_len, report_link, slice_get_within, some_at, take_more, test, used}
pub use Rattle.sig_plan.proofs.Lists.{signal_same}
pub use Rattle.sig_plan.proofs.WrittenSignals.{operations_written}
pub use Rattle.sig_part.specs.inner.Closing.{AreClosed, Closes, Visits, Walks, is_elsewhere, is_other, onward, seed}
pub use Rattle.sig_part.specs.inner.Imported.{AreImported, AreImportedBy}
pub use Rattle.sig_part.specs.inner.Linking.{AreLinksBefore, AreLinksOfMarks, IsBefore, IsMarkedFor, IsMarkedLink}
pub use Rattle.sig_part.specs.inner.Marks.{AreMarked, AreMarkedIn, mark_at, marked_count}
pub use Rattle.sig_part.specs.inner.Uses.{AreNeeded, AreNeededForEach, IsNeededWithin, IsUsedWithin}
