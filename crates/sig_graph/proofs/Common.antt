-- What the proofs of this crate cite of std, of the crates below and of its own specs, passed on from one place.
pub use Rattle.std.proofs.Common.{All, BTreeSet, Bool, Contains, IsTrue, List, None, Option, Ordering, Some, [], ap, arith, cond, eq-eqb, eqb, eqb-true, false, filter_map, fold, get_or, get_or-set_other, get_or-set_same, get_or-take, if◌then◌else◌, inl, inr, is_eq, length, length-set, length-take-le, ltb-false, ltb-true, map, nat_cmp, nat_lt, ne_eqb, not, refl, replicate, rules, set, slice_get, slice_index_or, subst, suc, sum_by, sym, take, take_all, take_at, true, vec_len, zero, ℕ, ◌&&◌, ◌++◌, ◌+◌, ◌-◌, ◌<◌, ◌||◌, ◌↔◌, ◌∙◌, ◌∷◌, ◌≡◌, ◌≢◌, ◌≤◌, ◌⊎◌}
pub use Rattle.std.proofs.lemmas.List.{get_or-map, get_or_past, length-replicate, take-append-le}
pub use Rattle.std.proofs.lemmas.List.Elements.{Contains-get_or}
pub use Rattle.std.proofs.lemmas.List.Sums.{AllPass-from_list_all, count_by-le-length, sum_by-append, sum_by-cons, sum_by-set}
pub use Rattle.std.proofs.lemmas.Map.Keys.{le_from_not_gt}
pub use Rattle.std.specs.Cmp.{nat_cmp_is}
pub use Rattle.sig_lists.proofs.Chosen.{chosen, chosen_from}
pub use Rattle.sig_lists.proofs.Fronts.{get_taken, taken_is}
pub use Rattle.sig_lists.proofs.Places.{read_is}
pub use Rattle.sig_dd.specs.Nodes.{Overlap}
pub use Rattle.sig_dd.proofs.Common.{Contains-push, Contains-push_cases, Equal, Greater, IsSupport, Less, contains, empty_more, exact_unsigned, get_or_from_slice_get, get_or_read, length_push, list_any, read_or_empty}
pub use Rattle.sig_clock.proofs.Common.{IsLeast, contains_one, nil_from_length, written}
pub use Rattle.sig_plan.specs.Order.{Keeps}
pub use Rattle.sig_plan.specs.declared.op.Op.{Op}
pub use Rattle.sig_plan.specs.declared.op.OpKind.{OpKind}
pub use Rattle.sig_plan.specs.declared.op.OpKind.TheVariants.{DelayRead, Store}
pub use Rattle.sig_plan.proofs.Common.{All-contains, All-map, ClocksView, ComesBefore, Contains-append_cases, Contains-append_left, Contains-append_right, Depends, EqId, HasNoCycle, Holds, IfOk-weaker, IsCycle, IsOnCycle, IsOrdered, IsReady, Needs, Node, OpId, Operation, Precedes, Reaches, Ref, SigId, cases_order, contains_later, contains_none, directly, false≢true, get_map, get_or_append_left, get_or_push, length-map, list_all, map-append, map_get, numbers_of, onward, operation_in, operations_in, slice_get_within, some_at, take_more, test}
pub use Rattle.sig_plan.proofs.Orders.{none_before_itself}
pub use Rattle.sig_plan.proofs.Pigeons.{two_are_same}
pub use Rattle.sig_graph.specs.inner.Counts.{Adds, AreFirst, AreSuccessors, Has, Releases, Takes, left_in, occurs}
pub use Rattle.sig_graph.specs.inner.Graphs.{Edge, IsAcyclic, IsBefore, IsGraph, IsOpen, IsTaken, IsTakenOut, IsWithin, added, mark_at, marked_count}
pub use Rattle.sig_graph.specs.inner.Marks.{AreReaching, IsLeastOnCycle, Visits, Walks, WritesOnCycle, lesser}
pub use Rattle.sig_graph.specs.inner.Memories.{keeps_memory}
