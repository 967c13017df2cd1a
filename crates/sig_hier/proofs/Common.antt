-- What the proofs of this crate cite of std, of the crates below and of its own specs, passed on from one place.
pub use Rattle.std.proofs.Common.{Bool, Contains, IsTrue, List, None, Option, Some, [], add-one, ap, append-nil, append_assoc, arith, cond, eq-eqb, eqb, eqb-true, ext_get_or, false, filter, flat_map, get_or, if◌then◌else◌, inl, inr, length, map, ne_eqb, refl, slice_get, slice_index_or, subst, suc, sum_by, sym, take, true, zero, ℕ, ⊎_elim, ◌++◌, ◌+◌, ◌-◌, ◌<◌, ◌==◌, ◌^◌, ◌∙◌, ◌∷◌, ◌≡◌, ◌≤◌, ◌⊎◌}
pub use Rattle.std.proofs.lemmas.Bool.{cases_Bool, cases_lt, or_cases}
pub use Rattle.std.proofs.lemmas.Bool.Decides.{nat_tests}
pub use Rattle.std.proofs.lemmas.Cmp.{nat_eq_equiv}
pub use Rattle.std.proofs.lemmas.Grind.{flat_map-append}
pub use Rattle.std.proofs.lemmas.List.Folds.{list_any_at}
pub use Rattle.std.proofs.lemmas.List.FromFn.{length-range_with_len}
pub use Rattle.std.proofs.lemmas.List.Sums.{sum_by-append, sum_by-cons}
pub use Rattle.std.proofs.lemmas.Map.Keys.{IsDistinct-cons}
pub use Rattle.std.proofs.lemmas.Map.Made.{length-le_from_is_member}
pub use Rattle.std.proofs.lemmas.Option.{get_or_from_slice_get, slice_get_past}
unfoldable pub use Rattle.std.specs.List.{IsDistinct}
pub use Rattle.sig_dd.specs.Nodes.{Implies, test}
pub use Rattle.sig_dd.specs.declared.node.Node.{Node}
pub use Rattle.sig_dd.specs.declared.node.Ref.{Ref}
pub use Rattle.sig_clock.specs.Clocks.{AreClocks, ClocksView, IsLeastOf}
pub use Rattle.sig_clock.specs.Layers.{IsRoot, IsSignal}
pub use Rattle.sig_clock.proofs.Common.{AllByRecursion, HasClocks, HasLayer, IsClockFunction, IsValid, Kernel, at_contained, cases_order, contains_at, filter-append, get_or-map-range_with_len, length-map-range_with_len, list_any, range_from_zero, range_with_len, slice_get-get_or, slice_get_within}
pub use Rattle.sig_clock.proofs.LayerLemmas.{one_layer}
pub use Rattle.sig_clock.proofs.OnceLemmas.{conditions_once, function_once}
pub use Rattle.sig_clock.proofs.Ordered.{same_list}
pub use Rattle.sig_clock.proofs.ProposalLemmas.{some_reaction}
pub use Rattle.sig_hier.specs.Texts.{IsTreeText, children, indent, is_parent, line_text, others_text, preorder, preorder_from, text_of}
pub use Rattle.sig_hier.specs.Trees.{AreParents, HasParent, HaveKernel, IsParent, IsParentIfAny, IsTree, IsWithin}
pub use Rattle.sig_hier.specs.declared.preorder.Line.{Line}
