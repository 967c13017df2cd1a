-- What the proofs of this crate cite of std, of the crates below and of its own specs, passed on from one place.
pub use Rattle.std.proofs.Common.{All, Bool, List, None, Option, Some, [], ap, append_assoc, arith, codes, decimal, eq-eqb, eqb-true, false, filter_map, flat_map, get_or, if◌then◌else◌, inl, inr, length, length-append, lt-ltb, map, ne_eqb, option_map, option_to_list, position, refl, slice_get, subst, suc, sym, take, take_all, true, zero, ℕ, ◌*◌, ◌++◌, ◌+◌, ◌-◌, ◌<◌, ◌==◌, ◌∙◌, ◌∷◌, ◌≡◌, ◌≤◌}
pub use Rattle.std.proofs.lemmas.List.{flat_map_more, get_or-map, map_more}
pub use Rattle.std.proofs.lemmas.List.Elements.{filter_map-append}
pub use Rattle.std.proofs.lemmas.List.Sums.{fails_before_first}
pub use Rattle.std.specs.List.{position_or_len}
pub use Rattle.sig_lists.proofs.Joined.{get_pushed}
pub use Rattle.sig_dd.proofs.Common.{Implies, get_last, get_or_from_slice_get, position-Some, slice_get-map}
pub use Rattle.sig_plan.specs.Codes.{AreCodes, numbered}
pub use Rattle.sig_plan.specs.declared.code.Slot.{Slot}
pub use Rattle.sig_plan.specs.declared.code.Step.{Step}
pub use Rattle.sig_plan.specs.declared.code.StepKind.{StepKind}
pub use Rattle.sig_plan.specs.declared.code.StepKind.TheVariants.{Collect, Commit, Do, Receive, Report, Send}
pub use Rattle.sig_plan.specs.declared.op.Op.{Op}
pub use Rattle.sig_plan.specs.declared.parts.LinkInfo.{LinkInfo}
pub use Rattle.sig_plan.proofs.Common.{All-push, AreSlots, CodeView, Guard, HasNoCycle, Holds, ImpliesSlot, Instruction, IsAccepted, IsCompiledOrder, IsLastBelow, IsRefOf, IsStepOf, Kernel, Node, OpId, Operation, PartsView, PlanView, Precedes, Reaches, Ref, SigId, always, at_end, at_number, cases_lt, cons_option, directly, enumerate_from, get_or_append_left, instructions_of, is_signal, length-map, links_of, links_to, map-append, numbers_of, on_ok_weaker, onward, op_id, operation_in, operations_in, over_order, report_links, reports_of, slice_get-get_or, slice_get_within, take_more, test, under, unguarded}
pub use Rattle.sig_plan.proofs.Orders.{none_before_itself}
pub use Rattle.sig_plan.proofs.PlanOnce.{same_actors, same_instructions, same_operations}
pub use Rattle.sig_code.specs.Texts.{IsCodeText, act_text, actor_text, code_text_of, op_text, step_text, what_text}
pub use Rattle.sig_code.specs.declared.routes.Route.{Route}
pub use Rattle.sig_code.specs.inner.Coding.{Adds, AreCodesOf, AreHeld, FindsSlot, HasNoSlot, IsCodeOf, IsNewSlot, IsSlotOf, IsWithin, has_guard}
pub use Rattle.sig_code.specs.inner.Turns.{doing, ending, parts_of, receiving, route_if, routes_of, sending}
