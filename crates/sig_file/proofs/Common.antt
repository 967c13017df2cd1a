-- What the proofs of this crate cite of std, of the crates below and of its own specs, passed on from one place.
pub use Rattle.std.proofs.Common.{All, Bool, Contains, Err, HashMap, IfSome, IsTrue, List, None, Ok, OnOk, Option, Result, Some, [], add-one, ap, append-nil, append_assoc, arith, bytes_eq, cond, count_by, drop, drop-cons, drop_at, eq-eqb, eqb, eqb-true, false, filter_map, flat_map, get_or, get_or-drop, get_or-take, inl, inr, int_eq, is_some, le-leb, le-ltb, leb, leb-true, length, length-append, length-take, lt-ltb, ltb, ltb-false, ltb-true, map, min, ne_eqb, negsuc, not, option_map, pos, refl, rules, slice_get, subst, suc, sym, take, take-append-drop, take_at, true, unwrap_or, w32, w64, zero, ℕ, ℤ, ◌&&◌, ◌*◌, ◌++◌, ◌+◌, ◌-◌, ◌<◌, ◌==◌, ◌^◌, ◌||◌, ◌∙◌, ◌∷◌, ◌≡◌, ◌≢◌, ◌≤◌, ◌⊎◌}
pub use Rattle.std.proofs.Math.Facts.{Fits-of_z, sfits_to_z}
pub use Rattle.std.proofs.lemmas.Bool.{not_from_false, or_cases, or_from, or_left, or_right}
pub use Rattle.std.proofs.lemmas.Grind.{flat_map-append, take_at_read}
pub use Rattle.std.proofs.lemmas.Int.{of_z-to_z, to_z-of_z}
pub use Rattle.std.proofs.lemmas.List.{get_or_past, map_push}
pub use Rattle.std.proofs.lemmas.List.Concat.{flat_map-cons}
pub use Rattle.std.proofs.lemmas.List.Elements.{All-from_recursion, filter_map-append}
pub use Rattle.std.proofs.lemmas.List.Folds.{list_any-append}
pub use Rattle.std.proofs.lemmas.List.Sums.{sum_by-cons}
pub use Rattle.std.proofs.lemmas.Map.Text.{btree_map_updates_str}
pub use Rattle.std.proofs.lemmas.Nat.{be_bytes_4, be_bytes_8, from_be_bytes-to_be_bytes_4, from_be_bytes-to_be_bytes_8}
pub use Rattle.std.proofs.lemmas.Option.{same_Some, slice_get_past}
pub use Rattle.std.proofs.lemmas.Result.{err_from_is_err_and}
pub use Rattle.std.proofs.lemmas.Slice.Eq.{bytes_eq-Decides}
pub use Rattle.std.specs.Int.{Width, byte_len, cast_signed, cast_unsigned, from_be_bytes, to_be_bytes}
pub use Rattle.std.specs.List.{position_or_len}
pub use Rattle.sig_lists.proofs.Bytes.{same_bytes}
pub use Rattle.sig_lists.proofs.Each.{at_each}
pub use Rattle.sig_lists.proofs.Fronts.{taken_is}
pub use Rattle.sig_lists.proofs.Joined.{still_at}
pub use Rattle.sig_lists.proofs.Truths.{not_true}
pub use Rattle.sig_base.specs.declared.ids.Kind.TheVariants.{Event}
pub use Rattle.sig_base.specs.declared.limits.TheConstants.{NODES, SIGNALS}
pub use Rattle.sig_kernel.specs.Table.{presence}
pub use Rattle.sig_kernel.specs.declared.equation.Form.TheVariants.{Event as EventOf}
pub use Rattle.sig_kernel.specs.declared.equation.FunOp.TheVariants.{And, Not, Or, Xor}
pub use Rattle.sig_kernel.specs.declared.table.Sort.TheVariants.{Any}
pub use Rattle.sig_kernel.proofs.Common.{AllPass-from_list_all, IsDistinct, IsDistinct-head, IsDistinct-tail, Row, Span, constant_is, has_64_bits, keeps_to, kept, value_is}
unfoldable pub use Rattle.sig_dd.specs.Diagram.{StartsFrom, Tests, value_at}
pub use Rattle.sig_dd.specs.contracts.node.RefPartialEq.TheImpl.{eq-value}
pub use Rattle.sig_dd.proofs.Canonical.{one_ref, proper}
pub use Rattle.sig_dd.proofs.Common.{Choice, Constant, Diagram, IsNodeAt, IsReduced, get, get_last, get_or_from_slice_get, node_of, slice_get-map}
pub use Rattle.sig_dd.proofs.Growth.{ref_apart, ref_same}
pub use Rattle.sig_dd.proofs.Listed.{shape}
pub use Rattle.sig_dd.proofs.Sides.{names_node}
pub use Rattle.sig_dd.proofs.Trees.{Depends-tests, IsProper}
pub use Rattle.sig_dd.proofs.Variables.{high_below, high_held, low_below, low_held}
pub use Rattle.sig_clock.proofs.Common.{Add, AllByRecursion, AllPass, AnEvent, AnInteger, AreInOrder, Boolean, Const, Decides-int_eq, Default, Delay, Div, Eq, Equation, Form, Fun, FunOp, Ge, Gt, HasLayer, Id, Integer, IsEarlier, IsValid, Kernel, Kind, Le, Lt, Mod, Mul, Ne, Neg, Operand, Sig, SigId, Signal, Sort, Sub, Sync, Truth, When, WhenConst, and_from, and_parts, cases_order, contains_at, defines_well, form_fits, form_within, function_rows, handed_on_where, is_below, is_boolean_kind, is_free, is_kind, is_signal, keeps_to_one, kind_fits, kind_of, list_all, list_any, merged, operand_within, operands_are, operands_of, range_with_len, slice_get-get_or, slice_get_within, target_fits, two_parts}
pub use Rattle.sig_clock.proofs.LayerLemmas.{one_layer}
pub use Rattle.sig_plan.specs.declared.op.Op.{Op}
pub use Rattle.sig_plan.specs.declared.op.OpKind.{OpKind}
pub use Rattle.sig_plan.specs.declared.op.OpKind.TheVariants.{Compute, DelayRead, Left, Read, Right, Store}
pub use Rattle.sig_plan.proofs.Common.{All-cons, All-contains, All-nil, EqId, Holds, IsAccepted, IsRefOf, IsStore, Node, OpId, Operation, PlanView, Presence, Ref, StoreView, cases_lt, cons_option, defines, diagram, equation_id, is_target, length-map, length-range_with_len, of_each, of_operation, operation_in, operations_in, operations_of, presence_in, read_of, stores_of, target_of, target_within, without, writes_of, writing}
pub use Rattle.sig_plan.proofs.EachOperation.{each_operation, only}
pub use Rattle.sig_plan.proofs.Pigeons.{two_are_same}
pub use Rattle.sig_plan.proofs.Slotted.{guard_alone, guard_held}
pub use Rattle.sig_file.specs.Bytes.{HasFew, IsNamed, condition_bytes, count_bytes, field_bytes, function_number, kind_number, magic, memory_bytes, node_bytes, op_bytes, op_number, operand_bytes, signal_bytes}
unfoldable pub use Rattle.sig_file.specs.Bytes.{image_bytes, long_bytes, number_bytes}
pub use Rattle.sig_file.specs.Fields.{all_read, functions, kinds, may_follow, memory_kinds, op_tags, operand_tags, signal_id}
unfoldable pub use Rattle.sig_file.specs.Fields.{condition_at, counts_at, fields_at, fields_of_file, file_at, function_at, memory_from, node_at, op_at, operand_at, operand_from, ops_at, signal_at}
pub use Rattle.sig_file.specs.Guarded.{node_in, nodes_in}
pub use Rattle.sig_file.specs.Images.{Each, ImageView, IsFunction, IsImage, IsMemory, IsNodeBehind, IsOperation, IsSignalBehind, MayDo, Scope, accepts, accepts_value, are_operands, begins_row, is_boolean, is_child, is_condition_behind, is_high_child, is_later, is_memory_kind, is_name, is_name_length, is_node, is_same, is_taken, kind_at, kind_in, memory_at, memory_in, names_of, operand_count, operand_is, operands_begin, scope_of, sort_of}
pub use Rattle.sig_file.specs.PlanImages.{before, does_of, equation_at, equation_numbered, image_of, image_op, image_signal, is_delay, made_of, memories_of, memory_number, memory_of, op_with, ordered, place_of, read_at, visited, with_node}
pub use Rattle.sig_file.specs.Spelled.{HasName, HasPlace, HavePlaces, is_spelled}
pub use Rattle.sig_file.specs.declared.answer.FileAnswer.TheVariants.{TooLong}
pub use Rattle.sig_file.specs.declared.answer.ImageAnswer.TheVariants.{BadImage}
pub use Rattle.sig_file.specs.declared.choice.OpTag.{OpTag}
pub use Rattle.sig_file.specs.declared.choice.OperandTag.{OperandTag}
pub use Rattle.sig_file.specs.declared.counts.Counts.{Counts}
pub use Rattle.sig_file.specs.declared.images.ImageMemory.{ImageMemory}
pub use Rattle.sig_file.specs.declared.images.ImageNode.{ImageNode}
pub use Rattle.sig_file.specs.declared.images.ImageOp.{ImageOp}
pub use Rattle.sig_file.specs.declared.images.ImageOpKind.{ImageOpKind}
pub use Rattle.sig_file.specs.declared.images.ImageSignal.{ImageSignal}
pub use Rattle.sig_file.specs.declared.limits.TheConstants.{CONDITIONS, MEMORIES, OPERATIONS, ROOM_FOR_NODES}
pub use Rattle.sig_file.specs.declared.stop.Stop.{Stop}
pub use Rattle.sig_file.specs.inner.Names.{IsSetOf}
pub use Rattle.sig_file.specs.inner.NodeSets.{IsNodeSet, node_cmp}
pub use Rattle.sig_file.specs.inner.Numbering.{AreNumbered, IsNumbered, made_behind}
pub use Rattle.sig_file.specs.inner.Parts.{view_of}
pub use Rattle.sig_file.specs.inner.Reading.{Reading, Stops, added, choice_at, choice_of, long_at, number_if, right_or, text_at, word_at, ◌>>=◌}
unfoldable pub use Rattle.sig_file.specs.inner.Reading.{several}
