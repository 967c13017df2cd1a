-- What the proofs of this crate cite of std, of the crates below and of its own specs, passed on from one place.
pub use Rattle.std.proofs.Common.{FitsSigned, IsTrue, List, None, Option, OnErr, OnOk, Some, [], ap, append-nil, append_assoc, arith, drop, drop-cons, false, get_or, int_div, int_eq, int_rem, length, length-drop, length-take-le, map, negsuc, pos, refl, replicate, rules, slice_get, subst, suc, sym, take, true, w64, zero, ℕ, ℤ, ◌*ℤ◌, ◌++◌, ◌+ℤ◌, ◌+◌, ◌-ℤ◌, ◌-◌, ◌<◌, ◌^◌, ◌∙◌, ◌∷◌, ◌≡◌, ◌≤◌}
pub use Rattle.std.proofs.lemmas.Int.{ints, quot-rem, to_z-of_z}
pub use Rattle.std.proofs.lemmas.List.{length-replicate}
pub use Rattle.std.proofs.lemmas.Option.{same_Some, slice_get_read}
pub use Rattle.std.specs.Int.{cast_unsigned}
pub use Rattle.sig_base.specs.Functions.{Remainder, remainder}
pub use Rattle.sig_kernel.specs.OutputText.{outputs_of, seen_line, seen_lines}
pub use Rattle.sig_kernel.specs.declared.equation.FunOp.TheVariants.{And, Not, Or, Xor}
pub use Rattle.sig_clock.proofs.Common.{Add, AllPass, Div, Eq, Equation, FunOp, Ge, Gt, Id, Instant, Kernel, Le, Lt, Mod, Mul, Ne, Neg, Operand, Seen, Signal, Sub, and_parts, drop-length, form_within, function_of, list_all, operand_within, operands_of, range_with_len}
pub use Rattle.sig_plan.proofs.Common.{EqId, IsAccepted, PlanView, target_of, target_within}
pub use Rattle.sig_model.specs.Actors.{Registers, initial_by, initial_in}
pub use Rattle.sig_model.specs.Operating.{Gives, Outcome, computed}
pub use Rattle.sig_model.specs.Progress.{input_of}
pub use Rattle.sig_model.specs.Results.{has_64_bits}
pub use Rattle.sig_model.specs.Turns.{reaction_in}
pub use Rattle.sig_values.specs.Answers.{answered}
pub use Rattle.sig_values.specs.Lines.{TellsInstant, line_at, line_where, lines_of}
pub use Rattle.sig_values.specs.Values.{memories_in}
pub use Rattle.sig_flow.specs.OutputLines.{longest_lines}
pub use Rattle.sig_flow.proofs.Common.{Joins, TookPrefix, TookPrefix-longer, TookPrefix-then, drop_more, longest_line, sum_by-cons}
