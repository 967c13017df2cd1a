-- What the definitions and the clauses of this crate cite of std and of the crates below, passed on from one place.
pub use Rattle.std.specs.Int.{w64}
pub use Rattle.std.specs.List.{AllPass}
pub use Rattle.std.specs.Prelude.{Err, FitsSigned, IfOk, IfSome, IsTrue, List, None, Ok, OnErr, OnOk, Option, Result, Some, SomeIff, [], false, if◌then◌else◌, length, map, pos, replicate, slice_get, slice_index_or, ℕ, ℤ, ◌+◌, ◌<◌, ◌^◌, ◌||◌, ◌∷◌, ◌≡◌}
pub use Rattle.sig_kernel.specs.OutputText.{seen_line}
pub use Rattle.sig_kernel.specs.Validity.{form_within, target_within}
pub use Rattle.sig_model.specs.Actors.{Actor, Registers, initial_by, initial_in, no_registers, opening_actor, truths_of, value_in, with_signal}
pub use Rattle.sig_model.specs.Operating.{Faults, Gives, Outcome, bounded, computed, computed_by, computed_for, defined_by, first_in, memory_of, next_of, operand_in, operated, outcome, remembers, taken_by}
pub use Rattle.sig_model.specs.Prelude.{Cause, EqId, Instant, Kernel, Op, Seen, SigId, Signal, function_of, outputs_of, seen_lines, target_of}
pub use Rattle.sig_model.specs.Progress.{input_of}
pub use Rattle.sig_model.specs.Results.{is_one, truth_value}
pub use Rattle.sig_model.specs.Turns.{reaction_in}
pub use Rattle.sig_plan.specs.Plans.{IsAccepted}
pub use Rattle.sig_flow.specs.OutputLines.{longest_line, longest_lines}
pub use Rattle.sig_flow.specs.Prelude.{Rose, TookPrefix}
