-- What the definitions and the clauses of this crate cite of std and of the crates below, passed on from one place.
pub use Rattle.std.specs.Prelude.{Bool, Err, IfOk, List, None, OnErr, OnOk, Option, Some, [], drop, false, length, slice_get, true, ℕ, ℤ, ◌+◌, ◌<◌, ◌^◌, ◌≡◌, ◌≤◌}
pub use Rattle.sig_kernel.specs.OutputText.{output_text}
pub use Rattle.sig_model.specs.Prelude.{IsKernelTrace, IsLongest, Signal, outputs_of, seen_lines}
pub use Rattle.sig_model.specs.Turns.{reaction_in}
pub use Rattle.sig_flow.specs.OutputLines.{longest_lines}
pub use Rattle.sig_flow.specs.Prelude.{Rose, TookPrefix}
pub use Rattle.sig_machine.specs.Lowerings.{Lowers}
pub use Rattle.sig_machine.specs.Machines.{IsMachineOf, actor_at, registers_of}
pub use Rattle.sig_machine.specs.Prelude.{AreFlowsFor, Cause, Ended, Instant, IsAccepted, IsAmid, IsEnd, Kernel, Place, PlanView, Registers, Seen, Trace, at_next, opening_actor, truths_of}
pub use Rattle.sig_machine.specs.declared.machine.Machine.{Machine}
