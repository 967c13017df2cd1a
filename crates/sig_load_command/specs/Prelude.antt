-- What the definitions and the clauses of this crate cite of std and of the crates below, passed on from one place.
pub use Rattle.std.specs.Prelude.{Bool, IfErr, IfOk, IsTrue, List, None, OnErr, OnOk, Option, [], bytes_eq, codes, decimal, false, flat_map, length, map, string_bytes, sum, ℕ, ℤ, ⊤, ◌%◌, ◌<◌, ◌^◌, ◌∷◌, ◌≡◌, ◌≤◌, ◌⊎◌}
pub use Rattle.sig_base.specs.declared.limits.TheConstants.{INSTANTS_DEFAULT}
pub use Rattle.sig_load.specs.Flows.{flows}
pub use Rattle.sig_load.specs.Program.{program}
pub use Rattle.sig_outcome.specs.Outcomes.{long_file}
pub use Rattle.sig_outcome.specs.declared.refusal.Refusal.TheVariants.{Budget, Data, LongFile, LongImage, LongProgram, Missing, OutOfMemory, Program, ReadFault, TooManyItems}
pub use Rattle.sig_program.specs.Acceptance.{AreRefused, IsRefusedProgram}
pub use Rattle.sig_program.specs.Programs.{IsBeyondBound, IsBudget, IsPlanLine, LacksNodes}
pub use Rattle.sig_loaded.specs.Ends.{end_line, end_status}
pub use Rattle.sig_loaded.specs.Prelude.{AreFlows, AreFlowsFor, Contents, Ended, FLOW_BYTES, IsAcceptedAs, IsDistinct, IsEnded, IsKernelEnd, Kernel, Outcome, PROGRAM_BYTES, Performs, Place, Refusal, Rose, SaysLine, Settings, Stops, Task, TookPrefix, Trace, Writes, inputs_of, output_text, refused}
pub use Rattle.sig_loaded.specs.Runs.{AreWithinBounds, AtLinks, HoldFew, HoldTooMany, IsFlowLine, LacksMemory, RefusesFlows}
