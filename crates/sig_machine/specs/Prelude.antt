-- What the definitions and the clauses of this crate cite of std and of the crates below, passed on from one place.
pub use Rattle.std.specs.Prelude.{Bool, Contains, IfErr, IfNone, IfOk, IfSome, List, None, Ok, OnOk, Option, Some, [], false, length, map, nat_lt, pos, replicate, slice_get, slice_index_or, slice_set, suc, true, zero, ℕ, ℤ}
pub use Rattle.sig_base.specs.declared.ids.OpId.{OpId}
pub use Rattle.sig_plan.specs.Operations.{signals_of}
pub use Rattle.sig_model.specs.Actors.{code_of}
pub use Rattle.sig_model.specs.Prelude.{Cause, Compute, Const, Default, Delay, Do, Ended, EqId, Equation, Event, Exhausted, Form, Fun, Instant, Kernel, Limit, Op, Operand, Overflow, Place, PlanView, Read, Seen, Sig, SigId, Step, StepKind, Sync, Trace, When, WhenConst, ZeroDivisor, function_of}
pub use Rattle.sig_plan.specs.Prelude.{Ref}
pub use Rattle.sig_values.specs.Answers.{answered}
pub use Rattle.sig_values.specs.Prelude.{Gives, computed, computed_by, computed_for, first_in, initial_in, input_of, is_one, memory_of, next_of, opening_actor, operand_in, operated, remembers, value_in, with_signal}
pub use Rattle.sig_values.specs.Values.{at_next}
pub use Rattle.sig_meaning_laws.specs.Prelude.{Actor, AreFlowsFor, Faults, IsAccepted, IsEnd, IsValid, Outcome, Registers, outcome, truths_of}
pub use Rattle.sig_doing_laws.specs.Doing.{IsAmid}
pub use Rattle.sig_doing_laws.specs.Places.{StandsAt}
