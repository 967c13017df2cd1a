-- What the definitions and the clauses of this crate cite of std and of the crates below, passed on from one place.
pub use Rattle.std.specs.Prelude.{AllPairs, Bool, Contains, Err, IfErr, IfOk, IsTrue, List, MatchOption, None, OnOk, Option, Result, Some, [], bytes_eq, codes, decimal, drop, false, if◌then◌else◌, is_some, length, map, nat_lt, pos, slice_get, slice_index_or, suc, take, true, ℕ, ℤ, ◌&&◌, ◌++◌, ◌+◌, ◌<◌, ◌^◌, ◌↔◌, ◌∷◌, ◌≡◌, ◌≢◌, ◌≤◌, ◌⊎◌}
pub use Rattle.sig_base.specs.Traces.{Bounded, Fits}
pub use Rattle.sig_kernel.specs.KernelTraces.{IsTraceIn}
pub use Rattle.sig_kernel.specs.OutputText.{output_text}
pub use Rattle.sig_kernel.specs.Validity.{AreFlowsFor}
pub use Rattle.sig_kernel.specs.Prelude.{Boolean, Event, Instant, IsPrefixOf, Range, SIGNALS, Seen, Span, Trace, flow_of, is_silent, seen_at}
pub use Rattle.sig_dd.specs.Nodes.{Implies}
pub use Rattle.sig_clock.specs.ClockRefusals.{IsPossible}
pub use Rattle.sig_rel.specs.Prelude.{Const, Default, Delay, Equation, Form, Fun, Holds, IsFull, IsSignal, IsStore, IsValid, Keeps, Kernel, Node, Operand, Reaction, Ref, SameClock, Share, Sig, SigId, Signal, Speaks, StoreView, Sync, When, WhenConst, form_within, is_present, list_all, list_any, operand_within, range_with_len, test}
pub use Rattle.sig_rel.specs.Shares.{IsRefusedFor}
pub use Rattle.sig_rel.specs.declared.answer.RelAnswer.TheVariants.{Budget, OutOfMemory}
pub use Rattle.sig_solve.specs.Frames.{leaders_of}
pub use Rattle.sig_solve.specs.Prelude.{HasNoRoot, HasRoot, IsAlive, IsDead, IsLeast, IsMissingRoot, IsOver, IsSolution, IsSystem, IsUnknownCount, Overlap, RelAnswer, SystemView, refusal}
pub use Rattle.sig_solve.specs.Refusals.{share_of}
