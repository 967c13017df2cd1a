-- What the definitions and the clauses of this crate cite of std and of the crates below, passed on from one place.
pub use Rattle.std.specs.List.{enumerate_from}
pub use Rattle.std.specs.Prelude.{All, Bool, Contains, IfErr, IfOk, List, None, OnOk, Option, Result, Some, [], false, filter_map, flat_map, fold, if◌then◌else◌, length, map, max, not, slice_get, slice_index, slice_index_or, take, true, ℕ, ◌&&◌, ◌*◌, ◌++◌, ◌+◌, ◌<◌, ◌==◌, ◌^◌, ◌↔◌, ◌∷◌, ◌≡◌, ◌≢◌, ◌≤◌, ◌⊎◌}
pub use Rattle.sig_base.specs.declared.ids.EqId.{EqId}
pub use Rattle.sig_base.specs.declared.ids.OpId.{OpId}
pub use Rattle.sig_base.specs.declared.limits.TheConstants.{LINKS}
pub use Rattle.sig_dd.specs.Nodes.{Implies, IsFull, IsRefOf, IsStore, Keeps, Spans, StoreView, allowance, diagram}
pub use Rattle.sig_dd.specs.Shares.{Share, refusal}
pub use Rattle.sig_dd.specs.Walks.{Asks, IsIdle}
pub use Rattle.sig_dd.specs.declared.answer.DdAnswer.{DdAnswer}
pub use Rattle.sig_dd.specs.declared.answer.DdAnswer.TheVariants.{Budget, OutOfMemory}
pub use Rattle.sig_clock.specs.ClockFunctions.{IsClockFunction, KeepsTo}
pub use Rattle.sig_clock.specs.ClockRefusals.{HasClocks, IsFirstPinned, IsLeast, IsMissingRoot, IsUnsolved}
pub use Rattle.sig_clock.specs.Clocks.{AreClocks, AreInOrder, ClocksView, guard_of}
pub use Rattle.sig_clock.specs.Conditions.{signal_id}
pub use Rattle.sig_clock.specs.Layers.{IsDead, IsSignal}
pub use Rattle.sig_clock.specs.Prelude.{Agree, AllPass, Const, Default, Delay, Depends, Equation, Event, Form, Fun, Holds, IsValid, Kernel, Node, Operand, Ref, Sig, SigId, Signal, Sync, When, WhenConst, form_within, range_with_len, test, truth_of}
pub use Rattle.sig_clock.specs.Reactions.{Reaction, Speaks, is_present, status_at}
