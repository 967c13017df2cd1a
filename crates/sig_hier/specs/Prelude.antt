-- What the definitions and the clauses of this crate cite of std and of the crates below, passed on from one place.
pub use Rattle.std.specs.Prelude.{Bool, IfOk, List, None, OnOk, Option, Some, [], codes, count_by, false, filter, flat_map, length, slice_get, slice_index, slice_index_or, suc, zero, ℕ, ◌++◌, ◌+◌, ◌<◌, ◌==◌, ◌∷◌, ◌≡◌, ◌≤◌}
pub use Rattle.sig_dd.specs.Nodes.{Implies}
pub use Rattle.sig_dd.specs.declared.answer.DdAnswer.{DdAnswer}
pub use Rattle.sig_clock.specs.ClockRefusals.{HasClocks}
pub use Rattle.sig_clock.specs.Clocks.{AreClocks, ClocksView}
pub use Rattle.sig_clock.specs.Prelude.{Holds, IsValid, Kernel, Node, Ref, Signal, range_with_len}
