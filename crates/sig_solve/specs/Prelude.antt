-- What the definitions and the clauses of this crate cite of std and of the crates below, passed on from one place.
pub use Rattle.std.specs.Prelude.{AllPairs, Bool, Contains, Err, IfErr, IfOk, IsTrue, List, MatchOption, None, Ok, OnOk, Option, Result, Some, [], false, filter, length, map, nat_lt, not, replicate, slice_get, slice_index, slice_index_or, suc, true, zero, ℕ, ◌*◌, ◌++◌, ◌&&◌, ◌+◌, ◌<◌, ◌==◌, ◌^◌, ◌↔◌, ◌≡◌, ◌≢◌, ◌≤◌, ◌⊎◌}
pub use Rattle.sig_dd.specs.Diagram.{Choice, Constant, Diagram}
pub use Rattle.sig_dd.specs.Nodes.{Overlap, diagram}
pub use Rattle.sig_dd.specs.Products.{AgreeBut, IsProduct}
pub use Rattle.sig_dd.specs.Shares.{refusal}
pub use Rattle.sig_clock.specs.ClockRefusals.{HasClocks, HasNoRoot, HasRoot, IsAlive, IsFirstPinned, IsLeast, IsMissingRoot, IsUnsolved}
pub use Rattle.sig_clock.specs.Clocks.{AreClocks, AreInOrder, ClocksView}
pub use Rattle.sig_clock.specs.Layers.{AgreeOn, EntersBy, HasLayer, IsDead, IsDetermined, IsEarlier, IsRoot, NeverEnters}
pub use Rattle.sig_clock.specs.Pinned.{IsFree, IsPinned}
pub use Rattle.sig_rel.specs.Prelude.{AreLeast, Budget, ClockBase, DdAnswer, Depends, Holds, IsFull, IsReaction, IsSignal, IsStore, IsValid, Keeps, KeepsTo, Kernel, Node, OutOfMemory, Reaction, Ref, Share, SigId, Speaks, StoreView, conditions_of, is_condition, is_present, list_any, range_with_len, signal_id, status_at, test, truth_of}
pub use Rattle.sig_rel.specs.Relations.{IsUnknownCount}
pub use Rattle.sig_rel.specs.Shares.{KeepsToShare, KeepsToTriangularShare, triangular_share_of}
pub use Rattle.sig_rel.specs.Systems.{AreConditions, IsFreeSystem, IsOver, IsSolution, IsSystem, IsVariable, SystemView, reading}
pub use Rattle.sig_rel.specs.Triangles.{AreClassesInOrder, IsTriangular}
pub use Rattle.sig_rel.specs.declared.answer.RelAnswer.{RelAnswer}
pub use Rattle.sig_rel.specs.declared.answer.RelAnswer.TheVariants.{Budget as RelationBudget, OutOfMemory as NoRelation}
