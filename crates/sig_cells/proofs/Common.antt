-- What the proofs of this crate cite of std, of the crates below and of its own specs, passed on from one place.
pub use Rattle.std.proofs.Common.{Bool, IfSome, IsSomeAnd, IsTrue, List, None, Option, Some, [], ap, arith, eqb, eqb-true, false, if◌then◌else◌, inl, inr, length, length-append, nat_lt, not, refl, set, slice_get, slice_index_or, subst, suc, sym, take, true, zero, ℕ, ◌++◌, ◌+◌, ◌-◌, ◌<◌, ◌∙◌, ◌∷◌, ◌≡◌, ◌≤◌, ◌⊎◌}
pub use Rattle.std.proofs.lemmas.Bool.{cases_lt, lt-ltb}
pub use Rattle.std.proofs.lemmas.List.{length-map}
pub use Rattle.std.proofs.lemmas.Option.{slice_get-get_or as get_at, same_Some}
pub use Rattle.sig_dd.proofs.Canonical.{one_ref}
pub use Rattle.sig_dd.proofs.Common.{Implies, IsReduced, IsRefOf, IsSide, node_of}
pub use Rattle.sig_dd.proofs.Functions.{IsRefOf-constant}
pub use Rattle.sig_dd.proofs.Sides.{HasVariable-node, IsSide-child, tests_own}
pub use Rattle.sig_dd.proofs.Variables.{Depends-Tests, Tests-Depends, constant_value}
pub use Rattle.sig_values.proofs.Common.{slice_get_read}
pub use Rattle.sig_cells.specs.inner.Implied.{HasTruth, IsFurther, IsGuardOn, IsNarrowed, IsPairOn, IsTold, LeadsOn}
pub use Rattle.sig_cells.specs.Opcodes.{IsCoded}
pub use Rattle.sig_cells.specs.inner.Tests.{AsksWithin, IsJoined, IsTest, IsTestWith, both_hold, is_end, literal_holds, registers_seen, told_by}
pub use Rattle.sig_cells.specs.inner.Ways.{AreDone, ArePassed, AreRuns, AreWays, AreWaysOf, AskAmong, IsFirst, IsLeft, IsRun, IsStretch, guards_of}
pub use Rattle.sig_cells.specs.declared.implied.Narrowed.{Narrowed}
pub use Rattle.sig_cells.specs.declared.implied.Pair.{Pair}
pub use Rattle.sig_cells.specs.declared.implied.Way.{Way}
pub use Rattle.sig_cells.specs.declared.stretches.Known.{Known}
pub use Rattle.sig_cells.specs.declared.test.Literal.{Literal}
pub use Rattle.sig_cells.specs.declared.stretches.Stretch.{Stretch}
pub use Rattle.sig_cells.specs.declared.stretches.Run.{Run}
pub use Rattle.sig_cells.specs.declared.test.Test.{Test}
pub use Rattle.sig_cells.specs.declared.tests.Joined.{Joined}
pub use Rattle.sig_cells.specs.Guards.{AreBelow, AsksAmong, Scope, holds_by, scope_of}
pub use Rattle.sig_cells.specs.Prelude.{Depends, Holds, Node, Ref, Registers, SigId, is_true, test, truth_of, truths_of}
