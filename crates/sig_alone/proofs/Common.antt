-- What the proofs of this crate cite of std, of the crates below and of its own specs, passed on from one place.
pub use Rattle.std.proofs.Common.{Bool, List, None, OnErr, OnOk, [], ap, append-nil, arith, drop, false, get_or, inl, inr, leb, length, length-append, refl, subst, suc, sym, take, take-append-drop, true, zero, ℕ, ℤ, ◌++◌, ◌+◌, ◌-◌, ◌<◌, ◌∙◌, ◌∷◌, ◌≡◌, ◌≤◌, ◌⊎◌}
pub use Rattle.std.proofs.lemmas.Bool.Decides.{leb_tells}
pub use Rattle.std.proofs.lemmas.Grind.{flat_map-append}
pub use Rattle.std.proofs.lemmas.List.{drop-append-le, drop_all}
pub use Rattle.sig_values.proofs.Common.{Joins, TookPrefix, TookPrefix-longer, TookPrefix-then, longest_lines}
pub use Rattle.sig_doing_laws.proofs.Committed.{begins_longest, limit_end, next_instant}
pub use Rattle.sig_doing_laws.proofs.CommittedInstant.{committed_more, lines_are, next_amid, none_committed, opening_amid}
pub use Rattle.sig_doing_laws.proofs.Common.{Actor, AreFlowsFor, Cause, Ended, IsAccepted, IsAmid, IsCommitted, IsEnd, IsPrefixOf, Kernel, Limit, PlanView, Signal, Trace, instant_text, opening_actor, output_text, outputs_of, text_prefix}
pub use Rattle.sig_machine.specs.declared.lowered.Lowered.{Lowered}
pub use Rattle.sig_machine.specs.declared.machine.Machine.{Machine}
pub use Rattle.sig_machine.proofs.Common.{EndsBy, GoesOn, IsMachineOf, Lowers, actor_at, at_next, ended_behind, err_from_is_err_and, registers_of}
pub use Rattle.sig_alone.specs.Runs.{HasRun, IsWholeRest, IsWholeRun, TookSome, TookSomeRest}
pub use Rattle.sig_alone.specs.inner.Due.{lines_due}
