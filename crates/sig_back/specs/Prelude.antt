-- What the definitions and the clauses of this crate cite of std and of the crates below, passed on from one place.
pub use Rattle.std.specs.Prelude.{IfErr, IfOk, IsErrAnd, List, None, Option, Some, [], codes, decimal, encode_utf8, flat_map, length, map, slice_get, slice_index_or, ℕ, ℤ, ◌*◌, ◌++◌, ◌+◌, ◌^◌, ◌∷◌, ◌≡◌, ◌≤◌, ◌⊎◌}
pub use Rattle.sig_base.specs.Lines.{refusal, refusal_at}
pub use Rattle.sig_base.specs.declared.limits.TheConstants.{LINKS, NODES}
pub use Rattle.sig_plan.specs.Acceptance.{Cycle, Dead, IsAcceptedKernel, IsRefusedFor, KernelFault, MissingRoot, Pinned, TooManyLinks, Unsolved}
pub use Rattle.sig_plan.specs.Order.{HasNoCycle}
pub use Rattle.sig_meaning_laws.specs.Prelude.{AreFlowsFor, IsKernelTrace, IsLongest, Span, Trace}
pub use Rattle.sig_meaning_laws.specs.Reactions.{HasOneReaction}
pub use Rattle.sig_code.specs.Prelude.{AreClocks, AreOperations, AreParts, HasClocks, IsCompiledOrder, IsStore, IsValid, Kernel, SigId, Signal, StoreView, numbers_of, operations_in}
pub use Rattle.sig_solve.specs.Prelude.{IsTriangular, IsUnknownCount, conditions_of}
pub use Rattle.sig_solve.specs.Refusals.{IsRefusalOf, share_of, triangular_share_of}
pub use Rattle.sig_solve.specs.declared.answer.ClockAnswer.{ClockAnswer}
pub use Rattle.sig_solve.specs.declared.answer.ClockAnswer.TheVariants.{Budget, OutOfMemory}
