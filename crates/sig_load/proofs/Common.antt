-- What the proofs of this crate cite of std, of the crates below and of its own specs, passed on from one place.
pub use Rattle.std.proofs.Common.{List, add-one, add-suc, add-zero, ap, append-nil, append_assoc, arith, codes, refl, subst, suc, sum, sym, take, zero, ℕ, ◌*◌, ◌++◌, ◌+◌, ◌/◌, ◌^◌, ◌∙◌, ◌≡◌}
pub use Rattle.std.proofs.lemmas.Result.{on_ok_weaker}
pub use Rattle.sig_load.specs.Flows.{integer_value, truth_value, truths, truths_from}
pub use Rattle.sig_load.specs.Program.{cluster, further, listed, stage}
pub use Rattle.sig_load.specs.Tally.{RoseBy}
pub use Rattle.sig_load.specs.declared.flows.TheConstants.{FLOW_VALUES}
pub use Rattle.sig_load.specs.inner.Draws.{draw, next_state}
unfoldable pub use Rattle.sig_load.specs.inner.Draws.{state_after}
pub use Rattle.sig_load.specs.inner.Pieces.{Appends, numbered}
unfoldable pub use Rattle.sig_load.specs.inner.Pieces.{each}
