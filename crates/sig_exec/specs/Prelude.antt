-- What the definitions and the clauses of this crate cite of std and of the crates below, passed on from one place.
pub use Rattle.std.specs.Prelude.{Err, IfErr, IfOk, List, None, OnErr, OnOk, Some, [], drop, length, map, pos, replicate, slice_get, slice_index_or, take, ℕ, ℤ}
pub use Rattle.std.specs.List.{AllByRecursion, AllPass}
pub use Rattle.sig_base.specs.Traces.{AreOfKinds, Bounded, Instant, Seen, seen_at}
pub use Rattle.sig_base.specs.declared.ids.SigId.{SigId}
pub use Rattle.sig_base.specs.declared.span.Span.{Span}
pub use Rattle.sig_base.specs.declared.signal.Signal.{Signal}
pub use Rattle.sig_dd.specs.Diagram.{truth_of}
pub use Rattle.sig_dd.specs.Nodes.{Holds, IsRefOf, Keeps, test}
pub use Rattle.sig_dd.specs.declared.node.Node.{Node}
pub use Rattle.sig_dd.specs.declared.node.Ref.{Ref}
pub use Rattle.sig_kernel.specs.Validity.{value_is}
pub use Rattle.sig_kernel.specs.declared.equation.FunOp.{FunOp}
pub use Rattle.sig_kernel.specs.declared.equation.Operand.{Operand}
pub use Rattle.sig_kernel.specs.declared.equation.Operand.TheVariants.{Const, Sig}
pub use Rattle.sig_kernel.specs.OutputText.{line_of}
pub use Rattle.sig_plan.specs.declared.ended.Cause.{Cause}
pub use Rattle.sig_flow.specs.OutputLines.{longest_line, longest_lines}
pub use Rattle.sig_text.specs.Counts.{Rose}
pub use Rattle.sig_text.specs.Sink.{TookPrefix}
pub use Rattle.sig_file.specs.Images.{ImageView, IsImage, IsOperation, scope_of}
pub use Rattle.sig_file.specs.Guarded.{IsSoundImage, guards_of, nodes_in}
pub use Rattle.sig_file.specs.ImageRuns.{Does, Ends, EndsIn, HandlesAll, IsImageRun, State, cleared, instant_lines, opening, proposal_of}
pub use Rattle.sig_file.specs.declared.images.ImageOp.{ImageOp}
pub use Rattle.sig_file.specs.declared.images.ImageOpKind.{ImageOpKind}
pub use Rattle.sig_file.specs.declared.images.ImageSignal.{ImageSignal}
pub use Rattle.sig_file.specs.declared.run.ImageCause.{ImageCause}
pub use Rattle.sig_file.specs.declared.run.ImageEnd.{ImageEnd}
