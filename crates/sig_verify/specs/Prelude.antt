-- What the definitions and the clauses of this crate cite of std and of the crates below, passed on from one place.
pub use Rattle.std.specs.BTreeMap.{BTreeMap, get}
pub use Rattle.std.specs.Ordering.{nat_cmp}
pub use Rattle.std.specs.HashSet.{HashSet, contains}
pub use Rattle.std.specs.List.{range_with_len}
pub use Rattle.std.specs.Prelude.{Bool, Contains, IfErr, IfOk, IfSome, IsErrAnd, IsTrue, List, None, OnErr, OnOk, Option, Some, false, length, nat_eq, slice_get, suc, true, zero, ℕ}
pub use Rattle.sig_base.specs.declared.ids.SigId.{SigId}
pub use Rattle.sig_base.specs.declared.limits.TheConstants.{NODES}
pub use Rattle.sig_dd.specs.Diagram.{Choice, Constant, Diagram, StartsFrom, Tests, truth_of, value_at}
pub use Rattle.sig_dd.specs.Nodes.{Holds, Implies, IsRefOf, IsStore, Keeps, Overlap, Spans, diagram, test}
pub use Rattle.sig_dd.specs.Operand.{earlier_of, side_of}
pub use Rattle.sig_dd.specs.Walks.{Asks}
pub use Rattle.sig_dd.specs.declared.answer.DdAnswer.{DdAnswer}
pub use Rattle.sig_dd.specs.declared.answer.DdAnswer.TheVariants.{Budget, OutOfMemory}
pub use Rattle.sig_dd.specs.declared.node.Node.{Node}
pub use Rattle.sig_dd.specs.declared.node.Ref.{Ref}
pub use Rattle.sig_file.specs.Guarded.{Guarded, Guards, IsSoundImage, IsSoundOperation, IsWrittenBefore, Reads, Writes, guards_of, nodes_in}
pub use Rattle.sig_file.specs.Images.{ImageView, IsImage}
pub use Rattle.sig_file.specs.declared.images.ImageNode.{ImageNode}
pub use Rattle.sig_file.specs.declared.images.ImageOp.{ImageOp}
pub use Rattle.sig_file.specs.declared.images.ImageOpKind.{ImageOpKind}
pub use Rattle.sig_kernel.specs.declared.equation.Operand.{Operand}
pub use Rattle.sig_kernel.specs.declared.equation.Operand.TheVariants.{Sig}
