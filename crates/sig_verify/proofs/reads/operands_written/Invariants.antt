-- The signals among the operands so far were written, and each was compared once.
use Rattle.sig_verify.proofs.{◌≡◌, ℕ, ◌+◌, ◌*◌, ◌^◌, ◌<◌, ◌≤◌, slice_index_or, IsWrittenWhere, Sig, SigId}
use Rattle.sig_verify.proofs.reads.operands_written.Given as goal

abbrev pub invariant-loop-operand : goal.invariant-loop-operand
invariant-loop-operand l = record {
  written : (x : SigId) (k : ℕ) → k < l.operand-index → slice_index_or l.operands k (Sig x) ≡ Sig x → IsWrittenWhere l.diagrams.store.nodes l.written l.guard x;
  counted : l.work.pairs ≤ l.initial.work.pairs + l.operand-index * 2 ^ l.diagrams.conditions;
}
