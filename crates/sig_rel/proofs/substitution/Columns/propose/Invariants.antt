use Rattle.sig_rel.proofs.{Ok, Adds, IsProposalBelow, AreVariables}
use Rattle.sig_rel.proofs.substitution.Columns.propose.Given as goal

abbrev pub invariant-loop-v : goal.invariant-loop-v
invariant-loop-v l = record {
  adds : Adds l.v l.initial.store l.store (Ok tt);
  proposed : AreVariables l.store.nodes (IsProposalBelow l.conditions l.v) l.initial.self l.self;
}
