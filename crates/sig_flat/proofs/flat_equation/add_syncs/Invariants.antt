-- those so far were added, and the others are left
use Rattle.sig_flat.proofs.{◌≡◌, drop, with_all_syncs, syncs_after}
use Rattle.sig_flat.proofs.flat_equation.add_syncs.Given as goal

abbrev pub invariant-loop-next : goal.invariant-loop-next
invariant-loop-next l = syncs_after l.previous (drop l.next-index l.signals) l.draft ≡ with_all_syncs l.signals l.initial.draft
