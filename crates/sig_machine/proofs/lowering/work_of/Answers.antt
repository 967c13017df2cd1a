use Rattle.sig_machine.proofs.{◌≤◌, List, length, get_or, sym, subst, SigId, IsWorkOf, Copy, first_work}
use Rattle.sig_machine.proofs.lowering.work_of.Goals as goal

pub returns-in-len1-up-clause-work : goal.returns-in-len1-up-clause-work
returns-in-len1-up-clause-work c =
    let d : SigId = record { 0 = 0 } in
    subst (λ (reads : List SigId). IsWorkOf c.args.kernel.now c.args.cells.now.items c.args.op.now (Copy (get_or reads 0 d).0)) (sym c.as_slice.ensures)
    (first_work c.args.kernel.now c.args.op.now c.args.cells.now.items d c.requires.cells c.requires.shape c.in-Left.is
    (subst (λ (reads : List SigId). 1 ≤ length reads) c.as_slice.ensures c.in-len1-up.len_at_least))
