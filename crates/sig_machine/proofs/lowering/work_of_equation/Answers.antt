use Rattle.sig_machine.proofs.{◌≡◌, ◌∙◌, ap, sym, length, slice_get, Some, pos, List, Equation, input_of, constant_work, form_below, form_work, found, no_form, not_found, if_ok}
use Rattle.sig_machine.proofs.lowering.work_of_equation.Goals as goal

pub returns-in-Some-get-clause-work : goal.returns-in-Some-get-clause-work
returns-in-Some-get-clause-work c =
    let equation : Equation = c.in-Some-get.equation.now in
    let kernel = c.args.kernel.now in
    let at : slice_get kernel.equations c.in-Some.e.0 ≡ Some equation =
    ap (λ (equations : List Equation). slice_get equations c.in-Some.e.0) (sym c.as_slice.ensures) ∙ found c.as_slice.result.now c.in-Some.e.0 equation equation c.in-Some-get.ensures.lookup.0 c.in-Some-get.ensures.lookup.1 in
    if_ok _ _ c.work_of_form.result
    (λ work source. form_work kernel c.args.op.now c.requires.computes c.in-Some.e c.in-Some.is c.requires.shape equation at c.work_of_form.new.cells.items work
    (source (length kernel.signals) c.requires.cells (form_below kernel c.args.op.now c.requires.computes c.in-Some.e c.in-Some.is c.requires.shape equation at)))
    c.work_of_form.ensures.work

pub returns-in-None-clause-work : goal.returns-in-None-clause-work
returns-in-None-clause-work c = if_ok _ _ c.constant-in-None.result
    (λ work is. constant_work c.args.kernel.now c.args.op.now c.args.cells.now.items c.constant-in-None.new.cells.items (pos 0) work c.requires.cells is (ap input_of c.requires.computes)
    (no_form c.args.kernel.now c.args.op.now c.requires.computes c.in-Some.e c.in-Some.is
    (ap (λ (equations : List Equation). slice_get equations c.in-Some.e.0) (sym c.as_slice.ensures) ∙ not_found c.as_slice.result.now c.in-Some.e.0 c.in-None.ensures.lookup.0)))
    c.constant-in-None.ensures
