use Rattle.sig_machine.proofs.{◌≡◌, ◌∙◌, ap, subst, sym, List, Fun, When, Operand, taken_by_form, AreBelow, as_form, if_ok, when_source}
use Rattle.sig_machine.proofs.sources.work_of_form.Goals as goal

pub returns-in-When-clause-work : goal.returns-in-When-clause-work
returns-in-When-clause-work c = λ signals room below.
    as_form signals c.args.cells.now.items _ c.args.form.now (When c.in-When.field-0 c.in-When.x c.in-When.field-2) c.in-When.is
    (when_source signals c.args.cells.now.items c.in-When.field-0 c.in-When.x c.in-When.field-2 room (subst (λ f. AreBelow signals (taken_by_form f)) c.in-When.is below))

pub returns-in-Fun-clause-work : goal.returns-in-Fun-clause-work
returns-in-Fun-clause-work c = if_ok _ _ c.work_of_function.result
    (λ work source signals room below.
    let shape : c.args.form.now ≡ Fun c.in-Fun.field-0 c.in-Fun.function c.as_slice.result.now = c.in-Fun.is ∙ ap (λ (os : List Operand). Fun c.in-Fun.field-0 c.in-Fun.function os) (sym c.as_slice.ensures) in
    as_form signals c.work_of_function.new.cells.items work c.args.form.now (Fun c.in-Fun.field-0 c.in-Fun.function c.as_slice.result.now) shape
    (source signals room (subst (λ f. AreBelow signals (taken_by_form f)) shape below)))
    c.work_of_function.ensures.work
