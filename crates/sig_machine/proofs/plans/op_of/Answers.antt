use Rattle.sig_machine.proofs.{◌≡◌, ◌∙◌, ℕ, List, Some, ap, length, ltb-false, refl, slice_get, slice_get_past, slice_get_read, subst, sym, Op, shaped}
use Rattle.sig_machine.proofs.plans.op_of.Goals as goal

-- the operation of a number is this one
abbrev IsOpAt : ℕ → Op → List Op → Type 0
IsOpAt number op ops = slice_get ops number ≡ Some op

pub returns-in-Some-clause-shape : goal.returns-in-Some-clause-shape
returns-in-Some-clause-shape c =
    let found = c.in-Some.ensures.lookup in
    let op = c.in-Some.op.now in
    shaped c.args.plan.now c.ops_of.ensures.accepted c.args.o.0 op
    (subst (IsOpAt c.args.o.0 op) c.ops_of.ensures.ops (slice_get_read c.ops_of.result.now _ c.args.o.0 op refl found.3.0 found.1))

pub returns-in-None-clause-none : goal.returns-in-None-clause-none
returns-in-None-clause-none c =
    ap (λ (ops : List Op). slice_get ops c.args.o.0) (sym c.ops_of.ensures.ops)
    ∙ slice_get_past c.ops_of.result.now c.args.o.0 (ltb-false c.args.o.0 (length c.ops_of.result.now) (sym c.in-None.ensures.lookup.0))
