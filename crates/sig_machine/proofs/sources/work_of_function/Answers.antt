use Rattle.sig_machine.proofs.{get_or, ◌≡◌, ◌≤◌, ◌++◌, ◌∙◌, ℤ, pos, List, length, ap, sym, subst, arith, length-append, Operand, Sig, signals_of, of_many, operand_in, IsCellOf, cell_grows, constant_source, if_ok, of_operands, one_source, two_source}
use Rattle.sig_machine.proofs.sources.work_of_function.Goals as goal

abbrev zero_operand : Operand
zero_operand = Sig (record { 0 = 0 })

longer : (old more new : List ℤ) → new ≡ old ++ more → length old ≤ length new
longer old more new is = let a = ap length is ∙ length-append old more in omega (arith, a)

pub returns-in_ok-cell_of-in-len1-clause-work : goal.returns-in_ok-cell_of-in-len1-clause-work
returns-in_ok-cell_of-in-len1-clause-work c = λ signals room below.
    let (more, grown) = c.in_ok-cell_of-in-len1.ensures.grows in
    let grows = longer c.args.cells.now.items more c.cell_of.new.cells.items grown in
    one_source signals c.cell_of.new.cells.items (omega (arith, room, grows)) c.args.function c.args.operands.now below _ c.in-len1.len_at_least c.in-len1.len_below
    c.in_ok-cell_of-in-len1.field-0 (c.in_ok-cell_of-in-len1.ensures.cell signals room)

pub returns-in_ok-cell_of-in-len2-clause-work : goal.returns-in_ok-cell_of-in-len2-clause-work
returns-in_ok-cell_of-in-len2-clause-work c = λ signals room below.
    let (more, grown) = c.in_ok-left-in-len2.ensures.grows in
    let (rest, all) = c.in_ok-cell_of-in-len2.ensures.grows in
    let grows = longer c.args.cells.now.items more c.cell_of-in-len2.new.cells.items grown in
    let again = longer c.cell_of-in-len2.new.cells.items rest c.cell_of-in-len2-2.new.cells.items all in
    two_source signals c.cell_of-in-len2-2.new.cells.items (omega (arith, room, grows, again)) c.args.function c.args.operands.now below _ c.in-len2.len_at_least c.in-len2.len_below
    c.in_ok-left-in-len2.left c.in_ok-cell_of-in-len2.field-0
    (subst (λ (cells : List ℤ). IsCellOf signals cells (get_or c.args.operands.now 0 zero_operand) c.in_ok-left-in-len2.left) (sym all) (cell_grows signals c.cell_of-in-len2.new.cells.items rest (get_or c.args.operands.now 0 zero_operand) c.in_ok-left-in-len2.left (c.in_ok-left-in-len2.ensures.cell signals room)))
    (c.in_ok-cell_of-in-len2.ensures.cell signals (omega (arith, room, grows)))

pub returns-in_default-clause-work : goal.returns-in_default-clause-work
returns-in_default-clause-work c = if_ok _ _ c.constant-in_default.result
    (λ work is signals room below.
    constant_source signals c.args.cells.now.items c.constant-in_default.new.cells.items (pos 0) work (signals_of c.args.operands.now)
    (of_operands c.args.function c.args.operands.now) room is
    (λ registers e. sym (of_many e c.args.function (operand_in registers) c.args.operands.now c.in_default.len_at_least)))
    c.constant-in_default.ensures
