use Rattle.sig_parse.proofs.{◌≡◌, ℕ, suc, rules, refl, sym, ap, ◌∙◌, subst, IfOk-weaker, expression_of, whole, step, again, step_shorter, ends_at, begins_at, at_binary, at_cell, enclosed, prefixed, of_tighter, mixed_level, delay_level, level_number, ContinuesStep, IsOperatorOf, on_ok, ok_since, on_each_ok, handed, since_refused, since_both, StopsBefore, Relation, Cell, Delay as DelayOp, wrong, wrong_here, deep_here, too_many, same_after, stops_again, one_more, level_ends, level_from_operand, binary_stops, binary_reads, cell_reads, binary_lifts, held_lifts, cell_refuses, completes_as, completes_at, step_at, delay_refuses, step_stops, prefix_here, prefix_lifts, prefix_stops, prefixed_operand, tighter_reads, tighter_refuses, primary_refuses, no_atom_here, opening_too_deep, starts_and_stops, inside_lifts, closing_lifts, parenthesised_operand, atom_operand, behind_operand, behind_more, behind_operator, tighter_wrong, relation_wrong, too_many_here, any_number, at_most_one, within_levels}
use denote.Enum.Bare.{same_false, same_true}
use Rattle.sig_parse.specs.contracts.operator.Level.{the_type}
use Rattle.sig_parse.proofs.expression.+expression.Goals as goal

pub at_level-returns-in_default-clause-reads : goal.at_level-returns-in_default-clause-reads
at_level-returns-in_default-clause-reads t c = whole c.args.level c.args.depth (expression_of c.loop-left.left) (let none = rw c.in_default.is at c.in_ok-op.ensures.reads in ends_at none.0 c.loop-left.invariant.reads)

pub at_level-returns-then-eq-clause-reads : goal.at_level-returns-then-eq-clause-reads
at_level-returns-then-eq-clause-reads t c =
    let f = rw c.in-Some.is at c.in_ok-op.ensures.reads in
    step c.args.level c.args.depth (expression_of c.loop-left.left) c.in-Some.op c.in-Some.at _ c.loop-left.invariant.reads f.0 f.1 c.in_ok-left-2.ensures.completes

pub at_level-loop-left-preserved : goal.at_level-loop-left-preserved
at_level-loop-left-preserved t c =
    let f = rw c.in-Some.is at c.in_ok-op.ensures.reads in
    let other = same_false the_type _ _ (sym c.eq.ensures ∙ c.if-eq.false) in
    let own = f.0.level_is in
    let before = c.loop-left.invariant in
    let reads = again c.args.level c.args.depth (expression_of c.in_ok-left-2.left) other
    (step c.args.level c.args.depth (expression_of c.loop-left.left) c.in-Some.op c.in-Some.at _ before.reads f.0 f.1 c.in_ok-left-2.ensures.completes) in
    let shorter = step_shorter c.args.parser.now before.shorter f.1 c.in_ok-left-2.ensures.completes in
    let lifts = behind_more (level_number c.args.level) c.args.depth c.args.parser.now.operators before.taken c.in-Some.op c.in-Some.at c.args.parser.now.leaves own before.lifts f.1 c.in_ok-left-2.ensures.step c.in_ok-left-2.ensures.stops in
    let stops = subst (λ (n : ℕ). StopsBefore (ContinuesStep n) c.completed.new.parser.leaves) own c.in_ok-left-2.ensures.stops in
    record { reads = reads; shorter = shorter; taken = suc before.taken; many = any_number c.args.level (suc (suc before.taken)) other; lifts = lifts; stops = stops }

pub enclosed-returns-clause-reads : goal.enclosed-returns-clause-reads
enclosed-returns-clause-reads t c = enclosed (expression_of c.in_ok-e.e) _ c.args.depth c.in_ok-inner.inner _ _ _ c.in_ok-inner.ensures.deeper.0 c.in_ok-inner.ensures.deeper.1
    c.in_ok-expect.ensures.reads c.in_ok-e.ensures.reads c.in_ok-expect-2.ensures.reads

pub operand-returns-in-Some-clause-reads : goal.operand-returns-in-Some-clause-reads
operand-returns-in-Some-clause-reads t c = let f = rw c.in-Some.is at c.in_ok-op.ensures.reads in
    prefixed c.in-Some.op c.args.level (expression_of c.in_ok-e.e) _ c.in-Some.at _ c.args.depth c.in-Some.inner f.0 f.1 f.2 (ap expression_of c.in_ok-new.ensures.ok) c.operand_level.ensures f.3 c.in_ok-e.ensures.reads

pub operand-returns-in-Some-tighter-clause-reads : goal.operand-returns-in-Some-tighter-clause-reads
operand-returns-in-Some-tighter-clause-reads t c = IfOk-weaker c.at_level-in-Some-tighter.result _ _
    (λ e r. let none = rw c.in_default.is at c.in_ok-op.ensures.reads in begins_at none.0 (of_tighter c.args.level c.in-Some-tighter.next c.args.depth (expression_of e) c.in-Some-tighter.ensures r)) c.at_level-in-Some-tighter.ensures.reads

pub operand-returns-in_err-op-clause-refuses : goal.operand-returns-in_err-op-clause-refuses
operand-returns-in_err-op-clause-refuses t c = handed _ _ _ c.from_residual.ensures (λ few text.
    same_after c.in_err-op.ensures.stays (prefix_here (level_number c.args.level) c.args.depth c.args.parser.now.operators c.args.parser.now.leaves c.in_err-op.field-0.0 few c.in_err-op.ensures.refused))

pub operand-returns-in_err-e-clause-refuses : goal.operand-returns-in_err-e-clause-refuses
operand-returns-in_err-e-clause-refuses t c = let f = rw c.in-Some.is at c.in_ok-op.ensures.reads in
    handed _ _ _ c.from_residual-in_err-e.ensures (λ few text.
    prefix_lifts c.in-Some.op c.in-Some.at _ (level_number c.args.level) c.args.depth c.in-Some.inner f.0 f.1 f.2 c.operand_level.ensures f.3 _ _ (c.in_err-e.ensures.refuses (f.3.few few) text))

pub operand-returns-in-Some-clause-operand : goal.operand-returns-in-Some-clause-operand
operand-returns-in-Some-clause-operand t c = let f = rw c.in-Some.is at c.in_ok-op.ensures.reads in
    prefixed_operand c.in-Some.op (level_number c.args.level) (expression_of c.in_ok-e.e) _ c.in-Some.at _ c.args.depth c.in-Some.inner f.0 f.1 f.2 (ap expression_of c.in_ok-new.ensures.ok) c.operand_level.ensures f.3 c.in_ok-e.ensures.reads

pub operand-returns-in-Some-clause-stops : goal.operand-returns-in-Some-clause-stops
operand-returns-in-Some-clause-stops t c = let f = rw c.in-Some.is at c.in_ok-op.ensures.reads in
    prefix_stops c.in-Some.op _ (level_number c.args.level) _ f.0 c.operand_level.ensures c.in_ok-e.ensures.stops

pub operand-returns-in-Some-tighter-clause-operand : goal.operand-returns-in-Some-tighter-clause-operand
operand-returns-in-Some-tighter-clause-operand t c = IfOk-weaker c.at_level-in-Some-tighter.result _ _
    (λ e r. let none = rw c.in_default.is at c.in_ok-op.ensures.reads in begins_at none.0 (tighter_reads c.args.level c.in-Some-tighter.next c.args.depth (expression_of e) c.in-Some-tighter.ensures r)) c.at_level-in-Some-tighter.ensures.reads

pub operand-returns-in-Some-tighter-clause-refuses : goal.operand-returns-in-Some-tighter-clause-refuses
operand-returns-in-Some-tighter-clause-refuses t c = let none = rw c.in_default.is at c.in_ok-op.ensures.reads in
    since_refused _ _ c.at_level-in-Some-tighter.result c.at_level-in-Some-tighter.ensures.refuses (λ why refuses.
    tighter_refuses c.args.level c.in-Some-tighter.next c.args.depth _ why none.0 c.in-Some-tighter.ensures none.1 refuses)

pub operand-returns-in-None-clause-refuses : goal.operand-returns-in-None-clause-refuses
operand-returns-in-None-clause-refuses t c = let none = rw c.in_default.is at c.in_ok-op.ensures.reads in
    since_refused _ _ c.primary.result c.primary.ensures.refuses (λ why refuses. primary_refuses c.args.level c.args.depth _ why none.0 c.in-None.ensures none.1 refuses)

pub primary-returns-then-is-clause-refuses : goal.primary-returns-then-is-clause-refuses
primary-returns-then-is-clause-refuses t c = since_refused _ _ c.enclosed.result c.enclosed.ensures.refuses (λ why refuses few no_clock text. refuses few c.if-is.ensures text)

pub primary-returns-else-is-clause-refuses : goal.primary-returns-else-is-clause-refuses
primary-returns-else-is-clause-refuses t c = since_both _ _ _ c.atom.result c.atom.ensures.stays c.atom.ensures.missing (λ why stays missing few no_clock text.
    wrong_here why (stays text) (missing text).0 (no_atom_here c.args.depth c.args.parser.now.operators c.args.parser.now.leaves few no_clock c.if-is.ensures (missing text).1))

pub primary-returns-else-is-clause-operand : goal.primary-returns-else-is-clause-operand
primary-returns-else-is-clause-operand t c = IfOk-weaker c.atom.result _ _ (λ e r. atom_operand c.args.depth (expression_of e) r) c.atom.ensures.atom

pub enclosed-returns-in_err-inner-clause-refuses : goal.enclosed-returns-in_err-inner-clause-refuses
enclosed-returns-in_err-inner-clause-refuses t c = handed _ _ _ c.from_residual.ensures (λ few starts text.
    deep_here c.in_err-inner.field-0.0 c.in_err-inner.ensures.too_deep.0 (opening_too_deep c.args.depth c.args.parser.now.operators c.args.parser.now.leaves c.in_err-inner.ensures.too_deep.1 few starts))

pub enclosed-returns-in_err-expect-clause-refuses : goal.enclosed-returns-in_err-expect-clause-refuses
enclosed-returns-in_err-expect-clause-refuses t c = handed _ _ _ c.from_residual-in_err-expect.ensures (λ few starts text. absurd (starts_and_stops _ _ starts c.in_err-expect.ensures.missing.1))

pub enclosed-returns-in_err-e-clause-refuses : goal.enclosed-returns-in_err-e-clause-refuses
enclosed-returns-in_err-e-clause-refuses t c = let r = c.in_ok-expect.ensures.reads in
    handed _ _ _ c.from_residual-in_err-e.ensures (λ few starts text.
    inside_lifts c.args.depth c.in_ok-inner.inner _ c.in_ok-inner.ensures.deeper.0 c.in_ok-inner.ensures.deeper.1 r _ _ (c.in_err-e.ensures.refuses (r.few few) text))

pub enclosed-returns-in_err-expect-2-clause-refuses : goal.enclosed-returns-in_err-expect-2-clause-refuses
enclosed-returns-in_err-expect-2-clause-refuses t c = handed _ _ _ c.from_residual-in_err-expect-2.ensures (λ few starts text.
    closing_lifts c.args.depth c.in_ok-inner.inner _ (expression_of c.in_ok-e.e) c.in_ok-inner.ensures.deeper.0 c.in_ok-inner.ensures.deeper.1 few c.in_ok-expect.ensures.reads c.in_ok-e.ensures.reads c.in_ok-e.ensures.stops _ _ (c.in_err-expect-2.ensures.refuses text))

pub enclosed-returns-clause-operand : goal.enclosed-returns-clause-operand
enclosed-returns-clause-operand t c = parenthesised_operand (expression_of c.in_ok-e.e) c.args.depth c.in_ok-inner.inner _ _ _ c.in_ok-inner.ensures.deeper.0 c.in_ok-inner.ensures.deeper.1
    c.in_ok-expect.ensures.reads c.in_ok-e.ensures.reads c.in_ok-expect-2.ensures.reads

pub at_level-loop-left-init : goal.at_level-loop-left-init
at_level-loop-left-init t c =
    let r = c.in_ok-left.ensures in
    let lifts = behind_operand (level_number c.args.level) c.args.depth (expression_of c.in_ok-left.left) (within_levels c.args.level) r.operand r.stops in
    record { reads = r.reads; shorter = r.shorter; taken = 0; many = at_most_one (level_number c.args.level); lifts = lifts; stops = c.in_ok-nothing_tighter.ensures.stops }

pub at_level-returns-in_err-left-clause-refuses : goal.at_level-returns-in_err-left-clause-refuses
at_level-returns-in_err-left-clause-refuses t c = handed _ _ _ c.from_residual.ensures (λ few text.
    level_from_operand (level_number c.args.level) c.args.depth c.args.parser.now.operators (within_levels c.args.level) _ _ _ (c.in_err-left.ensures.refuses few text))

pub at_level-returns-in_err-nothing_tighter-clause-refuses : goal.at_level-returns-in_err-nothing_tighter-clause-refuses
at_level-returns-in_err-nothing_tighter-clause-refuses t c =
    let r = c.in_ok-left.ensures.operand in
    handed _ _ _ c.from_residual-in_err-nothing_tighter.ensures (λ few text.
    wrong c.in_err-nothing_tighter.field-0.0 c.in_err-nothing_tighter.ensures.refused.0
    (behind_operand (level_number c.args.level) c.args.depth (expression_of c.in_ok-left.left) (within_levels c.args.level) r c.in_ok-left.ensures.stops _ _
    (tighter_wrong (level_number c.args.level) c.args.depth 0 _ _ (r.few few) (at_most_one (level_number c.args.level)) c.in_err-nothing_tighter.ensures.refused.1)))

pub at_level-returns-in_err-op-clause-refuses : goal.at_level-returns-in_err-op-clause-refuses
at_level-returns-in_err-op-clause-refuses t c =
    let before = c.loop-left.invariant in
    handed _ _ _ c.from_residual-in_err-op.ensures (λ few text.
    same_after c.in_err-op.ensures.stays (too_many c.in_err-op.field-0.0 c.in_err-op.ensures.full.0
    (before.lifts _ _ (too_many_here (level_number c.args.level) c.args.depth before.taken _ _ (before.reads.few few) c.in_err-op.ensures.full.1 before.many c.in_err-op.ensures.full.2))))

pub at_level-returns-in_default-clause-stops : goal.at_level-returns-in_default-clause-stops
at_level-returns-in_default-clause-stops t c = let none = rw c.in_default.is at c.in_ok-op.ensures.reads in
    stops_again _ none.0 (level_ends (level_number c.args.level) _ c.loop-left.invariant.stops none.1)

pub at_level-returns-in_err-left-2-clause-refuses : goal.at_level-returns-in_err-left-2-clause-refuses
at_level-returns-in_err-left-2-clause-refuses t c =
    let f = rw c.in-Some.is at c.in_ok-op.ensures.reads in
    let before = c.loop-left.invariant in
    handed _ _ _ c.from_residual-in_err-left-2.ensures (λ few text.
    behind_operator (level_number c.args.level) c.args.depth c.args.parser.now.operators before.taken c.in-Some.op c.in-Some.at c.args.parser.now.leaves f.0.level_is before.many before.lifts f.1 _ _
    (c.in_err-left-2.ensures.refuses _ (one_more f.1) (f.1.few (before.reads.few few)) text))

pub at_level-returns-in_err-no_relation-clause-refuses : goal.at_level-returns-in_err-no_relation-clause-refuses
at_level-returns-in_err-no_relation-clause-refuses t c =
    let f = rw c.in-Some.is at c.in_ok-op.ensures.reads in
    let before = c.loop-left.invariant in
    let is_relation : c.args.level ≡ Relation = same_true the_type (search rules) _ _ (sym c.eq.ensures ∙ c.if-eq.true) in
    let relation = ap level_number is_relation in
    handed _ _ _ c.from_residual-in_err-no_relation.ensures (λ few text.
    wrong c.in_err-no_relation.field-0.0 c.in_err-no_relation.ensures.refused.0
    (behind_more (level_number c.args.level) c.args.depth c.args.parser.now.operators before.taken c.in-Some.op c.in-Some.at c.args.parser.now.leaves f.0.level_is before.lifts f.1 c.in_ok-left-2.ensures.step c.in_ok-left-2.ensures.stops _ _
    (relation_wrong (level_number c.args.level) c.args.depth before.taken _ _ relation (c.in_ok-left-2.ensures.completes.few (f.1.few (before.reads.few few))) before.many c.in_err-no_relation.ensures.refused.1)))

pub at_level-returns-then-eq-clause-stops : goal.at_level-returns-then-eq-clause-stops
at_level-returns-then-eq-clause-stops t c =
    let f = rw c.in-Some.is at c.in_ok-op.ensures.reads in
    let is_relation : c.args.level ≡ Relation = same_true the_type (search rules) _ _ (sym c.eq.ensures ∙ c.if-eq.true) in
    let relation = ap level_number is_relation in
    level_ends (level_number c.args.level) _ (subst (λ (n : ℕ). StopsBefore (ContinuesStep n) c.completed.new.parser.leaves) f.0.level_is c.in_ok-left-2.ensures.stops)
    (subst (λ (n : ℕ). StopsBefore (IsOperatorOf n) c.completed.new.parser.leaves) (sym relation) c.in_ok-no_relation.ensures.stops)

pub completed-returns-in_err-right-in-Binary-clause-refuses : goal.completed-returns-in_err-right-in-Binary-clause-refuses
completed-returns-in_err-right-in-Binary-clause-refuses t c = handed _ _ _ c.from_residual.ensures (λ used counts few text.
    binary_lifts c.args.op c.in-Binary.op c.args.at _ c.args.depth used _ _ c.in-Binary.is c.right_level.ensures counts _ _ (c.in_err-right-in-Binary.ensures.refuses few text))

pub completed-returns-in_ok-right-in-Binary-clause-completes : goal.completed-returns-in_ok-right-in-Binary-clause-completes
completed-returns-in_ok-right-in-Binary-clause-completes t c = IfOk-weaker c.joined.result _ _ (λ e value.
    completes_as c.args.depth (expression_of c.args.left) c.args.op c.args.at _ (expression_of e) value
    (at_binary c.args.op c.in-Binary.op (expression_of c.args.left) _ (expression_of c.in_ok-right-in-Binary.right) _ c.args.at _ c.args.depth c.in-Binary.is refl refl c.right_level.ensures c.in_ok-right-in-Binary.ensures.reads)) c.joined.ensures.value

pub completed-returns-in_ok-right-in-Binary-clause-step : goal.completed-returns-in_ok-right-in-Binary-clause-step
completed-returns-in_ok-right-in-Binary-clause-step t c = on_each_ok c.joined.result (binary_reads c.args.op c.in-Binary.op c.args.at _ c.args.depth (expression_of c.in_ok-right-in-Binary.right) c.in-Binary.is c.right_level.ensures c.in_ok-right-in-Binary.ensures.reads)

pub completed-returns-in_ok-right-in-Binary-clause-stops : goal.completed-returns-in_ok-right-in-Binary-clause-stops
completed-returns-in_ok-right-in-Binary-clause-stops t c = on_each_ok c.joined.result (binary_stops c.args.op c.in-Binary.op _ _ c.in-Binary.is c.right_level.ensures c.in_ok-right-in-Binary.ensures.stops)

pub completed-returns-in_ok-right-in-Binary-clause-refuses : goal.completed-returns-in_ok-right-in-Binary-clause-refuses
completed-returns-in_ok-right-in-Binary-clause-refuses t c = since_refused _ _ c.joined.result c.joined.ensures.wanting (λ why memory used counts few text. absurd (text memory))

pub completed-returns-in_err-held-in-Cell-clause-refuses : goal.completed-returns-in_err-held-in-Cell-clause-refuses
completed-returns-in_err-held-in-Cell-clause-refuses t c = handed _ _ _ c.from_residual-in_err-held-in-Cell.ensures (λ used counts few text.
    held_lifts c.args.op c.args.at c.args.depth used _ _ c.in-Cell.is counts _ _ (c.in_err-held-in-Cell.ensures.refuses few text))

pub completed-returns-in_ok-held-in-Cell-clause-completes : goal.completed-returns-in_ok-held-in-Cell-clause-completes
completed-returns-in_ok-held-in-Cell-clause-completes t c = IfOk-weaker c.cell.result _ _ (λ e found.
    completes_as c.args.depth (expression_of c.args.left) c.args.op c.args.at _ (expression_of e) found.1
    (at_cell c.args.op (expression_of c.args.left) _ (expression_of c.in_ok-held-in-Cell.held) _ found.0 c.args.at c.args.depth c.in-Cell.is refl refl c.in_ok-held-in-Cell.ensures.reads found.2)) c.cell.ensures.reads

pub completed-returns-in_ok-held-in-Cell-clause-step : goal.completed-returns-in_ok-held-in-Cell-clause-step
completed-returns-in_ok-held-in-Cell-clause-step t c = ok_since _ c.cell.result c.cell.ensures.reads (λ e found. cell_reads c.args.op c.args.at c.args.depth (expression_of c.in_ok-held-in-Cell.held) found.0 c.in-Cell.is c.in_ok-held-in-Cell.ensures.reads found.2)

pub completed-returns-in_ok-held-in-Cell-clause-stops : goal.completed-returns-in_ok-held-in-Cell-clause-stops
completed-returns-in_ok-held-in-Cell-clause-stops t c = on_ok _ c.cell.result c.cell.ensures.reads c.cell.ensures.stops (λ e found stops. step_stops c.args.op Cell mixed_level _ c.in-Cell.is refl stops)

pub completed-returns-in_ok-held-in-Cell-clause-refuses : goal.completed-returns-in_ok-held-in-Cell-clause-refuses
completed-returns-in_ok-held-in-Cell-clause-refuses t c = since_refused _ _ c.cell.result c.cell.ensures.refuses (λ why r used counts few text.
    cell_refuses c.args.op c.args.at c.args.depth used (expression_of c.in_ok-held-in-Cell.held) c.in-Cell.is counts few c.in_ok-held-in-Cell.ensures.reads why (r text))

pub completed-returns-in-Delay-clause-completes : goal.completed-returns-in-Delay-clause-completes
completed-returns-in-Delay-clause-completes t c = IfOk-weaker c.delay.result _ _
    (λ e all. completes_at c.args.depth (expression_of c.args.left) c.args.op DelayOp c.args.at (expression_of e) c.in-Delay.is (all c.args.depth)) c.delay.ensures.completes

pub completed-returns-in-Delay-clause-step : goal.completed-returns-in-Delay-clause-step
completed-returns-in-Delay-clause-step t c = on_ok _ c.delay.result c.delay.ensures.completes c.delay.ensures.step
    (λ e all step. step_at c.args.depth c.args.op DelayOp c.args.at c.in-Delay.is (step c.args.depth))

pub completed-returns-in-Delay-clause-stops : goal.completed-returns-in-Delay-clause-stops
completed-returns-in-Delay-clause-stops t c = on_ok _ c.delay.result c.delay.ensures.completes c.delay.ensures.stops (λ e all stops. step_stops c.args.op DelayOp delay_level _ c.in-Delay.is refl stops)

pub completed-returns-in-Delay-clause-refuses : goal.completed-returns-in-Delay-clause-refuses
completed-returns-in-Delay-clause-refuses t c = since_refused _ _ c.delay.result c.delay.ensures.refuses (λ why r used counts few text.
    delay_refuses c.args.op c.args.at c.args.depth used c.in-Delay.is (r c.args.depth used counts few text))
