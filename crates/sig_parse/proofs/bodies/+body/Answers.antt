use Rattle.sig_parse.proofs.{codes, subst, sym, mark, equations_of, both_limits, IsBody, covered, one_item_more, first_item, together, handed, since_refused, on_ok, body_defined, body_equated, body_together, body_from_definition, body_from_clock_equation, together_deep, together_inside, bodies_begun, bodies_more, bodies_first, bodies_over, bodies_next, next_not_refused, closes_next, first_pushed, State, Closes, InBodies, All}
use Rattle.sig_parse.proofs.bodies.+body.Goals as goal

pub together-returns-clause-reads : goal.together-returns-clause-reads
together-returns-clause-reads t c = together c.in_ok-all.all c.args.depth c.in_ok-inner.inner c.in_ok-_opened._opened c.in_ok-_closed._closed c.in_ok-inner.ensures.deeper.0 c.in_ok-inner.ensures.deeper.1
    (covered c.in_ok-_opened.ensures.reads) c.in_ok-all.ensures.reads (covered c.in_ok-_closed.ensures.reads)

pub body-returns-then-is-clause-settles : goal.body-returns-then-is-clause-settles
body-returns-then-is-clause-settles t c = c.together.ensures.settles

pub body-returns-then-is-clause-refuses : goal.body-returns-then-is-clause-refuses
body-returns-then-is-clause-refuses t c = c.together.ensures.refuses

pub body-returns-then-begins_definition-clause-settles : goal.body-returns-then-begins_definition-clause-settles
body-returns-then-begins_definition-clause-settles t c = on_ok _ c.definition.result c.definition.ensures.reads c.definition.ensures.settles (λ body is k. body_defined c.args.depth (equations_of body) c.if-begins_definition.ensures is k)

pub body-returns-then-begins_definition-clause-refuses : goal.body-returns-then-begins_definition-clause-refuses
body-returns-then-begins_definition-clause-refuses t c = since_refused _ _ c.definition.result c.definition.ensures.refuses (λ why r text. body_from_definition c.args.depth c.if-begins_definition.ensures (r text))

pub body-returns-else-begins_definition-clause-settles : goal.body-returns-else-begins_definition-clause-settles
body-returns-else-begins_definition-clause-settles t c = on_ok _ c.clock_equation.result c.clock_equation.ensures.reads c.clock_equation.ensures.settles (λ body is k. body_equated c.args.depth (equations_of body) c.if-begins_definition.ensures c.if-is.ensures is k)

pub body-returns-else-begins_definition-clause-refuses : goal.body-returns-else-begins_definition-clause-refuses
body-returns-else-begins_definition-clause-refuses t c = since_refused _ _ c.clock_equation.result c.clock_equation.ensures.refuses (λ why r text. body_from_clock_equation c.args.depth c.if-begins_definition.ensures c.if-is.ensures (r text))

pub together-returns-in_err-inner-clause-refuses : goal.together-returns-in_err-inner-clause-refuses
together-returns-in_err-inner-clause-refuses t c = handed _ _ _ c.from_residual.ensures (together_deep c.args.depth _ c.args.parser.now c.in_err-inner.ensures.too_deep c.requires.opens)

pub together-returns-in_err-_opened-clause-refuses : goal.together-returns-in_err-_opened-clause-refuses
together-returns-in_err-_opened-clause-refuses t c = handed _ _ _ c.from_residual-in_err-_opened.ensures (λ text. absurd (next_not_refused (mark (codes "(|")) (c.in_err-_opened.ensures.refuses text) c.requires.opens))

pub together-returns-in_err-all-clause-refuses : goal.together-returns-in_err-all-clause-refuses
together-returns-in_err-all-clause-refuses t c = handed _ _ _ c.from_residual-in_err-all.ensures (λ text. together_inside c.args.depth c.in_ok-inner.inner c.in_ok-inner.ensures.deeper c.in_ok-_opened._opened (covered c.in_ok-_opened.ensures.reads) (c.in_err-all.ensures.refuses text))

pub together-returns-in_err-_closed-clause-refuses : goal.together-returns-in_err-_closed-clause-refuses
together-returns-in_err-_closed-clause-refuses t c = handed _ _ _ c.from_residual-in_err-_closed.ensures (λ text. together_inside c.args.depth c.in_ok-inner.inner c.in_ok-inner.ensures.deeper c.in_ok-_opened._opened (covered c.in_ok-_opened.ensures.reads) (c.in_ok-all.ensures.closes _ _ (c.in_err-_closed.ensures.refuses text)))

pub bodies-returns-then-is-clause-closes : goal.bodies-returns-then-is-clause-closes
bodies-returns-then-is-clause-closes t c = closes_next (InBodies c.args.depth) (mark (codes "|)")) c.if-is.ensures

pub bodies-loop-all-init : goal.bodies-loop-all-init
bodies-loop-all-init t c = (
  first_item equations_of (λ body leaves. IsBody both_limits body c.args.depth leaves) (mark (codes "|")) _ c.in_ok-body.field-0 (first_pushed c.new-all.ensures.items c.in_ok-push.ensures.items) c.in_ok-body.ensures.reads,
  bodies_begun c.args.depth (equations_of c.in_ok-body.field-0) c.in_ok-body.ensures.reads c.in_ok-body.ensures.settles,
)

pub bodies-loop-all-preserved : goal.bodies-loop-all-preserved
bodies-loop-all-preserved t c = (
  one_item_more equations_of (λ body leaves. IsBody both_limits body c.args.depth leaves) (mark (codes "|")) c.loop-all.all.items _ c.in_ok-body-2.field-0 c.in-Some.field-0 c.in_ok-push-2.ensures.items c.loop-all.invariant.0 (covered c.in-Some.ensures.0) c.in_ok-body-2.ensures.reads,
  bodies_more c.args.depth c.in-Some.field-0 c.loop-all.invariant.1 (covered c.in-Some.ensures.0) (equations_of c.in_ok-body-2.field-0) c.in_ok-body-2.ensures.reads c.in_ok-body-2.ensures.settles,
)

pub bodies-returns-in_err-body-clause-refuses : goal.bodies-returns-in_err-body-clause-refuses
bodies-returns-in_err-body-clause-refuses t c = handed _ _ _ c.from_residual.ensures (λ text. bodies_first c.args.depth c.if-is.ensures (c.in_err-body.ensures.refuses text))

pub bodies-returns-in_default-clause-closes : goal.bodies-returns-in_default-clause-closes
bodies-returns-in_default-clause-closes t c = subst (λ (x : State). Closes (InBodies c.args.depth) (mark (codes "|)")) c.args.parser.now.leaves x.leaves) (sym c.in_default.ensures.0) (bodies_over c.args.depth c.if-is.ensures c.loop-all.invariant.1 c.in_default.ensures.1)

pub bodies-returns-in_err-body-2-clause-refuses : goal.bodies-returns-in_err-body-2-clause-refuses
bodies-returns-in_err-body-2-clause-refuses t c = handed _ _ _ c.from_residual-in_err-body-2.ensures (λ text. bodies_next c.args.depth c.in-Some.field-0 c.loop-all.invariant.1 (covered c.in-Some.ensures.0) c.if-is.ensures (c.in_err-body-2.ensures.refuses text))

pub together-returns-clause-settles : goal.together-returns-clause-settles
together-returns-clause-settles t c = body_together c.args.depth (equations_of (All c.in_ok-all.all)) c.requires.opens (together c.in_ok-all.all c.args.depth c.in_ok-inner.inner c.in_ok-_opened._opened c.in_ok-_closed._closed c.in_ok-inner.ensures.deeper.0 c.in_ok-inner.ensures.deeper.1 (covered c.in_ok-_opened.ensures.reads) c.in_ok-all.ensures.reads (covered c.in_ok-_closed.ensures.reads))
