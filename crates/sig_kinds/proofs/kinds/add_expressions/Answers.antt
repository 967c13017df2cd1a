use Rattle.sig_kinds.proofs.{map, ap, ◌∙◌, sym, ◌++◌, flat_map, kind_of, Expression, expression_of, Expr, pieces, known, nodes, map-map, grown, grows}
use Rattle.sig_kinds.proofs.kinds.add_expressions.Goals as goal

pub loop-e-preserved : goal.loop-e-preserved
loop-e-preserved c = grows (λ (e : Expr). map (λ n. known (kind_of c.args.scope.now n)) (nodes (expression_of e))) c.args.all.now.items _ _ c.args.es.now c.loop-e.e-index c.e-item.result c.e-item.is c.loop-e-test.true c.loop-e.invariant c.in_ok-add_expression.ensures

pub returns : goal.returns
returns c =
    grown (λ (e : Expression). map (λ n. known (kind_of c.args.scope.now n)) (nodes e)) expression_of c.args.all.now.items _ c.args.es.now _ c.loop-e-test.false c.loop-e.invariant
    ∙ ap (λ l. c.args.all.now.items ++ l) (pieces (λ n. known (kind_of c.args.scope.now n)) nodes (map expression_of c.args.es.now) ∙ sym (map-map known (kind_of c.args.scope.now) (flat_map nodes (map expression_of c.args.es.now))))
