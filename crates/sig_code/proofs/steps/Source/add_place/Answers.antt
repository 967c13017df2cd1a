use Rattle.sig_code.proofs.{◌≡◌, ◌∙◌, ◌+◌, ◌*◌, List, [], ◌∷◌, ◌++◌, ap, false, get_or, map, slice_get, Some, true, ◌==◌, filter_map, eq-eqb, ne_eqb, slice_get-get_or, on_ok_weaker, doing, receiving, routes_of, sending, Route, adds_same, adds_then, other_is, own_is, routes_at, Do, Op}
use Rattle.sig_code.proofs.steps.Source.add_place.Goals as goal

pub returns-in_ok-add : goal.returns-in_ok-add
returns-in_ok-add c =
    let nodes = c.args.self.now.store.now.nodes in
    let ops = c.args.self.now.ops.now in
    let links = c.args.self.now.links.now in
    let number = c.args.number.0 in
    let j = c.args.place in
    let op : Op = get_or ops number c.index-self-number.result in
    let at : slice_get ops number ≡ Some op = slice_get-get_or ops number c.index-self-number.result c.requires.number in
    let routes : c.as_slice-routes.result.now ≡ routes_of links op.writes =
    c.as_slice-routes.ensures ∙ routes_at ops links c.args.self.now.routes.now number c.index-self-number.result c.index-self-number-2.result c.requires.number c.requires.ready.routed in
    let own : (op.actor == c.args.actor) ≡ true = eq-eqb op.actor c.args.actor c.if-op-actor.true in
    let sends = λ (rs : List Route). map (λ (route : Route). doing nodes op.guard (2 * j + 1) (sending route)) rs in
    on_ok_weaker c.add_sends.result (λ sent.
    adds_then nodes (doing nodes op.guard (2 * j) (Do c.args.number) ∷ []) (sends c.as_slice-routes.result.now) _ c.args.code.now c.add.new.code c.add_sends.new.code
    (ap (λ (rs : List Route). (doing nodes op.guard (2 * j) (Do c.args.number) ∷ []) ++ sends rs) routes ∙ own_is nodes ops links c.args.actor j number op at own)
    c.in_ok-add.ensures sent)
    c.add_sends.ensures

pub returns-else-op-actor : goal.returns-else-op-actor
returns-else-op-actor c =
    let nodes = c.args.self.now.store.now.nodes in
    let ops = c.args.self.now.ops.now in
    let links = c.args.self.now.links.now in
    let number = c.args.number.0 in
    let j = c.args.place in
    let op : Op = get_or ops number c.index-self-number.result in
    let at : slice_get ops number ≡ Some op = slice_get-get_or ops number c.index-self-number.result c.requires.number in
    let routes : c.as_slice-routes.result.now ≡ routes_of links op.writes =
    c.as_slice-routes.ensures ∙ routes_at ops links c.args.self.now.routes.now number c.index-self-number.result c.index-self-number-2.result c.requires.number c.requires.ready.routed in
    let other : (op.actor == c.args.actor) ≡ false = ne_eqb op.actor c.args.actor c.if-op-actor.false in
    let receives = λ (rs : List Route). map (doing nodes op.guard (2 * j + 1)) (filter_map (receiving c.args.actor) rs) in
    on_ok_weaker c.add_receives.result (λ received.
    adds_same nodes (receives c.as_slice-routes.result.now) _ c.args.code.now c.add_receives.new.code
    (ap receives routes ∙ other_is nodes ops links c.args.actor j number op at other) received)
    c.add_receives.ensures
