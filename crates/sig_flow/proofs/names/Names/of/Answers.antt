use Rattle.sig_flow.proofs.{◌≡◌, ◌∙◌, ℕ, List, Some, ap, sym, subst, arith, length, ArePlaces, get_or_default, btree_map_updates_str, Signal, places_more, get_by, nat_cmp, slice_cmp}
use Rattle.sig_flow.proofs.names.Names.of.Goals as goal

pub loop-i-preserved : goal.loop-i-preserved
loop-i-preserved c =
    let inputs = c.args.inputs.now in
    let i = c.loop-i.i in
    let at = λ (d : Signal). get_or_default inputs i d c.index-inputs-i.result c.loop-i-test.true ∙ sym c.index-inputs-i.is in
    places_more inputs i
    (λ (q : List ℕ). get_by (λ k. slice_cmp nat_cmp q k.now) c.loop-i.places)
    (λ (q : List ℕ). get_by (λ k. slice_cmp nat_cmp q k.now) c.insert.new.self)
    c.as_bytes.result.now c.requires c.loop-i-test.true
    (λ d. ap (λ (s : Signal). s.name) (at d) ∙ sym c.as_bytes.ensures)
    (λ q. btree_map_updates_str c.as_bytes.result.now c.loop-i.places c.insert.new.self (Some i) c.in_ok-insert.ensures.updates q)
    c.loop-i.invariant

pub invariant_of-result : goal.invariant_of-result
invariant_of-result c =
    let all : c.loop-i.i ≡ length c.args.inputs.now = omega (arith, c.loop-i-test.false, c.loop-i.auto.i-end) in
    subst (λ n. ArePlaces c.args.inputs.now n (λ (q : List ℕ). get_by (λ k. slice_cmp nat_cmp q k.now) c.loop-i.places)) all c.loop-i.invariant
