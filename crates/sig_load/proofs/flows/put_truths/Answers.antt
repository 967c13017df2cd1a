use Rattle.sig_load.proofs.{◌≡◌, ℕ, ◌+◌, ◌/◌, ◌^◌, sym, ap, ◌∙◌, arith, subst, draw, next_state, state_after, truth_value, Appends, each, FLOW_VALUES, each_more, each_none, state_more, state_none}
use Rattle.sig_load.proofs.flows.put_truths.Goals as goal

pub loop-init : goal.loop-init
loop-init c = record {
  text = each_none _ (λ k. truth_value (draw c.args.draws.now.state k));
  state = sym (state_none c.args.draws.now.state);
}

pub loop-preserved : goal.loop-preserved
loop-preserved c =
    let seed = c.args.draws.now.state in
    let next : c.draw.new.self.state ≡ state_after seed (c.loop.counter + 1) =
    c.draw.ensures.state ∙ ap next_state c.loop.invariant.state ∙ sym (state_more seed c.loop.counter) in
    let drawn : c.draw.result ≡ draw seed (c.loop.counter + 1) = c.draw.ensures.drawn ∙ ap (λ (x : ℕ). x / 2 ^ 32) next in
    record {
      text = each_more (λ k. truth_value (draw seed k)) c.loop.counter c.loop.invariant.text
          (subst (λ (x : ℕ). Appends c.loop.text.items (truth_value x) c.put_truth.new.text.items) drawn c.in_ok-put_truth.ensures);
      state = next;
    }

pub returns-clause-text : goal.returns-clause-text
returns-clause-text c =
    let all : c.loop.counter ≡ FLOW_VALUES = omega arith in
    subst (λ (n : ℕ). Appends c.args.text.now.items (each (λ k. truth_value (draw c.args.draws.now.state k)) n) c.loop.text.items) all c.loop.invariant.text

pub returns-clause-state : goal.returns-clause-state
returns-clause-state c =
    let all : c.loop.counter ≡ FLOW_VALUES = omega arith in
    c.loop.invariant.state ∙ ap (state_after c.args.draws.now.state) all
