use Rattle.sig_load.proofs.{◌≡◌, ℕ, ◌+◌, ◌*◌, ◌/◌, ◌^◌, ◌++◌, List, ap, ◌∙◌, arith, subst, codes, draw, state_after, truth_value, truths, truths_from, Appends, each, numbered, FLOW_VALUES, each_more, each_none, each_same, state_later}
use Rattle.sig_load.proofs.flows.put_truth_flows.Goals as goal

-- a condition's flow from the state that the draws before it leave
truths_later : (seed n : ℕ) → truths_from (state_after seed (n * FLOW_VALUES)) n ≡ truths seed n
truths_later seed n =
    ap (λ (t : List ℕ). numbered 66 n ++ (t ++ codes "\n"))
    (each_same (λ k. truth_value (draw (state_after seed (n * FLOW_VALUES)) k)) (λ k. truth_value (draw seed (n * FLOW_VALUES + k)))
    (λ k. ap (λ (x : ℕ). truth_value (x / 2 ^ 32)) (state_later seed (n * FLOW_VALUES) k)) FLOW_VALUES)

pub loop-before-init : goal.loop-before-init
loop-before-init c = record {
  text = λ seed is. each_none _ (truths seed);
  state = λ seed is. is;
}

pub loop-before-preserved : goal.loop-before-preserved
loop-before-preserved c =
    let n = c.loop-before.before + 1 in
    record {
      text = λ seed is.
          let old = c.loop-before.invariant.state seed is in
          let same : truths_from c.loop-before.draws.state n ≡ truths seed n =
          ap (λ (s : ℕ). truths_from s n) old ∙ truths_later seed n in
          each_more (truths seed) c.loop-before.before (c.loop-before.invariant.text seed is)
          (subst (λ (piece : List ℕ). Appends c.loop-before.text.items piece c.put_truth_flow.new.text.items) same c.in_ok-put_truth_flow.ensures.text);
      state = λ seed is.
          c.in_ok-put_truth_flow.ensures.state
          ∙ ap (λ (s : ℕ). state_after s FLOW_VALUES) (c.loop-before.invariant.state seed is)
          ∙ state_later seed (n * FLOW_VALUES) FLOW_VALUES
          ∙ ap (state_after seed) (omega arith);
    }

pub returns : goal.returns
returns c = λ seed is.
    let all : c.loop-before.before ≡ c.args.stages = omega arith in
    subst (λ (n : ℕ). Appends c.args.text.now.items (each (truths seed) n) c.loop-before.text.items) all (c.loop-before.invariant.text seed is)
