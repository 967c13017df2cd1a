use Rattle.sig_flow.proofs.{◌∙◌, ◌++◌, ℤ, List, [], ap, subst, IsInput, Signal, get_or, arith, get_or_default, on_ok_weaker, values_of, word_of, words_behind, after_line}
use Rattle.sig_flow.proofs.flow_line.read_words.Goals as goal

pub returns-in-Some-clause-flows : goal.returns-in-Some-clause-flows
returns-in-Some-clause-flows c =
    let input = subst (λ (inputs : List Signal). IsInput inputs c.args.name.word.now c.in-Some.i) c.requires.names c.in-Some.ensures.found in
    on_ok_weaker c.read_values.result
    (λ flow. after_line c.args.context.version c.args.inputs.now c.args.flows.now c.in-Some.i c.index-inputs-i.result (word_of c.args.name) (words_behind c.args.name) c.read_values.new.flow
    c.requires.differ c.requires.same_length input.within (input.same c.index-inputs-i.result)
    (flow
    ∙ ap (λ (old : List ℤ). old ++ values_of c.args.context.version (get_or c.args.inputs.now c.in-Some.i c.index-inputs-i.result).kind (words_behind c.args.name)) (get_or_default c.args.flows.now c.in-Some.i c.index-flows-i.result [] (omega (arith, input.within)))))
    c.read_values.ensures.flow
