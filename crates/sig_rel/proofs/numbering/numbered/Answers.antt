use Rattle.sig_rel.proofs.{ap, length, refl, ◌∙◌, none_given, are_unknowns, lie_within}
use Rattle.sig_rel.proofs.numbering.numbered.Goals as goal

pub number_elements-requires-clause-given : goal.number_elements-requires-clause-given
number_elements-requires-clause-given c =
    let count = ap length c.as_slice.ensures in
    none_given c.args.kernel.now c.args.least.now _ _ c.in_ok-numbering.numbering count c.in_ok-numbering.ensures.class c.in_ok-numbering.ensures.truth (c.in_ok-numbering.ensures.next ∙ c.requires.first)

pub returns-clause-unknowns : goal.returns-clause-unknowns
returns-clause-unknowns c = are_unknowns c.args.kernel.now c.args.least.now c.number_signals.new.self c.in_ok-present.present.items c.requires.least c.number_signals.ensures.given c.number_signals.ensures.each c.in_ok-present.ensures

pub returns-clause-within : goal.returns-clause-within
returns-clause-within c = lie_within c.args.kernel.now c.args.least.now c.number_signals.new.self c.in_ok-present.present.items c.requires.least c.number_signals.ensures.given c.number_signals.ensures.each c.in_ok-present.ensures
    _ refl refl c.requires.first refl
