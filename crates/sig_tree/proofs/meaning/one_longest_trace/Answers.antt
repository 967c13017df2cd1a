use Rattle.sig_tree.proofs.{IsProcessTrace, longest_within}
use Rattle.sig_tree.proofs.meaning.one_longest_trace.Goals as goal

pub returns : goal.returns
returns c = λ flat flows limit t u a b. c.reduced_traces.ensures.prefixes t u
    (longest_within (IsProcessTrace flat) c.reduced_traces.ensures.same flows limit t u a b)
    (longest_within (IsProcessTrace flat) c.reduced_traces.ensures.same flows limit u t b a)
