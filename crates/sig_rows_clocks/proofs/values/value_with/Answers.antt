use Rattle.std.proofs.Common.{◌<◌, length, All, subst}
use Rattle.std.proofs.lemmas.List.Elements.{All-contains}
use Rattle.sig_rows_clocks.proofs.values.value_with.Goals as goal

-- each variable on which the function depends is in its support, which was tested
pub eval-requires-clause-told : goal.eval-requires-clause-told
eval-requires-clause-told g c v depends =
    All-contains (λ u. u < length c.args.truths.now) c.in_ok-variables.variables.items v
    (subst (All (λ u. u < length c.args.truths.now)) c.as_slice.ensures.value (c.all_below.ensures.0 c.if-all_below.true))
    ((c.in_ok-variables.ensures.exact v).1 depends)
