use Rattle.sig_parse.proofs.{map, expression_of, call, handed, call_begun, call_constants_refused, call_arguments_refused, call_is_named, call_opens_behind, same_count, starts_and_stops, right_settles_call, covered}
use Rattle.sig_parse.proofs.sides.call.Goals as goal

pub returns-clause-reads : goal.returns-clause-reads
returns-clause-reads c = call c.args.depth c.in_ok-name.name c.in_ok-values.values.items (map expression_of c.in_ok-arguments.arguments.items)
    c.in_ok-name.ensures.reads c.in_ok-values.ensures.reads c.in_ok-arguments.ensures.reads

pub returns-in_err-name-clause-refuses : goal.returns-in_err-name-clause-refuses
returns-in_err-name-clause-refuses c = handed _ _ _ c.from_residual.ensures (λ few begins text. absurd (starts_and_stops _ _ (call_is_named _ begins) (c.in_err-name.ensures.missing text).1))

pub returns-in_err-values-clause-refuses : goal.returns-in_err-values-clause-refuses
returns-in_err-values-clause-refuses c = let named = c.in_ok-name.ensures.reads in
    handed _ _ _ c.from_residual-in_err-values.ensures (λ few begins text.
    call_constants_refused c.args.depth c.args.parser.now.operators few (call_begun c.args.depth c.args.parser.now.operators c.in_ok-name.name named (call_opens_behind c.in_ok-name.name begins named)) _ _ (c.in_err-values.ensures.refuses text))

pub returns-in_err-arguments-clause-refuses : goal.returns-in_err-arguments-clause-refuses
returns-in_err-arguments-clause-refuses c =
    let named = c.in_ok-name.ensures.reads in
    let values = c.in_ok-values.ensures.reads in
    handed _ _ _ c.from_residual-in_err-arguments.ensures (λ few begins text.
    call_arguments_refused c.args.depth c.args.parser.now.operators c.in_ok-values.values.items
    (call_begun c.args.depth c.args.parser.now.operators c.in_ok-name.name named (call_opens_behind c.in_ok-name.name begins named)) values c.in_ok-values.ensures.settles _ _
    (same_count c.args.depth named values (c.in_err-arguments.ensures.refuses (values.few (named.few few)) text)))

pub returns-clause-settles : goal.returns-clause-settles
returns-clause-settles c = right_settles_call c.args.depth c.args.parser.now.operators c.in_ok-name.name c.in_ok-values.values.items (map expression_of c.in_ok-arguments.arguments.items)
    (covered (call c.args.depth c.in_ok-name.name c.in_ok-values.values.items (map expression_of c.in_ok-arguments.arguments.items) c.in_ok-name.ensures.reads c.in_ok-values.ensures.reads c.in_ok-arguments.ensures.reads))
