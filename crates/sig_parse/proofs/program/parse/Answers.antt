use Rattle.sig_parse.proofs.{◌≡◌, rules, IfOk, subst, Span, leaves_of, end_of, Cause, IsRefused}
use Rattle.sig_parse.proofs.program.parse.Goals as goal

pub returns-clause-accepted : goal.returns-clause-accepted
returns-clause-accepted c =
    let same : c.in_ok-to_vec.field-0.items ≡ c.args.tokens.now = search rules in
    subst (λ tokens. IfOk c.parse_owned.result (λ program. (cause : Cause) (at : Span) → IsRefused (leaves_of c.args.bytes.now tokens) (end_of tokens) cause at → ⊥)) same
    c.parse_owned.ensures.accepted
