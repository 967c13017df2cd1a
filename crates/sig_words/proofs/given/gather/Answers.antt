use Rattle.sig_words.proofs.{◌∙◌, ap, inl, inr, err_from_is_err_and, is_simple_and_free, found_of, app_of, is_simple, rows_of, texts, said_by, simple, simple_and_free, strings, not_parsed, parsed}
use Rattle.sig_words.proofs.given.gather.Goals as goal

-- the words are not parsed
pub returns-in_err-matches-clause-refused : goal.returns-in_err-matches-clause-refused
returns-in_err-matches-clause-refused c =
    let p = err_from_is_err_and c.from_residual-in_err-matches.result c.from_residual-in_err-matches.ensures.1 in
    let line = c.in_ok-line.ensures in
    let kinds = c.in_err-matches.ensures.kinds (ap is_simple_and_free line ∙ simple_and_free) in
    let why = not_parsed (app_of c.in_ok-line.line) (texts c.args.words.now) c.in_err-matches.field-0.0 line (strings c.args.words.now) kinds in
    rw p.1 (elim p.2 [
      | inl memory ↦ inl memory.1
      | inr refused ↦ elim why [ inl memory ↦ absurd (refused.0 memory) | inr none ↦ inr none ]
    ])

-- they are
pub returns-clause-given : goal.returns-clause-given
returns-clause-given c =
    let line = c.in_ok-line.ensures in
    parsed (app_of c.in_ok-line.line) (texts c.args.words.now) (rows_of (found_of c.in_ok-matches.matches)) (said_by c.in_ok-of_matches.field-0) line
    (strings c.args.words.now) (c.in_ok-matches.ensures.kinds (ap is_simple_and_free line ∙ simple_and_free))
    (c.in_ok-matches.ensures.matches (ap is_simple line ∙ simple)).0 c.in_ok-of_matches.ensures
