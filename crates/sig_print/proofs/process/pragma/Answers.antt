use Rattle.sig_print.proofs.{[], ◌∷◌, codes, ◌++◌, names_words, after_blank, mark, label, then_word, then_words, last_word}
use Rattle.sig_lex.specs.declared.token.TokenKind.TheVariants.{Name}
use Rattle.sig_print.proofs.process.pragma.Goals as goal

pub returns : goal.returns
returns c =
    let close = mark (codes "}") ∷ label c.args.one.now.label ∷ [] in
    then_word _ c.word.new.self _ _ (after_blank Name (codes "RunOn")) (mark (codes "{") ∷ (names_words c.args.one.now.names.items ++ close)) c.in_ok-word.ensures
    (then_word _ c.word-2.new.self _ _ (mark (codes "{")) (names_words c.args.one.now.names.items ++ close) c.in_ok-word-2.ensures
    (then_words _ c.names.new.words _ _ (names_words c.args.one.now.names.items) close (rw (← c.deref.ensures.value) c.in_ok-names.ensures)
    (then_word _ c.word-3.new.self _ _ (mark (codes "}")) (label c.args.one.now.label ∷ []) c.in_ok-word-3.ensures
    (last_word _ _ _ (label c.args.one.now.label) (rw (← c.as_bytes.ensures) c.label.ensures)))))
