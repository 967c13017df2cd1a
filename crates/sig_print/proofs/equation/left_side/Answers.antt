use Rattle.sig_print.proofs.{[], ◌∷◌, codes, ◌≡◌, length, List, ◌++◌, refl, left_words, names_words, mark, then_word, then_words, last_word, Name as TreeName}
use Rattle.sig_print.proofs.equation.left_side.Goals as goal

several : (names : List TreeName) → (length names ≡ 1 → ⊥) → left_words names ≡ mark (codes "(") ∷ (names_words names ++ mark (codes ")") ∷ [])
several (n ∷ []) h = absurd (h refl)
several _ h = refl

pub returns-in_ok-names : goal.returns-in_ok-names
returns-in_ok-names c = rw (several c.args.left.now c.if-left-eq1.false) (then_word _ c.word.new.self _ _ (mark (codes "(")) _ c.in_ok-word.ensures
    (then_words _ c.names-else-left-eq1.new.words _ _ (names_words c.args.left.now) _ c.in_ok-names.ensures
    (last_word _ _ _ (mark (codes ")")) c.word-else-left-eq1.ensures)))
