use Rattle.sig_print.proofs.{map, [], ◌∷◌, codes, flat_map, Word, placement_of, pragma_words, reserved, on_new_line, then_word, then_words, last_word, pragmas_is}
use Rattle.sig_print.proofs.process.pragmas.Goals as goal

pub returns : goal.returns
returns c = rw (pragmas_is c.args.all.now c.if-is_empty.ensures)
    (then_word _ c.line.new.self _ _ (on_new_line Word (codes "pragmas")) _ c.in_ok-line.ensures
    (then_words _ c.each_pragma.new.words _ _ (flat_map pragma_words (map placement_of c.args.all.now)) (reserved (codes "end") ∷ reserved (codes "pragmas") ∷ []) c.in_ok-each_pragma.ensures
    (then_word _ c.word.new.self _ _ (reserved (codes "end")) (reserved (codes "pragmas") ∷ []) c.in_ok-word.ensures
    (last_word _ _ _ (reserved (codes "pragmas")) c.word-2.ensures))))
