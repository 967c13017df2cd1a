use Rattle.sig_print.proofs.{map, codes, declared_of, groups_words, mark, then_word, then_words, last_word, params_is}
use Rattle.sig_print.proofs.process.params.Goals as goal

pub returns : goal.returns
returns c = rw (params_is c.args.all.now c.if-is_empty.ensures)
    (then_word _ c.word.new.self _ _ (mark (codes "{")) _ c.in_ok-word.ensures
    (then_words _ c.groups.new.words _ _ (groups_words (map declared_of c.args.all.now)) _ c.in_ok-groups.ensures
    (last_word _ _ _ (mark (codes "}")) c.word-2.ensures)))
