use Rattle.sig_print.proofs.{map, [], ◌∷◌, codes, ◌++◌, Word, declared_of, groups_words, params_words, mark, name, on_new_line, then_word, then_words, last_word, heading_is, out-Process}
use Rattle.sig_print.proofs.process.heading.Goals as goal

pub returns : goal.returns
returns c =
    let p = out-Process c.args.one.now in
    let ws = params_words (map declared_of p.params.items) in
    let ins = groups_words (map declared_of p.inputs.items) in
    let outs = groups_words (map declared_of p.outputs.items) in
    let last = mark (codes ")") ∷ [] in
    rw heading_is
    (then_word _ c.line.new.self _ _ (on_new_line Word (codes "process")) (name p.name ∷ mark (codes "=") ∷ (ws ++ mark (codes "(") ∷ mark (codes "?") ∷ (ins ++ mark (codes "!") ∷ (outs ++ last)))) c.in_ok-line.ensures
    (then_word _ c.word.new.self _ _ (name p.name) (mark (codes "=") ∷ (ws ++ mark (codes "(") ∷ mark (codes "?") ∷ (ins ++ mark (codes "!") ∷ (outs ++ last)))) (rw (← c.as_bytes.ensures) c.in_ok-word.ensures)
    (then_word _ c.word-2.new.self _ _ (mark (codes "=")) (ws ++ mark (codes "(") ∷ mark (codes "?") ∷ (ins ++ mark (codes "!") ∷ (outs ++ last))) c.in_ok-word-2.ensures
    (then_words _ c.params.new.words _ _ ws (mark (codes "(") ∷ mark (codes "?") ∷ (ins ++ mark (codes "!") ∷ (outs ++ last))) (rw (← c.deref.ensures.value) c.in_ok-params.ensures)
    (then_word _ c.word-3.new.self _ _ (mark (codes "(")) (mark (codes "?") ∷ (ins ++ mark (codes "!") ∷ (outs ++ last))) c.in_ok-word-3.ensures
    (then_word _ c.word-4.new.self _ _ (mark (codes "?")) (ins ++ mark (codes "!") ∷ (outs ++ last)) c.in_ok-word-4.ensures
    (then_words _ c.groups.new.words _ _ ins (mark (codes "!") ∷ (outs ++ last)) (rw (← c.deref-2.ensures.value) c.in_ok-groups.ensures)
    (then_word _ c.word-5.new.self _ _ (mark (codes "!")) (outs ++ last) c.in_ok-word-5.ensures
    (then_words _ c.groups-2.new.words _ _ outs last (rw (← c.deref-3.ensures.value) c.in_ok-groups-2.ensures)
    (last_word _ _ _ (mark (codes ")")) c.word-6.ensures))))))))))
