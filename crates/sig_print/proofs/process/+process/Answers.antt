use Rattle.sig_print.proofs.{rules, map, [], ◌∷◌, codes, ◌≡◌, ◌++◌, flat_map, Word, declared_of, placement_of, model_of, equations_of, body_words, heading_in, heading_words, local_words, pragmas_words, process_words, where_words, mark, reserved, on_new_line, then_word, then_words, last_word, each_step, each_end, process_is, where_of_group, where_of_inner, shown_where, out-Process}
use Rattle.sig_print.proofs.process.+process.Goals as goal
use Rattle.sig_print.proofs.process.+process.Goals.{declarations-else-is_empty-via-then-is_empty+else-is_empty-2, declarations-else-is_empty-via-else-is_empty}

pub processes-loop-one-preserved : goal.processes-loop-one-preserved
processes-loop-one-preserved t c = each_step (λ p. process_words (model_of p)) _ _ _ c.args.all.now _ c.one-item.result
    c.one-item.is (search rules) c.loop-one.invariant c.in_ok-process.ensures

pub processes-returns : goal.processes-returns
processes-returns t c = each_end process_words model_of _ _ c.args.all.now _ c.loop-one-test.false c.loop-one.invariant

pub process-returns : goal.process-returns
process-returns t c =
    let p = out-Process c.args.one.now in
    let ws = where_words (map declared_of p.locals.items) (flat_map process_words (map model_of p.inner.items)) in
    let last = mark (codes ";") ∷ [] in
    rw (process_is c.args.one.now)
    (then_words _ c.heading.new.words _ _ (heading_words (heading_in (model_of c.args.one.now))) (pragmas_words (map placement_of p.run_on.items) ++ (body_words (equations_of p.body) ++ (ws ++ last))) c.in_ok-heading.ensures
    (then_words _ c.pragmas.new.words _ _ (pragmas_words (map placement_of p.run_on.items)) (body_words (equations_of p.body) ++ (ws ++ last)) (rw (← c.deref.ensures.value) c.in_ok-pragmas.ensures)
    (then_words _ c.body.new.words _ _ (body_words (equations_of p.body)) (ws ++ last) c.in_ok-body.ensures
    (then_words _ c.declarations.new.words _ _ ws last (rw (← c.deref-2.ensures.value, ← c.deref-3.ensures.value) c.in_ok-declarations.ensures)
    (last_word _ _ _ (mark (codes ";")) c.word.ensures)))))

pub declarations-returns : goal.declarations-returns
declarations-returns t c =
    let inner = flat_map process_words (map model_of c.args.inner.now) in
    let shown : where_words (map declared_of c.args.groups.now) inner ≡ shown_where c.args.groups.now inner = elim c.else-is_empty.branch [
      | declarations-else-is_empty-via-then-is_empty+else-is_empty-2 w ↦ where_of_inner c.args.groups.now c.args.inner.now w.if-is_empty-2.ensures
      | declarations-else-is_empty-via-else-is_empty w ↦ where_of_group c.args.groups.now inner w.if-is_empty.ensures
    ] in
    rw shown (then_word _ c.line.new.self _ _ (on_new_line Word (codes "where")) (local_words (map declared_of c.args.groups.now) ++ (inner ++ reserved (codes "end") ∷ [])) c.in_ok-line.ensures
    (then_words _ c.locals.new.words _ _ (local_words (map declared_of c.args.groups.now)) (inner ++ reserved (codes "end") ∷ []) c.in_ok-locals.ensures
    (then_words _ c.processes.new.words _ _ inner (reserved (codes "end") ∷ []) c.in_ok-processes.ensures
    (last_word _ _ _ (reserved (codes "end")) c.word.ensures))))
