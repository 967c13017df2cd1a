use Rattle.sig_print.proofs.{rules, map, ◌∷◌, codes, ap, ◌∙◌, Mark, equations_of, body_list_words, body_words, left_words, mark, on_new_line, joined, then_word, then_words, last_word, further_step, each_end, together_words}
use Rattle.sig_print.proofs.equation.+body.Goals as goal

pub all_bodies-loop-one-preserved : goal.all_bodies-loop-one-preserved
all_bodies-loop-one-preserved t c = further_step (λ b. body_words (equations_of b)) (on_new_line Mark (codes "|")) _ _ _ _ c.in-Some.rest.now _ c.one-item.result
    c.one-item.is (search rules) c.loop-one.invariant c.in_ok-line-in-Some.ensures c.in_ok-body-in-Some-2.ensures

pub all_bodies-returns-after-loop-one : goal.all_bodies-returns-after-loop-one
all_bodies-returns-after-loop-one t c = rw c.in-Some.ensures.cases.0 (joined _ _ _ (body_words (equations_of c.in-Some.first.now)) _ c.in_ok-body-in-Some.ensures
    (each_end (λ b. on_new_line Mark (codes "|") ∷ body_words b) equations_of _ _ c.in-Some.rest.now _ c.loop-one-test.false c.loop-one.invariant))

pub body-returns-in_ok-all_bodies-in-All : goal.body-returns-in_ok-all_bodies-in-All
body-returns-in_ok-all_bodies-in-All t c = rw (ap (λ b. body_words (equations_of b)) c.in-All.is ∙ together_words c.in-All.bodies)
    (then_word _ c.line.new.self _ _ (on_new_line Mark (codes "(|")) _ c.in_ok-line-in-All.ensures
    (then_words _ c.all_bodies.new.words _ _ (body_list_words (map equations_of c.in-All.bodies.items)) _ (rw (← c.deref.ensures.value) c.in_ok-all_bodies-in-All.ensures)
    (last_word _ _ _ (on_new_line Mark (codes "|)")) c.line-in-All.ensures)))

pub body-returns-in_ok-word-in-Def : goal.body-returns-in_ok-word-in-Def
body-returns-in_ok-word-in-Def t c = rw c.in-Def.is
    (then_words _ c.left_side.new.words _ _ (left_words c.in-Def.left.items) _ (rw (← c.deref-in-Def.ensures.value) c.in_ok-left_side-in-Def.ensures)
    (then_word _ c.word.new.self _ _ (mark (codes ":=")) _ c.in_ok-word-in-Def.ensures c.right_side.ensures))
