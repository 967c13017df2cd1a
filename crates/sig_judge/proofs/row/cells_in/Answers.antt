use Rattle.sig_judge.proofs.{◌≡◌, ◌+◌, ◌++◌, ◌∙◌, [], ◌∷◌, length, ap, arith, rules, length-append, word_of, words_behind, words_from, cells_on, said_on}
use Rattle.sig_judge.proofs.row.cells_in.Goals as goal

pub loop-next-preserved : goal.loop-next-preserved
loop-next-preserved c =
    let was = c.loop-next.invariant in
    let pushed : c.push.new.self.items ≡ c.loop-next.cells.items ++ c.in_ok-cell_in.field-0 ∷ [] = search rules in
    let size : length c.push.new.self.items ≡ length c.loop-next.cells.items + 1 = ap length pushed ∙ length-append c.loop-next.cells.items (c.in_ok-cell_in.field-0 ∷ []) in
    let before : c.len.result ≡ length c.loop-next.cells.items = search rules in
    let place : c.len-in-Some.result ≡ length c.loop-next.cells.items = search rules in
    let words : length (words_from c.loop-next.col c.loop-next.rest.now) ≡ length (words_behind c.in-Some.next) + 1 = ap length c.in-Some.ensures.word ∙ omega arith in
    let good = c.in_ok-cell_in.ensures in
    record {
      within = omega (arith, c.in-Some.ensures.within, was.within);
      few = omega (arith, size, before, good.2);
      width = omega (arith, size, words, was.width);
      judged = cells_on c.args.kinds.now c.loop-next.cells.items c.push.new.self.items c.in_ok-cell_in.field-0 (words_from c.loop-next.col c.loop-next.rest.now) (word_of c.in-Some.next) (words_behind c.in-Some.next) pushed (omega (arith, words, was.width)) c.in-Some.ensures.word c.args.place.number c.args.place.before c.len.result c.len-in-Some.result before place good.0 ∙ was.judged;
      read = said_on c.args.kinds.now c.loop-next.cells.items c.push.new.self.items c.in_ok-cell_in.field-0 (words_from c.loop-next.col c.loop-next.rest.now) (word_of c.in-Some.next) (words_behind c.in-Some.next) pushed (omega (arith, words, was.width)) c.in-Some.ensures.word c.len-in-Some.result place good.1 ∙ was.read;
    }
