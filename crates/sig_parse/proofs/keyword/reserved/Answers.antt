use Rattle.sig_parse.proofs.{below_more, ap, sym, ◌∙◌, arith, word, word_at, word_said}
use lib.Pointwise.{bytes_decides}
use Rattle.sig_parse.proofs.keyword.reserved.Goals as goal

pub returns-then-eq : goal.returns-then-eq
returns-then-eq c = word_said c.loop-keyword.keyword-index _ c.loop-keyword-test.true
    ∙ ap word (sym c.spelling.ensures ∙ (bytes_decides _ _).0 (sym c.eq.ensures ∙ c.if-eq.true))

pub loop-keyword-preserved : goal.loop-keyword-preserved
loop-keyword-preserved c = below_more _ _ c.loop-keyword.invariant
    (λ e. cc (
      (bytes_decides c.spelling.result.now c.args.text.now).1
          (c.spelling.ensures ∙ sym (word_at c.loop-keyword.keyword-index _ c.args.text.now c.loop-keyword-test.true) ∙ e),
      c.eq.ensures,
      c.if-eq.false,
    ))

pub unreachable-requires : goal.unreachable-requires
unreachable-requires c = c.loop-keyword.invariant c.requires.0 (omega (arith, c.requires.1, c.loop-keyword-test.false)) c.requires.2
