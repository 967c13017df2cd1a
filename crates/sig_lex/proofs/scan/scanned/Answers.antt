use Rattle.sig_lex.proofs.{ℕ, List, subst, arith, length-drop, take_rest, IsPiece, tokens_more}
use Rattle.sig_lex.proofs.scan.scanned.Goals as goal

pub loop-start-preserved : goal.loop-start-preserved
loop-start-preserved c =
    let rest = take_rest c.args.bytes.now c.loop-start.start in
    let piece = subst (λ (l : List ℕ). IsPiece c.in_ok-piece.piece.kind l c.in_ok-piece.piece.size) rest c.in_ok-piece.ensures.piece in
    record {
      within = omega (arith, length-drop c.loop-start.start c.args.bytes.now, c.in_ok-piece.ensures.within);
      here = c.passed-at.ensures;
      so_far = tokens_more c.args.bytes.now c.loop-start.start _ _ c.loop-start.at _ _ c.loop-start.invariant.so_far piece c.loop-start.invariant.here c.in_ok-add.ensures;
    }
