use Rattle.sig_lex.proofs.{inl, refl, iff_false, two_bytes, one_byte, no_mark, piece_is}
use Rattle.sig_lex.proofs.piece.mark.Goals as goal

pub returns-then-begins_with_mark-clause-piece : goal.returns-then-begins_with_mark-clause-piece
returns-then-begins_with_mark-clause-piece c =
    let pair = c.begins_with_mark.ensures.0 c.if-begins_with_mark.true in
    piece_is _ _ _ _ _ c.token.ensures.kind c.token.ensures.size (two_bytes _ pair.0 pair.1)

pub returns-then-begins_with_mark-2-clause-piece : goal.returns-then-begins_with_mark-2-clause-piece
returns-then-begins_with_mark-2-clause-piece c =
    let single = c.begins_with_mark-else-begins_with_mark.ensures.0 c.if-begins_with_mark-2.true in
    piece_is _ _ _ _ _ c.token-then-begins_with_mark-2.ensures.kind c.token-then-begins_with_mark-2.ensures.size (one_byte _ single.0 (λ within listed. iff_false c.begins_with_mark.ensures c.if-begins_with_mark.false (within, listed)) single.1)

pub returns-else-begins_with_mark-2-clause-fault : goal.returns-else-begins_with_mark-2-clause-fault
returns-else-begins_with_mark-2-clause-fault c = (
  refl,
  inl (record {
    other = c.requires;
    no_mark = no_mark _ (λ within listed. iff_false c.begins_with_mark.ensures c.if-begins_with_mark.false (within, listed)) (λ listed. iff_false c.begins_with_mark-else-begins_with_mark.ensures c.if-begins_with_mark-2.false (c.requires.there, listed));
  }),
)
