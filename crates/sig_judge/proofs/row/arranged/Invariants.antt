use Rattle.sig_judge.proofs.{◌≡◌, None, map, take, get_or, seen_of}
use Rattle.sig_judge.proofs.row.arranged.Given as goal

abbrev pub invariant-loop-column : goal.invariant-loop-column
invariant-loop-column l = map seen_of l.seen.items ≡ map (λ column. get_or (map seen_of l.cells) column None) (take l.column-index l.columns)
