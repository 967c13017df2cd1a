-- the places so far are there
use Rattle.sig_judge.proofs.{◌≡◌, Some, map, take}
use Rattle.sig_judge.proofs.header.columns_of.Given as goal

abbrev pub invariant-loop-place : goal.invariant-loop-place
invariant-loop-place l = map Some l.columns.items ≡ take l.place-index l.places
