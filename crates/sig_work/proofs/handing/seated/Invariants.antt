use Rattle.sig_work.proofs.{◌≡◌, ◌+◌, no_place, IsSeatOf, parts, recorded, AreSeated}
use Rattle.sig_work.proofs.handing.seated.Given as goal

abbrev pub invariant-loop : goal.invariant-loop
invariant-loop l = record {
  word : IsSeatOf l.halt l.seat;
  parts_left : parts l.seat + l.counter ≡ l.served + 1;
  none : recorded l.seat ≡ no_place;
  seated : AreSeated l.halt l.counter l.members l.shares.items;
}
