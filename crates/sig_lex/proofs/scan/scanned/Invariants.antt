use Rattle.sig_lex.proofs.{◌≡◌, ◌-◌, ◌≤◌, length, take, place_after, AreTokensTo}
use Rattle.sig_lex.proofs.scan.scanned.Given as goal

abbrev pub invariant-loop-start : goal.invariant-loop-start
invariant-loop-start l = record {
  within : l.start ≤ length l.bytes;
  here : l.at ≡ place_after (take l.start l.bytes);
  so_far : AreTokensTo l.bytes l.start l.tokens.items;
}

abbrev pub decreases-loop-start : goal.decreases-loop-start
decreases-loop-start l = length l.bytes - l.start
