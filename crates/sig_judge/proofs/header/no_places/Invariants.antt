use Rattle.sig_judge.proofs.{◌≡◌, ℕ, None, vec_len, get_or}
use Rattle.sig_judge.proofs.header.no_places.Given as goal

abbrev pub invariant-loop : goal.invariant-loop
invariant-loop l = record {
  count : vec_len l.places ≡ l.counter;
  none : (k : ℕ) → get_or l.places.items k None ≡ None;
}
