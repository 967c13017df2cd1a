-- the bytes so far are digits, and the value is theirs
use Rattle.sig_flow.proofs.{◌≡◌, ◌<◌, ℕ, take, get_or, false, AllDigits, digits_value, is_blank}
use Rattle.sig_flow.proofs.word.short_number_in.Given as goal

abbrev pub invariant-loop-i : goal.invariant-loop-i
invariant-loop-i l = record {
  digits : AllDigits 10 (take l.i l.line);
  value : l.value ≡ digits_value 10 (take l.i l.line);
  small : l.value < 1000000000000000000;
  word : (k : ℕ) → k < l.i → is_blank (get_or l.line k 0) ≡ false;
}
