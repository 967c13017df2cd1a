-- the digits so far are digits, and the value is theirs
use Rattle.sig_flow.proofs.{◌≡◌, ◌≤◌, take, AllDigits, digits_value}
use Rattle.sig_flow.proofs.digits.magnitude.Given as goal

abbrev pub invariant-loop-digit : goal.invariant-loop-digit
invariant-loop-digit l = record {
  digits : AllDigits 10 (take l.digit-index l.digits);
  value : l.value ≡ digits_value 10 (take l.digit-index l.digits);
  small : l.value ≤ 9223372036854775809;
}
