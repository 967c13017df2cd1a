-- What is wrong with a header.
use Rattle.sig_judge.proofs.Common.{◌≡◌, true, false, List, None, Some, refl, list_all, Signal, is_line_byte, Start, BadHeader, header_line, header_fault, is_header, names_in}

pub no_header : (signals : List Signal) (start : Start) → list_all is_line_byte start.line.now ≡ true → is_header signals (names_in (header_line start)) ≡ false → header_fault signals (header_line start) ≡ Some (BadHeader start.number)
no_header signals start clean bad = rw (clean, bad) refl

pub good_header : (signals : List Signal) (start : Start) → list_all is_line_byte start.line.now ≡ true → is_header signals (names_in (header_line start)) ≡ true → header_fault signals (header_line start) ≡ None
good_header signals start clean good = rw (clean, good) refl
