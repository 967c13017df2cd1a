use Rattle.sig_parse.proofs.{inr, IsOptionalOne, viewed, one_passed, one_taken}
use Rattle.sig_parse.proofs.parser.Parser.take_one.Goals as goal

pub returns-then-is_one : goal.returns-then-is_one
returns-then-is_one c = let one = one_passed c.take_number-one.result c.if-is_one.ensures c.take_number-one.ensures in
    record { reads = viewed IsOptionalOne (λ front is. inr (one.0, is)) one.1; settles = one_taken one.1 }
