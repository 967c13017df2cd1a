use Rattle.sig_cells.proofs.{not, refl, Test, both_hold, test_with_told}
use Rattle.sig_cells.proofs.tests.test_with_two.Goals as goal

pub returns-in-Both : goal.returns-in-Both
returns-in-Both c =
    let second = c.in-Both.second in
    let third = c.in-Both.third in
    let whole = c.test_of_three in
    rw c.in-Both.is
    (test_with_told c.args.joined (Test.Both second third) whole.result (λ registers. both_hold second third registers) (λ registers. refl)
    (λ count first others. whole.ensures.asks count first others.0 others.1) whole.ensures.tells)

pub returns-in-NotBoth : goal.returns-in-NotBoth
returns-in-NotBoth c =
    let second = c.in-NotBoth.second in
    let third = c.in-NotBoth.third in
    let whole = c.test_of_three-in-NotBoth in
    rw c.in-NotBoth.is
    (test_with_told c.args.joined (Test.NotBoth second third) whole.result (λ registers. not (both_hold second third registers)) (λ registers. refl)
    (λ count first others. whole.ensures.asks count first others.0 others.1) whole.ensures.tells)
