use Rattle.sig_flow.proofs.{◌≡◌, ◌<◌, sym, arith, pos, to_z, w64, common_steps, to_z_pos, Integer, short_run}
use Rattle.sig_flow.proofs.flow_line.next_run.Goals as goal

pub returns-in-Some-clause-run : goal.returns-in-Some-clause-run
returns-in-Some-clause-run c =
    let integer : c.args.kind ≡ Integer = grind (arith, common_steps) in
    let small : c.in-Some.number < 9223372036854775808 = omega (arith, c.in-Some.ensures.number.small) in
    let same : to_z w64 c.in-Some.number ≡ pos c.in-Some.number = to_z_pos w64 c.in-Some.number small in
    rw (integer, same) (sym (short_run c.args.version c.in-Some.next.word.now c.in-Some.number c.in-Some.ensures.number))
