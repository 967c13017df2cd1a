use Rattle.sig_play_command.proofs.{List, ℕ, arith, subst, slice_get, err_from_is_err_and, more_of_lines, part_of_lines, link_there, link_line, TookPrefix}
use Rattle.sig_play_command.proofs.state.put_links.Goals as goal

pub returns-in_err-put_link-clause-prefix : goal.returns-in_err-put_link-clause-prefix
returns-in_err-put_link-clause-prefix g c =
    let p = err_from_is_err_and c.from_residual.result c.from_residual.ensures.1 in
    rw p.1 (λ m shows.
    let there = link_there (slice_get m.links c.loop-j.j) c.in-Some.items (c.in-Some.ensures m shows) in
    part_of_lines g.S.Sink.took g.met.S.Sink.took_both link_line c.loop-j.j m.links there.0 there.1 c.args.out.now c.loop-j.out c.put_link.new.out (c.loop-j.invariant.taken m shows)
    (subst (λ (bytes : List ℕ). TookPrefix g.S.Sink.took c.loop-j.out bytes c.put_link.new.out) (there.2 c.loop-j.j) c.in_err-put_link.ensures.prefix))

pub loop-j-preserved : goal.loop-j-preserved
loop-j-preserved g c = record {
  taken = λ m shows.
      let there = link_there (slice_get m.links c.loop-j.j) c.in-Some.items (c.in-Some.ensures m shows) in
      more_of_lines g.S.Sink.took g.met.S.Sink.took_both link_line c.loop-j.j m.links there.0 there.1 c.args.out.now c.loop-j.out c.put_link.new.out (c.loop-j.invariant.taken m shows)
      (subst (λ (bytes : List ℕ). g.S.Sink.took c.loop-j.out bytes c.put_link.new.out) (there.2 c.loop-j.j) c.in_ok-put_link.ensures.whole);
  faults = omega (arith, c.loop-j.invariant.faults, c.in_ok-put_link.ensures.faults_stay);
}
