use Rattle.sig_play_command.proofs.{List, ℕ, arith, subst, slice_get, err_from_is_err_and, more_of_lines, part_of_lines, actor_there, actor_line, TookPrefix}
use Rattle.sig_play_command.proofs.state.put_actors.Goals as goal

pub returns-in_err-put_actor-clause-prefix : goal.returns-in_err-put_actor-clause-prefix
returns-in_err-put_actor-clause-prefix g c =
    let p = err_from_is_err_and c.from_residual.result c.from_residual.ensures.1 in
    rw p.1 (λ m shows.
    let there = actor_there (slice_get m.actors c.loop-k.k) c.in-Some.state (c.in-Some.ensures m shows) in
    part_of_lines g.S.Sink.took g.met.S.Sink.took_both actor_line c.loop-k.k m.actors there.0 there.1 c.args.out.now c.loop-k.out c.put_actor.new.out (c.loop-k.invariant.taken m shows)
    (subst (λ (bytes : List ℕ). TookPrefix g.S.Sink.took c.loop-k.out bytes c.put_actor.new.out) (there.2 c.loop-k.k) c.in_err-put_actor.ensures.prefix))

pub loop-k-preserved : goal.loop-k-preserved
loop-k-preserved g c = record {
  taken = λ m shows.
      let there = actor_there (slice_get m.actors c.loop-k.k) c.in-Some.state (c.in-Some.ensures m shows) in
      more_of_lines g.S.Sink.took g.met.S.Sink.took_both actor_line c.loop-k.k m.actors there.0 there.1 c.args.out.now c.loop-k.out c.put_actor.new.out (c.loop-k.invariant.taken m shows)
      (subst (λ (bytes : List ℕ). g.S.Sink.took c.loop-k.out bytes c.put_actor.new.out) (there.2 c.loop-k.k) c.in_ok-put_actor.ensures.whole);
  faults = omega (arith, c.loop-k.invariant.faults, c.in_ok-put_actor.ensures.faults_stay);
}
