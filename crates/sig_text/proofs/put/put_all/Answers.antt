use Rattle.std.proofs.Common.{ℕ, arith, length-drop}
use Rattle.std.proofs.lemmas.List.{length-take}
use Rattle.sig_text.proofs.Taken.{took-more, took-front, took-part}
use Rattle.sig_text.proofs.put.put_all.Goals as goal

pub loop-put-preserved : goal.loop-put-preserved
loop-put-preserved g c = record {
  within = omega (arith, c.in-Took.ensures.bound, length-drop {A = ℕ}, length-take {A = ℕ});
  taken = took-more _ g.met.S.Sink.took_both _ _ _ _ _ _ c.loop-put.invariant.taken c.in-Took.ensures.bytes;
  faults = omega arith;
}

pub returns-in-Failed-clause-prefix : goal.returns-in-Failed-clause-prefix
returns-in-Failed-clause-prefix g c =
    took-front _ g.met.S.Sink.took_both _ _ _ _ _ c.loop-put.invariant.taken c.in-Failed.ensures.bytes

pub returns-in-Took-eq0-clause-prefix : goal.returns-in-Took-eq0-clause-prefix
returns-in-Took-eq0-clause-prefix g c =
    took-part _ g.met.S.Sink.took_both _ _ _ _ _ _ c.loop-put.invariant.taken c.in-Took-eq0.ensures.bytes
