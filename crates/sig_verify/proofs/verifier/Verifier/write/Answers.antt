use Rattle.sig_verify.proofs.{are_of_added, written_added}
use Rattle.sig_verify.proofs.verifier.Verifier.write.Goals as goal

pub returns-clause-taken : goal.returns-clause-taken
returns-clause-taken c = λ yes. record {
  of = are_of_added c.args.self.now.diagrams c.either.new.self c.in_ok-now.ensures.next c.args.self.now.written c.keep.new.table c.requires.written c.args.y
      c.written_at-before.result c.args.guard c.in_ok-now.now c.written_at-before.ensures c.in_ok-now.ensures.value c.in_ok-keep.ensures.here c.in_ok-keep.ensures.others;
  written = written_added c.args.self.now.diagrams c.either.new.self c.in_ok-now.ensures.next c.args.self.now.written c.keep.new.table c.requires.written c.args.y
      c.written_at-before.result c.args.guard c.in_ok-now.now c.written_at-before.ensures c.in_ok-now.ensures.value c.in_ok-keep.ensures.here c.in_ok-keep.ensures.others;
}
