use Rattle.sig_program.proofs.{ap, ◌∙◌, ◌++◌, take, refl, encode_utf8, writes_in_calls_nil, has_written_append, has_written_of_eq, take_all, shown, shown_more}
use Rattle.sig_program.proofs.taken.ShownDisplay.fmt.Goals as goal

pub loop-byte-init : goal.loop-byte-init
loop-byte-init g c = λ plain. record { wrote = writes_in_calls_nil _ _; plain = plain }

pub loop-byte-preserved : goal.loop-byte-preserved
loop-byte-preserved g c = λ plain.
    let before = c.loop-byte.invariant plain in
    has_written_of_eq _ _ _ _ _ (ap (λ n. shown (take c.loop-byte.byte-index c.args.self.now.bytes.now) ++ encode_utf8 n) c.from.ensures ∙ shown_more c.args.self.now.bytes.now c.loop-byte.byte-index 0 c.loop-byte-test.true)
    (has_written_append _ _ _ _ _ _ before (c.in_ok-write_char.ensures.writes before.plain refl))

pub returns-clause-writes : goal.returns-clause-writes
returns-clause-writes g c = λ plain _. has_written_of_eq _ _ _ _ _ (ap shown (take_all _ c.args.self.now.bytes.now c.loop-byte-test.false)) (c.loop-byte.invariant plain)
