use Rattle.sig_verify.proofs.{◌≡◌, true, false, arith, all_sound, first_found, one_more}
use Rattle.sig_verify.proofs.verifying.first_unsound.Goals as goal

pub returns-then-not-sound-clause-verdict : goal.returns-then-not-sound-clause-verdict
returns-then-not-sound-clause-verdict c =
    first_found c.args.image.now c.loop-n.n (omega arith)
    (λ sound. let held : c.in_ok-sound.sound ≡ true = c.in_ok-sound.ensures.value.1 sound in let never : c.in_ok-sound.sound ≡ false = c.if-not-sound.true in absurd cc)
    c.loop-n.invariant.sound

pub loop-n-preserved : goal.loop-n-preserved
loop-n-preserved c = record {
  known = c.in_ok-sound.ensures.known c.if-not-sound.false;
  sound = one_more c.args.image.now c.loop-n.n c.loop-n.invariant.sound (c.in_ok-sound.ensures.value.0 c.if-not-sound.false);
}

pub returns-clause-verdict : goal.returns-clause-verdict
returns-clause-verdict c = all_sound c.args.image.now c.loop-n.n (omega arith) c.loop-n.invariant.sound
