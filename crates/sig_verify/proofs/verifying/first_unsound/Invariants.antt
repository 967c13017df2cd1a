-- The operations so far are sound, and were taken in.
use Rattle.sig_verify.proofs.{ℕ, ◌<◌, IsKnown, IsSoundAt}
use Rattle.sig_verify.proofs.verifying.first_unsound.Given as goal

abbrev pub invariant-loop-n : goal.invariant-loop-n
invariant-loop-n l = record {
  known : IsKnown l.image l.n l.verifier;
  sound : (m : ℕ) → m < l.n → IsSoundAt l.image m;
}
