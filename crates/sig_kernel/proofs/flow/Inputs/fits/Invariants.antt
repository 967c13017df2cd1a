use Rattle.sig_kernel.proofs.{◌≡◌, ℕ, ◌<◌, [], true, slice_index_or, list_all, Signal, value_is}
use Rattle.sig_kernel.proofs.flow.Inputs.fits.Given as goal

abbrev pub invariant-loop-i : goal.invariant-loop-i
invariant-loop-i l = (k : ℕ) (input : Signal) → k < l.i → list_all (value_is (slice_index_or l.inputs k input).kind) (slice_index_or l.flows k []) ≡ true
