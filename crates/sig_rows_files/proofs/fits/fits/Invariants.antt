use Rattle.std.proofs.Common.{◌≡◌, ◌<◌, ℕ, [], Some}
use Rattle.std.specs.List.{AllPass}
use Rattle.std.specs.Prelude.{slice_get, slice_index_or}
use Rattle.sig_kernel.specs.Validity.{value_is}
use Rattle.sig_file.specs.declared.images.ImageSignal.{ImageSignal}
use Rattle.sig_rows_files.proofs.fits.fits.Given as goal

abbrev pub invariant-loop-k : goal.invariant-loop-k
invariant-loop-k l = (n : ℕ) (input : ImageSignal) → n < l.k → slice_get l.signals n ≡ Some input → AllPass (value_is input.kind) (slice_index_or l.flows n [])
