use Rattle.std.proofs.Common.{◌≡◌, ◌≤◌, ◌-◌, vec_len}
use Rattle.std.specs.Io.KnownBytes.{Consumes}
use Rattle.sig_text.proofs.read.read_through.Given as goal

abbrev pub invariant-loop-bytes : goal.invariant-loop-bytes
invariant-loop-bytes g l = record {
  within : vec_len l.bytes ≤ l.limit;
  bytes : Consumes (g.F.Files.rest l.initial.files) (g.F.Files.rest l.files) l.bytes.items;
  at_stays : g.F.Files.at l.files ≡ g.F.Files.at l.initial.files;
  contents_stay : g.F.Files.contents l.files ≡ g.F.Files.contents l.initial.files;
  faults_stay : g.F.Files.faults l.initial.files ≤ g.F.Files.faults l.files;
  misses_stay : g.F.Files.misses l.initial.files ≤ g.F.Files.misses l.files;
}

abbrev pub decreases-loop-bytes : goal.decreases-loop-bytes
decreases-loop-bytes g l = l.limit - vec_len l.bytes
