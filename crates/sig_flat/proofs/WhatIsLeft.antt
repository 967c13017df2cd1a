-- What is left of a list, as it is gone through.
use Rattle.sig_flat.proofs.Common.{◌++◌, List, Option, None, Some, SigId, Span, Made, Together, with_syncs, with_all_syncs}

-- each of these and the next one, and what stands before them and the first
abbrev pub syncs_after : Option SigId → List (SigId × Span) → Made → Made
syncs_after None signals made = with_all_syncs signals made
syncs_after (Some first) signals made = with_syncs first signals made

-- more signals before those that are there
abbrev pub behind : List (SigId × Span) → Together → Together
behind signals rest = record { signals = signals ++ rest.signals; made = rest.made }
