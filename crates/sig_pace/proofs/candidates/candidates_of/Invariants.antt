use Rattle.sig_pace.proofs.{◌≡◌, ℕ, length, get_or, None, Some, slice_get, IsRefOf, IsStore, Keeps, Share, reactions_in, variables_of, Candidate}
use Rattle.sig_pace.proofs.candidates.candidates_of.Given as goal

abbrev pub invariant-loop-signal : goal.invariant-loop-signal
invariant-loop-signal l = record {
  store : IsStore l.store;
  kept : Keeps l.fn.store l.store;
  count : length l.candidates.items ≡ l.signal-index;
  each : (k : ℕ) (c : Candidate) → slice_get l.candidates.items k ≡ Some c → (c.signal ≡ get_or l.signals k 0) × IsRefOf l.store.nodes (reactions_in l.fn.store.nodes l.asked c.signal) c.reactions;
  share : Share l.signal-index (variables_of l.asked.system) l.fn.store l.store None;
}
