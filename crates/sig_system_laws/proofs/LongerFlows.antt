-- What is reached over flows and within limits is reached over longer flows and within higher limits.
use Rattle.sig_system_laws.proofs.Common.{◌≤◌, ◌++◌, ◌∷◌, ℕ, ℤ, List, [], arith, slice_index_or, IsPrefixOf, prefix_of_prefix, flow_of, Given, IsReached, Outside, Output, Source, State, carried, from_source}
use Rattle.sig_system_laws.specs.Systems as systems
use Rattle.sig_system_laws.proofs.Prefixes.{itself}

module _ (given : Given) (flows : List (List ℤ)) (limit : ℕ → ℕ) (longer : (input : ℕ) → IsPrefixOf (slice_index_or given.flows input []) (slice_index_or flows input [])) (higher : (k : ℕ) → given.limit k ≤ limit k) where
  abbrev more : Given
  more = record given { flows = flows; limit = limit }

  source_longer : (s : State) (source : Source) → IsPrefixOf (from_source given s source) (from_source more s source)
  source_longer s (Outside input) = longer input
  source_longer s (Output program output) = itself (from_source given s (Output program output))

  pub reached_with_more : (s : State) → IsReached given s → IsReached more s
  reached_with_more s systems.stays = systems.stays
  reached_with_more t (systems.goes_on s k x before event) = systems.goes_on s k x (reached_with_more s before) (record {
    kernel = event.kernel;
    program = event.program;
    within = let a = event.within in let b = higher k in omega (arith, a, b);
    reacts = event.reacts;
    speaks = event.speaks;
    there = λ input below. prefix_of_prefix (flow_of input (s k ++ x ∷ [])) (carried given s k input) (carried more s k input) (event.there input below) (source_longer s (given.system.source k input));
  })
