-- What a program did in a final state is the longest trace for what its links carried.
use Rattle.sig_system_laws.proofs.Common.{◌≡◌, ◌<◌, ◌≤◌, ◌++◌, inl, inr, ℕ, ℤ, List, [], ◌∷◌, length, length-append, sym, subst, ◌∙◌, arith, append-nil, append_assoc, Option, Some, slice_get, slice_index_or, get_or-map-range_with_len, length-map-range_with_len, Bounded, Fits, IsLongest, IsPrefixOf, Trace, flow_of, reduce, fits_reduced, prefix_length, speaks, speaks_last, IsKernelTrace, reduced_trace, comes_from, one_longest, Place, Ended, IsKernelEnd, Kernel, some_kernel_end, AreAccepted, Given, IsFinal, IsReached, State, TakesFrom, carried, AreJoined, flows_of}
use Rattle.sig_system_laws.proofs.CarriedValues.{links_fit}
use Rattle.sig_system_laws.proofs.Prefixes.{itself}
use Rattle.sig_system_laws.proofs.Reactions.{IsRun, one_of_two}
use Rattle.sig_system_laws.proofs.Reached.{fewer, fine, run_front}

module _ (given : Given) (accepted : AreAccepted given.system) (t : State) (reached : IsReached given t) (k : ℕ) (kernel : Kernel) (is : slice_get given.system.programs k ≡ Some kernel) where
  pub carried_at : (input : ℕ) → input < kernel.inputs → slice_index_or (flows_of given t k kernel) input [] ≡ carried given t k input
  carried_at input below = get_or-map-range_with_len (carried given t k) 0 kernel.inputs input input [] below (omega arith)

  flow_count : length (flows_of given t k kernel) ≡ kernel.inputs
  flow_count = length-map-range_with_len (carried given t k) 0 kernel.inputs

  -- fitting these flows is taking from the links
  pub takes_from : (trace : Trace) → Fits (flows_of given t k kernel) trace → TakesFrom kernel (carried given t k) trace
  takes_from trace fits input below = subst (IsPrefixOf (flow_of input trace)) (carried_at input below) (fits input (omega (arith, below, flow_count)))

  pub fits_from : (trace : Trace) → TakesFrom kernel (carried given t k) trace → Fits (flows_of given t k kernel) trace
  fits_from trace from input lt =
      let below : input < kernel.inputs = omega (arith, lt, flow_count) in
      subst (IsPrefixOf (flow_of input trace)) (sym (carried_at input below)) (from input below)

  module _ (final : IsFinal given t) where
    -- a run that goes on behind what the program did has nothing more
    nothing_more : (trace : Trace) → IsRun kernel trace → TakesFrom kernel (carried given t k) trace → length trace ≤ given.limit k → IsPrefixOf (t k) trace → IsPrefixOf trace (t k)
    nothing_more trace run from few ([], e) = subst (λ list. IsPrefixOf list (t k)) (sym (e ∙ append-nil (t k))) (itself (t k))
    nothing_more trace run from few (x ∷ rest, e) =
        let next : IsPrefixOf (t k ++ x ∷ []) trace = (rest, e ∙ sym (append_assoc (t k) (x ∷ []) rest)) in
        let front : IsRun kernel (t k ++ x ∷ []) = run_front kernel (t k ++ x ∷ []) trace next run in
        let le : length (t k ++ x ∷ []) ≤ length trace = prefix_length (t k ++ x ∷ []) trace next in
        absurd (final k x (record {
          kernel = kernel;
          program = is;
          within = omega (arith, le, few, length-append (t k) (x ∷ []));
          reacts = (comes_from Bounded kernel (t k) x front.is).1;
          speaks = speaks_last (t k) x front.speaks;
          there = fewer kernel (carried given t k) (t k ++ x ∷ []) trace next from;
        }))

    longest : IsLongest (IsKernelTrace kernel) (flows_of given t k kernel) (given.limit k) (t k)
    longest =
        let own = fine given t reached k kernel is in
        record {
          is = own.run.is;
          fits = fits_from (t k) own.took;
          within = own.within;
          speaks = own.run.speaks;
          longest = λ other trace fits few.
              let run : IsRun kernel (reduce other) = record { is = reduced_trace Bounded kernel other trace; speaks = speaks other } in
              let from : TakesFrom kernel (carried given t k) (reduce other) = takes_from (reduce other) ((fits_reduced (flows_of given t k kernel) other).1 fits) in
              let good = accepted k kernel is in
              elim (one_of_two kernel good.0 good.1 (carried given t k) (reduce other) (t k) run own.run from own.took) [
                | inl begins ↦ begins
                | inr ends ↦ nothing_more (reduce other) run from few ends
              ];
        }

    pub run_end : AreJoined given → (place : Option Place) × (ended : Ended) × IsKernelEnd kernel (flows_of given t k kernel) (given.limit k) (t k) place ended
    run_end joined =
        let flows : List (List ℤ) = flows_of given t k kernel in
        let good = accepted k kernel is in
        let end = some_kernel_end kernel good.0 good.1 flows (links_fit given accepted joined t reached k kernel is) (given.limit k) in
        let same : end.0 ≡ t k = one_longest (IsKernelTrace kernel) flows (given.limit k) end.0 (t k) end.3.longest longest in
        (end.1, end.2, subst (λ trace. IsKernelEnd kernel flows (given.limit k) trace end.1 end.2) same end.3)
