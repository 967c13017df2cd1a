-- What links between outputs and inputs of the same kind carry fits the programs.
use Rattle.sig_system_laws.proofs.Common.{◌≡◌, ◌<◌, ◌+◌, ◌++◌, ℕ, ℤ, List, [], ◌∷◌, length, get_or, refl, ap, sym, subst, ◌∙◌, arith, append_assoc, option_to_list, None, Some, slice_get, AllByRecursion, get_or-map-range_with_len, length-map-range_with_len, Bounded, Trace, IsOfKind, IsValue, Seen, flow_of, seen_at, Kind, Signal, IsKernelTrace, kind_of, of_kind, AreFlowsFor, inputs_of, Kernel, flows_fit, count_inputs, got, some_at, taken_at, AreAccepted, Given, IsReached, Outside, Output, Source, State, carried, from_source, given_by, AreJoined, HasKind, flows_of}
use Rattle.sig_system_laws.proofs.Reached.{fine}

seen_values : (kind : Kind) (seen : Seen) (values : List ℤ) → IsOfKind Bounded kind seen → AllByRecursion (IsValue Bounded kind) values → AllByRecursion (IsValue Bounded kind) (option_to_list seen ++ values)
seen_values kind None values is all = all
seen_values kind (Some v) values is all = (is, all)

-- the flow of a signal has values of its kind
flow_values_of : (kernel : Kernel) (past trace : Trace) (x : ℕ) (kind : Kind) → kind_of (slice_get kernel.signals x) ≡ Some kind → IsKernelTrace kernel (past ++ trace)
    → AllByRecursion (IsValue Bounded kind) (flow_of x trace)
flow_values_of kernel past [] x kind of is = tt
flow_values_of kernel past (instant ∷ trace) x kind of is =
    seen_values kind (seen_at instant x) (flow_of x trace) (of_kind Bounded kernel.signals instant x kind (is past instant trace refl).kinds of)
    (flow_values_of kernel (past ++ instant ∷ []) trace x kind of (subst (IsKernelTrace kernel) (sym (append_assoc past (instant ∷ []) trace)) is))

module _ (given : Given) (accepted : AreAccepted given.system) (joined : AreJoined given) (t : State) (reached : IsReached given t) where
  values_from : (source : Source) (kind : Kind) → HasKind given source kind → AllByRecursion (IsValue Bounded kind) (from_source given t source)
  values_from (Outside input) kind has = has
  values_from (Output program output) kind has =
      let run = (fine given t reached program has.kernel has.is).run in
      subst (λ found. AllByRecursion (IsValue Bounded kind) (given_by found output (t program))) (sym has.is)
      (flow_values_of has.kernel [] (t program) (has.kernel.inputs + output) kind has.of run.is)

  pub links_fit : (k : ℕ) (kernel : Kernel) → slice_get given.system.programs k ≡ Some kernel → AreFlowsFor kernel (flows_of given t k kernel)
  links_fit k kernel is =
      let count : length (inputs_of kernel) ≡ kernel.inputs = count_inputs kernel (accepted k kernel is).0 in
      flows_fit kernel (flows_of given t k kernel) (length-map-range_with_len (carried given t k) 0 kernel.inputs ∙ sym count) (λ input signal lt.
      let below : input < kernel.inputs = omega (arith, lt, count) in
      let parts = (accepted k kernel is).0.parts in
      let at = some_at kernel.signals input (omega (arith, below, parts.interface, parts.declared)) in
      let inside = got (inputs_of kernel) input signal at.0 (taken_at kernel.signals kernel.inputs input at.0 below at.1) in
      let kind : Kind = (get_or (inputs_of kernel) input signal).kind in
      let has : HasKind given (given.system.source k input) kind = joined k input kernel kind is below (ap kind_of at.1 ∙ ap (λ (s : Signal). Some s.kind) (sym inside.1)) in
      subst (λ flow. AllByRecursion (IsValue Bounded kind) flow) (sym (get_or-map-range_with_len (carried given t k) 0 kernel.inputs input input [] below (omega arith))) (values_from (given.system.source k input) kind has))
