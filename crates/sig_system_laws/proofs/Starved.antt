-- A program whose run ends since an input is exhausted has taken all that was carried to it.
use Rattle.sig_system_laws.proofs.Common.{◌≡◌, ◌<◌, ◌≤◌, ◌+◌, ◌++◌, ℕ, List, ℤ, [], ◌∷◌, length, length-append, ap, sym, subst, ◌∙◌, arith, append-nil, Option, None, Some, option_to_list, slice_get, Instant, IsPrefixOf, Seen, Trace, flow_of, flow_append, seen_at, SigId, Place, Ended, Exhausted, Limit, HasFault, IsKernelEnd, Kernel, kernel_end_at_first, AreAccepted, Given, IsReached, State, carried, AreJoined, flows_of}
use Rattle.sig_system_laws.proofs.CarriedValues.{links_fit}
use Rattle.sig_system_laws.proofs.Reached.{fine}
use Rattle.sig_system_laws.proofs.Runs.{carried_at}

-- an instant takes at most one value
one_more : (signal : ℕ) (past : Trace) (x : Instant) → length (flow_of signal (past ++ x ∷ [])) ≤ length (flow_of signal past) + 1
one_more signal past x =
    let whole : length (flow_of signal (past ++ x ∷ [])) ≡ length (flow_of signal past) + length (option_to_list (seen_at x signal)) =
    ap (λ (xs : List ℤ). length xs) (flow_append signal past (x ∷ []) ∙ ap (λ items. flow_of signal past ++ items) (append-nil (option_to_list (seen_at x signal))))
    ∙ length-append (flow_of signal past) (option_to_list (seen_at x signal)) in
    omega (arith, whole, at_most (seen_at x signal)) where
      at_most : (s : Seen) → length (option_to_list s) ≤ 1
      at_most None = omega arith
      at_most (Some v) = omega arith

-- a list that begins another one and is no shorter is that one
all_of : {A : Type 0} (front whole : List A) → IsPrefixOf front whole → length whole ≤ length front → front ≡ whole
all_of {A} front whole ([], is) le = sym (append-nil front) ∙ sym is
all_of {A} front whole (y ∷ rest, is) le = let count : length whole ≡ length front + length (y ∷ rest) = ap (λ (xs : List A). length xs) is ∙ length-append front (y ∷ rest) in absurd (omega (arith, le, count))

module _ (given : Given) (accepted : AreAccepted given.system) (joined : AreJoined given) (t : State) (reached : IsReached given t) (k : ℕ) (kernel : Kernel) (is : slice_get given.system.programs k ≡ Some kernel) where
  pub starved : (place : Option Place) (ended : Ended) → IsKernelEnd kernel (flows_of given t k kernel) (given.limit k) (t k) place ended
      → (x : SigId) → x.0 < kernel.inputs → ended.cause ≡ Exhausted x → flow_of x.0 (t k) ≡ carried given t k x.0
  starved None ended ends x below exhausted = absurd (let e : Limit ≡ Exhausted x = sym ends.cause.1 ∙ exhausted in cc)
  starved (Some place) ended ends x below exhausted =
      let good = accepted k kernel is in
      let flows : List (List ℤ) = flows_of given t k kernel in
      let first = kernel_end_at_first kernel good.0 good.1 flows (links_fit given accepted joined t reached k kernel is) (given.limit k) (t k) place ended ends.operations ends.order ends.ordered ends in
      let fault : HasFault kernel flows (t k) first.0 (Exhausted x) = subst (HasFault kernel flows (t k) first.0) exhausted first.3.is.fault in
      let past : length (carried given t k x.0) < length (flow_of x.0 (t k ++ first.0 ∷ [])) =
      subst (λ (flow : List ℤ). length flow < length (flow_of x.0 (t k ++ first.0 ∷ []))) (carried_at given accepted t reached k kernel is x.0 below) fault in
      all_of (flow_of x.0 (t k)) (carried given t k x.0) ((fine given t reached k kernel is).took x.0 below) (omega (arith, past, one_more x.0 (t k) first.0))
