-- A program that is at a fault goes past it in no order of events.
use Rattle.sig_system_laws.proofs.Common.{◌≡◌, ◌++◌, inl, inr, ℕ, [], ◌∷◌, refl, sym, subst, ◌∙◌, append-nil, Bounded, Instant, IsPrefixOf, Trace, IsReaction, remembered, one_at_most, IsNext, AreAccepted, Given, IsReached, State, TakesFrom, carried, IsAtFault}
use Rattle.sig_system_laws.proofs.Join.{join, one_order}
use Rattle.sig_system_laws.proofs.Prefixes.{itself}
use Rattle.sig_system_laws.proofs.Reactions.{IsRun, next_instant, next_of, takes_next}
use Rattle.sig_system_laws.proofs.Reached.{fine, grows_on, still_there}

module _ (given : Given) (accepted : AreAccepted given.system) (s t : State) (reached_s : IsReached given s) (reached_t : IsReached given t) (k : ℕ) (x : Instant) (fault : IsAtFault given s k x) where
  -- no instant of the other state is past the fault
  not_past : (y : Instant) (rest : Trace) → t k ≡ s k ++ y ∷ rest → ⊥
  not_past y rest is =
      let kernel = fault.kernel in
      let good = accepted k kernel fault.program in
      let u = join given accepted s t reached_s reached_t in
      let own = fine given t reached_t k kernel fault.program in
      let run : IsRun kernel (s k ++ y ∷ rest) = subst (IsRun kernel) is own.run in
      let took : TakesFrom kernel (carried given u.0 k) (s k ++ y ∷ rest) = subst (TakesFrom kernel (carried given u.0 k)) is (still_there given t u.0 (grows_on given t u.0 u.2) k kernel (t k) own.took) in
      let there : TakesFrom kernel (carried given u.0 k) (s k ++ x ∷ []) = still_there given s u.0 (grows_on given s u.0 u.1) k kernel (s k ++ x ∷ []) fault.there in
      let beyond : IsNext kernel (remembered (s k)) (next_of (carried given u.0 k) (s k)) x = record { is = fault.reacts; speaks = fault.speaks; takes = takes_next kernel (carried given u.0 k) (s k) [] x there } in
      let same : x ≡ y = one_at_most kernel good.0 good.1 (remembered (s k)) (next_of (carried given u.0 k) (s k)) x y beyond (next_instant kernel (carried given u.0 k) (s k) rest y run took) in
      fault.beyond (subst (IsReaction Bounded kernel (remembered (s k))) (sym same) (run.is (s k) y rest refl))

  pub fault_is_final : IsPrefixOf (t k) (s k)
  fault_is_final = elim (one_order given accepted s t reached_s reached_t k) [
    | inl begins ↦ none begins
    | inr begins ↦ begins
  ] where
    none : IsPrefixOf (s k) (t k) → IsPrefixOf (t k) (s k)
    none ([], is) = subst (λ list. IsPrefixOf list (s k)) (sym (is ∙ append-nil (s k))) (itself (s k))
    none (y ∷ rest, is) = absurd (not_past y rest is)
