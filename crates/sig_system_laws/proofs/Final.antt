-- What was done begins what was done in a final state.
use Rattle.sig_system_laws.proofs.Common.{◌≡◌, refl, subst, ◌∙◌, sym, AreAccepted, Begins, Given, IsEnabled, IsFinal, IsReached, IsReachedFrom, State}
use Rattle.sig_system_laws.specs.Systems as systems
use Rattle.sig_system_laws.proofs.Join.{join}
use Rattle.sig_system_laws.proofs.Reached.{grows_on}

-- no event leads on from a final state
final_stays : (given : Given) (t u : State) → IsFinal given t → IsReachedFrom given t u → u ≡ t
final_stays given t u final systems.stays = refl
final_stays given t v final (systems.goes_on u k x before event) = absurd (final k x (subst (λ z. IsEnabled given z k x) (final_stays given t u final before) event))

module _ (given : Given) (accepted : AreAccepted given.system) (s t : State) (reached : IsReached given s) where
  pub all_begin : IsReached given t → IsFinal given t → Begins s t
  all_begin reached' final = let u = join given accepted s t reached reached' in subst (Begins s) (final_stays given t u.0 final u.2) (grows_on given s u.0 u.1)

  pub one_final : IsFinal given s → IsReached given t → IsFinal given t → s ≡ t
  one_final final reached' final' = let u = join given accepted s t reached reached' in sym (final_stays given s u.0 final u.1) ∙ final_stays given t u.0 final' u.2
