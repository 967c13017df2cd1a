-- A command whose files are good is done, if no call failed, memory was found, and the nodes of diagrams sufficed.
use Rattle.sig_tool.proofs.Common.{◌≡◌, ◌⊎◌, ◌≤◌, ◌<◌, ℕ, List, Bool, Option, None, Some, IfSome, inl, inr, refl, ap, arith, DidNotRise, raised, Contents, Command, Build, Check, Code, Exec, Load, Play, Print, Run, Tree, IsCodeText, IsTreeText, Outcome, HasCount, IsOwn, outcome_of, status_of, IsDone, IsRefused, Owes, Performs, Task, Refusal, Missing, ReadFault, LongProgram, Program, Budget, TooManyItems, LongFile, Data, LongImage, OutOfMemory, not_refused, IsVerdictText, CanLoad, loading, CanBeDone, ComesTo, IfLoad, IsStatus, task_of}
use Rattle.sig_compile_command.proofs.Complete as compiles
use Rattle.sig_image_command.proofs.Complete as images
use Rattle.sig_load_command.proofs.Complete as loads
use Rattle.sig_play_command.proofs.Complete as plays
use Rattle.sig_loaded.proofs.Complete as runs
use Rattle.sig_tool.proofs.TopClauses.{is_status}

-- whatever such a command comes to, it is done
pub done_status : (held : Contents) (c : Command) → CanBeDone held c → (o : Outcome) → ComesTo held c o → IsDone o.status
done_status held (Run program flows settings) can o x = inl (runs.end_status_is held program flows settings can o x)
done_status held (Play program flows events settings) can o x = inl (plays.end_status_is held program flows events settings can o x)
done_status held (Check program pace) can o x = inl (inl (compiles.done_status held program pace can IsVerdictText o x))
done_status held (Tree program pace) can o x = inl (inl (compiles.done_status held program pace can IsTreeText o x))
done_status held (Code program pace) can o x = inl (inl (compiles.done_status held program pace can IsCodeText o x))
done_status held (Print program) can o x = inl (inl (ap (λ (q : Outcome). q.status) (compiles.only_print held program can o x)))
done_status held (Load seed stages settings) can o x = inl (loads.end_status_is seed stages settings can o x)
done_status held (Build program) can o x = inl (inl (images.build_status_is held program can o x))
done_status held (Exec image flows settings) can o x = inl (images.exec_status_is held image flows settings can o x)
done_status held _ can o x = absurd can

clash : (a b : ℕ) → a ≤ b → b < a → ⊥
clash a b least below = omega (arith, least, below)

module _ (task : Task) (held : Contents) (before at : Option (List ℕ)) (misses misses' faults faults' status : ℕ) (every : (o : Outcome) → task.comes held o → IsDone o.status) where
  -- the status of a refusal that told contents call for is that of a command that is done, which it is not
  owed_refusal : (r : Refusal) → IsRefused (status_of r) → Owes (task.comes held) held before at r → ⊥
  owed_refusal r refuses owes = not_refused (status_of r) (inl (every (outcome_of r owes.file) owes.comes)) refuses

  by_refusal : (r : Refusal) → status ≡ status_of r → HasCount (Some held) at misses misses' faults faults' r → (IsOwn r faults faults' → Owes (task.comes held) held before at r)
      → DidNotRise faults faults' → (status ≡ 7) ⊎ (status ≡ 8)
  by_refusal (Missing name) is count owed kept = absurd (owed_refusal (Missing name) (inr (inr (inr (inl refl)))) (owed kept))
  by_refusal (ReadFault name) is count owed kept = absurd (clash (raised faults) faults' count.cause kept)
  by_refusal LongProgram is count owed kept = absurd (owed_refusal LongProgram (inl refl) (owed tt))
  by_refusal (Program line) is count owed kept = absurd (owed_refusal (Program line) (inl refl) (owed tt))
  by_refusal (Budget nodes) is count owed kept = inr is
  by_refusal TooManyItems is count owed kept = absurd (owed_refusal TooManyItems (inr (inl refl)) (owed tt))
  by_refusal (LongFile name) is count owed kept = absurd (owed_refusal (LongFile name) (inr (inr (inl refl))) (owed tt))
  by_refusal (Data line) is count owed kept = absurd (owed_refusal (Data line) (inr (inr (inl refl))) (owed tt))
  by_refusal LongImage is count owed kept = absurd (owed_refusal LongImage (inr (inr (inr (inr (inr (inr refl)))))) (owed tt))
  by_refusal OutOfMemory is count owed kept = inl is

  module _ {S : Type 0} (took : S → List ℕ → S → Type 0) (out out' : S) (wrote wrote' : ℕ) (clean : Bool) (Said : List ℕ → Type 0)
      (performs : Performs task (Some held) before at misses misses' faults faults' took out out' wrote wrote' clean Said status)
      (read : DidNotRise faults faults') (written : DidNotRise wrote wrote') where
    by_status : IsStatus status → IsDone status ⊎ ((status ≡ 7) ⊎ (status ≡ 8))
    by_status (inl ends) = inl ends
    by_status (inr (inl refuses)) = let by = performs.refused refuses in inr (by_refusal by.refusal by.numbered by.count by.owed read)
    by_status (inr (inr six)) = absurd (clash (raised wrote) wrote' (performs.failed six) written)

-- where contents are told
pub complete : (c : Command) (contents : Option Contents) (before at : Option (List ℕ)) (misses misses' faults faults' status : ℕ)
    → {S : Type 0} (took : S → List ℕ → S → Type 0) (out out' : S) (wrote wrote' : ℕ) (clean : Bool) (Said : List ℕ → Type 0) → IsStatus status
    → Performs (task_of c) contents before at misses misses' faults faults' took out out' wrote wrote' clean Said status
    → DidNotRise faults faults' → DidNotRise wrote wrote'
    → IfSome contents (λ held. CanBeDone held c → IsDone status ⊎ ((status ≡ 7) ⊎ (status ≡ 8)))
complete c None before at misses misses' faults faults' status took out out' wrote wrote' clean Said is performs read written = tt
complete c (Some held) before at misses misses' faults faults' status took out out' wrote wrote' clean Said is performs read written = λ can.
    by_status (task_of c) held before at misses misses' faults faults' status (done_status held c can) took out out' wrote wrote' clean Said performs read written is

nothing_failed : DidNotRise 0 0
nothing_failed = omega (arith)

-- a load, which asks for no file
pub load_complete : (c : Command) (status : ℕ) → {S : Type 0} (took : S → List ℕ → S → Type 0) (out out' : S) (wrote wrote' : ℕ) (clean : Bool) (Said : List ℕ → Type 0)
    → IfLoad c (λ seed stages settings. (contents : Option Contents) → Performs (loading seed stages settings) contents None None 0 0 0 0 took out out' wrote wrote' clean Said status)
    → DidNotRise wrote wrote' → IfLoad c (λ seed stages settings. CanLoad seed stages settings → IsDone status ⊎ ((status ≡ 7) ⊎ (status ≡ 8)))
load_complete (Load seed stages settings) status took out out' wrote wrote' clean Said performs written = λ can.
    let held : Contents = λ name. None in
    by_status (loading seed stages settings) held None None 0 0 0 0 status (done_status held (Load seed stages settings) can) took out out' wrote wrote' clean Said (performs (Some held)) nothing_failed written
    (is_status (Load seed stages settings) status (performs None).numbers)
load_complete _ status took out out' wrote wrote' clean Said performs written = tt

-- one for whose words there was no memory
pub load_unread_complete : (c : Command) (status : ℕ) → status ≡ 7 → IfLoad c (λ seed stages settings. CanLoad seed stages settings → IsDone status ⊎ ((status ≡ 7) ⊎ (status ≡ 8)))
load_unread_complete (Load seed stages settings) status is = λ can. inr (inl is)
load_unread_complete _ status is = tt
