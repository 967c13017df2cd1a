-- What holds in each state that is reached.
use Rattle.sig_system_laws.proofs.Common.{◌≡◌, ◌≤◌, ◌+◌, ◌++◌, inl, inr, ℕ, ℤ, List, [], ◌∷◌, length, length-append, refl, ap, sym, subst, ◌∙◌, arith, eqb_tells, if◌then◌else◌, Option, None, Some, slice_get, Bounded, Instant, IsPrefixOf, Trace, flow_of, prefix_of_prefix, prefix_speaks, speaks_more, goes_on, no_instants, prefix_trace, Kernel, Begins, Given, IsEnabled, IsReached, IsReachedFrom, Outside, Output, Source, State, TakesFrom, carried, committed, from_source, given_by, start}
use Rattle.sig_system_laws.specs.Systems as systems
use Rattle.sig_system_laws.proofs.Prefixes.{itself, flow_prefix}
use Rattle.sig_system_laws.proofs.Reactions.{IsRun}

-- what holds of the longer trace of the program that commits, and of what the others have, holds of all
pub at_each : (s : State) (k : ℕ) (x : Instant) (P : ℕ → Trace → Type 0) → P k (s k ++ x ∷ []) → ((j : ℕ) → P j (s j)) → (j : ℕ) → P j (committed s k x j)
at_each s k x P own others j = elim (eqb_tells j k) [
  | inl e ↦ subst (λ b. P j (if b then s j ++ x ∷ [] else s j)) (sym e.0) (subst (λ n. P n (s n ++ x ∷ [])) (sym e.1) own)
  | inr e ↦ subst (λ b. P j (if b then s j ++ x ∷ [] else s j)) (sym e.0) (others j)
]

pub at_own : (s : State) (k : ℕ) (x : Instant) → committed s k x k ≡ s k ++ x ∷ []
at_own s k x = elim (eqb_tells k k) [
  | inl e ↦ ap (λ b. if b then s k ++ x ∷ [] else s k) e.0
  | inr e ↦ absurd (e.1 refl)
]

pub at_other : (s : State) (k : ℕ) (x : Instant) (j : ℕ) → (j ≡ k → ⊥) → committed s k x j ≡ s j
at_other s k x j apart = elim (eqb_tells j k) [
  | inl e ↦ absurd (apart e.1)
  | inr e ↦ ap (λ b. if b then s j ++ x ∷ [] else s j) e.0
]

-- ---- what is there grows

given_grows : (found : Option Kernel) (output : ℕ) (s t : Trace) → IsPrefixOf s t → IsPrefixOf (given_by found output s) (given_by found output t)
given_grows None output s t grows = ([], refl)
given_grows (Some kernel) output s t grows = flow_prefix (kernel.inputs + output) s t grows

pub from_source_grows : (given : Given) (s t : State) → Begins s t → (source : Source) → IsPrefixOf (from_source given s source) (from_source given t source)
from_source_grows given s t grows (Outside input) = itself (from_source given s (Outside input))
from_source_grows given s t grows (Output program output) = given_grows (slice_get given.system.programs program) output (s program) (t program) (grows program)

pub still_there : (given : Given) (s t : State) → Begins s t → (k : ℕ) (kernel : Kernel) (trace : Trace) → TakesFrom kernel (carried given s k) trace → TakesFrom kernel (carried given t k) trace
still_there given s t grows k kernel trace there input below =
    prefix_of_prefix (flow_of input trace) (carried given s k input) (carried given t k input) (there input below) (from_source_grows given s t grows (given.system.source k input))

-- a trace that begins one takes from the same flows
pub fewer : (kernel : Kernel) (flows : ℕ → List ℤ) (s t : Trace) → IsPrefixOf s t → TakesFrom kernel flows t → TakesFrom kernel flows s
fewer kernel flows s t begins there input below = prefix_of_prefix (flow_of input s) (flow_of input t) (flows input) (flow_prefix input s t begins) (there input below)

pub run_front : (kernel : Kernel) (s t : Trace) → IsPrefixOf s t → IsRun kernel t → IsRun kernel s
run_front kernel s t begins run = record { is = prefix_trace Bounded kernel s t begins run.is; speaks = prefix_speaks s t begins run.speaks }

pub grown : (s : State) (k : ℕ) (x : Instant) → Begins s (committed s k x)
grown s k x = at_each s k x (λ j trace. IsPrefixOf (s j) trace) (x ∷ [], refl) (λ j. itself (s j))

pub grows_on : (given : Given) (s t : State) → IsReachedFrom given s t → Begins s t
grows_on given s t systems.stays = λ k. itself (s k)
grows_on given s t (systems.goes_on u k x before event) = λ j. prefix_of_prefix (s j) (u j) (committed u k x j) (grows_on given s u before j) (grown u k x j)

pub reached_on : (given : Given) (r s t : State) → IsReachedFrom given r s → IsReachedFrom given s t → IsReachedFrom given r t
reached_on given r s t reached systems.stays = reached
reached_on given r s t reached (systems.goes_on u k x before event) = systems.goes_on u k x (reached_on given r s u reached before) event

-- ---- of a state that is reached

-- what a program did is a run of it, took what was there, and has no more instants than it may
pub record IsFine (given : Given) (s : State) (k : ℕ) (kernel : Kernel) (trace : Trace) : Type 0 where
  pub run : IsRun kernel trace
  pub took : TakesFrom kernel (carried given s k) trace
  pub within : length trace ≤ given.limit k

abbrev pub AreFine : Given → State → Type 0
AreFine given s = (k : ℕ) (kernel : Kernel) → slice_get given.system.programs k ≡ Some kernel → IsFine given s k kernel (s k)

-- the program that goes on
pub longer_run : (given : Given) (s : State) → AreFine given s → (k : ℕ) (x : Instant) → (event : IsEnabled given s k x) → IsRun event.kernel (s k ++ x ∷ [])
longer_run given s fine k x event = let own = fine k event.kernel event.program in record {
  is = goes_on Bounded event.kernel (s k) x own.run.is event.reacts;
  speaks = speaks_more (s k) x own.run.speaks event.speaks;
}

pub one_kernel : {found : Option Kernel} (a b : Kernel) → found ≡ Some a → found ≡ Some b → a ≡ b
one_kernel {found} a b is also = let same : Some a ≡ Some b = sym is ∙ also in cc

pub fine : (given : Given) (s : State) → IsReached given s → AreFine given s
fine given s systems.stays = λ k kernel there. record {
  run = record { is = no_instants Bounded kernel; speaks = tt };
  took = λ input below. (carried given start k input, refl);
  within = omega arith;
}
fine given t (systems.goes_on s k x before event) =
    let earlier : AreFine given s = fine given s before in
    let run : IsRun event.kernel (s k ++ x ∷ []) = longer_run given s earlier k x event in
    let own : IsFine given t k event.kernel (s k ++ x ∷ []) = record {
      run = run;
      took = still_there given s t (grown s k x) k event.kernel (s k ++ x ∷ []) event.there;
      within = let w = event.within in omega (arith, w, length-append (s k) (x ∷ []));
    } in
    at_each s k x (λ j trace. (kernel : Kernel) → slice_get given.system.programs j ≡ Some kernel → IsFine given t j kernel trace)
    (λ kernel there. subst (λ (z : Kernel). IsFine given t k z (s k ++ x ∷ [])) (one_kernel event.kernel kernel event.program there) own)
    (λ j kernel there. let was = earlier j kernel there in record {
      run = was.run;
      took = still_there given s t (grown s k x) j kernel (s j) was.took;
      within = was.within;
    })
