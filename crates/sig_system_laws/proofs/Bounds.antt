-- Links that hold no more than so many values.
use Rattle.sig_system_laws.proofs.Common.{◌≡◌, ◌≤◌, ℕ, length, subst, arith, Instant, prefix_length, AreAccepted, Begins, Given, IsFinal, IsReached, IsReachedFrom, Output, State, committed, from_source, start, Capacity, HasRoom, HoldsAll, IsReachedFromWithin, IsReachedWithin, IsStill}
use Rattle.sig_system_laws.specs.BoundedLinks as bounded
use Rattle.sig_system_laws.specs.Systems as systems
use Rattle.sig_system_laws.proofs.Final.{all_begin, one_final}
use Rattle.sig_system_laws.proofs.Reached.{from_source_grows}

pub without_any : (given : Given) (capacity : Capacity) (r s : State) → IsReachedFromWithin given capacity r s → IsReachedFrom given r s
without_any given capacity r s bounded.stays = systems.stays
without_any given capacity r t (bounded.goes_on s k x before event room) = systems.goes_on s k x (without_any given capacity r s before) event

pub without_bounds : (given : Given) (capacity : Capacity) (s : State) → IsReachedWithin given capacity s → IsReached given s
without_bounds given capacity s within = without_any given capacity start s within

pub bounds_begin : (given : Given) → AreAccepted given.system → (capacity : Capacity) (s t : State) → IsReachedWithin given capacity s → IsReached given t → IsFinal given t → Begins s t
bounds_begin given accepted capacity s t within = all_begin given accepted s t (without_bounds given capacity s within)

-- where what was given begins what a final state has, there is room
room : (given : Given) (capacity : Capacity) (s t : State) (k : ℕ) (x : Instant) → HoldsAll given capacity t → Begins (committed s k x) t → HasRoom given capacity s k x
room given capacity s t k x holds begins output reader input link =
    let less : length (from_source given (committed s k x) (Output k output)) ≤ length (from_source given t (Output k output)) =
    prefix_length (from_source given (committed s k x) (Output k output)) (from_source given t (Output k output)) (from_source_grows given (committed s k x) t begins (Output k output)) in
    let held : length (from_source given t (Output k output)) ≤ capacity reader input =
    subst (λ source. length (from_source given t source) ≤ capacity reader input) link.source (holds k output reader input link) in
    omega (arith, less, held)

pub with_room : (given : Given) → AreAccepted given.system → (capacity : Capacity) (s t : State) → IsReachedWithin given capacity s → IsStill given capacity s → IsReached given t → IsFinal given t
    → HoldsAll given capacity t → s ≡ t
with_room given accepted capacity s t within still reached final holds =
    let reached_s : IsReached given s = without_bounds given capacity s within in
    let final_s : IsFinal given s = λ k x event.
    still k x event (room given capacity s t k x holds (all_begin given accepted (committed s k x) t (systems.goes_on s k x reached_s event) reached final)) in
    one_final given accepted s t reached_s final_s reached final
