-- Presences and reactions in the store, and what they say of a kernel's signals.
use Rattle.sig_pace.proofs.Common.{◌≡◌, ◌&&◌, ℕ, Bool, true, List, sym, ap, ◌∙◌, IsTrue, IsPossible, IsSignal, Reaction, Speaks, is_present, Holds, Implies, IsRefOf, IsStore, Keeps, Overlap, Spans, StoreView, test, Node, Ref, Holds-kept, IsOver, IsSystem, SystemView, reading, over_two, in_variables, presence_over, presence_read, solution_newer, solution_older, system_kept, HoldsPresences, IsAskedIn, IsCandidate, presence_in, reactions_in, variables_of, IsBelow, Asked, both_true, test-kept}

pub over_spans : (nodes : List Node) (system : SystemView) (r : Ref) → IsOver nodes system r → Spans nodes r (variables_of system)
over_spans nodes system r over v d = in_variables system v (over.within v d)

-- the solutions are where the residue and the speaking are both true
pub asked_is : (old new : StoreView) (kept : Keeps old new) (asked : Asked) → IsStore new → IsSystem asked.kernel.now old.nodes asked.system
    → IsRefOf new.nodes (λ ts. test old.nodes asked.system.residue ts && test old.nodes asked.system.speaks ts) asked.solutions → IsAskedIn new asked
asked_is old new kept asked has is made = record {
  has_store = has;
  is_system = system_kept old new kept asked.system asked.kernel.now is;
  over = over_two old.nodes new.nodes asked.system (λ x y. x && y) asked.system.residue asked.system.speaks asked.solutions is.residue is.speaks made;
  solutions = λ ts. (
    (λ t. solution_newer old new kept asked.system asked.kernel.now is ts ((both_true (test old.nodes asked.system.residue ts) (test old.nodes asked.system.speaks ts)).0 (sym (made.function ts) ∙ t))),
    (λ solves. made.function ts ∙ (both_true (test old.nodes asked.system.residue ts) (test old.nodes asked.system.speaks ts)).1 (solution_older old new kept asked.system asked.kernel.now is ts solves)),
  );
}

module _ (store : StoreView) (asked : Asked) (is : IsAskedIn store asked) where
  pub presence_held : (s : ℕ) → IsSignal asked.kernel.now s → Holds store.nodes (presence_in asked.system s)
  presence_held s lt = (presence_over asked.kernel.now store.nodes asked.system is.is_system s lt).held

  pub presence_spans : (s : ℕ) → IsSignal asked.kernel.now s → Spans store.nodes (presence_in asked.system s) (variables_of asked.system)
  presence_spans s lt = over_spans store.nodes asked.system (presence_in asked.system s) (presence_over asked.kernel.now store.nodes asked.system is.is_system s lt)

  -- a signal whose presence lies within another one's is below it
  pub covered_below : (x y : ℕ) → IsSignal asked.kernel.now x → IsSignal asked.kernel.now y → Implies store.nodes (presence_in asked.system x) (presence_in asked.system y) → IsBelow asked.kernel.now x y
  covered_below x y x_lt y_lt implies reaction speaks present =
      let at = is.is_system.complete reaction speaks in
      let here : test store.nodes (presence_in asked.system x) at.0 ≡ true = sym (presence_read asked.kernel.now store.nodes asked.system is.is_system x x_lt at.0) ∙ ap (λ r. is_present r x) at.2 ∙ present in
      sym (ap (λ r. is_present r y) at.2) ∙ presence_read asked.kernel.now store.nodes asked.system is.is_system y y_lt at.0 ∙ implies at.0 here

-- the solutions with a signal, made in a store that grew before
pub older_reactions : (old mid : StoreView) (kept : Keeps old mid) (asked : Asked) (is : IsAskedIn old asked) (x : ℕ) (x_lt : IsSignal asked.kernel.now x) (new : StoreView) (p : Ref) → p ≡ presence_in asked.system x → (r : Ref)
    → IsRefOf new.nodes (λ ts. test mid.nodes asked.solutions ts && test mid.nodes p ts) r → IsRefOf new.nodes (reactions_in old.nodes asked x) r
older_reactions old mid kept asked is x x_lt new p at r made = record {
  holds = made.holds;
  function = λ ts.
      made.function ts ∙ ap (λ q. test mid.nodes asked.solutions ts && test mid.nodes q ts) at
      ∙ ap (λ b. b && test mid.nodes (presence_in asked.system x) ts) (test-kept old mid kept asked.solutions is.over.held ts)
      ∙ ap (λ b. test old.nodes asked.solutions ts && b) (test-kept old mid kept (presence_in asked.system x) (presence_held old asked is x x_lt) ts);
}

-- a signal with its reactions, made in a store that grew
module _ (old new : StoreView) (kept : Keeps old new) (asked : Asked) (is : IsAskedIn old asked) where
  pub presences_kept : HoldsPresences new.nodes asked
  presences_kept = record {
    count = is.is_system.presences;
    held = λ s lt. Holds-kept old new kept (presence_in asked.system s) (presence_held old asked is s lt);
  }

  module _ (x : ℕ) (x_lt : IsSignal asked.kernel.now x) (r : Ref) (made : IsRefOf new.nodes (reactions_in old.nodes asked x) r) where
    reads : (y : ℕ) → IsSignal asked.kernel.now y → (ts : List Bool) → is_present (reading old.nodes asked.system ts) y ≡ test old.nodes (presence_in asked.system y) ts
    reads y y_lt ts = presence_read asked.kernel.now old.nodes asked.system is.is_system y y_lt ts

    -- the reaction of truths that the reference makes true
    reacts : (ts : List Bool) → IsTrue (test new.nodes r ts) → Speaks asked.kernel.now (reading old.nodes asked.system ts) × (is_present (reading old.nodes asked.system ts) x ≡ true)
    reacts ts t =
        let both = (both_true (test old.nodes asked.solutions ts) (test old.nodes (presence_in asked.system x) ts)).0 (sym (made.function ts) ∙ t) in
        (is.is_system.sound ts ((is.solutions ts).0 both.0), reads x x_lt ts ∙ both.1)

    -- the truths of a reaction that has the signal
    truths_at : (reaction : Reaction) → Speaks asked.kernel.now reaction → is_present reaction x ≡ true → (ts : List Bool) × IsTrue (test new.nodes r ts) × (reading old.nodes asked.system ts ≡ reaction)
    truths_at reaction speaks present =
        let at = is.is_system.complete reaction speaks in
        let solves = (is.solutions at.0).1 at.1 in
        let here : test old.nodes (presence_in asked.system x) at.0 ≡ true = sym (reads x x_lt at.0) ∙ ap (λ r. is_present r x) at.2 ∙ present in
        (at.0, made.function at.0 ∙ (both_true (test old.nodes asked.solutions at.0) (test old.nodes (presence_in asked.system x) at.0)).1 (solves, here), at.2)

    below_of : (y : ℕ) → IsSignal asked.kernel.now y → Implies new.nodes r (presence_in asked.system y) → IsBelow asked.kernel.now x y
    below_of y y_lt implies reaction speaks present =
        let at = truths_at reaction speaks present in
        sym (ap (λ r. is_present r y) at.2) ∙ reads y y_lt at.0 ∙ sym (test-kept old new kept (presence_in asked.system y) (presence_held old asked is y y_lt) at.0) ∙ implies at.0 at.1

    of_below : (y : ℕ) → IsSignal asked.kernel.now y → IsBelow asked.kernel.now x y → Implies new.nodes r (presence_in asked.system y)
    of_below y y_lt below ts t =
        let at = reacts ts t in
        test-kept old new kept (presence_in asked.system y) (presence_held old asked is y y_lt) ts ∙ sym (reads y y_lt ts) ∙ below (reading old.nodes asked.system ts) at.0 at.1

    possible_of : Overlap new.nodes r r → IsPossible asked.kernel.now x
    possible_of meets = let at = reacts meets.0 meets.1 in (reading old.nodes asked.system meets.0, at.0, at.1)

    of_possible : IsPossible asked.kernel.now x → Overlap new.nodes r r
    of_possible possible = let at = truths_at possible.0 possible.1 possible.2 in (at.0, at.1, at.1)

    pub candidate_is : IsCandidate new.nodes asked (record { signal = x; reactions = r })
    candidate_is = record {
      is = x_lt;
      held = made.holds;
      below = λ y y_lt. (below_of y y_lt, of_below y y_lt);
      possible = (possible_of, of_possible);
    }
