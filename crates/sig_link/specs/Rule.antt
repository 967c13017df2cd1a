-- What the ends of a link know, and the rule between what they know and what the queue holds.
use Rattle.std.specs.Prelude.{◌≡◌, ℕ, Bool, true, List, ◌++◌}
use Rattle.crossbeam_queue.specs.Fifo.{Held}
use Rattle.crossbeam_queue.specs.Passes.{Pass, view}
use mathlib.Core.Option.{some}
use lib.ListN.{get_elem?}
use Rattle.sig_link.specs.declared.rule.Hand.{Hand}

module _ {T : Type 0} where
  abbrev pub hand : Bool → Bool → List T → List T → Hand T
  hand puts takes sent taken = record { puts = puts; takes = takes; sent = sent; taken = taken }

  -- a hand that may put is the one with this number, and it knows all that was sent
  abbrev pub KnowsSent : ℕ → List T → ℕ → Hand T → Type 0
  KnowsSent putter sent number h = h.puts ≡ true → (number ≡ putter) × (h.sent ≡ sent)

  -- a hand that may take is the one with this number, and it knows all that was taken
  abbrev pub KnowsTaken : ℕ → List T → ℕ → Hand T → Type 0
  KnowsTaken taker taken number h = h.takes ≡ true → (number ≡ taker) × (h.taken ≡ taken)

  -- What was sent is what was taken, followed by the queue. One hand at most may put, and it has the
  -- list of what was sent; one at most may take, and it has the list of what was taken
  abbrev pub InOrder : List T → List (Hand T) → Type 0
  InOrder queue hands =
      (putter : ℕ) × (taker : ℕ) × (sent : List T) × (taken : List T) × (sent ≡ taken ++ queue)
      × ((number : ℕ) (h : Hand T) → get_elem? hands number ≡ some h →
      KnowsSent putter sent number h × KnowsTaken taker taken number h)

  -- what the hand that may take has taken is a prefix of what the hand that may put has sent
  abbrev pub TakenIsPrefix : List (Hand T) → Type 0
  TakenIsPrefix hands =
      (i j : ℕ) (p t : Hand T) → get_elem? hands i ≡ some p → get_elem? hands j ≡ some t
      → p.puts ≡ true → t.takes ≡ true
      → (queue : List T) × (p.sent ≡ t.taken ++ queue)

  -- it is a pass of the same queue, which may do the same
  abbrev pub IsSameEnd : Pass T (Hand T) → Pass T (Hand T) → Type 0
  IsSameEnd old new =
      (new.table_id ≡ old.table_id) × ((view new).puts ≡ (view old).puts) × ((view new).takes ≡ (view old).takes)

  -- at one step of the call the queue held as many items as the capacity, and they followed what was
  -- taken in what was sent
  abbrev pub WasFull : ℕ → List T → Type 0
  WasFull capacity all_sent = Held capacity (λ queue. (all_taken : List T) × (all_sent ≡ all_taken ++ queue))

  -- at one step of the call the queue held nothing, and it followed what was taken in what was sent
  abbrev pub WasEmpty : List T → Type 0
  WasEmpty all_taken = Held 0 (λ queue. (all_sent : List T) × (all_sent ≡ all_taken ++ queue))
