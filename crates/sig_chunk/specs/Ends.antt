-- What a contract sees of the two ends of a link by chunks.
use Rattle.std.specs.Prelude.{◌≡◌, ◌≤◌, ◌-◌, ◌++◌, ℕ, ℤ, List, length, take}
use Rattle.sig_link.specs.Ends as link
use Rattle.sig_link.specs.Ends.{LinkId}
use Rattle.sig_chunk.specs.Chunks.{items_in}
use Rattle.sig_chunk.specs.declared.inlet.Inlet.{Inlet}
use Rattle.sig_chunk.specs.declared.outlet.Outlet.{Outlet}

-- the link to which an end belongs
abbrev pub put_link : Inlet → LinkId
put_link inlet = link.put_link inlet.put

abbrev pub take_link : Outlet → LinkId
take_link outlet = link.take_link outlet.take

-- how many items the link holds at most, those at both ends among them
abbrev pub put_capacity : Inlet → ℕ
put_capacity inlet = inlet.capacity

abbrev pub take_capacity : Outlet → ℕ
take_capacity outlet = outlet.capacity

-- what the end holds that it has not handed over
abbrev pub held : Inlet → List ℤ
held inlet = take inlet.count inlet.items

-- all items that were sent, oldest first: those that were handed over, and those that the end holds
abbrev pub sent : Inlet → List ℤ
sent inlet = items_in (link.sent inlet.put) ++ held inlet

-- how many items of the chunk that was taken last were given
abbrev pub given : Outlet → ℕ
given outlet = outlet.given

-- how many items are left of the opened chunk
abbrev pub left : Outlet → ℕ
left outlet = outlet.opened.count - outlet.given

-- all items of the chunks that were taken
abbrev pub opened : Outlet → List ℤ
opened outlet = items_in (link.taken outlet.take)

-- all items that were taken, oldest first: those of the chunks, but for what is left of the last one
abbrev pub taken : Outlet → List ℤ
taken outlet = take (length (opened outlet) - left outlet) (opened outlet)

-- how often a call of the end found the queue full, and how often one found it empty
abbrev pub times_full : Inlet → ℕ
times_full inlet = link.times_full inlet.put

abbrev pub times_empty : Outlet → ℕ
times_empty outlet = link.times_empty outlet.take

-- The queue was found full of chunks at a step of the call that led from the one end to the other: that is counted, and what
-- was sent stayed.
pub record FoundFull (old new : Inlet) : Type 0 where
  pub queue : link.FoundFull old.put new.put
  pub stays : sent new ≡ sent old

-- Nothing was left of a chunk, and the queue was found empty at a step of the call that led from the one end to the other:
-- that is counted, and what was taken stayed.
pub record FoundEmpty (old new : Outlet) : Type 0 where
  pub queue : link.FoundEmpty old.take new.take
  pub stays : taken new ≡ taken old
  pub all : taken old ≡ opened old

-- they are the ends of one link
abbrev pub OfOneLink : Inlet → Outlet → Type 0
OfOneLink inlet outlet = put_link inlet ≡ take_link outlet

-- it is an end of the same link, with the same capacity
abbrev pub IsSameInlet : Inlet → Inlet → Type 0
IsSameInlet old new = (put_link new ≡ put_link old) × (put_capacity new ≡ put_capacity old)

-- what was taken, followed by other items, at most as many as the capacity, is what was sent
abbrev pub IsSettled : Inlet → Outlet → Type 0
IsSettled inlet outlet =
    (rest : List ℤ) × (sent inlet ≡ taken outlet ++ rest) × (length rest ≤ put_capacity inlet)
