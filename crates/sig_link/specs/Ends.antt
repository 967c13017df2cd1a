-- What a contract sees of the two ends of a link.
use Rattle.std.specs.Prelude.{◌≡◌, ◌≤◌, ◌+◌, ◌-◌, ◌^◌, ℕ, List, ◌++◌, length, min}
use Rattle.std.specs.Arc.{arc_value}
use Rattle.crossbeam_utils.specs.Padded.{padded_value}
use Rattle.crossbeam_queue.specs.Passes.{view, ruled_capacity}
use Rattle.atomic_table.specs.Seated.{TableId}
use Rattle.sig_link.specs.Rule.{WasEmpty, WasFull}
use Rattle.sig_link.specs.declared.put.Put.{Put}
use Rattle.sig_link.specs.declared.take.Take.{Take}

-- which link it is
abbrev pub LinkId : Type 0
LinkId = TableId

-- a count of 64 bits is one more, or stays at its greatest number
abbrev pub CountsOne : ℕ → ℕ → Type 0
CountsOne before after = after ≡ min (before + 1) (2 ^ 64 - 1)

module _ {T : Type 0} where
  -- the link of the end that puts, and that of the end that takes
  abbrev pub put_link : Put T → LinkId
  put_link p = p.pass.table_id

  abbrev pub take_link : Take T → LinkId
  take_link t = t.pass.table_id

  -- how many items the link holds at most
  abbrev pub put_capacity : Put T → ℕ
  put_capacity p = ruled_capacity (padded_value (arc_value p.line))

  abbrev pub take_capacity : Take T → ℕ
  take_capacity t = ruled_capacity (padded_value (arc_value t.line))

  -- all items that were sent, oldest first
  abbrev pub sent : Put T → List T
  sent p = (view p.pass).sent

  -- all items that were taken, oldest first
  abbrev pub taken : Take T → List T
  taken t = (view t.pass).taken

  -- how often a call of the end found the link full, and how often one found it empty; each call that did counts, and the count
  -- stays at its greatest number
  abbrev pub times_full : Put T → ℕ
  times_full p = p.times_full

  abbrev pub times_empty : Take T → ℕ
  times_empty t = t.times_empty

  -- The link was found full at a step of the call that led from the one end to the other: that is counted, and what was sent
  -- stayed.
  pub record FoundFull (old new : Put T) : Type 0 where
    pub counts : CountsOne (times_full old) (times_full new)
    pub stays : sent new ≡ sent old
    pub full : WasFull (put_capacity old) (sent old)

  -- The link was found empty at a step of the call that led from the one end to the other: that is counted, and what was taken
  -- stayed.
  pub record FoundEmpty (old new : Take T) : Type 0 where
    pub counts : CountsOne (times_empty old) (times_empty new)
    pub stays : taken new ≡ taken old
    pub empty : WasEmpty (taken old)

  -- they are the ends of one link
  abbrev pub OfOneLink : Put T → Take T → Type 0
  OfOneLink p t = put_link p ≡ take_link t

  -- it is an end of the same link, with the same capacity
  abbrev pub IsSamePut : Put T → Put T → Type 0
  IsSamePut old new = (put_link new ≡ put_link old) × (put_capacity new ≡ put_capacity old)

  -- what was taken, followed by so many queued items, at most the capacity, is what was sent
  abbrev pub IsSettled : Put T → Take T → ℕ → Type 0
  IsSettled p t left =
      (queue : List T) × (sent p ≡ taken t ++ queue) × (length queue ≡ left) × (left ≤ put_capacity p)
