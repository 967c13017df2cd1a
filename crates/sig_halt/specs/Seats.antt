-- What a contract sees of a failure word and of its seats.
use Rattle.std.specs.Prelude.{◌≡◌, ◌≤◌, ℕ, min}
use Rattle.atomic_table.specs.Seated.{TableId}
use Rattle.sig_halt.specs.declared.halt.Halt.{Halt}
use Rattle.sig_halt.specs.declared.halt_seat.HaltSeat.{HaltSeat}

-- which word it is
abbrev pub HaltId : Type 0
HaltId = TableId

abbrev pub halt_id : Halt → HaltId
halt_id h = h.table.shared.table_id

-- how many parts the word was made for
abbrev pub halt_parts : Halt → ℕ
halt_parts h = h.table.shared.key

-- the word that a seat is of, its parts, and the least words that it recorded and has seen
abbrev pub seat_id : HaltSeat → HaltId
seat_id s = s.seat.table_id

abbrev pub parts : HaltSeat → ℕ
parts s = s.seat.me.0.parts

abbrev pub recorded : HaltSeat → ℕ
recorded s = s.seat.me.0.recorded

abbrev pub seen : HaltSeat → ℕ
seen s = s.seat.me.0.seen

-- it is a seat of this word
abbrev pub IsSeatOf : Halt → HaltSeat → Type 0
IsSeatOf h s = seat_id s ≡ halt_id h

-- it is of the same word, with as many parts
abbrev pub IsSameSeat : HaltSeat → HaltSeat → Type 0
IsSameSeat old new = (seat_id new ≡ seat_id old) × (parts new ≡ parts old)

-- it is at most all that the seat had seen or recorded
abbrev pub IsAtMostKnown : ℕ → HaltSeat → Type 0
IsAtMostKnown word s = (word ≤ seen s) × (word ≤ recorded s)

-- a word was found at a step of the call, and the lesser of it and the place is the least that the
-- seat has seen
abbrev pub Lowers : HaltSeat → ℕ → HaltSeat → Type 0
Lowers old place new = (found : ℕ) × IsAtMostKnown found old × (seen new ≡ min found place)
