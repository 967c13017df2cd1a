-- What an operation comes to in a state, and what it leaves.
use Rattle.sig_exec.proofs.Common.{◌≡◌, ◌<◌, inl, inr, ℕ, ℤ, pos, List, [], ◌∷◌, length, map, None, Some, Result, Ok, Err, unwrap_or, refl, sym, ap, ◌∙◌, length-set, get_or-set_other, get_or-set_same, Contains, slice_get, slice_set, slice_index_or, length-map, slice_get-get_or, operand_count as count_of, Instant, Seen, seen_at, SigId, Span, HaveValues, function_of, FunOp, Id, Operand, Const, Sig, Reads, Writes, Does, Ends, State, written, ImageOpKind, cause_of, computed, answered, no_equation, Cause, Exhausted, contains_head, contains_later}
use Rattle.sig_file.specs.Images.{operand_count}
use Rattle.sig_file.specs.declared.images.ImageOpKind.TheVariants as does
use Rattle.sig_exec.proofs.Results.{Computed, computed_is, overflow, result, zero_divisor}

abbrev pub value_in : Seen → ℤ
value_in seen = unwrap_or seen (pos 0)

abbrev pub operand_in : Instant → Operand → ℤ
operand_in registers (Sig x) = value_in (seen_at registers x.0)
operand_in registers (Const constant) = constant

-- the next value of what is left of an input
abbrev pub next_in : SigId → List ℤ → Result ℤ Cause
next_in x [] = Err (Exhausted x)
next_in x (v ∷ rest) = Ok v

abbrev pub behind_first : List ℤ → List ℤ
behind_first [] = []
behind_first (v ∷ rest) = rest

-- what an operation comes to in a state
abbrev pub outcome : ImageOpKind → State → Result ℤ Cause
outcome (does.Read x) s = next_in x (slice_index_or s.flows x.0 [])
outcome (does.Fun y op operands) s = answered (computed no_equation (function_of op) (map (operand_in s.registers) operands))
outcome (does.Copy y x) s = Ok (value_in (seen_at s.registers x.0))
outcome (does.Const y value) s = Ok value
outcome (does.DelayRead y memory) s = Ok (slice_index_or s.memories memory (pos 0))
outcome (does.Store memory x) s = Ok (value_in (seen_at s.registers x.0))

-- the state behind an operation that came to a value
abbrev pub operated : ImageOpKind → ℤ → State → State
operated (does.Read x) v s = written x v (record s { flows = slice_set s.flows x.0 (behind_first (slice_index_or s.flows x.0 [])) })
operated (does.Fun y op operands) v s = written y v s
operated (does.Copy y x) v s = written y v s
operated (does.Const y value) v s = written y v s
operated (does.DelayRead y memory) v s = written y v s
operated (does.Store memory x) v s = record s { memories = slice_set s.memories memory v }

-- what an operation reads is there
abbrev pub HasReads : ImageOpKind → State → Type 0
HasReads kind s = (x : SigId) → Reads kind x → (v : ℤ) × (seen_at s.registers x.0 ≡ Some v)

-- what an operation names is there
abbrev pub HasPlaces : ImageOpKind → State → Type 0
HasPlaces (does.Read x) s = x.0 < length s.flows
HasPlaces (does.Fun y op operands) s = length operands ≡ operand_count op
HasPlaces (does.DelayRead y memory) s = memory < length s.memories
HasPlaces other s = Unit {0}

pub there_is : (seen : Seen) → ((v : ℤ) × (seen ≡ Some v)) → seen ≡ Some (value_in seen)
there_is None (v, e) = absurd (let h : None ≡ Some v = e in cc)
there_is (Some w) (v, e) = refl

have_values : (registers : Instant) (operands : List Operand) → ((x : SigId) → Contains operands (Sig x) → (v : ℤ) × (seen_at registers x.0 ≡ Some v))
    → HaveValues registers operands (map (operand_in registers) operands)
have_values registers [] there = tt
have_values registers (Sig x ∷ operands) there =
    (there_is (seen_at registers x.0) (there x (contains_head (Sig x) operands)), have_values registers operands (λ y among. there y (contains_later (Sig x) (Sig y) operands among)))
have_values registers (Const c ∷ operands) there = (refl, have_values registers operands (λ y among. there y (contains_later (Const c) (Sig y) operands among)))

counts : (op : FunOp) → operand_count op ≡ count_of (function_of op)
counts Id = refl
counts other = refl

-- an operation does what leads from a state to what it leaves, or ends the run
abbrev pub Comes : ImageOpKind → Span → State → Result ℤ Cause → Type 0
Comes kind at s (Ok v) = Does kind s (operated kind v s)
Comes kind at s (Err cause) = Ends kind at s (cause_of at cause)

next_comes : (x : SigId) (at : Span) (s : State) (flow : List ℤ) → slice_get s.flows x.0 ≡ Some flow → slice_index_or s.flows x.0 [] ≡ flow → Comes (does.Read x) at s (next_in x flow)
next_comes x at s [] there is = (there, refl)
next_comes x at s (v ∷ rest) there is = (v, rest, there, ap (λ (l : List ℤ). written x v (record s { flows = slice_set s.flows x.0 (behind_first l) })) is)

function_comes : (y : SigId) (op : FunOp) (operands : List Operand) (at : Span) (s : State) (values : List ℤ) → HaveValues s.registers operands values
    → (r : Result ℤ Cause) → Computed (function_of op) values r → Comes (does.Fun y op operands) at s r
function_comes y op operands at s values have r (result v gives small) = (v, (values, have, gives), small, refl)
function_comes y op operands at s values have r (overflow v gives large) = inl (v, (values, have, gives), large, refl)
function_comes y op operands at s values have r (zero_divisor zeroed) = inr (values, have, zeroed, refl)

pub comes : (kind : ImageOpKind) (at : Span) (s : State) → HasPlaces kind s → HasReads kind s → Comes kind at s (outcome kind s)
comes (does.Read x) at s places reads =
    next_comes x at s (slice_index_or s.flows x.0 []) (slice_get-get_or s.flows x.0 [] places) refl
comes (does.Fun y op operands) at s places reads =
    let values = map (operand_in s.registers) operands in
    let count = length-map operands (operand_in s.registers) ∙ places ∙ counts op in
    function_comes y op operands at s values (have_values s.registers operands reads) (answered (computed no_equation (function_of op) values)) (computed_is (function_of op) values count)
comes (does.Copy y x) at s places reads = (value_in (seen_at s.registers x.0), there_is (seen_at s.registers x.0) (reads x refl), refl)
comes (does.Const y value) at s places reads = refl
comes (does.DelayRead y memory) at s places reads = (slice_index_or s.memories memory (pos 0), slice_get-get_or s.memories memory (pos 0) places, refl)
comes (does.Store memory x) at s places reads = (value_in (seen_at s.registers x.0), there_is (seen_at s.registers x.0) (reads x refl), refl)

-- ---- registers behind an operation

other_at : (registers : Instant) (y x : ℕ) (v : ℤ) → (y ≡ x → ⊥) → seen_at (slice_set registers y (Some v)) x ≡ seen_at registers x
other_at registers y x v apart = get_or-set_other registers y x (Some v) None (λ e. apart (sym e))

-- what an operation does not write stays
pub others_stay : (kind : ImageOpKind) (v : ℤ) (s : State) (x : ℕ) → ((y : SigId) → Writes kind y → y.0 ≡ x → ⊥) → seen_at (operated kind v s).registers x ≡ seen_at s.registers x
others_stay (does.Read y) v s x apart = other_at s.registers y.0 x v (apart y refl)
others_stay (does.Fun y op operands) v s x apart = other_at s.registers y.0 x v (apart y refl)
others_stay (does.Copy y source) v s x apart = other_at s.registers y.0 x v (apart y refl)
others_stay (does.Const y value) v s x apart = other_at s.registers y.0 x v (apart y refl)
others_stay (does.DelayRead y memory) v s x apart = other_at s.registers y.0 x v (apart y refl)
others_stay (does.Store memory source) v s x apart = refl

same_at : (registers : Instant) (x y : SigId) (v : ℤ) → x ≡ y → x.0 < length registers → seen_at (slice_set registers y.0 (Some v)) x.0 ≡ Some v
same_at registers x y v e within = ap (λ (z : SigId). seen_at (slice_set registers z.0 (Some v)) x.0) (sym e) ∙ get_or-set_same registers x.0 (Some v) None within

-- and what it writes is there
pub written_there : (kind : ImageOpKind) (v : ℤ) (s : State) (x : SigId) → Writes kind x → x.0 < length s.registers → seen_at (operated kind v s).registers x.0 ≡ Some v
written_there (does.Read y) v s x e within = same_at s.registers x y v e within
written_there (does.Fun y op operands) v s x e within = same_at s.registers x y v e within
written_there (does.Copy y source) v s x e within = same_at s.registers x y v e within
written_there (does.Const y value) v s x e within = same_at s.registers x y v e within
written_there (does.DelayRead y memory) v s x e within = same_at s.registers x y v e within
written_there (does.Store memory source) v s x e within = absurd e

-- there are as many of all as before
pub record AreAlike (s t : State) : Type 0 where
  pub registers : length t.registers ≡ length s.registers
  pub memories : length t.memories ≡ length s.memories
  pub flows : length t.flows ≡ length s.flows

pub operated_alike : (kind : ImageOpKind) (v : ℤ) (s : State) → AreAlike s (operated kind v s)
operated_alike (does.Read y) v s = record { registers = length-set s.registers y.0 (Some v); memories = refl; flows = length-set s.flows y.0 (behind_first (slice_index_or s.flows y.0 [])) }
operated_alike (does.Fun y op operands) v s = record { registers = length-set s.registers y.0 (Some v); memories = refl; flows = refl }
operated_alike (does.Copy y source) v s = record { registers = length-set s.registers y.0 (Some v); memories = refl; flows = refl }
operated_alike (does.Const y value) v s = record { registers = length-set s.registers y.0 (Some v); memories = refl; flows = refl }
operated_alike (does.DelayRead y memory) v s = record { registers = length-set s.registers y.0 (Some v); memories = refl; flows = refl }
operated_alike (does.Store memory source) v s = record { registers = refl; memories = length-set s.memories memory v; flows = refl }
