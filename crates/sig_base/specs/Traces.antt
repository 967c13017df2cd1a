-- Traces: what the signals of a program are, instant by instant. A signal is absent, or present with a
-- value (SIGNAL V4 reference manual). Truths are 0 and 1, and an event has the value 1 alone.
use Rattle.std.specs.Prelude.{◌≡◌, ◌⊎◌, ◌≤◌, ◌<◌, ◌++◌, ◌^◌, ℕ, ℤ, pos, negsuc, nat_lt, Bool, true, false, not, List, [], ◌∷◌, length, filter, flat_map, slice_index_or, Option, None, Some, option_to_list, ⊤, FitsSigned}
use Rattle.std.specs.Int.{w64}
use Rattle.std.specs.List.{AllByRecursion}
use Rattle.sig_base.specs.declared.ids.Kind.{Kind}
use Rattle.sig_base.specs.declared.ids.Kind.TheVariants.{Integer, Boolean, Event}

-- what a signal is at an instant: absent (`None`), or present with a value
abbrev pub Seen : Type 0
Seen = Option ℤ

-- an instant: what each signal is, by its number
abbrev pub Instant : Type 0
Instant = List Seen

-- a trace: its instants, in order
abbrev pub Trace : Type 0
Trace = List Instant

-- which whole numbers are integers: those of 64 bits, or all
pub data Range : Type 0 where
  Bounded : Range
  Unbounded : Range

abbrev pub IsInteger : Range → ℤ → Type 0
IsInteger Bounded v = FitsSigned w64 v
IsInteger Unbounded v = ⊤

-- whether a number has 64 bits: it is from -2^63 up to 2^63 - 1
abbrev pub has_64_bits : ℤ → Bool
has_64_bits (pos n) = nat_lt n (2 ^ 63)
has_64_bits (negsuc n) = nat_lt n (2 ^ 63)

-- the values of a kind
abbrev pub IsValue : Range → Kind → ℤ → Type 0
IsValue range Integer v = IsInteger range v
IsValue range Boolean v = (v ≡ pos 0) ⊎ (v ≡ pos 1)
IsValue range Event v = v ≡ pos 1

-- absent, or a value of the kind
abbrev pub IsOfKind : Range → Kind → Seen → Type 0
IsOfKind range kind None = ⊤
IsOfKind range kind (Some v) = IsValue range kind v

-- an instant of signals of these kinds: one entry for each
abbrev pub AreOfKinds : Range → List Kind → Instant → Type 0
AreOfKinds range [] [] = ⊤
AreOfKinds range [] (seen ∷ instant) = ⊥
AreOfKinds range (kind ∷ kinds) [] = ⊥
AreOfKinds range (kind ∷ kinds) (seen ∷ instant) = IsOfKind range kind seen × AreOfKinds range kinds instant

-- what the signal of a number is at an instant
abbrev pub seen_at : Instant → ℕ → Seen
seen_at instant signal = slice_index_or instant signal None

-- whether every signal is absent
abbrev pub is_silent : Instant → Bool
is_silent [] = true
is_silent (None ∷ instant) = is_silent instant
is_silent (Some v ∷ instant) = false

-- no instant is silent
abbrev pub NoneSilent : Trace → Type 0
NoneSilent trace = AllByRecursion (λ instant. is_silent instant ≡ false) trace

-- a trace without its silent instants
abbrev pub reduce : Trace → Trace
reduce trace = filter (λ instant. not (is_silent instant)) trace

-- the flow of a signal: its values in order, without the absences
abbrev pub flow_of : ℕ → Trace → List ℤ
flow_of signal trace = flat_map (λ instant. option_to_list (seen_at instant signal)) trace

-- a list is another one, or begins it
abbrev pub IsPrefixOf : {A : Type 0} → List A → List A → Type 0
IsPrefixOf front whole = (back : List _) × (whole ≡ front ++ back)

-- A trace fits flows, one for each input: each input's flow begins the flow given for it. Inputs are the
-- signals with the first numbers.
abbrev pub Fits : List (List ℤ) → Trace → Type 0
Fits flows trace = (input : ℕ) → input < length flows → IsPrefixOf (flow_of input trace) (slice_index_or flows input [])

-- The longest trace of a kind, for flows and a limit of instants: it fits, has at most so many instants, none
-- silent, and every trace of the kind that fits and has at most so many instants that are not silent is, without
-- its silent instants, a prefix of it.
pub record IsLongest (IsTrace : Trace → Type 0) (flows : List (List ℤ)) (limit : ℕ) (trace : Trace) : Type 0 where
  pub is : IsTrace trace
  pub fits : Fits flows trace
  pub within : length trace ≤ limit
  pub speaks : NoneSilent trace
  pub longest : (other : Trace) → IsTrace other → Fits flows other → length (reduce other) ≤ limit
      → IsPrefixOf (reduce other) trace
