-- A kernel has one reaction: what it remembers and what its inputs have next determine an instant.
use Rattle.std.specs.Prelude.{◌≡◌, ◌<◌}
use Rattle.sig_meaning_laws.specs.Prelude.{ℕ, ℤ, false, Some, Contains, slice_get, Instant, IsValue, Unbounded, is_silent, seen_at, Kind, SigId, Signal, Span, IsReaction, Memory, kind_at, Delay, Kernel}

-- each delay remembers a value of the kind of the signal that it defines; its integers are all whole numbers
abbrev pub RemembersValues : Kernel → Memory → Type 0
RemembersValues kernel memory = (y x : SigId) (initial : ℤ) (at : Span) (kind : Kind)
    → Contains kernel.equations (record { form = Delay y x initial; at = at }) → kind_at kernel.signals y ≡ Some kind
    → IsValue Unbounded kind (memory y.0 x.0 initial)

-- each input has a next value, of its kind
abbrev pub HasNextValues : Kernel → (ℕ → ℤ) → Type 0
HasNextValues kernel next = (input : ℕ) (signal : Signal) → input < kernel.inputs → slice_get kernel.signals input ≡ Some signal
    → IsValue Unbounded signal.kind (next input)

-- an input that is present has its next value
abbrev pub TakesNext : Kernel → (ℕ → ℤ) → Instant → Type 0
TakesNext kernel next instant = (input : ℕ) (v : ℤ) → input < kernel.inputs → seen_at instant input ≡ Some v → v ≡ next input

-- an instant that is not silent meets the equations, with these memories and next values; its integers are all whole numbers
pub record IsNext (kernel : Kernel) (memory : Memory) (next : ℕ → ℤ) (instant : Instant) : Type 0 where
  pub is : IsReaction Unbounded kernel memory instant
  pub speaks : is_silent instant ≡ false
  pub takes : TakesNext kernel next instant

-- A kernel has one reaction: for any memories, one for each delay, and any next values, one for each input, there is one such
-- instant, and there is no other.
pub record HasOneReaction (kernel : Kernel) : Type 0 where
  pub some : (memory : Memory) (next : ℕ → ℤ) → RemembersValues kernel memory → HasNextValues kernel next
      → (instant : Instant) × IsNext kernel memory next instant
  pub one : (memory : Memory) (next : ℕ → ℤ) → RemembersValues kernel memory → HasNextValues kernel next
      → (a b : Instant) → IsNext kernel memory next a → IsNext kernel memory next b → a ≡ b
