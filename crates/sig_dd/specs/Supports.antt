-- The variables on which functions depend, and what a walk over all nodes tells of a block of variables.
use Rattle.std.specs.Prelude.{◌≡◌, ◌↔◌, ◌<◌, ◌+◌, ◌*◌, ℕ, Bool, true, false, List, [], ◌∷◌, ◌++◌, length, slice_get, slice_index_or, Some, Contains}
use Rattle.std.specs.Int.{bit_at}
use Rattle.std.specs.List.Sorted.{IsStrictlyIncreasing}
use Rattle.sig_dd.specs.Diagram.{Depends, Tests}
use Rattle.sig_dd.specs.Nodes.{diagram, test}
use Rattle.sig_dd.specs.declared.node.Ref.{Ref}
use Rattle.sig_dd.specs.declared.node.Node.{Node}

-- the variables on which r's function depends, in increasing order
pub record IsSupport (nodes : List Node) (r : Ref) (variables : List ℕ) : Type 0 where
  pub increasing : IsStrictlyIncreasing variables
  pub exact : (v : ℕ) → Contains variables v ↔ Depends (test nodes r) v

-- the variables on which each of some functions depends
pub record AreSupports (nodes : List Node) (roots : List Ref) (lists : List (List ℕ)) : Type 0 where
  pub count : length lists ≡ length roots
  pub each : (i : ℕ) (r : Ref) → slice_get roots i ≡ Some r → IsSupport nodes r (slice_index_or lists i [])

-- the bit of a mask at a place is set
abbrev pub HasBit : ℕ → ℕ → Type 0
HasBit mask place = bit_at mask place ≡ 1

-- the bits of a mask tell which of the 64 variables of a block r's diagram tests
abbrev pub IsMask : List Node → ℕ → Ref → ℕ → Type 0
IsMask nodes block r mask =
    (place : ℕ) → place < 64 → HasBit mask place ↔ Tests (diagram nodes r) (block * 64 + place)

-- the masks of the references whose numbers are below the length of a list
abbrev pub AreMasks : List Node → ℕ → List ℕ → Type 0
AreMasks nodes block masks =
    (r : Ref) → r.number < length masks → IsMask nodes block r (slice_index_or masks r.number 0)

-- the variables before a bound that r's diagram tests, in increasing order
pub record IsTestedBelow (nodes : List Node) (bound : ℕ) (r : Ref) (variables : List ℕ) : Type 0 where
  pub increasing : IsStrictlyIncreasing variables
  pub exact : (v : ℕ) → Contains variables v ↔ ((v < bound) × Tests (diagram nodes r) v)

-- the same of each of some functions
pub record AreTestedBelow (nodes : List Node) (bound : ℕ) (roots : List Ref) (lists : List (List ℕ)) : Type 0 where
  pub count : length lists ≡ length roots
  pub each : (i : ℕ) (r : Ref) → slice_get roots i ≡ Some r → IsTestedBelow nodes bound r (slice_index_or lists i [])

-- a variable is added, where it is chosen
abbrev pub added : List ℕ → ℕ → Bool → List ℕ
added variables v false = variables
added variables v true = variables ++ v ∷ []
