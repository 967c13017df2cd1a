-- What verifying an image finds out.
use Rattle.std.specs.Prelude.{◌≡◌, ◌<◌, ◌+◌, ◌*◌, ◌^◌}
use Rattle.sig_verify.specs.Prelude.{ℕ, length, slice_get, Some, NODES, ImageView, Guarded, IsSoundOperation, guards_of}

-- The operation of this number is the first of an image that is not sound.
pub record IsFirstUnsound (image : ImageView) (n : ℕ) : Type 0 where
  pub op : Guarded
  pub is : slice_get (guards_of image).ops n ≡ Some op
  pub unsound : IsSoundOperation (guards_of image) n op → ⊥
  pub before : (m : ℕ) (earlier : Guarded) → m < n → slice_get (guards_of image).ops m ≡ Some earlier → IsSoundOperation (guards_of image) m earlier

-- the most nodes that diagrams over so many conditions take for so many nodes and operations
abbrev pub nodes_needed : (nodes conditions ops : ℕ) → ℕ
nodes_needed nodes conditions ops = nodes + conditions + 16 * 4 ^ conditions * (ops + 1)

-- the nodes of a store may not suffice
abbrev pub IsBeyondBound : ImageView → Type 0
IsBeyondBound image = NODES < nodes_needed (length image.nodes) (length image.conditions) (length image.ops)
