-- The conditions that the guards of listed operations need, and what the operations use.
use Rattle.std.specs.Prelude.{◌≡◌, ◌<◌, ◌⊎◌, ◌↔◌}
use Rattle.sig_part.specs.Prelude.{ℕ, List, [], length, slice_get, slice_index_or, Some, Contains, SigId, Node, operation_in, Needs, Op}

-- to each operation the conditions that its guard needs
pub record AreNeeded (conditions : List SigId) (nodes : List Node) (ops : List Op) (needs : List (List SigId)) : Type 0 where
  pub count : length needs ≡ length ops
  pub each : (number : ℕ) (op : Op) → slice_get ops number ≡ Some op
      → (x : SigId) → Contains (slice_index_or needs number []) x ↔ Needs conditions (operation_in nodes op) x

-- one of the first n operations is of the cluster, and reads the signal or needs it
pub record IsUsedWithin (ops : List Op) (needs : List (List SigId)) (cluster n : ℕ) (x : SigId) : Type 0 where
  pub number : ℕ
  pub below : number < n
  pub op : Op
  pub is : slice_get ops number ≡ Some op
  pub own : op.actor ≡ cluster
  pub used : Contains op.reads x ⊎ Contains (slice_index_or needs number []) x

-- one of the first n operations writes the signal x and needs the condition
pub record IsNeededWithin (ops : List Op) (needs : List (List SigId)) (x : SigId) (n : ℕ) (condition : SigId) : Type 0 where
  pub number : ℕ
  pub below : number < n
  pub op : Op
  pub is : slice_get ops number ≡ Some op
  pub writes : op.writes ≡ Some x
  pub needed : Contains (slice_index_or needs number []) condition

-- to each of so many signals the conditions that the operations need which write it
pub record AreNeededForEach (ops : List Op) (needs : List (List SigId)) (n : ℕ) (needed : List (List SigId)) : Type 0 where
  pub count : length needed ≡ n
  pub each : (x : SigId) → x.0 < n
      → (condition : SigId) → Contains (slice_index_or needed x.0 []) condition ↔ IsNeededWithin ops needs x (length ops) condition
