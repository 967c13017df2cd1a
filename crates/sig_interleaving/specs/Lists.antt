-- Links in memory.
use Rattle.std.specs.Prelude.{◌≡◌, ◌<◌, ◌≤◌}
use Rattle.sig_interleaving.specs.Prelude.{ℕ, ℤ, [], length, slice_get, Option, None, Some, deque_capacity, VecDeque, LinkQueue, Queues}
use Rattle.sig_interleaving.specs.declared.lists.Lists.{Lists}

-- what a queue holds, and how much it can hold
abbrev pub queue_in : {Z : Type 0} → Option (VecDeque ℤ Z) → LinkQueue
queue_in None = record { items = []; capacity = 0 }
queue_in (Some queue) = record { items = queue.items; capacity = deque_capacity queue }

-- what each link holds
abbrev pub queues_of : Lists → Queues
queues_of lists j = queue_in (slice_get lists.queues.items j)

-- a link in memory is found full where it holds as many items as it can, and empty where it holds none
abbrev pub IsFoundFull : ℕ → Lists → Lists → Type 0
IsFoundFull link old new = (queues_of old link).capacity ≤ length (queues_of old link).items

abbrev pub IsFoundEmpty : ℕ → Lists → Lists → Type 0
IsFoundEmpty link old new = (queues_of old link).items ≡ []

-- so many links of a capacity, each of them empty
pub record AreEmpty (links capacity : ℕ) (lists : Lists) : Type 0 where
  pub count : length lists.queues.items ≡ links
  pub each : (j : ℕ) → j < links → queues_of lists j ≡ record { items = []; capacity = capacity }
