-- How small a kernel is for which the nodes of a store suffice.
use Rattle.std.specs.Prelude.{◌≡◌, ◌+◌, ◌*◌, ◌^◌, ◌≤◌, ◌⊎◌}
use Rattle.sig_back.specs.Prelude.{ℕ, length, NODES, conditions_of, StoreView, Kernel, IsUnknownCount, IsTriangular, share_of, triangular_share_of}

-- For u unknowns, one for each clock class and one for each boolean that is no event, and q equations, four times
-- 2^u * 60 * (q + u*u*u) nodes are no more than a store has.
pub record MeetsUnknownBound (kernel : Kernel) : Type 0 where
  pub unknowns : ℕ
  pub counted : IsUnknownCount kernel unknowns
  pub fits : 4 * share_of kernel unknowns ≤ NODES

-- For a triangular kernel with k conditions and q equations, 2^k * 39 * (q + 1) nodes are no more than a store has.
pub record MeetsTriangularBound (kernel : Kernel) : Type 0 where
  pub triangular : IsTriangular kernel
  pub fits : 2 ^ length (conditions_of kernel) * 39 * (length kernel.equations + 1) ≤ NODES

-- the nodes of a store suffice by one of both bounds
abbrev pub MeetsBound : Kernel → Type 0
MeetsBound kernel = MeetsUnknownBound kernel ⊎ MeetsTriangularBound kernel

-- a store for so many nodes holds at most the share of the clocks
pub record Spends (kernel : Kernel) (store : StoreView) : Type 0 where
  pub made_for : store.made_for ≡ NODES
  pub share : (unknowns : ℕ) → IsUnknownCount kernel unknowns → length store.nodes ≤ share_of kernel unknowns
  pub triangular : IsTriangular kernel → length store.nodes ≤ triangular_share_of kernel
