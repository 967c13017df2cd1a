-- The clock hierarchy of classes: the parent of a class is a class whose signals are present wherever its own are.
use Rattle.std.specs.Prelude.{◌≡◌, ◌<◌, ◌≤◌}
use Rattle.sig_hier.specs.Prelude.{ℕ, List, length, slice_get, slice_index_or, Option, None, Some, HasClocks, AreClocks, ClocksView, Holds, Implies, Node, Ref, IsValid, Kernel}

-- guards are references of a store
abbrev pub AreHeld : List Node → List Ref → Type 0
AreHeld nodes guards = (class : ℕ) (guard : Ref) → slice_get guards class ≡ Some guard → Holds nodes guard

-- the guard of a class implies that of another one
pub record IsWithin (nodes : List Node) (guards : List Ref) (class other : ℕ) : Type 0 where
  pub guard : Ref
  pub other_guard : Ref
  pub has : slice_get guards class ≡ Some guard
  pub other_has : slice_get guards other ≡ Some other_guard
  pub implies : Implies nodes guard other_guard

-- the parent of a class: the last class before it whose guard its guard implies
pub record IsParent (nodes : List Node) (guards : List Ref) (class parent : ℕ) : Type 0 where
  pub before : parent < class
  pub within : IsWithin nodes guards class parent
  pub last : (other : ℕ) → other < class → IsWithin nodes guards class other → other ≤ parent

-- what stands for a class is its parent, if it has one
abbrev pub IsParentIfAny : List Node → List Ref → ℕ → Option ℕ → Type 0
IsParentIfAny nodes guards class None = (other : ℕ) → other < class → IsWithin nodes guards class other → ⊥
IsParentIfAny nodes guards class (Some parent) = IsParent nodes guards class parent

-- each of so many first classes has its parent, if it has one
pub record AreParents (nodes : List Node) (guards : List Ref) (count : ℕ) (parents : List (Option ℕ)) : Type 0 where
  pub counted : length parents ≡ count
  pub each : (class : ℕ) → class < count → IsParentIfAny nodes guards class (slice_index_or parents class None)

-- a class has this parent
pub record HasParent (nodes : List Node) (guards : List Ref) (tree : List (Option ℕ)) (class : ℕ) : Type 0 where
  pub parent : ℕ
  pub has : slice_get tree class ≡ Some (Some parent)
  pub is : IsParent nodes guards class parent

-- The hierarchy of clocks: class 0 is the root, which has no parent, and each other class has one.
pub record IsTree (nodes : List Node) (clocks : ClocksView) (tree : List (Option ℕ)) : Type 0 where
  pub count : length tree ≡ length clocks.guard
  pub root : slice_get tree 0 ≡ Some None
  pub parents : (class : ℕ) → 0 < class → class < length clocks.guard → HasParent nodes clocks.guard tree class

-- these are the clocks of some valid kernel, which has clocks, with their guards among the nodes of a store
abbrev pub HaveKernel : List Node → ClocksView → Type 0
HaveKernel nodes clocks = (kernel : Kernel) × IsValid kernel × HasClocks kernel × AreClocks kernel nodes clocks
