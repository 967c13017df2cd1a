-- What the walk that collects variables keeps.
use Rattle.std.specs.Prelude.{ℕ, Bool, List, IsTrue, ◌⊎◌}
use Rattle.std.specs.Ordering.{nat_cmp}
use Rattle.std.specs.HashSet.{HashSet, contains}
use Rattle.std.specs.BTreeSet as ordered
use Rattle.sig_dd.specs.Diagram.{Tests}
use Rattle.sig_dd.specs.Nodes.{diagram}
use Rattle.sig_dd.specs.declared.node.Ref.{Ref}
use Rattle.sig_dd.specs.declared.node.Node.{Node}

-- the variables of each reference that was seen are collected
abbrev pub IsSeen : {S : Type 0} → (Ref → Ref → Bool) → List Node → HashSet Ref S → ordered.BTreeSet ℕ → Type 0
IsSeen eq nodes seen variables =
    (r : Ref) → IsTrue (contains eq seen r) → (v : ℕ) → Tests (diagram nodes r) v → IsTrue (ordered.contains nat_cmp variables v)

-- the variables that r's diagram tests were added to a set, and no others
pub record Collects (nodes : List Node) (r : Ref) (old new : ordered.BTreeSet ℕ) : Type 0 where
  pub all : (v : ℕ) → Tests (diagram nodes r) v → IsTrue (ordered.contains nat_cmp new v)
  pub kept : (v : ℕ) → IsTrue (ordered.contains nat_cmp old v) → IsTrue (ordered.contains nat_cmp new v)
  pub only : (v : ℕ) → IsTrue (ordered.contains nat_cmp new v) → IsTrue (ordered.contains nat_cmp old v) ⊎ Tests (diagram nodes r) v
