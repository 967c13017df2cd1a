-- Calls that do not lead back.
use Rattle.sig_type.proofs.Common.{ℕ, List, [], ◌∷◌, AllByRecursion, ProcessModel, Name, NoneHolds, Reaches, recursive_in}

-- the names of a process's calls that do not lead back
pub none_recursive : (all : List ProcessModel) (u : List ℕ) (names : List Name) → AllByRecursion (λ n. Reaches all n.text u → ⊥) names → NoneHolds (recursive_in all u names)
none_recursive all u [] h = tt
none_recursive all u (n ∷ names) h = (h.0, none_recursive all u names h.1)
