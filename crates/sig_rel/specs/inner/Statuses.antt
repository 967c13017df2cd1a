-- Statuses of signals as functions of variables, and the unknowns of a kernel.
use Rattle.std.specs.Prelude.{◌<◌, ◌≤◌, ◌+◌, ◌∷◌, if◌then◌else◌}
use Rattle.sig_rel.specs.Prelude.{ℕ, Bool, List, [], None, Some, Status, test, Node, Ref, Kernel}
use Rattle.sig_rel.specs.Relations.{AreUnknowns, IsUnknownCount, IsUsed}
use Rattle.sig_rel.specs.declared.numbering.Unknowns.{Unknowns}
use Rattle.sig_rel.specs.declared.statuses.Known.{Known}

-- the status that two functions give
abbrev pub status_by : List Node → Known → List Bool → Status
status_by nodes known truths = if test nodes known.present truths then Some (test nodes known.truth truths) else None

abbrev pub refs_of : Known → List Ref
refs_of known = known.present ∷ known.truth ∷ []

abbrev pub itself : Ref → List Ref
itself r = r ∷ []

-- the unknowns of a kernel
abbrev pub AreUnknownsOf : Kernel → Unknowns → Type 0
AreUnknownsOf kernel unknowns = (count : ℕ) × AreUnknowns kernel count unknowns.present.items unknowns.truth.items

-- the unknowns lie from the first one to the end, and these are no further apart than there are unknowns
pub record LieWithin (kernel : Kernel) (unknowns : Unknowns) : Type 0 where
  pub order : unknowns.first ≤ unknowns.end
  pub few : (count : ℕ) → IsUnknownCount kernel count → unknowns.end ≤ unknowns.first + count
  pub within : (v : ℕ) → IsUsed unknowns.present.items unknowns.truth.items v → (unknowns.first ≤ v) × (v < unknowns.end)
