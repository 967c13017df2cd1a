-- Diagrams that have a number among nodes, and what is made of operations that stand behind others.
use Rattle.sig_file.specs.Prelude.{ℕ, Bool, List, slice_get, IfSome, Diagram, diagram, Node, Ref}
use Rattle.std.specs.HashMap.{HashMap, get}
use Rattle.std.specs.Prelude.{◌≡◌, ◌++◌, filter_map}
use Rattle.sig_base.specs.declared.ids.OpId.{OpId}
use Rattle.sig_plan.specs.Plans.{PlanView}
use Rattle.sig_file.specs.PlanImages.{made_of, visited}
use Rattle.sig_file.specs.declared.images.ImageNode.{ImageNode}
use Rattle.sig_file.specs.declared.images.ImageOp.{ImageOp}

-- the nodes have all those of the diagram, whose number this is: a visit adds none
abbrev pub IsNumbered : List ImageNode → Diagram → ℕ → Type 0
IsNumbered nodes d n = visited d nodes ≡ (nodes, n)

-- each entry of the table is the number of its reference's diagram
abbrev pub AreNumbered : {S : Type 0} → (Ref → Ref → Bool) → List Node → List ImageNode → HashMap Ref ℕ S → Type 0
AreNumbered eq store nodes table = (r : Ref) → IfSome (get eq table r) (IsNumbered nodes (diagram store r))

-- the nodes and the operations that are made of those of an order, behind operations that are made already
abbrev pub made_behind : PlanView → List OpId → List ImageNode → List ImageOp → List ImageNode × List ImageOp
made_behind plan order nodes ops =
    let made = made_of plan (filter_map (λ number. slice_get plan.ops number.0) order) nodes in
    (made.0, ops ++ made.1)
