-- Declarations, pragmas and processes: the leaves that they stand as.
use Rattle.std.specs.Prelude.{◌≡◌, ◌≢◌, ◌++◌, ◌⊎◌, ◌∷◌}
use Rattle.sig_tree.specs.Prelude.{ℕ, suc, List, [], codes, None, Span, Event}
use Rattle.sig_tree.specs.declared.process.Item.{Item}
use Rattle.sig_tree.specs.Syntax.{Declared, Placement, Equations, Heading, ProcessModel, Modelled, ProcessModels, no_model, more_models}
use Rattle.sig_tree.specs.Terminals.{Leaf, leaf, name_leaf, kind_word, name, word, label, mark}
use Rattle.sig_tree.specs.Limits.{Limits, MayStandInside}
use Rattle.sig_tree.specs.Repeated.{Between, Each, Separated}
use Rattle.sig_tree.specs.Expressions.{IsOptionalInit}
use Rattle.sig_tree.specs.Equations.{IsName, IsBody}

-- NAME, of what has no init
abbrev pub IsPlainItem : Item → List Leaf → Type 0
IsPlainItem item leaves = (item.init ≡ None) × IsName item.name leaves

-- NAME [ "init" constant ]
abbrev pub IsItem : Item → List Leaf → Type 0
IsItem item leaves = (rest : List Leaf) × (leaves ≡ name_leaf item.name ∷ rest) × IsOptionalInit item.init rest

-- kind item { "," item }
abbrev pub IsGroup : (Item → List Leaf → Type 0) → Declared → List Leaf → Type 0
IsGroup IsOne group leaves = (at : Span) × (rest : List Leaf) × (leaves ≡ leaf (kind_word group.kind) at ∷ rest)
    × Separated IsOne (mark (codes ",")) group.items rest

-- ( "integer" | "boolean" ) NAME { "," NAME }
abbrev pub IsParam : Declared → List Leaf → Type 0
IsParam group leaves = (group.kind ≢ Event) × IsGroup IsPlainItem group leaves

-- [ group { ";" group } [ ";" ] ]
abbrev pub AreGroups : (Declared → List Leaf → Type 0) → List Declared → List Leaf → Type 0
AreGroups Is [] leaves = leaves ≡ []
AreGroups Is (group ∷ groups) leaves = (front back : List Leaf) × (leaves ≡ front ++ back)
    × Separated Is (mark (codes ";")) (group ∷ groups) front
    × ((back ≡ []) ⊎ ((at : Span) × (back ≡ leaf (mark (codes ";")) at ∷ [])))

-- [ "{" [ params ] "}" ]
abbrev pub AreParams : List Declared → List Leaf → Type 0
AreParams params leaves = ((params ≡ []) × (leaves ≡ []))
    ⊎ Between (mark (codes "{")) (mark (codes "}")) (AreGroups IsParam params) leaves

-- "(" "?" inputs "!" outputs ")"
abbrev pub IsInterface : (inputs outputs : List Declared) → List Leaf → Type 0
IsInterface inputs outputs leaves = Between (mark (codes "(")) (mark (codes ")"))
    (λ inside. (asked answered : Span) × (front back : List Leaf)
    × (inside ≡ leaf (mark (codes "?")) asked ∷ (front ++ leaf (mark (codes "!")) answered ∷ back))
    × AreGroups (IsGroup IsPlainItem) inputs front × AreGroups (IsGroup IsItem) outputs back) leaves

-- "RunOn" "{" NAME { "," NAME } "}" LABEL
abbrev pub IsPlacement : Placement → List Leaf → Type 0
IsPlacement pragma leaves = (labelled : Span) × (names : List Leaf)
    × (leaves ≡ leaf (name (codes "RunOn")) pragma.at ∷ (names ++ leaf (label pragma.label) labelled ∷ []))
    × Between (mark (codes "{")) (mark (codes "}")) (Separated IsName (mark (codes ",")) pragma.names) names

-- [ "pragmas" { pragma } "end" "pragmas" ]
abbrev pub ArePragmas : List Placement → List Leaf → Type 0
ArePragmas pragmas leaves = ((pragmas ≡ []) × (leaves ≡ []))
    ⊎ ((first ended last : Span) × (inside : List Leaf)
    × (leaves ≡ leaf (word (codes "pragmas")) first ∷ (inside ++ leaf (word (codes "end")) ended ∷ leaf (word (codes "pragmas")) last ∷ []))
    × Each IsPlacement pragmas inside)

-- group ";"
abbrev pub IsLocalGroup : Declared → List Leaf → Type 0
IsLocalGroup group leaves = (at : Span) × (front : List Leaf) × (leaves ≡ front ++ leaf (mark (codes ";")) at ∷ []) × IsGroup IsItem group front

-- [ "where" locals "end" ]
abbrev pub IsWhere : (locals : List Declared) → (inner : ProcessModels) → (List Leaf → Type 0) → List Leaf → Type 0
IsWhere locals inner AreEntries leaves = ((locals ≡ []) × (inner ≡ no_model) × (leaves ≡ []))
    ⊎ Between (word (codes "where")) (word (codes "end")) AreEntries leaves

-- "process" NAME "=" params interface pragmas body where ";"
abbrev pub IsProcess : Limits → ℕ → Heading → List Placement → Equations → (List Leaf → Type 0) → List Leaf → Type 0
IsProcess limits depth heading pragmas body IsWherePart leaves =
    (begun equals ended : Span) × (params interface placed equations locals : List Leaf)
    × (leaves ≡ leaf (word (codes "process")) begun ∷ name_leaf heading.name ∷ leaf (mark (codes "=")) equals
    ∷ (params ++ (interface ++ (placed ++ (equations ++ (locals ++ leaf (mark (codes ";")) ended ∷ []))))))
    × AreParams heading.params params × IsInterface heading.inputs heading.outputs interface
    × ArePragmas pragmas placed × IsBody limits body depth equations × IsWherePart locals

-- a process whose contents stand inside so many constructs
abbrev mutual
  pub IsModel : Limits → ProcessModel → ℕ → List Leaf → Type 0
  IsModel limits (Modelled heading pragmas body locals inner) = λ depth leaves.
      IsProcess limits depth heading pragmas body (IsWhere locals inner (AreLocals limits inner depth locals)) leaves

  -- locals = { group ";" | process }: the groups and the inner processes in any order
  pub AreLocals : Limits → ProcessModels → ℕ → List Declared → List Leaf → Type 0
  AreLocals limits no_model = λ depth groups leaves. Each IsLocalGroup groups leaves
  AreLocals limits (more_models model rest) = λ depth groups leaves. (before after : List Declared) × (front middle back : List Leaf)
      × (groups ≡ before ++ after) × (leaves ≡ front ++ (middle ++ back))
      × Each IsLocalGroup before front
      × (MayStandInside limits depth × IsModel limits model (suc depth) middle)
      × AreLocals limits rest depth after back
