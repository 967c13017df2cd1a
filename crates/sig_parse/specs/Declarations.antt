-- What the parser reads of declarations, bodies and processes, in the terms of the grammar.
use Rattle.std.specs.Prelude.{◌≡◌, ◌++◌, ◌⊎◌, ◌∷◌}
use Rattle.sig_parse.specs.Prelude.{ℕ, suc, List, [], codes, Item, Declared, ProcessModel, Leaf, leaf, name_leaf, word, mark, Span, Name, both_limits, MayStandInside, Between, Each, IsPlainItem, IsItem, IsGroup, IsParam, IsInterface, IsLocalGroup, IsModel}
use Rattle.sig_parse.specs.declared.declaration.Declares.{Declares}
use Rattle.sig_parse.specs.declared.declaration.Declares.TheVariants.{Parameters, Inputs, Signals}

-- an item, and a group, of what is declared
abbrev pub IsItemOf : Declares → Item → List Leaf → Type 0
IsItemOf Parameters = IsPlainItem
IsItemOf Inputs = IsPlainItem
IsItemOf Signals = IsItem

abbrev pub IsGroupOf : Declares → Declared → List Leaf → Type 0
IsGroupOf Parameters = IsParam
IsGroupOf Inputs = IsGroup IsPlainItem
IsGroupOf Signals = IsGroup IsItem

-- `process`, a name and `=`
abbrev pub IsTitle : Name → List Leaf → Type 0
IsTitle name leaves = (begun equals : Span) × (leaves ≡ leaf (word (codes "process")) begun ∷ name_leaf name ∷ leaf (mark (codes "=")) equals ∷ [])

-- a process inside one whose contents stand inside so many constructs
abbrev pub IsInnerProcess : ℕ → ProcessModel → List Leaf → Type 0
IsInnerProcess depth model leaves = MayStandInside both_limits depth × IsModel both_limits model (suc depth) leaves

-- groups and inner processes in any order, the processes as a list
abbrev pub AreDeclared : ℕ → List ProcessModel → List Declared → List Leaf → Type 0
AreDeclared depth [] groups leaves = Each IsLocalGroup groups leaves
AreDeclared depth (model ∷ models) groups leaves = (before after : List Declared) × (front middle back : List Leaf)
    × (groups ≡ before ++ after) × (leaves ≡ front ++ (middle ++ back))
    × Each IsLocalGroup before front
    × IsInnerProcess depth model middle
    × AreDeclared depth models after back

-- the same behind `where`
abbrev pub AreBehindWhere : ℕ → List ProcessModel → List Declared → List Leaf → Type 0
AreBehindWhere depth models groups leaves = ((groups ≡ []) × (models ≡ []) × (leaves ≡ []))
    ⊎ Between (word (codes "where")) (word (codes "end")) (AreDeclared depth models groups) leaves

-- inputs and outputs, and inner processes and groups, as pairs
abbrev pub HasSides : List Declared × List Declared → List Leaf → Type 0
HasSides sides = IsInterface sides.0 sides.1

abbrev pub HasDeclared : ℕ → List ProcessModel × List Declared → List Leaf → Type 0
HasDeclared depth declared = AreDeclared depth declared.0 declared.1

abbrev pub HasBehindWhere : ℕ → List ProcessModel × List Declared → List Leaf → Type 0
HasBehindWhere depth declared = AreBehindWhere depth declared.0 declared.1
