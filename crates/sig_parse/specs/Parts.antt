-- Languages of declarations, pragmas, processes and programs.
use Rattle.std.specs.Prelude.{◌≡◌, ◌≢◌, ◌++◌, ◌⊎◌, ◌∷◌}
use Rattle.sig_parse.specs.Prelude.{ℕ, suc, List, [], codes, Span, Kind, Event, Name, Declared, Equations, ProcessModel, ProcessModels, Terminal, Leaf, leaf, kind_word, word, mark, Limits, MayStandInside, Between, Each, Separated, Listed, IsName, IsBody, AreParams, AreGroups, IsPlacement, ArePragmas, IsLocalGroup, IsModel, AreLocals, IsWhere, IsProgram, ContinuesNothing, ContinuesInit, ContinuesList}
use Rattle.sig_parse.specs.declared.declaration.Declares.{Declares}
use Rattle.sig_parse.specs.declared.declaration.Declares.TheVariants.{Parameters, Inputs, Signals}
use Rattle.sig_parse.specs.Declarations.{IsItemOf, IsGroupOf, IsTitle, HasSides}

-- something of these
abbrev pub InAny : {A : Type 0} → (Limits → A → List Leaf → Type 0) → Limits → List Leaf → Type 0
InAny {A = A} Is limits leaves = (x : A) × Is limits x leaves

-- something of these, which know no limits
abbrev pub InSome : {A : Type 0} → (A → List Leaf → Type 0) → Limits → List Leaf → Type 0
InSome {A = A} Is limits leaves = (x : A) × Is x leaves

-- leaves up to the one that ends them
abbrev pub UpTo : {A : Type 0} → Terminal → (A → List Leaf → Type 0) → A → List Leaf → Type 0
UpTo ending Is x leaves = (ended : Span) × (inside : List Leaf) × (leaves ≡ inside ++ leaf ending ended ∷ []) × Is x inside

-- a kind, an item and a group of what is declared
abbrev pub IsKindOf : Declares → Kind → List Leaf → Type 0
IsKindOf declares kind leaves = (at : Span) × (declares ≡ Parameters → kind ≢ Event) × (leaves ≡ leaf (kind_word kind) at ∷ [])

abbrev pub InKind : Declares → Limits → List Leaf → Type 0
InKind declares limits leaves = InSome (IsKindOf declares) limits leaves

abbrev pub InItem : Declares → Limits → List Leaf → Type 0
InItem declares limits leaves = InSome (IsItemOf declares) limits leaves

abbrev pub InItems : Declares → Limits → List Leaf → Type 0
InItems declares limits leaves = InSome (Separated (IsItemOf declares) (mark (codes ","))) limits leaves

abbrev pub InGroup : Declares → Limits → List Leaf → Type 0
InGroup declares limits leaves = InSome (IsGroupOf declares) limits leaves

-- groups and the mark that closes them
abbrev pub InGroups : Declares → Terminal → Limits → List Leaf → Type 0
InGroups declares closing limits leaves = InSome (UpTo closing (AreGroups (IsGroupOf declares))) limits leaves

-- what continues an item, and a group
abbrev pub ContinuesItem : Declares → Terminal → Type 0
ContinuesItem Parameters t = ContinuesNothing t
ContinuesItem Inputs t = ContinuesNothing t
ContinuesItem Signals t = ContinuesInit t

abbrev pub ContinuesItems : Declares → Terminal → Type 0
ContinuesItems declares t = ContinuesList (mark (codes ",")) (ContinuesItem declares) t

abbrev pub InParams : Limits → List Leaf → Type 0
InParams limits leaves = InSome AreParams limits leaves

abbrev pub InInterface : Limits → List Leaf → Type 0
InInterface limits leaves = InSome HasSides limits leaves

abbrev pub InTitle : Limits → List Leaf → Type 0
InTitle limits leaves = InSome IsTitle limits leaves

-- names with commas between them
abbrev pub InNames : Limits → List Leaf → Type 0
InNames limits leaves = InSome (Separated IsName (mark (codes ","))) limits leaves

abbrev pub IsBraced : List Name → List Leaf → Type 0
IsBraced names leaves = Between (mark (codes "{")) (mark (codes "}")) (Separated IsName (mark (codes ",")) names) leaves

abbrev pub InBraced : Limits → List Leaf → Type 0
InBraced limits leaves = InSome IsBraced limits leaves

abbrev pub InPragma : Limits → List Leaf → Type 0
InPragma limits leaves = InSome IsPlacement limits leaves

-- pragmas and `end`
abbrev pub InPragmaList : Limits → List Leaf → Type 0
InPragmaList limits leaves = InSome (UpTo (word (codes "end")) (Each IsPlacement)) limits leaves

abbrev pub InPragmas : Limits → List Leaf → Type 0
InPragmas limits leaves = InSome ArePragmas limits leaves

abbrev pub InLocalGroup : Limits → List Leaf → Type 0
InLocalGroup limits leaves = InSome IsLocalGroup limits leaves

-- a body inside so many constructs
abbrev pub InBody : ℕ → Limits → List Leaf → Type 0
InBody depth limits leaves = (body : Equations) × IsBody limits body depth leaves

-- bodies up to "|)"
abbrev pub Body_at : ℕ → Limits → Equations → List Leaf → Type 0
Body_at depth limits body leaves = IsBody limits body depth leaves

abbrev pub InBodies : ℕ → Limits → List Leaf → Type 0
InBodies depth limits leaves = InSome (UpTo (mark (codes "|)")) (Listed (Body_at depth limits) (mark (codes "|")))) limits leaves

-- a process whose contents stand inside so many constructs, and one inside such a process
abbrev pub InProcess : ℕ → Limits → List Leaf → Type 0
InProcess depth limits leaves = (model : ProcessModel) × IsModel limits model depth leaves

abbrev pub InInner : ℕ → Limits → List Leaf → Type 0
InInner depth limits leaves = MayStandInside limits depth × InProcess (suc depth) limits leaves

-- groups and inner processes in any order, these up to `end`, and these from `where` on
abbrev pub IsDeclared : ℕ → Limits → List Declared × ProcessModels → List Leaf → Type 0
IsDeclared depth limits declared leaves = AreLocals limits declared.1 depth declared.0 leaves

abbrev pub InDeclared : ℕ → Limits → List Leaf → Type 0
InDeclared depth limits leaves = InSome (UpTo (word (codes "end")) (IsDeclared depth limits)) limits leaves

abbrev pub IsWherePart : ℕ → Limits → List Declared × ProcessModels → List Leaf → Type 0
IsWherePart depth limits declared leaves = IsWhere declared.0 declared.1 (IsDeclared depth limits declared) leaves

abbrev pub InWhere : ℕ → Limits → List Leaf → Type 0
InWhere depth limits leaves = InAny (IsWherePart depth) limits leaves

abbrev pub InProgram : Limits → List Leaf → Type 0
InProgram limits leaves = (processes : List ProcessModel) × IsProgram limits processes leaves

-- a mark that ends groups
abbrev pub EndsGroups : Terminal → Type 0
EndsGroups t = (t ≡ mark (codes "}")) ⊎ ((t ≡ mark (codes "!")) ⊎ (t ≡ mark (codes ")")))

-- everything: only the end of the leaves ends what is continued so
abbrev pub IsAnything : Terminal → Type 0
IsAnything t = Unit {0}
