-- The terminals that a part of the grammar may begin with.
use Rattle.std.specs.Prelude.{◌≡◌, ◌≤◌, ◌⊎◌, ◌∷◌}
use Rattle.sig_tree.specs.Prelude.{ℕ, Bool, List, [], codes, Kind}
use Rattle.sig_tree.specs.declared.expr.UnOp.{UnOp}
use Rattle.sig_tree.specs.Terminals.{Terminal, Leaf, name, word, number, mark, kind_word, truth_word, unary_terminal}
use Rattle.sig_tree.specs.Levels.{default_level, unary_level}

-- the leaves are some, and the first of them is in the set
abbrev pub StartsWith : (Terminal → Type 0) → List Leaf → Type 0
StartsWith Begins [] = ⊥
StartsWith Begins (l ∷ leaves) = Begins l.terminal

-- a name
abbrev pub BeginsName : Terminal → Type 0
BeginsName t = (text : List ℕ) × (t ≡ name text)

-- a constant: "-", a number, a truth or a name
abbrev pub BeginsConstant : Terminal → Type 0
BeginsConstant t = ((t ≡ mark (codes "-")) ⊎ ((value : ℕ) × (t ≡ number value)))
    ⊎ (((truth : Bool) × (t ≡ truth_word truth)) ⊎ BeginsName t)

-- an expression where one of a level is asked for: an operator with one operand of that level or a
-- tighter one, "(", a number, a truth or a name
abbrev pub BeginsExpression : (wanted : ℕ) → Terminal → Type 0
BeginsExpression wanted t = (((op : UnOp) × (t ≡ unary_terminal op) × (wanted ≤ unary_level op)) ⊎ (t ≡ mark (codes "(")))
    ⊎ (((value : ℕ) × (t ≡ number value)) ⊎ (((truth : Bool) × (t ≡ truth_word truth)) ⊎ BeginsName t))

-- a left side: "(" or a name
abbrev pub BeginsLeft : Terminal → Type 0
BeginsLeft t = (t ≡ mark (codes "(")) ⊎ BeginsName t

-- a body: "(|", or what begins a definition or a clock equation
abbrev pub BeginsBody : Terminal → Type 0
BeginsBody t = (t ≡ mark (codes "(|")) ⊎ BeginsExpression default_level t

-- a group of declarations: its kind
abbrev pub BeginsGroup : Terminal → Type 0
BeginsGroup t = (kind : Kind) × (t ≡ kind_word kind)

-- a pragma: the name RunOn
abbrev pub BeginsPlacement : Terminal → Type 0
BeginsPlacement t = t ≡ name (codes "RunOn")

-- a process
abbrev pub BeginsProcess : Terminal → Type 0
BeginsProcess t = t ≡ word (codes "process")

-- what is declared after `where`: a group or a process
abbrev pub BeginsLocal : Terminal → Type 0
BeginsLocal t = BeginsGroup t ⊎ BeginsProcess t
