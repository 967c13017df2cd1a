-- The terminals that may continue a part of the grammar where it could also have ended. A set may hold
-- more: terminals that never stand behind this part.
use Rattle.std.specs.Prelude.{◌≡◌, ◌≤◌, ◌⊎◌, ℕ, codes}
use Rattle.sig_tree.specs.declared.expr.BinOp.{BinOp}
use Rattle.sig_tree.specs.Terminals.{Terminal, word, number, mark, binary_terminal}
use Rattle.sig_tree.specs.Levels.{default_level, mixed_level, delay_level, binary_level}
use Rattle.sig_tree.specs.Beginning.{BeginsBody, BeginsGroup, BeginsPlacement, BeginsProcess, BeginsLocal}

-- none: names, constants, inits, left sides, what ends with a bracket, processes
abbrev pub ContinuesNothing : Terminal → Type 0
ContinuesNothing t = ⊥

-- an optional part that begins with this terminal
abbrev pub ContinuesOptional : Terminal → Terminal → Type 0
ContinuesOptional first t = t ≡ first

-- [ "init" constant ], and a declared name with it
abbrev pub ContinuesInit : Terminal → Type 0
ContinuesInit t = ContinuesOptional (word (codes "init")) t

-- an operator that stands behind an operand, of this level or a tighter one
abbrev pub IsInfix : (level : ℕ) → Terminal → Type 0
IsInfix level t = ((op : BinOp) × (t ≡ binary_terminal op) × (level ≤ binary_level op))
    ⊎ (((t ≡ word (codes "cell")) × (level ≤ mixed_level))
    ⊎ ((t ≡ mark (codes "$")) × (level ≤ delay_level)))

-- what may stand behind "$"
abbrev pub ContinuesDelay : Terminal → Type 0
ContinuesDelay t = (t ≡ number 1) ⊎ (t ≡ word (codes "init"))

-- an expression where one of a level is asked for
abbrev pub ContinuesExpression : (wanted : ℕ) → Terminal → Type 0
ContinuesExpression wanted t = IsInfix wanted t ⊎ ((wanted ≤ delay_level) × ContinuesDelay t)

-- X { separator X }
abbrev pub ContinuesList : Terminal → (Terminal → Type 0) → Terminal → Type 0
ContinuesList separator Continues t = (t ≡ separator) ⊎ Continues t

-- { X }, with what begins an X
abbrev pub ContinuesEach : (Terminal → Type 0) → (Terminal → Type 0) → Terminal → Type 0
ContinuesEach Begins Continues t = Begins t ⊎ Continues t

-- the right side of a definition, and the whole of it
abbrev pub ContinuesDefinition : Terminal → Type 0
ContinuesDefinition t = ((t ≡ mark (codes "(")) ⊎ (t ≡ mark (codes "{"))) ⊎ ContinuesExpression default_level t

-- a clock equation
abbrev pub ContinuesClockEquation : Terminal → Type 0
ContinuesClockEquation t = ContinuesList (mark (codes "^=")) (ContinuesExpression default_level) t

-- a body
abbrev pub ContinuesBody : Terminal → Type 0
ContinuesBody t = (t ≡ mark (codes "^=")) ⊎ ContinuesDefinition t

-- { "|" body }
abbrev pub ContinuesFurtherBodies : Terminal → Type 0
ContinuesFurtherBodies t = ContinuesList (mark (codes "|")) ContinuesBody t

-- [ body { "|" body } ]
abbrev pub ContinuesBodies : Terminal → Type 0
ContinuesBodies t = ContinuesEach BeginsBody ContinuesFurtherBodies t

-- kind NAME { "," NAME }
abbrev pub ContinuesParam : Terminal → Type 0
ContinuesParam t = ContinuesList (mark (codes ",")) ContinuesNothing t

-- kind item { "," item }
abbrev pub ContinuesGroup : Terminal → Type 0
ContinuesGroup t = ContinuesList (mark (codes ",")) ContinuesInit t

-- [ X { ";" X } [ ";" ] ], where an X is a group
abbrev pub ContinuesGroups : (Terminal → Type 0) → Terminal → Type 0
ContinuesGroups Continues t = ContinuesEach BeginsGroup (ContinuesList (mark (codes ";")) Continues) t

-- { pragma }
abbrev pub ContinuesPlacements : Terminal → Type 0
ContinuesPlacements t = BeginsPlacement t

-- { group ";" | process }
abbrev pub ContinuesLocals : Terminal → Type 0
ContinuesLocals t = BeginsLocal t

-- process { process }
abbrev pub ContinuesProgram : Terminal → Type 0
ContinuesProgram t = BeginsProcess t
