-- The grammar: programs, sentences and what a sentence begins with.
use Rattle.std.specs.Prelude.{◌≢◌, ◌++◌}
use Rattle.sig_tree.specs.Prelude.{ℕ, List, [], Token, AreTokens}
use Rattle.sig_tree.specs.Syntax.{ProcessModel}
use Rattle.sig_tree.specs.Terminals.{Leaf}
use Rattle.sig_tree.specs.Leaves.{leaves_of}
use Rattle.sig_tree.specs.Limits.{Limits, both_limits, no_limits}
use Rattle.sig_tree.specs.Repeated.{Each}
use Rattle.sig_tree.specs.Processes.{IsModel}

-- program = process { process }
abbrev pub IsProgram : Limits → List ProcessModel → List Leaf → Type 0
IsProgram limits processes leaves = (processes ≢ []) × Each (λ process. IsModel limits process 0) processes leaves

-- the leaves are those of the program of this tree, within both limits
abbrev pub HasTree : List Leaf → List ProcessModel → Type 0
HasTree leaves processes = IsProgram both_limits processes leaves

-- the leaves have a tree, where the limits are left out
abbrev pub IsSentence : List Leaf → Type 0
IsSentence leaves = (processes : List ProcessModel) × IsProgram no_limits processes leaves

-- some leaves that have a tree within these limits begin with these
abbrev pub Begins : Limits → List Leaf → Type 0
Begins limits leaves = (rest : List Leaf) × (processes : List ProcessModel) × IsProgram limits processes (leaves ++ rest)

-- the text is that of the program of this tree
abbrev pub IsText : List ℕ → List ProcessModel → Type 0
IsText text processes = (tokens : List Token) × AreTokens text tokens × HasTree (leaves_of text tokens) processes
