-- Well-formed programs, and the first rule that another program breaks.
use Rattle.std.specs.Prelude.{List, ◌++◌}
use Rattle.sig_tree.specs.Syntax.{ProcessModel}
use Rattle.sig_tree.specs.Declarations.{all_processes, with_earlier}
use Rattle.sig_tree.specs.Candidates.{Candidate, Offence, each, NoneHolds, IsFirst}
use Rattle.sig_tree.specs.Rules.{unknown_names, declared_twice, inputs_defined, defined_twice, undefined, clashes, bare_constants, bad_calls, recursive_calls, bad_pragmas, missing_inits_in}

-- what may be wrong in a process of a program, by the eleven rules in their order; `before` are the processes
-- before it in the text
abbrev pub rules_on : (all before : List ProcessModel) → ProcessModel → List Candidate
rules_on all before p = unknown_names all p ++ (declared_twice before p ++ (inputs_defined p ++ (defined_twice p ++ (undefined p
    ++ (clashes all p ++ (bare_constants p ++ (bad_calls all before p ++ (recursive_calls all p ++ (bad_pragmas p ++ missing_inits_in p)))))))))

-- what may be wrong in a program: its processes in the order of the text, all rules on one before the next
abbrev pub rules_of : List ProcessModel → List Candidate
rules_of all = each (λ p. rules_on all p.0 p.1) (with_earlier all)

-- a program that breaks no rule
abbrev pub IsWellFormed : List ProcessModel → Type 0
IsWellFormed program = NoneHolds (rules_of (all_processes program))

-- the first rule that a program breaks, with the name or the place that is said of it
abbrev pub IsFirstOffence : List ProcessModel → Offence → Type 0
IsFirstOffence program offence = IsFirst (rules_of (all_processes program)) offence
