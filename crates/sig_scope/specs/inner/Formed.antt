-- That a program is well formed is a fact: there is at most one proof of it.
use mathlib.Core.HLevel.{×_prop, Unit-prop, ¬_prop}
use Rattle.std.specs.Prelude.{◌∷◌}
use Rattle.sig_scope.specs.Prelude.{List, [], ProcessModel, all_processes, Candidate, NoneHolds, IsWellFormed, rules_of}

pub NoneHolds-prop : (cs : List Candidate) → IsProp (NoneHolds cs)
NoneHolds-prop [] = Unit-prop
NoneHolds-prop (c ∷ cs) = ×_prop ¬_prop (NoneHolds-prop cs)

pub IsWellFormed-prop : (program : List ProcessModel) → IsProp (IsWellFormed program)
IsWellFormed-prop program = NoneHolds-prop (rules_of (all_processes program))
