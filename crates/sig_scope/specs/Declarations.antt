-- Declarations of the code, as the definitions see them.
use Rattle.sig_scope.specs.Prelude.{ℕ, List, map, Kind, Item, Declaration, Role, Parameter as AsParameter, Input as AsInput, Output as AsOutput, Local as AsLocal}
use Rattle.sig_scope.specs.declared.declared.Role.{Role as CodeRole}
use Rattle.sig_scope.specs.declared.declared.Role.TheVariants.{Parameter, Input, Output, Local}
use Rattle.sig_scope.specs.declared.declared.Declared.{Declared}

abbrev pub role_in : CodeRole → Role
role_in Parameter = AsParameter
role_in Input = AsInput
role_in Output = AsOutput
role_in Local = AsLocal

abbrev pub item_in : Kind → Role → Item → Declaration
item_in kind role item = record { name = item.name; kind = kind; role = role; init = item.init }

abbrev pub declaration_in : Declared → Declaration
declaration_in d = record { name = d.name.now; kind = d.kind; role = role_in d.role; init = d.init.now }

abbrev pub declarations_in : List Declared → List Declaration
declarations_in all = map declaration_in all

-- the texts of their names
abbrev pub texts_in : List Declaration → List (List ℕ)
texts_in all = map (λ d. d.name.text) all
