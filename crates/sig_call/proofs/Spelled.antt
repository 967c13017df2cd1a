-- The names that the processes of a text declare are spelled as names, and the inits beside them have 64 bits.
use Rattle.sig_call.proofs.Common.{◌≡◌, ◌++◌, ℕ, List, [], ◌∷◌, Option, subst, AllByRecursion, Token, Lexeme, lexemes, the_end, IsNameText, IsSpelled, Name, Constant, Item, ProcessModel, Declaration, inputs_of, outputs_of, locals_of, all_processes, Leaf, leaves_of, IsItem, HasTree, IsBoundedInit, IsBoundedProcess}
use Rattle.sig_call.proofs.DeclaredItems.{Declares, each_declares}
use Rattle.sig_call.proofs.Texts.{SmallLeaf, Small, leaves_behind, leaves_small, optional_init_bounded, HasBoundedEquations}

-- the name of what is declared, and its init
abbrev pub IsNamedAs : Name → Option Constant → Type 0
IsNamedAs name init = IsNameText name.text × IsBoundedInit init

abbrev pub IsNamed : Declaration → Type 0
IsNamed d = IsNamedAs d.name d.init

-- a process, and all signals that it declares
abbrev pub Spelled : ProcessModel → Type 0
Spelled p = Declares SmallLeaf IsNamedAs p

item_named : (item : Item) (leaves : List Leaf) → IsItem item leaves → Small leaves → IsNamedAs item.name item.init
item_named item leaves h small = ((subst (AllByRecursion SmallLeaf) h.1 small.all).0, optional_init_bounded item.init h.0 h.2 (leaves_behind _ h.0 h.1 small))

-- the processes of a text
pub all_spelled : (text : List ℕ) (tokens : List Token) (words : List Lexeme) (program : List ProcessModel) → lexemes text tokens ≡ words ++ the_end ∷ [] → AllByRecursion IsSpelled words
    → HasTree (leaves_of text tokens) program → AllByRecursion Spelled (all_processes program)
all_spelled text tokens words program is spelled tree = each_declares SmallLeaf IsNamedAs item_named _ program (leaves_of text tokens) tree.1 (record { all = leaves_small text tokens words is spelled })

-- the constants of the processes of a text
inits_bounded : (ds : List Declaration) → AllByRecursion IsNamed ds → AllByRecursion (λ (d : Declaration). IsBoundedInit d.init) ds
inits_bounded [] h = tt
inits_bounded (d ∷ ds) h = (h.0.1, inits_bounded ds h.1)

behind_inputs : (inputs others : List Declaration) → AllByRecursion IsNamed (inputs ++ others) → AllByRecursion IsNamed others
behind_inputs [] others h = h
behind_inputs (d ∷ ds) others h = behind_inputs ds others h.1

pub all_processes_bounded : (ps : List ProcessModel) → AllByRecursion HasBoundedEquations ps → AllByRecursion Spelled ps → AllByRecursion IsBoundedProcess ps
all_processes_bounded [] h k = tt
all_processes_bounded (p ∷ ps) h k = (
  record { equations = h.0; declared = inits_bounded (outputs_of p ++ locals_of p) (behind_inputs (inputs_of p) (outputs_of p ++ locals_of p) k.0.declared) },
  all_processes_bounded ps h.1 k.1,
)
