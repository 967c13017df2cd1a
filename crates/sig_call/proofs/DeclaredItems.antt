-- What the leaves of a text make true of each item that they declare holds of each signal that its processes declare.
use Rattle.sig_call.proofs.Common.{◌≡◌, ◌++◌, ℕ, suc, List, [], ◌∷◌, Option, map, refl, sym, subst, inl, inr, AllByRecursion, flat_map, Name, Constant, Item, Declared, ProcessModel, Modelled, ProcessModels, no_model, more_models, Declaration, Role, Input, Output, Local, declared_as, name_of, with_inner, those_inner, signals_declared, Leaf, name_leaf, Limits, Each, IsOptionalInit, IsGroup, AreGroups, IsInterface, IsModel, IsLocalGroup, AreLocals, IsPlainItem, IsItem, all_both}
use Rattle.sig_call.proofs.Texts.{AllLeaves, leaves_left, leaves_right, leaves_behind, leaves_between, separated_all}

-- a process: its name is among leaves of which this holds, and of all signals that it declares that holds
pub record Declares (P : Leaf → Type 0) (G : Name → Option Constant → Type 0) (p : ProcessModel) : Type 0 where
  pub name : P (name_leaf (name_of p))
  pub declared : AllByRecursion (λ (d : Declaration). G d.name d.init) (signals_declared p)

-- what holds of each item of a group
abbrev OfItem : (Name → Option Constant → Type 0) → Item → Type 0
OfItem G item = G item.name item.init

abbrev OfGroup : (Name → Option Constant → Type 0) → Declared → Type 0
OfGroup G group = AllByRecursion (OfItem G) group.items

abbrev OfDeclaration : (Name → Option Constant → Type 0) → Declaration → Type 0
OfDeclaration G d = G d.name d.init

-- an item without an init is an item
plain_item : (item : Item) (leaves : List Leaf) → IsPlainItem item leaves → IsItem item leaves
plain_item item leaves h = ([], h.1, subst (λ init. IsOptionalInit init []) (sym h.0) refl)

-- declarations of groups
items_declared : (G : Name → Option Constant → Type 0) (role : Role) (group : Declared) (items : List Item) → AllByRecursion (OfItem G) items
    → AllByRecursion (OfDeclaration G) (map (λ (item : Item). record { name = item.name; kind = group.kind; role = role; init = item.init }) items)
items_declared G role group [] h = tt
items_declared G role group (item ∷ items) h = (h.0, items_declared G role group items h.1)

groups_declared : (G : Name → Option Constant → Type 0) (role : Role) (groups : List Declared) → AllByRecursion (OfGroup G) groups → AllByRecursion (OfDeclaration G) (declared_as role groups)
groups_declared G role [] h = tt
groups_declared G role (g ∷ gs) h = all_both (OfDeclaration G) _ (declared_as role gs) (items_declared G role g g.items h.0) (groups_declared G role gs h.1)

record DeclaredInterface (G : Name → Option Constant → Type 0) (inputs outputs : List Declared) : Type 0 where
  asked : AllByRecursion (OfDeclaration G) (declared_as Input inputs)
  answered : AllByRecursion (OfDeclaration G) (declared_as Output outputs)

record DeclaredInside (P : Leaf → Type 0) (G : Name → Option Constant → Type 0) (groups : List Declared) (inner : ProcessModels) : Type 0 where
  locals : AllByRecursion (OfGroup G) groups
  processes : AllByRecursion (Declares P G) (those_inner inner)

nothing_declared : (P : Leaf → Type 0) (G : Name → Option Constant → Type 0) (groups : List Declared) (inner : ProcessModels) → groups ≡ [] → inner ≡ no_model → DeclaredInside P G groups inner
nothing_declared P G groups inner none no_inner = record {
  locals = subst (AllByRecursion (OfGroup G)) (sym none) tt;
  processes = subst (λ i. AllByRecursion (Declares P G) (those_inner i)) (sym no_inner) tt;
}

module _ (P : Leaf → Type 0) (G : Name → Option Constant → Type 0) (of : (item : Item) (leaves : List Leaf) → IsItem item leaves → AllLeaves P leaves → G item.name item.init) where
  group_of : (IsOne : Item → List Leaf → Type 0) → ((item : Item) (leaves : List Leaf) → IsOne item leaves → IsItem item leaves)
      → (group : Declared) (leaves : List Leaf) → IsGroup IsOne group leaves → AllLeaves P leaves → OfGroup G group
  group_of IsOne so group leaves h all = separated_all IsOne _ (OfItem G) (λ item l is. of item l (so item l is)) group.items h.1 h.3 (leaves_behind _ h.1 h.2 all)

  groups_of : (IsOne : Item → List Leaf → Type 0) → ((item : Item) (leaves : List Leaf) → IsOne item leaves → IsItem item leaves)
      → (groups : List Declared) (leaves : List Leaf) → AreGroups (IsGroup IsOne) groups leaves → AllLeaves P leaves → AllByRecursion (OfGroup G) groups
  groups_of IsOne so [] leaves h all = tt
  groups_of IsOne so (g ∷ gs) leaves h all = separated_all (IsGroup IsOne) _ (OfGroup G) (group_of IsOne so) (g ∷ gs) h.0 h.3 (leaves_left h.0 h.1 h.2 all)

  locals_of_leaves : (groups : List Declared) (leaves : List Leaf) → Each IsLocalGroup groups leaves → AllLeaves P leaves → AllByRecursion (OfGroup G) groups
  locals_of_leaves [] leaves h all = tt
  locals_of_leaves (g ∷ gs) leaves h all =
      let here = leaves_left h.0 h.1 h.2 all in
      (group_of IsItem (λ item l is. is) g h.3.1 h.3.3 (leaves_left h.3.1 _ h.3.2 here), locals_of_leaves gs h.1 h.4 (leaves_right h.0 h.1 h.2 all))

  interface_of : (inputs outputs : List Declared) (leaves : List Leaf) → IsInterface inputs outputs leaves → AllLeaves P leaves → DeclaredInterface G inputs outputs
  interface_of inputs outputs leaves h all =
      let parts = h.4 in
      let inside = leaves_behind _ _ parts.4 (leaves_between _ _ _ leaves h all) in
      record {
        asked = groups_declared G Input inputs (groups_of IsPlainItem plain_item inputs parts.2 parts.5 (leaves_left parts.2 _ refl inside));
        answered = groups_declared G Output outputs (groups_of IsItem (λ item l is. is) outputs parts.3 parts.6 (leaves_behind _ parts.3 refl (leaves_right parts.2 _ refl inside)));
      }

  -- processes
  mutual
    model_declares : (limits : Limits) (model : ProcessModel) (depth : ℕ) (leaves : List Leaf) → IsModel limits model depth leaves → AllLeaves P leaves → AllByRecursion (Declares P G) (with_inner model)
    model_declares limits (Modelled heading pragmas body locals inner) depth leaves h all =
        let named = leaves_behind _ _ h.8 all in
        let after = leaves_behind _ _ refl (leaves_behind _ _ refl named) in
        let behind = leaves_right h.3 _ refl after in
        let interface = interface_of heading.inputs heading.outputs h.4 h.10 (leaves_left h.4 _ refl behind) in
        let where_part = leaves_left h.7 _ refl (leaves_right h.6 _ refl (leaves_right h.5 _ refl (leaves_right h.4 _ refl behind))) in
        let inside : DeclaredInside P G locals inner = elim h.13 [
          | inl none ↦ nothing_declared P G locals inner none.0 none.1
          | inr some ↦ those_declare limits inner depth locals some.2 some.4 (leaves_between _ _ _ h.7 some where_part)
        ] in (
          record {
            name = named.all.0;
            declared = all_both (OfDeclaration G) (declared_as Input heading.inputs) _ interface.asked
                (all_both (OfDeclaration G) (declared_as Output heading.outputs) _ interface.answered (groups_declared G Local locals inside.locals));
          },
          inside.processes,
        )

    those_declare : (limits : Limits) (inner : ProcessModels) (depth : ℕ) (groups : List Declared) (leaves : List Leaf) → AreLocals limits inner depth groups leaves → AllLeaves P leaves → DeclaredInside P G groups inner
    those_declare limits no_model depth groups leaves h all = record { locals = locals_of_leaves groups leaves h all; processes = tt }
    those_declare limits (more_models model rest) depth groups leaves h all =
        let behind = leaves_right h.2 (h.3 ++ h.4) h.6 all in
        let later = those_declare limits rest depth h.1 h.4 h.9 (leaves_right h.3 h.4 refl behind) in
        record {
          locals = subst (AllByRecursion (OfGroup G)) (sym h.5) (all_both (OfGroup G) h.0 h.1 (locals_of_leaves h.0 h.2 h.7 (leaves_left h.2 (h.3 ++ h.4) h.6 all)) later.locals);
          processes = all_both (Declares P G) (with_inner model) (those_inner rest) (model_declares limits model (suc depth) h.3 h.8.1 (leaves_left h.3 h.4 refl behind)) later.processes;
        }

  pub each_declares : (limits : Limits) (ps : List ProcessModel) (leaves : List Leaf) → Each (λ p. IsModel limits p 0) ps leaves → AllLeaves P leaves → AllByRecursion (Declares P G) (flat_map with_inner ps)
  each_declares limits [] leaves h all = tt
  each_declares limits (p ∷ ps) leaves h all =
      all_both (Declares P G) (with_inner p) (flat_map with_inner ps) (model_declares limits p 0 h.0 h.3 (leaves_left h.0 h.1 h.2 all)) (each_declares limits ps h.1 h.4 (leaves_right h.0 h.1 h.2 all))
