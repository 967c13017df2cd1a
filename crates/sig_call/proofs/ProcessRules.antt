-- What the rules say of the processes of a well-formed program.
use Rattle.sig_call.proofs.Common.{◌≡◌, ◌++◌, ◌<◌, ℕ, suc, Bool, true, false, cond, List, [], ◌∷◌, None, Some, Option, map, length, Contains, refl, sym, subst, inl, inr, arith, bytes_eq-Decides, AllByRecursion, flat_map, bytes_eq, Name, Item, Declared, Equations, Defines, ProcessModel, Role, Parameter, Input, Declaration, declared_as, heading_of_model, declarations, declaration_of, params_of, inputs_of, outputs_of, locals_of, name_of, process_of, all_processes, texts, left_sides, left_sides_of, equations_of_model, uses_of_equation, uses_of_right, signals_used, Candidate, NoneHolds, candidate, each, DefinedTwice, Undefined, InputDefined, IsGiven, unknown_names, declared_twice, defined_twice, undefined, clashes, clashes_of_equation, clashes_of_inits, clash_of_init, bare_constants, bare_in_equation, bad_calls, bad_calls_of, recursive_calls, bad_pragmas, missing_inits_in, missing_inits_of_equation, IsWellFormed, rules_on, each_append, IsBounded, IsBoundedEquation, IsBoundedInit, IsBoundedProcess, IsTree, IsReady, contained_or_not, all_both, all_so}
use Rattle.sig_tree.specs.Rules.{inputs_defined}
use Rattle.sig_call.proofs.Expandable.{expandable, found_all, known_in_equations, none_parts, rules_hold, unknown_at}
use Rattle.sig_call.proofs.LeftSides.{DefinesOnce}
use Rattle.sig_call.proofs.Named.{all_apart, apart_behind, declared_texts}

-- what the rules say of an equation
pub record EquationObeys (all : List ProcessModel) (declared : List Declaration) (q : Equations) : Type 0 where
  pub known : NoneHolds (each (unknown_at all declared) (uses_of_equation q))
  pub given : AllByRecursion (λ name. IsGiven (declaration_of declared name.text) → ⊥) (left_sides q)
  pub kinds : NoneHolds (clashes_of_equation all declared q)
  pub bare : NoneHolds (bare_in_equation declared q)
  pub calls : NoneHolds (bad_calls_of all q)
  pub inits : NoneHolds (missing_inits_of_equation declared q)
  pub ready : IsReady all q
  pub bounded : IsBoundedEquation q

-- the init with which a signal is declared
pub record InitObeys (declared : List Declaration) (d : Declaration) : Type 0 where
  pub kinds : NoneHolds (clash_of_init declared (Some d.kind) d.init)
  pub bounded : IsBoundedInit d.init

pub record Obeys (all : List ProcessModel) (p : ProcessModel) : Type 0 where
  pub equations : AllByRecursion (EquationObeys all (declarations p)) (equations_of_model p)
  pub inits : AllByRecursion (InitObeys (declarations p)) (outputs_of p ++ locals_of p)
  pub once : DefinesOnce p

abbrev pub AreObeying : List ProcessModel → Type 0
AreObeying all = (text : List ℕ) (p : ProcessModel) → process_of all text ≡ Some p → Obeys all p

-- candidates of each
pub none_each : {A : Type 0} (of : A → List Candidate) (xs : List A) → NoneHolds (each of xs) → AllByRecursion (λ x. NoneHolds (of x)) xs
none_each of [] none = tt
none_each of (x ∷ xs) none = let parts = none_parts (of x) (each of xs) none in (parts.0, none_each of xs parts.1)

-- what holds of all in a list of lists
pub all_parts : {A : Type 0} (P : A → Type 0) (xs ys : List A) → AllByRecursion P (xs ++ ys) → AllByRecursion P xs × AllByRecursion P ys
all_parts P [] ys h = (tt, h)
all_parts P (x ∷ xs) ys h = let rest = all_parts P xs ys h.1 in ((h.0, rest.0), rest.1)

all_outside : {A B : Type 0} (P : B → Type 0) (f : A → List B) (xs : List A) → AllByRecursion P (flat_map f xs) → AllByRecursion (λ x. AllByRecursion P (f x)) xs
all_outside P f [] h = tt
all_outside P f (x ∷ xs) h = let parts = all_parts P (f x) (flat_map f xs) h in (parts.0, all_outside P f xs parts.1)

all_inside : {A B : Type 0} (P : B → Type 0) (f : A → List B) (xs : List A) → AllByRecursion (λ x. AllByRecursion P (f x)) xs → AllByRecursion P (flat_map f xs)
all_inside P f [] h = tt
all_inside P f (x ∷ xs) h = all_both P (f x) (flat_map f xs) h.0 (all_inside P f xs h.1)

all_two : {A : Type 0} (P Q R : A → Type 0) → ((x : A) → P x → Q x → R x) → (xs : List A) → AllByRecursion P xs → AllByRecursion Q xs → AllByRecursion R xs
all_two P Q R then [] h k = tt
all_two P Q R then (x ∷ xs) h k = (then x h.0 k.0, all_two P Q R then xs h.1 k.1)

pub all_map : {A B : Type 0} (P : B → Type 0) (f : A → B) (xs : List A) → AllByRecursion (λ x. P (f x)) xs → AllByRecursion P (map f xs)
all_map P f [] h = tt
all_map P f (x ∷ xs) h = (h.0, all_map P f xs h.1)

-- roles
items_role : (role : Role) (group : Declared) (items : List Item)
    → AllByRecursion (λ (d : Declaration). d.role ≡ role) (map (λ (item : Item). record { name = item.name; kind = group.kind; role = role; init = item.init }) items)
items_role role group [] = tt
items_role role group (i ∷ is) = (refl, items_role role group is)

pub roles : (role : Role) (groups : List Declared) → AllByRecursion (λ (d : Declaration). d.role ≡ role) (declared_as role groups)
roles role [] = tt
roles role (g ∷ gs) = all_both (λ (d : Declaration). d.role ≡ role) _ (declared_as role gs) (items_role role g g.items) (roles role gs)

-- what is not given is not found among what is
given_step : (x d : Declaration) (b : Bool) (later : Option Declaration) → IsGiven (Some x) → (IsGiven (Some d) → ⊥) → cond b (Some x) later ≡ Some d → later ≡ Some d
given_step x d true later given none found = absurd (none (subst IsGiven found given))
given_step x d false later given none found = found

past_given : (xs ys : List Declaration) (t : List ℕ) (d : Declaration) → AllByRecursion (λ x. IsGiven (Some x)) xs → (IsGiven (Some d) → ⊥) → declaration_of (xs ++ ys) t ≡ Some d → declaration_of ys t ≡ Some d
past_given [] ys t d given none found = found
past_given (x ∷ xs) ys t d given none found =
    past_given xs ys t d given.1 none (given_step x d (bytes_eq x.name.text t) (declaration_of (xs ++ ys) t) given.0 none found)

-- a declaration that is not given is that of an output or a local
pub own_found : (p : ProcessModel) (t : List ℕ) (d : Declaration) → declaration_of (declarations p) t ≡ Some d → (IsGiven (Some d) → ⊥) → declaration_of (outputs_of p ++ locals_of p) t ≡ Some d
own_found p t d found none =
    let asked : AllByRecursion (λ x. IsGiven (Some x)) (inputs_of p) = all_so (λ x. x.role ≡ Input) (λ x. IsGiven (Some x)) (λ x is. inl is) (inputs_of p) (roles Input (heading_of_model p).inputs) in
    let set : AllByRecursion (λ x. IsGiven (Some x)) (params_of p) = all_so (λ x. x.role ≡ Parameter) (λ x. IsGiven (Some x)) (λ x is. inr is) (params_of p) (roles Parameter (heading_of_model p).params) in
    past_given (inputs_of p) (outputs_of p ++ locals_of p) t d asked none (past_given (params_of p) (inputs_of p ++ (outputs_of p ++ locals_of p)) t d set none found)

contains_step : (x : Declaration) (xs : List Declaration) (t : List ℕ) (d : Declaration) (b : Bool) → bytes_eq x.name.text t ≡ b → (declaration_of xs t ≡ Some d → Contains (declared_texts xs) t)
    → cond b (Some x) (declaration_of xs t) ≡ Some d → Contains (declared_texts (x ∷ xs)) t
contains_step x xs t d true is rest found = (0, omega arith, (bytes_eq-Decides x.name.text t).0 is)
contains_step x xs t d false is rest found = (let later = rest found in (suc later.0, (let h : later.0 < length (declared_texts xs) = later.1 in omega arith), later.2))

-- what is found is there
contains_found : (xs : List Declaration) (t : List ℕ) (d : Declaration) → declaration_of xs t ≡ Some d → Contains (declared_texts xs) t
contains_found [] t d found = absurd cc
contains_found (x ∷ xs) t d found = contains_step x xs t d (bytes_eq x.name.text t) refl (contains_found xs t d) found

pub some_found : {A : Type 0} (o : Option A) → (o ≡ None → ⊥) → (x : A) × (o ≡ Some x)
some_found None h = absurd (h refl)
some_found (Some x) h = (x, refl)

-- a left side that is known and not given
left_inside : (p : ProcessModel) (name : Name) → (declaration_of (declarations p) name.text ≡ None → ⊥) → (IsGiven (declaration_of (declarations p) name.text) → ⊥)
    → Contains (declared_texts (outputs_of p ++ locals_of p)) name.text
left_inside p name known none =
    let d = some_found (declaration_of (declarations p) name.text) known in
    contains_found (outputs_of p ++ locals_of p) name.text d.0 (own_found p name.text d.0 d.1 (λ given. none (subst IsGiven (sym d.1) given)))

contained_if : (xs : List (List ℕ)) (t : List ℕ) → ((Contains xs t → ⊥) → ⊥) → Contains xs t
contained_if xs t h = elim (contained_or_not xs t) [ inl there ↦ there | inr none ↦ absurd (h none) ]

-- names that are used are known, those of left sides too
pub names_known : (all : List ProcessModel) (declared : List Declaration) (names : List Name) → NoneHolds (each (unknown_at all declared) (signals_used names)) → AllByRecursion (λ name. declaration_of declared name.text ≡ None → ⊥) names
names_known all declared [] none = tt
names_known all declared (n ∷ ns) none = (none.0, names_known all declared ns none.1)

pub lefts_known : (all : List ProcessModel) (declared : List Declaration) (q : Equations) → NoneHolds (each (unknown_at all declared) (uses_of_equation q))
    → AllByRecursion (λ name. declaration_of declared name.text ≡ None → ⊥) (left_sides q)
lefts_known all declared (Defines names right) none =
    names_known all declared names (none_parts (each (unknown_at all declared) (signals_used names)) (each (unknown_at all declared) (uses_of_right right))
    (subst NoneHolds (each_append (unknown_at all declared) (signals_used names) (uses_of_right right)) none)).0
lefts_known all declared _ none = tt

-- the rules, one by one
pub record Lawful (all before : List ProcessModel) (p : ProcessModel) : Type 0 where
  pub unknown : NoneHolds (unknown_names all p)
  pub twice : NoneHolds (declared_twice before p)
  pub given : NoneHolds (inputs_defined p)
  pub again : NoneHolds (defined_twice p)
  pub missing : NoneHolds (undefined p)
  pub kinds : NoneHolds (clashes all p)
  pub bare : NoneHolds (bare_constants p)
  pub calls : NoneHolds (bad_calls all before p)
  pub inits : NoneHolds (missing_inits_in p)

pub lawful : (all before : List ProcessModel) (p : ProcessModel) → NoneHolds (rules_on all before p) → Lawful all before p
lawful all before p none =
    let r0 = none_parts (unknown_names all p) _ none in
    let r1 = none_parts (declared_twice before p) _ r0.1 in
    let r2 = none_parts (inputs_defined p) _ r1.1 in
    let r3 = none_parts (defined_twice p) _ r2.1 in
    let r4 = none_parts (undefined p) _ r3.1 in
    let r5 = none_parts (clashes all p) _ r4.1 in
    let r6 = none_parts (bare_constants p) _ r5.1 in
    let r7 = none_parts (bad_calls all before p) _ r6.1 in
    let r8 = none_parts (recursive_calls all p) _ r7.1 in
    let r9 = none_parts (bad_pragmas p) (missing_inits_in p) r8.1 in
    record { unknown = r0.0; twice = r1.0; given = r2.0; again = r3.0; missing = r4.0; kinds = r5.0; bare = r6.0; calls = r7.0; inits = r9.1 }

not_given : (declared : List Declaration) (names : List Name) → NoneHolds (each (λ name. candidate (InputDefined name) (IsGiven (declaration_of declared name.text)) ∷ []) names)
    → AllByRecursion (λ name. IsGiven (declaration_of declared name.text) → ⊥) names
not_given declared [] none = tt
not_given declared (n ∷ ns) none = (none.0, not_given declared ns none.1)

all_defined : (lefts : List (List ℕ)) (ds : List Declaration) → NoneHolds (each (λ d. candidate (Undefined d.name) (Contains lefts d.name.text → ⊥) ∷ []) ds) → AllByRecursion (Contains lefts) (declared_texts ds)
all_defined lefts [] none = tt
all_defined lefts (d ∷ ds) none = (contained_if lefts d.name.text none.0, all_defined lefts ds none.1)

defines_once : (all before : List ProcessModel) (p : ProcessModel) → Lawful all before p → DefinesOnce p
defines_once all before p rules =
    let declared = declarations p in
    let known = all_inside (λ name. declaration_of declared name.text ≡ None → ⊥) left_sides (equations_of_model p)
    (all_so (λ q. NoneHolds (each (unknown_at all declared) (uses_of_equation q))) (λ q. AllByRecursion (λ name. declaration_of declared name.text ≡ None → ⊥) (left_sides q))
    (lefts_known all declared) (equations_of_model p)
    (none_each (λ q. each (unknown_at all declared) (uses_of_equation q)) (equations_of_model p) (known_in_equations all p rules.unknown))) in
    record {
      declared = all_apart before p rules.twice;
      apart = (apart_behind DefinedTwice [] (left_sides_of p) rules.again).1;
      inside = all_map (Contains (declared_texts (outputs_of p ++ locals_of p))) (λ (name : Name). name.text) (left_sides_of p)
          (all_two (λ name. declaration_of declared name.text ≡ None → ⊥) (λ name. IsGiven (declaration_of declared name.text) → ⊥) (λ name. Contains (declared_texts (outputs_of p ++ locals_of p)) name.text)
          (left_inside p) (left_sides_of p) known (not_given declared (left_sides_of p) rules.given));
      each = all_defined (texts (left_sides_of p)) (outputs_of p ++ locals_of p) rules.missing;
    }

-- all that is said of the equations
equations_obey : (all : List ProcessModel) (declared : List Declaration) (qs : List Equations)
    → AllByRecursion (λ q. NoneHolds (each (unknown_at all declared) (uses_of_equation q))) qs
    → AllByRecursion (λ q. AllByRecursion (λ name. IsGiven (declaration_of declared name.text) → ⊥) (left_sides q)) qs
    → AllByRecursion (λ q. NoneHolds (clashes_of_equation all declared q)) qs → AllByRecursion (λ q. NoneHolds (bare_in_equation declared q)) qs
    → AllByRecursion (λ q. NoneHolds (bad_calls_of all q)) qs → AllByRecursion (λ q. NoneHolds (missing_inits_of_equation declared q)) qs
    → AllByRecursion (IsReady all) qs → AllByRecursion IsBoundedEquation qs → AllByRecursion (EquationObeys all declared) qs
equations_obey all declared [] known given kinds bare calls inits ready bounded = tt
equations_obey all declared (q ∷ qs) known given kinds bare calls inits ready bounded = (
  record { known = known.0; given = given.0; kinds = kinds.0; bare = bare.0; calls = calls.0; inits = inits.0; ready = ready.0; bounded = bounded.0 },
  equations_obey all declared qs known.1 given.1 kinds.1 bare.1 calls.1 inits.1 ready.1 bounded.1,
)

obeys : (all before : List ProcessModel) (p : ProcessModel) → Lawful all before p → AllByRecursion (IsReady all) (equations_of_model p) → IsBoundedProcess p → Obeys all p
obeys all before p rules ready bounded =
    let declared = declarations p in
    let qs = equations_of_model p in
    let first = none_parts (clashes_of_inits declared (outputs_of p)) (each (clashes_of_equation all declared) qs ++ clashes_of_inits declared (locals_of p)) rules.kinds in
    let second = none_parts (each (clashes_of_equation all declared) qs) (clashes_of_inits declared (locals_of p)) first.1 in
    let of : Declaration → List Candidate = λ d. clash_of_init declared (Some d.kind) d.init in
    record {
      equations = equations_obey all declared qs
          (none_each (λ q. each (unknown_at all declared) (uses_of_equation q)) qs (known_in_equations all p rules.unknown))
          (all_outside (λ name. IsGiven (declaration_of declared name.text) → ⊥) left_sides qs (not_given declared (left_sides_of p) rules.given))
          (none_each (clashes_of_equation all declared) qs second.0) (none_each (bare_in_equation declared) qs rules.bare)
          (none_each (bad_calls_of all) qs rules.calls.1) (none_each (missing_inits_of_equation declared) qs rules.inits) ready bounded.equations;
      inits = all_two (λ d. NoneHolds (of d)) (λ d. IsBoundedInit d.init) (InitObeys declared) (λ d kinds small. record { kinds = kinds; bounded = small }) (outputs_of p ++ locals_of p)
          (all_both (λ d. NoneHolds (of d)) (outputs_of p) (locals_of p) (none_each of (outputs_of p) first.0) (none_each of (locals_of p) second.1)) bounded.declared;
      once = defines_once all before p rules;
    }

-- the processes of a well-formed program
pub obeying : (program : List ProcessModel) → IsTree program → IsBounded program → IsWellFormed program → AreObeying (all_processes program)
obeying program tree bounded well = λ text p found.
    let all = all_processes program in
    let rules = rules_hold program text p well found in
    obeys all rules.before p (lawful all rules.before p rules.none) (expandable program tree well text p found).equations
    (found_all IsBoundedProcess (λ q. bytes_eq (name_of q).text text) all p bounded found)
