-- The processes of a well-formed program can be expanded.
use Rattle.sig_call.proofs.Common.{same_Some, ◌≡◌, ◌≢◌, ◌++◌, ◌≤◌, ℕ, List, [], ◌∷◌, None, Some, Option, Bool, true, false, cond, length, find, refl, subst, inl, inr, arith, cases_eq, cases_lt, AllByRecursion, flat_map, bytes_eq, Name, Constant, Expression, Placement, Computed, Called, Equations, Together, Defines, Equal, Bodies, no_body, more_bodies, ProcessModel, Declaration, declarations, name_of, inputs_of, outputs_of, locals_of, process_of, all_processes, behind, Use, uses_of_equation, uses_of_inits, uses_of_right, signals_used, body_of_model, equations_of_model, equations_in, equations_inside, pragmas_of_model, Candidate, NoneHolds, each, unknown_use, unknown_names, declared_twice, defined_twice, undefined, clashes, bare_constants, bad_calls, bad_calls_of, recursive_calls, bad_pragmas, bad_pragmas_of, missing_inits_in, DiffersFrom, IsCluster, number_of, IsWellFormed, rules_on, each_append, each_flat, IsRead, IsTree, IsReady, IsLow, Fits, AreExpandable, all_both}
use Rattle.sig_tree.specs.Rules.{inputs_defined}

-- candidates in two lists
pub none_parts : (cs ds : List Candidate) → NoneHolds (cs ++ ds) → NoneHolds cs × NoneHolds ds
none_parts [] ds h = (tt, h)
none_parts (c ∷ cs) ds h = let rest = none_parts cs ds h.1 in ((h.0, rest.0), rest.1)

-- what holds of all holds of what is found
found_step : {A : Type 0} (P : A → Type 0) (y x : A) (b : Bool) (later : Option A) → P y → (later ≡ Some x → P x) → cond b (Some y) later ≡ Some x → P x
found_step P y x true later here rest found = subst P (same_Some _ _ found) here
found_step P y x false later here rest found = rest found

pub found_all : {A : Type 0} (P : A → Type 0) (test : A → Bool) (xs : List A) (x : A) → AllByRecursion P xs → find test xs ≡ Some x → P x
found_all P test [] x all found = absurd cc
found_all P test (y ∷ ys) x all found = found_step P y x (test y) (find test ys) all.0 (λ e. found_all P test ys x all.1 e) found

-- the rules on the process of a name
pub record RulesHold (all : List ProcessModel) (p : ProcessModel) : Type 0 where
  pub before : List ProcessModel
  pub none : NoneHolds (rules_on all before p)

rules_found : (all earlier xs : List ProcessModel) (text : List ℕ) (p : ProcessModel) → NoneHolds (each (λ q. rules_on all q.0 q.1) (behind earlier xs))
    → find (λ q. bytes_eq (name_of q).text text) xs ≡ Some p → RulesHold all p
rules_found all earlier [] text p none found = absurd cc
rules_found all earlier (x ∷ xs) text p none found =
    let parts = none_parts (rules_on all earlier x) (each (λ q. rules_on all q.0 q.1) (behind (earlier ++ x ∷ []) xs)) none in
    found_step (RulesHold all) x p (bytes_eq (name_of x).text text) (find (λ q. bytes_eq (name_of q).text text) xs) (record { before = earlier; none = parts.0 })
    (λ e. rules_found all (earlier ++ x ∷ []) xs text p parts.1 e) found

-- the equations of a body are no bodies in brackets
abbrev IsPlain : Equations → Type 0
IsPlain (Together bodies) = ⊥
IsPlain _ = Unit {0}

mutual
  plain_in : (e : Equations) → AllByRecursion IsPlain (equations_in e)
  plain_in (Together bodies) = plain_inside bodies
  plain_in _ = (tt, tt)

  plain_inside : (bodies : Bodies) → AllByRecursion IsPlain (equations_inside bodies)
  plain_inside no_body = tt
  plain_inside (more_bodies body rest) = all_both IsPlain (equations_in body) (equations_inside rest) (plain_in body) (plain_inside rest)

-- candidates of a use
abbrev pub unknown_at : List ProcessModel → List Declaration → Use → List Candidate
unknown_at all declared used = unknown_use all declared used ∷ []

no_rest : (names : List Name) → ((names ≢ []) → ⊥) → names ≡ []
no_rest [] h = refl
no_rest (n ∷ ns) h = absurd (h (λ e. absurd cc))

same_number : (m n : ℕ) → ((m ≢ n) → ⊥) → m ≡ n
same_number m n h = elim (cases_eq m n) [ inl e ↦ e | inr d ↦ absurd (h d) ]

fits_call : (names : List Name) (constants : List Constant) (arguments : List Expression) (found : Option ProcessModel) → (found ≡ None → ⊥) → (DiffersFrom names constants arguments found → ⊥) → Fits names arguments found
fits_call names constants arguments None known numbers = absurd (known refl)
fits_call names constants arguments (Some called) known numbers = (
  same_number (length arguments) (length (inputs_of called)) (λ d. numbers (inr (inl d))),
  same_number (length names) (length (outputs_of called)) (λ d. numbers (inr (inr d))),
)

ready_one : (all : List ProcessModel) (declared : List Declaration) (equation : Equations) → IsPlain equation → IsRead equation
    → NoneHolds (each (unknown_at all declared) (uses_of_equation equation)) → NoneHolds (bad_calls_of all equation) → IsReady all equation
ready_one all declared (Together bodies) plain read known numbers = plain
ready_one all declared (Defines [] right) plain read known numbers = absurd (read.0 refl)
ready_one all declared (Defines (n ∷ ns) (Computed e)) plain read known numbers = (no_rest ns numbers.0, read.1)
ready_one all declared (Defines (n ∷ ns) (Called name constants arguments)) plain read known numbers =
    let left = signals_used (n ∷ ns) in
    let right = uses_of_right (Called name constants arguments) in
    let parts = none_parts (each (unknown_at all declared) left) (each (unknown_at all declared) right) (subst NoneHolds (each_append (unknown_at all declared) left right) known) in
    (fits_call (n ∷ ns) constants arguments (process_of all name.text) parts.1.0 numbers.0, read.1)
ready_one all declared (Equal operands) plain read known numbers = read

ready_all : (all : List ProcessModel) (declared : List Declaration) (equations : List Equations) → AllByRecursion IsPlain equations → AllByRecursion IsRead equations
    → NoneHolds (each (λ q. each (unknown_at all declared) (uses_of_equation q)) equations) → NoneHolds (each (bad_calls_of all) equations) → AllByRecursion (IsReady all) equations
ready_all all declared [] plain read known numbers = tt
ready_all all declared (q ∷ qs) plain read known numbers =
    let uses = none_parts (each (unknown_at all declared) (uses_of_equation q)) (each (λ q. each (unknown_at all declared) (uses_of_equation q)) qs) known in
    let calls = none_parts (bad_calls_of all q) (each (bad_calls_of all) qs) numbers in
    (ready_one all declared q plain.0 read.0 uses.0 calls.0, ready_all all declared qs plain.1 read.1 uses.1 calls.1)

-- labels
low_label : (label : List ℕ) → ((IsCluster label → ⊥) → ⊥) → number_of label ≤ 63
low_label label h = elim (cases_lt 63 (number_of label)) [ inl above ↦ absurd (h (λ cluster. (let low : number_of label ≤ 63 = cluster.value in absurd (omega arith)))) | inr low ↦ low ]

low_labels : (declared : List Declaration) (earlier : List Name) (pragmas : List Placement) → NoneHolds (bad_pragmas_of declared earlier pragmas) → AllByRecursion IsLow pragmas
low_labels declared earlier [] none = tt
low_labels declared earlier (pragma ∷ pragmas) none = (
  low_label pragma.label none.0,
  low_labels declared (earlier ++ pragma.names) pragmas (none_parts _ (bad_pragmas_of declared (earlier ++ pragma.names) pragmas) none.1).1,
)

-- the rules that matter here
pub record KeyRules (all : List ProcessModel) (before : List ProcessModel) (p : ProcessModel) : Type 0 where
  pub known : NoneHolds (unknown_names all p)
  pub calls : NoneHolds (bad_calls all before p)
  pub recursive : NoneHolds (recursive_calls all p)
  pub pragmas : NoneHolds (bad_pragmas p)

pub key_rules : (all before : List ProcessModel) (p : ProcessModel) → NoneHolds (rules_on all before p) → KeyRules all before p
key_rules all before p none =
    let r0 = none_parts (unknown_names all p) _ none in
    let r1 = none_parts (declared_twice before p) _ r0.1 in
    let r2 = none_parts (inputs_defined p) _ r1.1 in
    let r3 = none_parts (defined_twice p) _ r2.1 in
    let r4 = none_parts (undefined p) _ r3.1 in
    let r5 = none_parts (clashes all p) _ r4.1 in
    let r6 = none_parts (bare_constants p) _ r5.1 in
    let r7 = none_parts (bad_calls all before p) _ r6.1 in
    let r8 = none_parts (recursive_calls all p) _ r7.1 in
    let r9 = none_parts (bad_pragmas p) (missing_inits_in p) r8.1 in
    record { known = r0.0; calls = r7.0; recursive = r8.0; pragmas = r9.0 }

pub known_in_equations : (all : List ProcessModel) (p : ProcessModel) → NoneHolds (unknown_names all p) → NoneHolds (each (λ q. each (unknown_at all (declarations p)) (uses_of_equation q)) (equations_of_model p))
known_in_equations all p none =
    let of = unknown_at all (declarations p) in
    let first = none_parts (each of (uses_of_inits (outputs_of p))) (each of (flat_map uses_of_equation (equations_of_model p) ++ uses_of_inits (locals_of p)))
    (subst NoneHolds (each_append of (uses_of_inits (outputs_of p)) (flat_map uses_of_equation (equations_of_model p) ++ uses_of_inits (locals_of p))) none) in
    let second = none_parts (each of (flat_map uses_of_equation (equations_of_model p))) (each of (uses_of_inits (locals_of p)))
    (subst NoneHolds (each_append of (flat_map uses_of_equation (equations_of_model p)) (uses_of_inits (locals_of p))) first.1) in
    subst NoneHolds (each_flat of uses_of_equation (equations_of_model p)) second.0

-- the rules hold of what a name finds
pub rules_hold : (program : List ProcessModel) (text : List ℕ) (p : ProcessModel) → IsWellFormed program → process_of (all_processes program) text ≡ Some p → RulesHold (all_processes program) p
rules_hold program text p well found = rules_found (all_processes program) [] (all_processes program) text p well found

pub expandable : (program : List ProcessModel) → IsTree program → IsWellFormed program → AreExpandable (all_processes program)
expandable program tree well = λ text p found.
    let all = all_processes program in
    let rules = rules_hold program text p well found in
    let key = key_rules all rules.before p rules.none in
    let read = found_all (λ q. AllByRecursion IsRead (equations_of_model q)) (λ q. bytes_eq (name_of q).text text) all p tree.equations found in
    record {
      equations = ready_all all (declarations p) (equations_of_model p) (plain_in (body_of_model p)) read (known_in_equations all p key.known) key.calls.1;
      labels = low_labels (declarations p) [] (pragmas_of_model p) key.pragmas;
    }
