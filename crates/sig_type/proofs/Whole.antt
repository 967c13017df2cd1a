-- All rules on a process, joined.
use Rattle.sig_type.proofs.Common.{◌≡◌, ◌++◌, List, [], ◌∷◌, refl, ap, sym, ◌∙◌, subst, append_assoc, Contains, map, ℕ, ◌+◌, ◌<◌, ◌≤◌, take, drop, length, get_or, Option, None, Some, ◌≢◌, ◌↔◌, Bool, IsTrue, slice_get, zero, suc, arith, is_some, true, false, get_or_from_slice_get, place_of, process_texts, place_found, get_or-map, length-map, append-nil, take_more, take_all, take-append-drop, flat_map, Name, ProcessModel, Equations, Placement, Candidate, candidate, DeclaredTwice, DefinedTwice, Undefined, BadCall, each, Declaration, declarations, outputs_of, locals_of, equations_of_model, pragmas_of_model, name_of, params_of, texts, behind, left_sides, called_in, unknown_names, declared_twice, inputs_defined, defined_twice, undefined, clashes, bare_constants, bad_calls, recursive_calls, bad_pragmas, missing_inits_in, bad_calls_of, bare_in_equation, bad_pragmas_of, missing_inits_of_equation, rules_on, rules_of, Finding, First, Finds, IsKept, IsFoundOf, repeated, given_in, undefined_in, recursive_in, clashes_in, definitions_in, calls_in, unknown_in, each_append, slice_get_within}
use Rattle.sig_type.proofs.Sequences.{finds_as, finds_same, finds_both, finds_then, finds_stop}
use Rattle.sig_type.proofs.Earlier.{behind_append}

join : (u t i d n c b k r p m : List Candidate)
    → u ++ (t ++ ((i ++ (d ++ n)) ++ (c ++ (b ++ ((k ++ r) ++ (p ++ m)))))) ≡ u ++ (t ++ (i ++ (d ++ (n ++ (c ++ (b ++ (k ++ (r ++ (p ++ m)))))))))
join u t i d n c b k r p m = simp append_assoc

-- the rules on a process by its parts, as the code asks for them
abbrev pub rules_in : (all before : List ProcessModel) (p : ProcessModel) (scope outputs : List Declaration) (equations : List Equations) (locals : List Declaration) (pragmas : List Placement) → List Candidate
rules_in all before p scope outputs equations locals pragmas = unknown_in all scope outputs equations locals
    ++ ((candidate (DeclaredTwice (name_of p)) (Contains (texts (map name_of before)) (name_of p).text) ∷ repeated DeclaredTwice (map (λ d. d.name) scope))
    ++ (definitions_in scope outputs equations locals ++ (clashes_in all scope outputs equations locals ++ (each (bare_in_equation scope) equations
    ++ (calls_in all before p equations ++ (bad_pragmas_of scope [] pragmas ++ each (missing_inits_of_equation scope) equations))))))

rules_are : (all before : List ProcessModel) (p : ProcessModel) → rules_in all before p (declarations p) (outputs_of p) (equations_of_model p) (locals_of p) (pragmas_of_model p) ≡ rules_on all before p
rules_are all before p = join (unknown_names all p) (declared_twice before p) (inputs_defined p) (defined_twice p) (undefined p) (clashes all p) (bare_constants p) (bad_calls all before p) (recursive_calls all p) (bad_pragmas p) (missing_inits_in p)

-- where the parts are those of a process
pub joined : (all before : List ProcessModel) (p : ProcessModel) {a z : First} (scope outputs : List Declaration) (equations : List Equations) (locals : List Declaration) (pragmas : List Placement)
    → scope ≡ declarations p → outputs ≡ outputs_of p → equations ≡ equations_of_model p → locals ≡ locals_of p → pragmas ≡ pragmas_of_model p
    → Finds a z (rules_in all before p scope outputs equations locals pragmas) → Finds a z (rules_on all before p)
joined all before p scope outputs equations locals pragmas s o e l g h = finds_as
    (ap (λ x. rules_in all before p x outputs equations locals pragmas) s
    ∙ ap (λ x. rules_in all before p (declarations p) x equations locals pragmas) o
    ∙ ap (λ x. rules_in all before p (declarations p) (outputs_of p) x locals pragmas) e
    ∙ ap (λ x. rules_in all before p (declarations p) (outputs_of p) (equations_of_model p) x pragmas) l
    ∙ ap (λ x. rules_in all before p (declarations p) (outputs_of p) (equations_of_model p) (locals_of p) x) g
    ∙ rules_are all before p) h

-- the rules on a process and those before it
abbrev pub rules_at : List ProcessModel → List ProcessModel × ProcessModel → List Candidate
rules_at all p = rules_on all p.0 p.1

behind_split : (e xs ys : List ProcessModel) → behind e (xs ++ ys) ≡ behind e xs ++ behind (e ++ xs) ys
behind_split e [] ys = ap (λ l. behind l ys) (sym (append-nil e))
behind_split e (x ∷ xs) ys = ap (λ l. (e, x) ∷ l) (behind_split (e ++ x ∷ []) xs ys ∙ ap (λ l. behind (e ++ x ∷ []) xs ++ behind l ys) (append_assoc e (x ∷ []) xs))

-- one process more
pub rules_more : {a b c : First} (all : List ProcessModel) (i : ℕ) (p : ProcessModel) → p ≡ get_or all i p → i < length all
    → Finds a b (each (rules_at all) (behind [] (take i all))) → Finds b c (rules_on all (take i all) p) → Finds a c (each (rules_at all) (behind [] (take (i + 1) all)))
rules_more all i p is h before here = finds_as (sym (ap (λ l. each (rules_at all) (behind [] l)) (take_more all i p h ∙ ap (λ q. take i all ++ q ∷ []) (sym is))
    ∙ ap (each (rules_at all)) (behind_append [] (take i all) p) ∙ each_append (rules_at all) (behind [] (take i all)) ((take i all, p) ∷ []) ∙ ap (λ cs. each (rules_at all) (behind [] (take i all)) ++ cs) (append-nil (rules_on all (take i all) p))))
    (finds_then before here)

-- what is found first of all
found_of : (a b : Option Finding) (cs : List Candidate) → a ≡ None → IsKept a b cs → IsFoundOf cs b
found_of a b cs e h = let P : Option Finding → Type 0 = λ v. IsKept v b cs in subst P e h

-- all processes
pub rules_all : {a b : First} (all : List ProcessModel) (i : ℕ) → a.found ≡ None → length all ≤ i → Finds a b (each (rules_at all) (behind [] (take i all))) → IsFoundOf (rules_of all) b.found
rules_all {a} {b} all i new h finds = let whole : Finds a b (rules_of all) = finds_as (ap (λ l. each (rules_at all) (behind [] l)) (take_all i all h)) finds in found_of a.found b.found (rules_of all) new whole.kept

-- all processes up to one that breaks a rule
pub rules_until : {a b : First} (all : List ProcessModel) (i : ℕ) → a.found ≡ None → (b.found ≡ None → ⊥) → Finds a b (each (rules_at all) (behind [] (take i all))) → IsFoundOf (rules_of all) b.found
rules_until {a} {b} all i new some finds =
    let whole : Finds a b (rules_of all) = finds_as (sym (each_append (rules_at all) (behind [] (take i all)) (behind (take i all) (drop i all)))
    ∙ ap (each (rules_at all)) (sym (behind_split [] (take i all) (drop i all)) ∙ ap (behind []) (take-append-drop i all))) (finds_stop (each (rules_at all) (behind (take i all) (drop i all))) some finds) in
    found_of a.found b.found (rules_of all) new whole.kept

-- the rules on left sides, one after another
pub definitions_join : {a b c d e : First} (scope outputs locals : List Declaration) (equations : List Equations) (given defined : List Name) (lefts : List (List ℕ)) (outs ins : List Declaration)
    → given ≡ flat_map left_sides equations → defined ≡ flat_map left_sides equations → lefts ≡ texts defined → outs ≡ outputs → ins ≡ locals
    → Finds a b (given_in scope given) → Finds b c (repeated DefinedTwice defined) → Finds c d (undefined_in lefts outs) → Finds d e (undefined_in lefts ins)
    → Finds a e (definitions_in scope outputs equations locals)
definitions_join scope outputs locals equations given defined lefts outs ins g f t o i first second third fourth =
    let same : lefts ≡ texts (flat_map left_sides equations) = t ∙ ap texts f in
    finds_then (finds_as (ap (given_in scope) g) first) (finds_then (finds_as (ap (repeated DefinedTwice) f) second)
    (finds_both (λ (d : Declaration). candidate (Undefined d.name) (Contains (texts (flat_map left_sides equations)) d.name.text → ⊥) ∷ []) outputs locals
    (finds_as (ap (λ l. undefined_in l outs) same ∙ ap (undefined_in (texts (flat_map left_sides equations))) o) third)
    (finds_as (ap (λ l. undefined_in l ins) same ∙ ap (undefined_in (texts (flat_map left_sides equations))) i) fourth)))

take_none : {A : Type 0} (xs : List A) (i : ℕ) → i < length xs → take i xs ≡ [] → i ≡ 0
take_none [] i h e = absurd (omega arith)
take_none (x ∷ xs) zero h e = refl
take_none (x ∷ xs) (suc i) h e = absurd cc

-- a place is the first where nothing is before it
pub first_same : {A : Type 0} (xs : List A) (i : ℕ) (x : A) → slice_get xs i ≡ Some x → (i ≡ 0) ↔ (take i xs ≡ [])
first_same xs i x e = (λ z. ap (λ n. take n xs) z, λ t. take_none xs i (slice_get_within xs i x e) t)

-- the rules on calls, one after another
pub calls_join : {a b c d : First} (all before : List ProcessModel) (p : ProcessModel) (name : Name) (is_first : Bool) (equations : List Equations) (called : List Name) (params : List Declaration) {First : Type 0}
    → name ≡ name_of p → called ≡ flat_map called_in equations → params ≡ params_of p → (First ↔ (before ≡ [])) → (IsTrue is_first ↔ (First × (params ≢ [])))
    → Finds a b (candidate (BadCall name) (IsTrue is_first) ∷ []) → Finds b c (each (bad_calls_of all) equations) → Finds c d (recursive_in all name.text called) → Finds a d (calls_in all before p equations)
calls_join all before p name is_first equations called params {First} n e ps f w first second third =
    let P : List Declaration → Type 0 = λ l. IsTrue is_first ↔ (First × (l ≢ [])) in
    let now : IsTrue is_first ↔ (First × (params_of p ≢ [])) = subst P ps w in
    let same : IsTrue is_first ↔ ((before ≡ []) × (params_of p ≢ [])) = (λ t. (f.0 (now.0 t).0, (now.0 t).1), λ b. now.1 (f.1 b.0, b.1)) in
    finds_then (finds_then (finds_as (ap (λ m. candidate (BadCall m) ((before ≡ []) × (params_of p ≢ [])) ∷ []) n) (finds_same ((before ≡ []) × (params_of p ≢ [])) same first)) second)
    (finds_as (ap (λ m. recursive_in all m.text called) n ∙ ap (recursive_in all (name_of p).text) e) third)

-- a process that stands among others is found by its name
pub has_place : (all : List ProcessModel) (i : ℕ) (p : ProcessModel) (t : List ℕ) → slice_get all i ≡ Some p → t ≡ (name_of p).text → None ≡ place_of (process_texts all) t → ⊥
has_place all i p t e n none =
    let h = slice_get_within all i p e in
    let there : get_or (process_texts all) i t ≡ t = get_or-map (λ (q : ProcessModel). (name_of q).text) all i p t h ∙ ap (λ (q : ProcessModel). (name_of q).text) (get_or_from_slice_get all i p p e) ∙ sym n in
    let size : length (process_texts all) ≡ length all = length-map all _ in
    let found : is_some (place_of (process_texts all) t) ≡ true = (place_found (process_texts all) t).1 (i, (omega arith), there) in
    let lost : is_some (place_of (process_texts all) t) ≡ false = ap is_some (sym none) in
    let both : true ≡ false = sym found ∙ lost in cc

-- a test of what is before, with its parts worked out
pub again_same : (again : Bool) (earlier now : List (List ℕ)) (t u : List ℕ) → earlier ≡ now → t ≡ u → (IsTrue again ↔ Contains earlier t) → (IsTrue again ↔ Contains now u)
again_same again earlier now t u e s h =
    let P : List (List ℕ) → Type 0 = λ l. IsTrue again ↔ Contains l t in
    let Q : List ℕ → Type 0 = λ v. IsTrue again ↔ Contains now v in
    subst Q s (subst P e h)
