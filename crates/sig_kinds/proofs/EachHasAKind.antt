-- In a well-formed program each expression has a kind.
use Rattle.sig_kinds.proofs.Common.{◌≡◌, ◌++◌, List, [], ◌∷◌, refl, ap, sym, ◌∙◌, subst, Bool, true, false, cond, Option, None, Some, option_map, map, append_assoc, append-nil, map-append, map-map, AllByRecursion, flat_map, Kind, Integer, Boolean, Name, Constant, Expression, Named, Number, Truth, Unary, Binary, Delay, Cell, Computed, Called, Equations, Together, Defines, Equal, ProcessModel, Declaration, declarations, declaration_of, process_of, outputs_of, locals_of, inputs_of, params_of, names_of_expression, names_of_constant, names_of_init, Use, OfProcess, signals_used, uses_of_inits, uses_of_equation, uses_of, equations_of_model, all_processes, behind, Candidate, candidate, Clash, NoneHolds, each, FormRow, accepts, unary_row, binary_row, delay_row, cell_row, unary_kind, binary_kind, kind_of_result, stored, kind_of, unknown_use, unknown_names, RefusesOne, RefusesTwo, clash_of_init, clash_of_left, clashes_of_results, clash_of_arguments, clashes_of_constants, clashes_of_expression, clashes_of_call, clashes_of_equation, clashes_of_inits, clashes, declared_twice, inputs_defined, defined_twice, undefined, IsWellFormed, rules_on, nodes, expressions_of, kinds_in, kinds_of_model, kinds_of_program, AreKinds, known, all_back, all_both, all_front}

none_left : (ps qs : List Candidate) → NoneHolds (ps ++ qs) → NoneHolds ps
none_left [] qs n = tt
none_left (c ∷ cs) qs n = (n.0, none_left cs qs n.1)

none_right : (ps qs : List Candidate) → NoneHolds (ps ++ qs) → NoneHolds qs
none_right [] qs n = n
none_right (c ∷ cs) qs n = none_right cs qs n.1

-- a name that is declared, and an expression that has a kind
abbrev IsKnown : List Declaration → Name → Type 0
IsKnown scope name = declaration_of scope name.text ≡ None → ⊥

abbrev HasKind : List Declaration → Expression → Type 0
HasKind scope e = (k : Kind) × (kind_of scope e ≡ Some k)

named_kind : (o : Option Declaration) → (o ≡ None → ⊥) → (k : Kind) × (option_map (λ d. d.kind) o ≡ Some k)
named_kind None h = absurd (h refl)
named_kind (Some d) h = (d.kind, refl)

accepted_one : (form : FormRow) (k : Kind) (b : Bool) → accepts form.operands k None ≡ b → (RefusesOne form (Some k) → ⊥) → (m : Kind) × (cond b (Some (kind_of_result form.result k None)) None ≡ Some m)
accepted_one form k true e h = (kind_of_result form.result k None, refl)
accepted_one form k false e h = absurd (h (k, refl, e))

unary_known : (form : FormRow) (o : Option Kind) (k : Kind) → o ≡ Some k → (RefusesOne form o → ⊥) → (m : Kind) × (unary_kind form o ≡ Some m)
unary_known form None k e h = absurd cc
unary_known form (Some k) l e h = accepted_one form k (accepts form.operands k None) refl h

accepted_two : (form : FormRow) (k l : Kind) (b : Bool) → accepts form.operands k (Some l) ≡ b → (RefusesTwo form (Some k) (Some l) → ⊥) → (m : Kind) × (cond b (Some (kind_of_result form.result k (Some l))) None ≡ Some m)
accepted_two form k l true e h = (kind_of_result form.result k (Some l), refl)
accepted_two form k l false e h = absurd (h (k, l, refl, refl, e))

binary_known : (form : FormRow) (o p : Option Kind) (k l : Kind) → o ≡ Some k → p ≡ Some l → (RefusesTwo form o p → ⊥) → (m : Kind) × (binary_kind form o p ≡ Some m)
binary_known form None p k l e f h = absurd cc
binary_known form (Some k) None m l e f h = absurd cc
binary_known form (Some k) (Some l) m n e f h = accepted_two form k l (accepts form.operands k (Some l)) refl h

delay_known : (o : Option Kind) (k : Kind) → o ≡ Some k → (m : Kind) × (unary_kind delay_row o ≡ Some m)
delay_known None k e = absurd cc
delay_known (Some k) l e = (stored k, refl)

-- an expression without unknown names and clashes has a kind, as has each inside it
typed_expression : (scope : List Declaration) (e : Expression) → AllByRecursion (IsKnown scope) (names_of_expression e) → NoneHolds (clashes_of_expression scope e) → HasKind scope e × AllByRecursion (HasKind scope) (nodes e)
typed_expression scope (Named name) h n = let k : HasKind scope (Named name) = named_kind (declaration_of scope name.text) h.0 in (k, (k, tt))
typed_expression scope (Number value at) h n = ((Integer, refl), ((Integer, refl), tt))
typed_expression scope (Truth truth at) h n = ((Boolean, refl), ((Boolean, refl), tt))
typed_expression scope (Unary op operand at) h n =
    let inside = typed_expression scope operand h n.1 in
    let k : HasKind scope (Unary op operand at) = unary_known (unary_row op) (kind_of scope operand) inside.0.0 inside.0.1 n.0 in (k, (k, inside.1))
typed_expression scope (Binary op left right at) h n =
    let own : Candidate = candidate (Clash at) (RefusesTwo (binary_row op) (kind_of scope left) (kind_of scope right)) in
    let first = typed_expression scope left (all_front (IsKnown scope) (names_of_expression left) (names_of_expression right) h) (none_left (clashes_of_expression scope left) (own ∷ clashes_of_expression scope right) n) in
    let rest : NoneHolds (own ∷ clashes_of_expression scope right) = none_right (clashes_of_expression scope left) (own ∷ clashes_of_expression scope right) n in
    let second = typed_expression scope right (all_back (IsKnown scope) (names_of_expression left) (names_of_expression right) h) rest.1 in
    let k : HasKind scope (Binary op left right at) = binary_known (binary_row op) (kind_of scope left) (kind_of scope right) first.0.0 second.0.0 first.0.1 second.0.1 rest.0 in
    (k, (k, all_both (HasKind scope) (nodes left) (nodes right) first.1 second.1))
typed_expression scope (Delay operand init at) h n =
    let inside = typed_expression scope operand (all_front (IsKnown scope) (names_of_expression operand) (names_of_init init) h) (none_left (clashes_of_expression scope operand) (clash_of_init scope (kind_of scope operand) init) n) in
    let k : HasKind scope (Delay operand init at) = delay_known (kind_of scope operand) inside.0.0 inside.0.1 in (k, (k, inside.1))
typed_expression scope (Cell operand held init at) h n =
    let own : Candidate = candidate (Clash at) (RefusesTwo cell_row (kind_of scope operand) (kind_of scope held)) in
    let behind : List Candidate = clashes_of_expression scope held ++ clash_of_init scope (kind_of scope operand) (Some init) in
    let names : AllByRecursion (IsKnown scope) (names_of_expression held ++ names_of_constant init) = all_back (IsKnown scope) (names_of_expression operand) (names_of_expression held ++ names_of_constant init) h in
    let first = typed_expression scope operand (all_front (IsKnown scope) (names_of_expression operand) (names_of_expression held ++ names_of_constant init) h) (none_left (clashes_of_expression scope operand) (own ∷ behind) n) in
    let rest : NoneHolds (own ∷ behind) = none_right (clashes_of_expression scope operand) (own ∷ behind) n in
    let second = typed_expression scope held (all_front (IsKnown scope) (names_of_expression held) (names_of_constant init) names) (none_left (clashes_of_expression scope held) (clash_of_init scope (kind_of scope operand) (Some init)) rest.1) in
    let k : HasKind scope (Cell operand held init at) = binary_known cell_row (kind_of scope operand) (kind_of scope held) first.0.0 second.0.0 first.0.1 second.0.1 rest.0 in
    (k, (k, all_both (HasKind scope) (nodes operand) (nodes held) first.1 second.1))

typed_expressions : (scope : List Declaration) (es : List Expression) → AllByRecursion (IsKnown scope) (flat_map names_of_expression es) → NoneHolds (each (clashes_of_expression scope) es) → AllByRecursion (HasKind scope) (flat_map nodes es)
typed_expressions scope [] h n = tt
typed_expressions scope (e ∷ es) h n =
    all_both (HasKind scope) (nodes e) (flat_map nodes es) (typed_expression scope e (all_front (IsKnown scope) (names_of_expression e) (flat_map names_of_expression es) h) (none_left (clashes_of_expression scope e) (each (clashes_of_expression scope) es) n)).1
    (typed_expressions scope es (all_back (IsKnown scope) (names_of_expression e) (flat_map names_of_expression es) h) (none_right (clashes_of_expression scope e) (each (clashes_of_expression scope) es) n))

-- a use that is not unknown
abbrev IsFound : List ProcessModel → List Declaration → Use → Type 0
IsFound all scope u = (unknown_use all scope u).Holds → ⊥

uses_found : (all : List ProcessModel) (scope : List Declaration) (us : List Use) → NoneHolds (each (λ u. unknown_use all scope u ∷ []) us) → AllByRecursion (IsFound all scope) us
uses_found all scope [] n = tt
uses_found all scope (u ∷ us) n = (n.0, uses_found all scope us n.1)

signals_known : (all : List ProcessModel) (scope : List Declaration) (names : List Name) → AllByRecursion (IsFound all scope) (signals_used names) → AllByRecursion (IsKnown scope) names
signals_known all scope [] h = tt
signals_known all scope (n ∷ names) h = (h.0, signals_known all scope names h.1)

typed_call : (all : List ProcessModel) (scope : List Declaration) (names : List Name) (name : Name) (constants : List Constant) (arguments : List Expression) (called : Option ProcessModel) → (called ≡ None → ⊥)
    → AllByRecursion (IsKnown scope) (flat_map names_of_expression arguments) → NoneHolds (clashes_of_call scope names name constants arguments called) → AllByRecursion (HasKind scope) (flat_map nodes arguments)
typed_call all scope names name constants arguments None there h n = absurd (there refl)
typed_call all scope names name constants arguments (Some called) there h n =
    let results : List Candidate = clashes_of_results scope names (outputs_of called) in
    let own : Candidate = clash_of_arguments scope name arguments (inputs_of called) in
    let values : List Candidate = clashes_of_constants scope constants (params_of called) in
    let behind : List Candidate = each (clashes_of_expression scope) arguments in
    let rest : NoneHolds (own ∷ (values ++ behind)) = none_right results (own ∷ (values ++ behind)) n in
    typed_expressions scope arguments h (none_right values behind rest.1)

typed_equation : (all : List ProcessModel) (scope : List Declaration) (eq : Equations) → AllByRecursion (IsFound all scope) (uses_of_equation eq) → NoneHolds (clashes_of_equation all scope eq) → AllByRecursion (HasKind scope) (flat_map nodes (expressions_of eq))
typed_equation all scope (Together bodies) h n = tt
typed_equation all scope (Defines names (Computed e)) h n =
    let lefts : List Candidate = each (λ name. clash_of_left scope (kind_of scope e) name ∷ []) names in
    let inside = typed_expression scope e (signals_known all scope (names_of_expression e) (all_back (IsFound all scope) (signals_used names) (signals_used (names_of_expression e)) h)) (none_right lefts (clashes_of_expression scope e) n) in
    all_both (HasKind scope) (nodes e) [] inside.1 tt
typed_equation all scope (Defines names (Called name constants arguments)) h n =
    let values : List Name = flat_map names_of_constant constants in
    let inputs : List Name = flat_map names_of_expression arguments in
    let rest : AllByRecursion (IsFound all scope) (OfProcess name ∷ signals_used (values ++ inputs)) = all_back (IsFound all scope) (signals_used names) (OfProcess name ∷ signals_used (values ++ inputs)) h in
    let used : AllByRecursion (IsKnown scope) (values ++ inputs) = signals_known all scope (values ++ inputs) rest.1 in
    typed_call all scope names name constants arguments (process_of all name.text) rest.0 (all_back (IsKnown scope) values inputs used) n
typed_equation all scope (Equal operands) h n = typed_expressions scope operands (signals_known all scope (flat_map names_of_expression operands) h) n

flat_nodes : (es fs : List Expression) → flat_map nodes (es ++ fs) ≡ flat_map nodes es ++ flat_map nodes fs
flat_nodes [] fs = refl
flat_nodes (e ∷ es) fs = ap (λ l. nodes e ++ l) (flat_nodes es fs) ∙ sym (append_assoc (nodes e) (flat_map nodes es) (flat_map nodes fs))

typed_equations : (all : List ProcessModel) (scope : List Declaration) (eqs : List Equations) → AllByRecursion (IsFound all scope) (flat_map uses_of_equation eqs) → NoneHolds (each (clashes_of_equation all scope) eqs)
    → AllByRecursion (HasKind scope) (flat_map nodes (flat_map expressions_of eqs))
typed_equations all scope [] h n = tt
typed_equations all scope (eq ∷ eqs) h n =
    let first = typed_equation all scope eq (all_front (IsFound all scope) (uses_of_equation eq) (flat_map uses_of_equation eqs) h) (none_left (clashes_of_equation all scope eq) (each (clashes_of_equation all scope) eqs) n) in
    let rest = typed_equations all scope eqs (all_back (IsFound all scope) (uses_of_equation eq) (flat_map uses_of_equation eqs) h) (none_right (clashes_of_equation all scope eq) (each (clashes_of_equation all scope) eqs) n) in
    let P : List Expression → Type 0 = λ l. AllByRecursion (HasKind scope) l in
    subst P (sym (flat_nodes (expressions_of eq) (flat_map expressions_of eqs))) (all_both (HasKind scope) (flat_map nodes (expressions_of eq)) (flat_map nodes (flat_map expressions_of eqs)) first rest)

-- the kinds of equations, one equation after another
pub kinds_flat : (scope : List Declaration) (eqs : List Equations) → flat_map (λ eq. map known (kinds_in scope (expressions_of eq))) eqs ≡ map known (kinds_in scope (flat_map expressions_of eqs))
kinds_flat scope [] = refl
kinds_flat scope (eq ∷ eqs) = ap (λ l. map known (kinds_in scope (expressions_of eq)) ++ l) (kinds_flat scope eqs)
    ∙ sym (map-append known (kinds_in scope (expressions_of eq)) (kinds_in scope (flat_map expressions_of eqs)))
    ∙ ap (map known) (sym (ap (map (kind_of scope)) (flat_nodes (expressions_of eq) (flat_map expressions_of eqs)) ∙ map-append (kind_of scope) (flat_map nodes (expressions_of eq)) (flat_map nodes (flat_map expressions_of eqs))))

-- the kinds of one expression
pub kinds_of_one : (scope : List Declaration) (e : Expression) → map (λ n. known (kind_of scope n)) (nodes e) ≡ map known (kinds_in scope (e ∷ []))
kinds_of_one scope e = sym (map-map known (kind_of scope) (nodes e)) ∙ ap (λ l. map known (map (kind_of scope) l)) (sym (append-nil (nodes e)))

-- kinds that are all there
abbrev AreThere : List (Option Kind) → Type 0
AreThere ks = map (λ o. Some (known o)) ks ≡ ks

there_both : (xs ys : List (Option Kind)) → AreThere xs → AreThere ys → AreThere (xs ++ ys)
there_both xs ys h k = map-append (λ (o : Option Kind). Some (known o)) xs ys ∙ ap (λ l. l ++ map (λ o. Some (known o)) ys) h ∙ ap (λ l. xs ++ l) k

there_one : (o : Option Kind) (k : Kind) → o ≡ Some k → Some (known o) ≡ o
there_one None k e = absurd cc
there_one (Some k) l e = refl

there_nodes : (scope : List Declaration) (es : List Expression) → AllByRecursion (HasKind scope) es → AreThere (map (kind_of scope) es)
there_nodes scope [] h = refl
there_nodes scope (e ∷ es) h = ap (λ o. o ∷ map (λ p. Some (known p)) (map (kind_of scope) es)) (there_one (kind_of scope e) h.0.0 h.0.1) ∙ ap (λ l. kind_of scope e ∷ l) (there_nodes scope es h.1)

-- a process that breaks no rule
typed_process : (all before : List ProcessModel) (p : ProcessModel) → NoneHolds (rules_on all before p) → AreThere (kinds_of_model p)
typed_process all before p n =
    let scope : List Declaration = declarations p in
    let eqs : List Equations = equations_of_model p in
    let found : AllByRecursion (IsFound all scope) (uses_of p) = uses_found all scope (uses_of p) (none_left (unknown_names all p) _ n) in
    let used : AllByRecursion (IsFound all scope) (flat_map uses_of_equation eqs) = all_front (IsFound all scope) (flat_map uses_of_equation eqs) (uses_of_inits (locals_of p)) (all_back (IsFound all scope) (uses_of_inits (outputs_of p)) (flat_map uses_of_equation eqs ++ uses_of_inits (locals_of p)) found) in
    let later = none_right (undefined p) _ (none_right (defined_twice p) _ (none_right (inputs_defined p) _ (none_right (declared_twice before p) _ (none_right (unknown_names all p) _ n)))) in
    let kinds : NoneHolds (clashes all p) = none_left (clashes all p) _ later in
    let own : NoneHolds (each (clashes_of_equation all scope) eqs) = none_left (each (clashes_of_equation all scope) eqs) (clashes_of_inits scope (locals_of p)) (none_right (clashes_of_inits scope (outputs_of p)) (each (clashes_of_equation all scope) eqs ++ clashes_of_inits scope (locals_of p)) kinds) in
    there_nodes scope (flat_map nodes (flat_map expressions_of eqs)) (typed_equations all scope eqs used own)

typed_processes : (all earlier ps : List ProcessModel) → NoneHolds (each (λ p. rules_on all p.0 p.1) (behind earlier ps)) → AreThere (flat_map kinds_of_model ps)
typed_processes all earlier [] n = refl
typed_processes all earlier (p ∷ ps) n =
    let rest : List Candidate = each (λ q. rules_on all q.0 q.1) (behind (earlier ++ p ∷ []) ps) in
    there_both (kinds_of_model p) (flat_map kinds_of_model ps) (typed_process all earlier p (none_left (rules_on all earlier p) rest n)) (typed_processes all (earlier ++ p ∷ []) ps (none_right (rules_on all earlier p) rest n))

-- the kinds that are known are those of a well-formed program
pub are_kinds : (program : List ProcessModel) (kinds : List Kind) → IsWellFormed program → kinds ≡ map known (kinds_of_program program) → AreKinds program kinds
are_kinds program kinds formed e = ap (map Some) e ∙ map-map Some known (kinds_of_program program) ∙ typed_processes (all_processes program) [] (all_processes program) formed
