-- A well-formed program has a flat body: calls do not lead back, so each of them ends.
use Rattle.sig_call.proofs.Common.{same_Some, ◌≡◌, ◌⊎◌, ◌<◌, ◌≤◌, ℕ, zero, suc, List, [], ◌∷◌, None, Some, Option, Bool, true, false, cond, length, get_or, refl, sym, ap, subst, ◌∙◌, inl, inr, arith, Contains, bytes_eq-Decides, AllByRecursion, flat_map, bytes_eq, Name, Expression, Computed, Called, Equations, Defines, Equal, ProcessModel, FlatEquation, FlatBody, name_of, inputs_of, outputs_of, process_of, all_processes, texts, called_in, called_by, equations_of_model, Copy, Progress, Expands, Ended, Defined, Equated, Expanded, IsFlatBody, called_copy, with_copy, first_copy, first_progress, NoneHolds, candidate, each, Recursive, CallsByName, Reaches, Itself, ByCall, IsWellFormed, IsTree, IsReady, Fits, AreExpandable}
use Rattle.sig_call.proofs.Expandable.{expandable, rules_hold, key_rules}
use Rattle.sig_call.proofs.Whole.{first_found}

-- the name by which a process is found is its own
name_step : (text : List ℕ) (x p : ProcessModel) (b : Bool) (later : Option ProcessModel) → bytes_eq (name_of x).text text ≡ b → (later ≡ Some p → (name_of p).text ≡ text)
    → cond b (Some x) later ≡ Some p → (name_of p).text ≡ text
name_step text x p true later is rest found = ap (λ (q : ProcessModel). (name_of q).text) (sym (same_Some _ _ found)) ∙ (bytes_eq-Decides (name_of x).text text).0 is
name_step text x p false later is rest found = rest found

pub found_name : (xs : List ProcessModel) (text : List ℕ) (p : ProcessModel) → process_of xs text ≡ Some p → (name_of p).text ≡ text
found_name [] text p found = absurd cc
found_name (x ∷ xs) text p found = name_step text x p (bytes_eq (name_of x).text text) (process_of xs text) refl (λ e. found_name xs text p e) found

-- at least one call leads from one name to another
abbrev Goes : List ProcessModel → (from to : List ℕ) → Type 0
Goes all from to = (next : List ℕ) × CallsByName all from next × Reaches all next to

reaches_then : {all : List ProcessModel} {a b c : List ℕ} → Reaches all a b → CallsByName all b c → Reaches all a c
reaches_then Itself calls = ByCall calls Itself
reaches_then (ByCall first rest) calls = ByCall first (reaches_then rest calls)

-- no called process reaches its caller
back_step : (all : List ProcessModel) (back text : List ℕ) (names : List Name) (k : ℕ) → NoneHolds (each (λ name. candidate (Recursive name) (Reaches all name.text back) ∷ []) names)
    → k < length (texts names) → get_or (texts names) k text ≡ text → Reaches all text back → ⊥
back_step all back text [] k none below here reaches = let no : k < 0 = below in absurd (omega arith)
back_step all back text (n ∷ ns) zero none below here reaches = none.0 (subst (λ t. Reaches all t back) (sym here) reaches)
back_step all back text (n ∷ ns) (suc k) none below here reaches = back_step all back text ns k none.1 (let m : suc k < suc (length (texts ns)) = below in omega arith) here reaches

never_back : (program : List ProcessModel) (text : List ℕ) → IsWellFormed program → Goes (all_processes program) text text → ⊥
never_back program text well goes =
    let all = all_processes program in
    let p = goes.1.0 in
    let found : process_of all text ≡ Some p = goes.1.1 in
    let rules = rules_hold program text p well found in
    let key = key_rules all rules.before p rules.none in
    let back : Reaches all goes.0 (name_of p).text = subst (λ t. Reaches all goes.0 t) (sym (found_name all text p found)) goes.2 in
    back_step all (name_of p).text goes.0 (called_by p) goes.1.2.0 key.recursive goes.1.2.1 goes.1.2.2 back

-- processes without those of a name
without : List ℕ → List ProcessModel → List ProcessModel
without text [] = []
without text (r ∷ rs) = cond (bytes_eq (name_of r).text text) (without text rs) (r ∷ without text rs)

without_step : (text : List ℕ) (r : ProcessModel) (rs : List ProcessModel) (b : Bool) → length (without text rs) ≤ length rs
    → length (cond b (without text rs) (r ∷ without text rs)) ≤ suc (length rs)
without_step text r rs true h = omega arith
without_step text r rs false h = omega arith

without_within : (text : List ℕ) (rs : List ProcessModel) → length (without text rs) ≤ length rs
unfolding without
without_within text [] = omega arith
without_within text (r ∷ rs) = without_step text r rs (bytes_eq (name_of r).text text) (without_within text rs)

shorter_step : (text : List ℕ) (r : ProcessModel) (rs : List ProcessModel) (b : Bool) → length (without text rs) ≤ length rs → ((process_of rs text ≡ None → ⊥) → length (without text rs) < length rs)
    → (cond b (Some r) (process_of rs text) ≡ None → ⊥) → length (cond b (without text rs) (r ∷ without text rs)) < suc (length rs)
shorter_step text r rs true h rest some = omega arith
shorter_step text r rs false h rest some = let below : length (without text rs) < length rs = rest some in omega arith

without_shorter : (text : List ℕ) (rs : List ProcessModel) → (process_of rs text ≡ None → ⊥) → length (without text rs) < length rs
unfolding without
without_shorter text [] some = absurd (some refl)
without_shorter text (r ∷ rs) some = shorter_step text r rs (bytes_eq (name_of r).text text) (without_within text rs) (λ h. without_shorter text rs h) some

other_step : (text u : List ℕ) (r : ProcessModel) (rs : List ProcessModel) (b d : Bool) → bytes_eq (name_of r).text text ≡ b → bytes_eq (name_of r).text u ≡ d → (u ≡ text → ⊥)
    → process_of (without text rs) u ≡ process_of rs u → process_of (cond b (without text rs) (r ∷ without text rs)) u ≡ cond d (Some r) (process_of rs u)
other_step text u r rs true true b d apart rest = absurd (apart (sym ((bytes_eq-Decides (name_of r).text u).0 d) ∙ (bytes_eq-Decides (name_of r).text text).0 b))
other_step text u r rs true false b d apart rest = rest
other_step text u r rs false true b d apart rest = ap (λ e. cond e (Some r) (process_of (without text rs) u)) d
other_step text u r rs false false b d apart rest = ap (λ e. cond e (Some r) (process_of (without text rs) u)) d ∙ rest

without_other : (text u : List ℕ) (rs : List ProcessModel) → (u ≡ text → ⊥) → process_of (without text rs) u ≡ process_of rs u
unfolding without
without_other text u [] apart = refl
without_other text u (r ∷ rs) apart = other_step text u r rs (bytes_eq (name_of r).text text) (bytes_eq (name_of r).text u) refl refl apart (without_other text u rs apart)

-- each chain of calls from a process has at most so many processes
abbrev CallsWithin : List ProcessModel → ℕ → List ℕ → Type 0
CallsWithin all zero text = ⊥
CallsWithin all (suc n) text = (next : List ℕ) → CallsByName all text next → CallsWithin all n next

-- a process that is called is there
fits_some : (names : List Name) (arguments : List Expression) (found : Option ProcessModel) → Fits names arguments found → found ≡ None → ⊥
fits_some names arguments None fits is = fits
fits_some names arguments (Some called) fits is = absurd cc

ready_found : (all : List ProcessModel) (equations : List Equations) (text : List ℕ) (k : ℕ) → AllByRecursion (IsReady all) equations
    → k < length (texts (flat_map called_in equations)) → get_or (texts (flat_map called_in equations)) k text ≡ text → process_of all text ≡ None → ⊥
ready_found all [] text k ready below here none = let no : k < 0 = below in absurd (omega arith)
ready_found all (Defines (n ∷ ns) (Computed e) ∷ rest) text k ready below here none = ready_found all rest text k ready.1 below here none
ready_found all (Defines (n ∷ ns) (Called name constants arguments) ∷ rest) text zero ready below here none =
    fits_some (n ∷ ns) arguments (process_of all name.text) ready.0.0 (ap (process_of all) here ∙ none)
ready_found all (Defines (n ∷ ns) (Called name constants arguments) ∷ rest) text (suc k) ready below here none =
    ready_found all rest text k ready.1 (let m : suc k < suc (length (texts (flat_map called_in rest))) = below in omega arith) here none
ready_found all (Equal operands ∷ rest) text k ready below here none = ready_found all rest text k ready.1 below here none
ready_found all _ text k ready below here none = ready.0

-- all names are among some processes, or lead to one
abbrev Left : (all rest : List ProcessModel) → List ℕ → Type 0
Left all rest text = (u : List ℕ) → (process_of all u ≡ None → ⊥) → (process_of rest u ≡ None → ⊥) ⊎ Goes all u text

left_choice : (all rest : List ProcessModel) (text next u : List ℕ) (b : Bool) → bytes_eq u text ≡ b → CallsByName all text next → (process_of rest u ≡ None → ⊥)
    → (process_of (without text rest) u ≡ None → ⊥) ⊎ Goes all u next
left_choice all rest text next u true is calls some = inr (next, subst (λ t. CallsByName all t next) (sym ((bytes_eq-Decides u text).0 is)) calls, Itself)
left_choice all rest text next u false is calls some = inl (λ none. some (sym (without_other text u rest (λ same. (let yes : bytes_eq u text ≡ true = (bytes_eq-Decides u text).1 same in absurd cc))) ∙ none))

left_next : (all rest : List ProcessModel) (text next : List ℕ) → CallsByName all text next → Left all rest text → Left all (without text rest) next
left_next all rest text next calls left = λ u known. elim (left u known) [
  | inl some ↦ left_choice all rest text next u (bytes_eq u text) refl calls some
  | inr goes ↦ inr (goes.0, goes.1, reaches_then goes.2 calls)
]

within : (program : List ProcessModel) → IsTree program → IsWellFormed program → (n : ℕ) (rest : List ProcessModel) (text : List ℕ) → (process_of (all_processes program) text ≡ None → ⊥)
    → length rest ≤ n → Left (all_processes program) rest text → CallsWithin (all_processes program) n text
within program tree well zero rest text known few left = elim (left text known) [
  | inl some ↦ (let shorter : length (without text rest) < length rest = without_shorter text rest some in absurd (omega arith))
  | inr goes ↦ never_back program text well goes
]
within program tree well (suc n) rest text known few left = λ next calls.
    let all = all_processes program in
    let ready = (expandable program tree well text calls.0 calls.1).equations in
    let next_known : process_of all next ≡ None → ⊥ = λ none. ready_found all (equations_of_model calls.0) next calls.2.0 ready calls.2.1 calls.2.2 none in
    elim (left text known) [
      | inl some ↦ (let shorter : length (without text rest) < length rest = without_shorter text rest some in within program tree well n (without text rest) next next_known (omega arith) (left_next all rest text next calls left))
      | inr goes ↦ absurd (never_back program text well goes)
    ]

-- an expansion
record Expansion (all : List ProcessModel) (copy : Copy) (equations : List Equations) (before : Progress) : Type 0 where
  after : Progress
  flat : List FlatEquation
  expands : Expands all copy equations before after flat

fits_found : (names : List Name) (arguments : List Expression) (found : Option ProcessModel) → Fits names arguments found → (called : ProcessModel) × (found ≡ Some called)
fits_found names arguments None fits = elim fits [ ]
fits_found names arguments (Some called) fits = (called, refl)

-- equations, where the processes that they call have expansions
along : (all : List ProcessModel) (equations : List Equations) → AllByRecursion (IsReady all) equations
    → ((text : List ℕ) (q : ProcessModel) → Contains (texts (flat_map called_in equations)) text → process_of all text ≡ Some q → (copy : Copy) (before : Progress) → Expansion all copy (equations_of_model q) before)
    → (copy : Copy) (before : Progress) → Expansion all copy equations before
along all [] ready deeper copy before = record { after = before; flat = []; expands = Ended }
along all (Defines (n ∷ ns) (Computed e) ∷ rest) ready deeper copy before =
    let later = along all rest ready.1 deeper copy before in
    subst (λ (ms : List Name). Expansion all copy (Defines (n ∷ ms) (Computed e) ∷ rest) before) (sym ready.0.0)
    (record { after = later.after; flat = _; expands = Defined n e later.expands })
along all (Defines (n ∷ ns) (Called name constants arguments) ∷ rest) ready deeper copy before =
    let found = fits_found (n ∷ ns) arguments (process_of all name.text) ready.0.0 in
    let inside = deeper name.text found.0 (0, omega arith, refl) found.1 (called_copy copy before name constants found.0) (with_copy copy before (n ∷ ns) name found.0) in
    let later = along all rest ready.1 (λ text q c is. deeper text q (suc c.0, (let m : c.0 < length (texts (flat_map called_in rest)) = c.1 in omega arith), c.2) is) copy inside.after in
    record { after = later.after; flat = _; expands = Expanded (n ∷ ns) name constants arguments found.0 found.1 inside.expands later.expands }
along all (Equal operands ∷ rest) ready deeper copy before =
    let later = along all rest ready.1 deeper copy before in
    record { after = later.after; flat = _; expands = Equated operands later.expands }
along all _ ready deeper copy before = elim ready.0 [ ]

total : (all : List ProcessModel) → AreExpandable all → (n : ℕ) (text : List ℕ) (p : ProcessModel) → process_of all text ≡ Some p → CallsWithin all n text → (copy : Copy) (before : Progress) → Expansion all copy (equations_of_model p) before
total all sound zero text p found calls copy before = elim calls [ ]
total all sound (suc n) text p found calls copy before =
    along all (equations_of_model p) (sound text p found).equations
    (λ next q contains is inner from. total all sound n next q is (calls next (p, found, contains)) inner from) copy before

-- a program has a flat body
pub some_body : (program : List ProcessModel) → IsTree program → IsWellFormed program → (flat : FlatBody) × IsFlatBody program flat
some_body [] tree well = absurd (tree.some refl)
some_body (p ∷ ps) tree well =
    let all = all_processes (p ∷ ps) in
    let text = (name_of p).text in
    let found : process_of all text ≡ Some p = first_found p ps in
    let known : process_of all text ≡ None → ⊥ = λ none. (let no : Some p ≡ None = sym found ∙ none in absurd cc) in
    let calls : CallsWithin all (length all) text = within (p ∷ ps) tree well (length all) all text known (omega arith) (λ u some. inl some) in
    let made = total all (expandable (p ∷ ps) tree well) (length all) text p found calls (first_copy p) (first_progress p) in
    (record { signals = made.after.signals; inputs = length (inputs_of p); outputs = length (outputs_of p); equations = made.flat }, (made.after, made.flat, made.expands, refl))
