-- Parts of a call beside what the called process declares, as far as both lists go.
use Rattle.sig_type.proofs.Common.{◌≡◌, ◌++◌, ◌⊎◌, ℕ, zero, suc, List, [], ◌∷◌, refl, ap, sym, ◌∙◌, subst, inl, inr, map, take, length, get_or, ◌+◌, ◌<◌, ◌≤◌, ◌↔◌, Option, None, Some, option_map, slice_get, arith, zip, Any, Bool, true, false, IsTrue, take_all, length-take-le, length-map, map-append, Kind, Name, Constant, Expr, Expression, expression_of, Declaration, kind_of, clash_of_left, clash_of_constant, clashes_of_results, clashes_of_constants, DoesNotTake, First, Finds, result_at, front_more}
use Rattle.sig_type.proofs.Sequences.{finds_then, finds_as}

-- the kind of a declaration, where there is one
abbrev pub kind_at : List Declaration → ℕ → Option Kind
kind_at declared i = option_map (λ d. d.kind) (slice_get declared i)

results_append : (scope : List Declaration) (names : List Name) (outputs : List Declaration) (n : Name)
    → clashes_of_results scope (names ++ n ∷ []) outputs ≡ clashes_of_results scope names outputs ++ result_at scope n (kind_at outputs (length names))
results_append scope [] [] n = refl
results_append scope [] (o ∷ os) n = refl
results_append scope (m ∷ ns) [] n = refl
results_append scope (m ∷ ns) (o ∷ os) n = ap (λ cs. clash_of_left scope (Some o.kind) m ∷ cs) (results_append scope ns os n)

front_length : {A : Type 0} (xs : List A) (i : ℕ) → i < length xs → length (take i xs) ≡ i
front_length xs i h = length-take-le i xs (omega arith)

-- one left side of a call more
pub results_more : (scope : List Declaration) {a b c : First} (names : List Name) (outputs : List Declaration) (i : ℕ) (n : Name) → n ≡ get_or names i n → i < length names
    → Finds a b (clashes_of_results scope (take i names) outputs) → Finds b c (result_at scope n (kind_at outputs i)) → Finds a c (clashes_of_results scope (take (i + 1) names) outputs)
results_more scope names outputs i n is h before here =
    finds_as (sym (ap (λ ns. clashes_of_results scope ns outputs) (front_more names i n is h) ∙ results_append scope (take i names) outputs n
    ∙ ap (λ k. clashes_of_results scope (take i names) outputs ++ result_at scope n (kind_at outputs k)) (front_length names i h)))
    (finds_then before here)

constants_append : (scope : List Declaration) (constants : List Constant) (params : List Declaration) (c : Constant)
    → clashes_of_constants scope (constants ++ c ∷ []) params ≡ clashes_of_constants scope constants params ++ clash_of_constant scope (kind_at params (length constants)) c ∷ []
constants_append scope [] [] c = refl
constants_append scope [] (p ∷ ps) c = refl
constants_append scope (d ∷ ds) [] c = ap (λ cs. clash_of_constant scope None d ∷ cs) (constants_append scope ds [] c)
constants_append scope (d ∷ ds) (p ∷ ps) c = ap (λ cs. clash_of_constant scope (Some p.kind) d ∷ cs) (constants_append scope ds ps c)

-- one constant of a call more
pub constants_more : (scope : List Declaration) {a b c : First} (constants : List Constant) (params : List Declaration) (i : ℕ) (n : Constant) → n ≡ get_or constants i n → i < length constants
    → Finds a b (clashes_of_constants scope (take i constants) params) → Finds b c (clash_of_constant scope (kind_at params i) n ∷ []) → Finds a c (clashes_of_constants scope (take (i + 1) constants) params)
constants_more scope constants params i n is h before here =
    finds_as (sym (ap (λ ns. clashes_of_constants scope ns params) (front_more constants i n is h) ∙ constants_append scope (take i constants) params n
    ∙ ap (λ k. clashes_of_constants scope (take i constants) params ++ clash_of_constant scope (kind_at params k) n ∷ []) (front_length constants i h)))
    (finds_then before here)

-- an argument that an input does not take
abbrev pub IsRefused : List Declaration → Expression × Declaration → Type 0
IsRefused scope both = DoesNotTake (Some both.1.kind) (kind_of scope both.0)

-- whether one of these is refused
abbrev pub AnyRefused : List Declaration → List Expression → List Declaration → Type 0
AnyRefused scope (e ∷ es) (d ∷ ds) = DoesNotTake (Some d.kind) (kind_of scope e) ⊎ AnyRefused scope es ds
AnyRefused scope _ _ = ⊥

no_wanted : (given : Option Kind) → DoesNotTake None given → ⊥
no_wanted given h = let e : None ≡ Some h.0 = h.2 in cc

refused_append : (scope : List Declaration) (es : List Expression) (ds : List Declaration) (e : Expression)
    → AnyRefused scope (es ++ e ∷ []) ds ↔ (AnyRefused scope es ds ⊎ DoesNotTake (kind_at ds (length es)) (kind_of scope e))
refused_append scope [] [] e = (λ h. absurd h, λ h. elim h [ inl n ↦ n | inr t ↦ no_wanted (kind_of scope e) t ])
refused_append scope [] (d ∷ ds) e = (λ h. elim h [ inl t ↦ inr t | inr n ↦ absurd n ], λ h. elim h [ inl n ↦ absurd n | inr t ↦ inl t ])
refused_append scope (x ∷ es) [] e = (λ h. absurd h, λ h. elim h [ inl n ↦ n | inr t ↦ no_wanted (kind_of scope e) t ])
refused_append scope (x ∷ es) (d ∷ ds) e =
    let rec : AnyRefused scope (es ++ e ∷ []) ds ↔ (AnyRefused scope es ds ⊎ DoesNotTake (kind_at ds (length es)) (kind_of scope e)) = refused_append scope es ds e in (
      λ h. elim h [ inl t ↦ inl (inl t) | inr r ↦ elim (rec.0 r) [ inl q ↦ inl (inr q) | inr t ↦ inr t ] ],
      λ h. elim h [ inl q ↦ elim q [ inl t ↦ inl t | inr r ↦ inr (rec.1 (inl r)) ] | inr t ↦ inr (rec.1 (inr t)) ],
    )

any_first : (scope : List Declaration) (es : List Expression) (ds : List Declaration) (k : ℕ) (x : Expression × Declaration) → k < length (zip es ds) → get_or (zip es ds) k x ≡ x → IsRefused scope x → AnyRefused scope es ds
any_first scope (y ∷ es) (d ∷ ds) zero x h e r = inl (let P : Expression × Declaration → Type 0 = λ b. IsRefused scope b in subst P (sym e) r)
any_first scope (y ∷ es) (d ∷ ds) (suc k) x h e r = inr (any_first scope es ds k x (omega arith) e r)
any_first scope _ _ k x h e r = absurd (omega arith)

any_of : (scope : List Declaration) (es : List Expression) (ds : List Declaration) → AnyRefused scope es ds → Any (IsRefused scope) (zip es ds)
any_of scope (y ∷ es) (d ∷ ds) (inl r) = (0, (y, d), omega arith, refl, r)
any_of scope (y ∷ es) (d ∷ ds) (inr h) = let rest : Any (IsRefused scope) (zip es ds) = any_of scope es ds h in
    let below : rest.0 < length (zip es ds) = rest.2 in (suc rest.0, rest.1, omega arith, rest.3, rest.4)
any_of scope _ _ h = absurd h

-- the two ways to say it
pub any_is : (scope : List Declaration) (es : List Expression) (ds : List Declaration) → AnyRefused scope es ds ↔ Any (IsRefused scope) (zip es ds)
any_is scope es ds = (any_of scope es ds, λ a. any_first scope es ds a.0 a.1 a.2 a.3 a.4)

-- either of two tests
pub either_true : {old now : Bool} (other : Bool) → old ≡ true → now ≡ true → (IsTrue now ↔ (IsTrue old ⊎ IsTrue other))
either_true other o n = (λ _. inl o, λ _. n)

pub either_other : {old now other : Bool} → old ≡ false → now ≡ other → (IsTrue now ↔ (IsTrue old ⊎ IsTrue other))
either_other {old} {now} {other} o n = (λ h. inr (sym n ∙ h), λ h. elim h [ inl t ↦ absurd (let f : false ≡ true = sym o ∙ t in cc) | inr t ↦ n ∙ t ])

-- one argument of a call more
pub refused_more : (scope : List Declaration) (all : List Expr) (inputs : List Declaration) (i : ℕ) (x : Expr) (old now refused : Bool) → x ≡ get_or all i x → i < length all
    → (IsTrue now ↔ (IsTrue old ⊎ IsTrue refused)) → (IsTrue refused ↔ DoesNotTake (kind_at inputs i) (kind_of scope (expression_of x)))
    → (IsTrue old ↔ AnyRefused scope (map expression_of (take i all)) inputs) → (IsTrue now ↔ AnyRefused scope (map expression_of (take (i + 1) all)) inputs)
refused_more scope all inputs i x old now refused is h either here before =
    let es : List Expression = map expression_of (take i all) in
    let grown : map expression_of (take (i + 1) all) ≡ es ++ expression_of x ∷ [] = ap (map expression_of) (front_more all i x is h) ∙ map-append expression_of (take i all) (x ∷ []) in
    let size : length es ≡ i = length-map (take i all) expression_of ∙ front_length all i h in
    let Q : ℕ → Type 0 = λ n. IsTrue refused ↔ DoesNotTake (kind_at inputs n) (kind_of scope (expression_of x)) in
    let at : IsTrue refused ↔ DoesNotTake (kind_at inputs (length es)) (kind_of scope (expression_of x)) = subst Q (sym size) here in
    let both : AnyRefused scope (es ++ expression_of x ∷ []) inputs ↔ (AnyRefused scope es inputs ⊎ DoesNotTake (kind_at inputs (length es)) (kind_of scope (expression_of x))) = refused_append scope es inputs (expression_of x) in
    let P : List Expression → Type 0 = λ l. IsTrue now ↔ AnyRefused scope l inputs in
    subst P (sym grown) (
      λ n. both.1 (elim (either.0 n) [ inl o ↦ inl (before.0 o) | inr r ↦ inr (at.0 r) ]),
      λ a. either.1 (elim (both.0 a) [ inl o ↦ inl (before.1 o) | inr r ↦ inr (at.1 r) ]),
    )

-- all arguments of a call
pub refused_all : (scope : List Declaration) (all : List Expr) (inputs : List Declaration) (i : ℕ) (found : Bool) → length all ≤ i
    → (IsTrue found ↔ AnyRefused scope (map expression_of (take i all)) inputs) → (IsTrue found ↔ Any (IsRefused scope) (zip (map expression_of all) inputs))
refused_all scope all inputs i found h e =
    let P : List Expr → Type 0 = λ l. IsTrue found ↔ AnyRefused scope (map expression_of l) inputs in
    let whole : IsTrue found ↔ AnyRefused scope (map expression_of all) inputs = subst P (take_all i all h) e in
    let same : AnyRefused scope (map expression_of all) inputs ↔ Any (IsRefused scope) (zip (map expression_of all) inputs) = any_is scope (map expression_of all) inputs in
    (λ t. same.0 (whole.0 t), λ a. whole.1 (same.1 a))
