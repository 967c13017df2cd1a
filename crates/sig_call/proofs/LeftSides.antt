-- The left sides of a process name its outputs and locals, each once: in a copy they stand for the numbers of
-- the copy's signals that are no inputs.
use Rattle.sig_call.proofs.Common.{◌≡◌, ◌≢◌, ◌+◌, ◌-◌, ◌<◌, ◌==◌, ◌++◌, ◌∙◌, ℕ, ℤ, zero, suc, Bool, true, false, cond, List, [], ◌∷◌, map, find, length, get_or, count_by, Contains, Some, option_map, refl, sym, ap, subst, inl, inr, arith, eq-eqb, cases_eq, cases_lt, length-append, length-map, get_or-append-add, get_or_default, bytes_eq-Decides, AllByRecursion, bytes_eq, Name, ProcessModel, Declaration, params_of, inputs_of, outputs_of, locals_of, declarations, texts, left_sides_of, Binding as BoundTo, BoundSignal, Copy, bound_constants, bound_from, binding_of, signal_bound, signal_of, signals_declared, binding_found, bindings_of, ne_eqb, all_so, holds_at}
use Rattle.sig_call.proofs.Apart.{Apart, apart_right}
use Rattle.sig_call.proofs.Counts.{below, count_map, count_none, count_same, not_it, once}
use Rattle.sig_call.proofs.Named.{declared_texts, texts_append}

-- the first binding of a name, or a later one
pub found_here : (b : List ℕ × BoundTo) (bs : List (List ℕ × BoundTo)) (t : List ℕ) → bytes_eq b.0 t ≡ true → binding_found (b ∷ bs) t ≡ Some b.1
found_here b bs t is = ap (λ (c : Bool). option_map (λ (x : List ℕ × BoundTo). x.1) (cond c (Some b) (find (λ x. bytes_eq x.0 t) bs))) is

pub found_later : (b : List ℕ × BoundTo) (bs : List (List ℕ × BoundTo)) (t : List ℕ) → bytes_eq b.0 t ≡ false → binding_found (b ∷ bs) t ≡ binding_found bs t
found_later b bs t is = ap (λ (c : Bool). option_map (λ (x : List ℕ × BoundTo). x.1) (cond c (Some b) (find (λ x. bytes_eq x.0 t) bs))) is

-- the number of a declared signal is its place
number_at : (base : ℕ) (ds : List Declaration) (k : ℕ) (t : List ℕ) → Apart (declared_texts ds) → k < length (declared_texts ds) → get_or (declared_texts ds) k t ≡ t
    → binding_found (bound_from base ds) t ≡ Some (BoundSignal (base + k))
number_at base [] k t apart h is = let no : k < 0 = h in absurd (omega arith)
number_at base (d ∷ ds) zero t apart h is =
    let same : base ≡ base + 0 = omega arith in
    found_here (d.name.text, BoundSignal base) (bound_from (suc base) ds) t ((bytes_eq-Decides d.name.text t).1 is) ∙ ap (λ n. Some (BoundSignal n)) same
number_at base (d ∷ ds) (suc k) t apart h is =
    let within : k < length (declared_texts ds) = (let n : suc k < suc (length (declared_texts ds)) = h in omega arith) in
    let other : d.name.text ≢ t = subst (λ u. d.name.text ≢ u) is (holds_at (λ u. d.name.text ≢ u) (declared_texts ds) k t apart.0 within) in
    let same : suc base + k ≡ base + suc k = omega arith in
    found_later (d.name.text, BoundSignal base) (bound_from (suc base) ds) t (not_it t d.name.text other)
    ∙ number_at (suc base) ds k t apart.1 within is ∙ ap (λ n. Some (BoundSignal n)) same

-- parameters have other names
past_params : (params : List Declaration) (constants : List ℤ) (bs : List (List ℕ × BoundTo)) (t : List ℕ) → AllByRecursion (λ u. u ≢ t) (declared_texts params)
    → binding_found (bound_constants params constants ++ bs) t ≡ binding_found bs t
past_params (p ∷ ps) (c ∷ cs) bs t others = found_later (p.name.text, _) (bound_constants ps cs ++ bs) t (not_it t p.name.text others.0) ∙ past_params ps cs bs t others.1
past_params _ _ bs t others = refl

apart_across : (xs ys : List (List ℕ)) (t : List ℕ) → Apart (xs ++ ys) → Contains ys t → AllByRecursion (λ u. u ≢ t) xs
apart_across [] ys t apart here = tt
apart_across (x ∷ xs) ys t apart here = (
  (let later : Contains (xs ++ ys) t = Contains-behind xs ys t here in
      subst (λ u. x ≢ u) later.2 (holds_at (λ u. x ≢ u) (xs ++ ys) later.0 t apart.0 later.1)),
  apart_across xs ys t apart.1 here,
) where
  Contains-behind : (us vs : List (List ℕ)) (v : List ℕ) → Contains vs v → Contains (us ++ vs) v
  Contains-behind us vs v h = (
    length us + h.0,
    (let whole : length (us ++ vs) ≡ length us + length vs = length-append us vs in let within : h.0 < length vs = h.1 in omega arith),
    get_or-append-add us vs h.0 v ∙ h.2,
  )

-- what is asked of the left sides of a process
pub record DefinesOnce (p : ProcessModel) : Type 0 where
  pub declared : Apart (declared_texts (declarations p))
  pub apart : Apart (texts (left_sides_of p))
  pub inside : AllByRecursion (Contains (declared_texts (outputs_of p ++ locals_of p))) (texts (left_sides_of p))
  pub each : AllByRecursion (Contains (texts (left_sides_of p))) (declared_texts (outputs_of p ++ locals_of p))

-- the number of an output or a local
own_number : (p : ProcessModel) (copy : Copy) (base : ℕ) (constants : List ℤ) → Apart (declared_texts (declarations p)) → copy.bindings ≡ bindings_of base constants p
    → (t : List ℕ) (k : ℕ) → k < length (declared_texts (outputs_of p ++ locals_of p)) → get_or (declared_texts (outputs_of p ++ locals_of p)) k t ≡ t
    → signal_bound (binding_of copy t) ≡ base + (length (inputs_of p) + k)
own_number p copy base constants apart bound t k within is =
    let inputs = declared_texts (inputs_of p) in
    let own = declared_texts (outputs_of p ++ locals_of p) in
    let signals = declared_texts (signals_declared p) in
    let apart_parts : Apart (declared_texts (params_of p) ++ signals) = subst Apart (texts_append (params_of p) (signals_declared p)) apart in
    let split : signals ≡ inputs ++ own = texts_append (inputs_of p) (outputs_of p ++ locals_of p) in
    let many : length inputs ≡ length (inputs_of p) = length-map (map (λ d. d.name) (inputs_of p)) _ ∙ length-map (inputs_of p) _ in
    let place : length inputs + k ≡ length (inputs_of p) + k = ap (λ n. n + k) many in
    let there : get_or signals (length (inputs_of p) + k) t ≡ t = ap (λ n. get_or signals n t) (sym place) ∙ ap (λ l. get_or l (length inputs + k) t) split ∙ get_or-append-add inputs own k t ∙ is in
    let long : length signals ≡ length inputs + length own = ap length split ∙ length-append inputs own in
    let below_all : length (inputs_of p) + k < length signals = omega arith in
    ap signal_bound (ap (λ bs. binding_found bs t) bound
    ∙ past_params (params_of p) constants (bound_from base (signals_declared p)) t (apart_across (declared_texts (params_of p)) signals t apart_parts (length (inputs_of p) + k, below_all, there))
    ∙ number_at base (signals_declared p) (length (inputs_of p) + k) t (apart_right (declared_texts (params_of p)) signals apart_parts) below_all there)

-- which texts have a number
is_number : (m n k : ℕ) → m ≡ n → n ≡ k → (m == k) ≡ true
is_number m n k first second = eq-eqb m k (first ∙ second)

-- whether a text that names an output or a local has a number, where the text of that number is another or the same
test_at : (p : ProcessModel) (copy : Copy) (base : ℕ) (constants : List ℤ) → Apart (declared_texts (declarations p)) → copy.bindings ≡ bindings_of base constants p
    → (u : List ℕ) (j : ℕ) → j < length (declared_texts (outputs_of p ++ locals_of p)) → get_or (declared_texts (outputs_of p ++ locals_of p)) j u ≡ u
    → (t : List ℕ) → Contains (declared_texts (outputs_of p ++ locals_of p)) t
    → (signal_bound (binding_of copy t) == base + (length (inputs_of p) + j)) ≡ bytes_eq t u
test_at p copy base constants apart bound u j below_own is t here =
    let own = declared_texts (outputs_of p ++ locals_of p) in
    let first : signal_bound (binding_of copy t) ≡ base + (length (inputs_of p) + here.0) = own_number p copy base constants apart bound t here.0 here.1 here.2 in
    let second : signal_bound (binding_of copy u) ≡ base + (length (inputs_of p) + j) = own_number p copy base constants apart bound u j below_own is in
    elim (cases_eq here.0 j) [
      | inl same ↦
          (let same_text : t ≡ u = sym here.2 ∙ ap (λ n. get_or own n t) same ∙ get_or_default own j t u below_own ∙ is in
          is_number (signal_bound (binding_of copy t)) (base + (length (inputs_of p) + here.0)) (base + (length (inputs_of p) + j)) first (ap (λ n. base + (length (inputs_of p) + n)) same)
          ∙ sym ((bytes_eq-Decides t u).1 same_text))
      | inr other ↦
          (let apart_number : here.0 ≢ j = other in
          ne_eqb (signal_bound (binding_of copy t)) (base + (length (inputs_of p) + j)) (λ same. apart_number (omega arith))
          ∙ sym (not_it u t (λ same. (let equal : signal_bound (binding_of copy t) ≡ signal_bound (binding_of copy u) = ap (λ x. signal_bound (binding_of copy x)) same in apart_number (omega arith)))))
    ]

test_outside : (p : ProcessModel) (copy : Copy) (base : ℕ) (constants : List ℤ) → Apart (declared_texts (declarations p)) → copy.bindings ≡ bindings_of base constants p
    → (n : ℕ) → ((k : ℕ) → k < length (declared_texts (outputs_of p ++ locals_of p)) → base + (length (inputs_of p) + k) ≢ n)
    → (t : List ℕ) → Contains (declared_texts (outputs_of p ++ locals_of p)) t
    → (signal_bound (binding_of copy t) == n) ≡ false
test_outside p copy base constants apart bound n outside t here =
    let first : signal_bound (binding_of copy t) ≡ base + (length (inputs_of p) + here.0) = own_number p copy base constants apart bound t here.0 here.1 here.2 in
    ne_eqb (signal_bound (binding_of copy t)) n (λ same. outside here.0 here.1 (sym first ∙ same))

-- the left sides that stand for a number
pub left_count : (p : ProcessModel) (copy : Copy) (base : ℕ) (constants : List ℤ) → DefinesOnce p → copy.bindings ≡ bindings_of base constants p → (n : ℕ)
    → count_by (λ name. signal_of copy name == n) (left_sides_of p) + below (base + length (inputs_of p)) n ≡ below (base + length (signals_declared p)) n
left_count p copy base constants once_each bound n =
    let inputs = length (inputs_of p) in
    let own = declared_texts (outputs_of p ++ locals_of p) in
    let lefts = texts (left_sides_of p) in
    let test : List ℕ → Bool = λ t. signal_bound (binding_of copy t) == n in
    let counted : count_by test lefts ≡ count_by (λ name. signal_of copy name == n) (left_sides_of p) = count_map test (λ (name : Name). name.text) (left_sides_of p) in
    let own_long : length own ≡ length (outputs_of p ++ locals_of p) = length-map (map (λ d. d.name) (outputs_of p ++ locals_of p)) _ ∙ length-map (outputs_of p ++ locals_of p) _ in
    let long : length (signals_declared p) ≡ inputs + length (outputs_of p ++ locals_of p) = length-append (inputs_of p) (outputs_of p ++ locals_of p) in
    let none : ((k : ℕ) → k < length own → base + (inputs + k) ≢ n) → count_by test lefts ≡ 0 = λ outside.
    count_none test lefts (all_so (Contains own) (λ t. test t ≡ false) (test_outside p copy base constants once_each.declared bound n outside) lefts once_each.inside) in
    elim (cases_lt n (base + inputs)) [
      | inl before ↦ (let zero_count : count_by test lefts ≡ 0 = none (λ k h same. absurd (omega arith)) in omega arith)
      | inr behind ↦ elim (cases_lt n (base + (inputs + length own))) [
        | inl within ↦
            (let j = n - (base + inputs) in
            let u = get_or own j [] in
            let place : j < length own = omega arith in
            let here : get_or own j u ≡ u = get_or_default own j u [] place in
            let number : base + (inputs + j) ≡ n = omega arith in
            let as_texts : count_by test lefts ≡ count_by (λ t. bytes_eq t u) lefts =
            count_same test (λ t. bytes_eq t u) lefts (all_so (Contains own) (λ t. test t ≡ bytes_eq t u)
            (λ t in_own. ap (λ k. signal_bound (binding_of copy t) == k) (sym number) ∙ test_at p copy base constants once_each.declared bound u j place here t in_own) lefts once_each.inside) in
            let there : Contains lefts u = holds_at (Contains lefts) own j [] once_each.each place in
            let one : count_by (λ t. bytes_eq t u) lefts ≡ 1 = once lefts u once_each.apart there in
            omega arith)
        | inr after ↦ (let zero_count : count_by test lefts ≡ 0 = none (λ k h same. absurd (omega arith)) in omega arith)
      ]
    ]
