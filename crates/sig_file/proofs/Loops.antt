-- Reading items one behind the other, as a loop does.
use Rattle.sig_file.proofs.Common.{◌≡◌, ℕ, suc, ◌-◌, ◌+◌, ◌≤◌, ◌<◌, List, [], ◌∷◌, ◌++◌, Result, Ok, Err, refl, sym, ap, ◌∙◌, arith, Reading, Stops, added, several, Stop}
use Rattle.sig_file.specs.declared.stop.Stop.TheVariants as stops

pub goes_on : {A : Type 0} (item : List A → Reading A) (count i : ℕ) (before seen : List A) (bytes : List ℕ) (x : A) (rest : List ℕ) (total : Result (List A × List ℕ) ℕ)
    → seen ≡ before → i < count → item seen bytes ≡ Ok (x, rest) → several item (count - i) before bytes ≡ total → several item (count - (i + 1)) (before ++ x ∷ []) rest ≡ total
unfolding several
goes_on item count i before seen bytes x rest total same lt here so_far =
    let k : count - i ≡ suc (count - (i + 1)) = omega arith in
    let now : item before bytes ≡ Ok (x, rest) = rw (← same) here in
    let one : several item (count - i) before bytes ≡ several item (count - (i + 1)) (before ++ x ∷ []) rest = rw (k, now) refl in
    sym one ∙ so_far

pub stops_too : {A : Type 0} (item : List A → Reading A) (e : Stop) (count i : ℕ) (before seen : List A) (bytes : List ℕ) (total : Result (List A × List ℕ) ℕ)
    → seen ≡ before → i < count → Stops e (item seen bytes) → several item (count - i) before bytes ≡ total → Stops e total
unfolding several
stops_too item stops.Memory count i before seen bytes total same lt here so_far = tt
stops_too item (stops.Broken left) count i before seen bytes total same lt here so_far =
    let k : count - i ≡ suc (count - (i + 1)) = omega arith in
    let now : item before bytes ≡ Err left = rw (← same) here in
    let one : several item (count - i) before bytes ≡ Err left = rw (k, now) refl in
    sym so_far ∙ one

pub is_done : {A : Type 0} (item : List A → Reading A) (count i : ℕ) (before : List A) (bytes : List ℕ) (total : Result (List A × List ℕ) ℕ)
    → count ≤ i → several item (count - i) before bytes ≡ total → total ≡ Ok (before, bytes)
unfolding several
is_done item count i before bytes total le so_far =
    let k : count - i ≡ 0 = omega arith in
    let one : several item (count - i) before bytes ≡ Ok (before, bytes) = rw k refl in
    sym so_far ∙ one

-- ---- an item added to those before it

pub added_ok : {A : Type 0} (before : List A) (read : Result (A × List ℕ) ℕ) (more : List A) (rest : List ℕ) → added before read ≡ Ok (more, rest)
    → (x : A) × (read ≡ Ok (x, rest)) × (more ≡ before ++ x ∷ [])
added_ok {A = A} before (Ok x) more rest e =
    let p : (before ++ x.0 ∷ [], x.1) ≡ (more, rest) = cc in
    (x.0, ap (λ (r : List ℕ). Ok (x.0, r)) (ap (λ (y : List A × List ℕ). y.1) p), sym (ap (λ (y : List A × List ℕ). y.0) p))
added_ok before (Err left) more rest e = absurd cc

pub added_stops : {A : Type 0} (e : Stop) (before : List A) (read : Result (A × List ℕ) ℕ) → Stops e (added before read) → Stops e read
added_stops stops.Memory before read h = tt
added_stops (stops.Broken left) before (Ok x) h = absurd cc
added_stops (stops.Broken left) before (Err other) h = let same : other ≡ left = cc in ap (λ (n : ℕ). Err n) same
