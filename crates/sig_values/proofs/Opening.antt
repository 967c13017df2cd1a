-- The initial values of delays.
use Rattle.sig_values.proofs.Common.{◌≡◌, ◌<◌, ◌-◌, ◌+◌, ◌∙◌, ℕ, zero, suc, ℤ, pos, true, IsTrue, List, [], ◌∷◌, length, drop, replicate, get_or, sym, ap, subst, refl, arith, drop-cons, AllPass, list_all, and_parts, operands_of, target_of, form_within, operand_within, target_within, Equation, initial_by, initial_in, memories_in}

-- no delay is met yet
zero_at : (n signal : ℕ) → memories_in (replicate n (pos 0)) signal ≡ pos 0
zero_at zero signal = refl
zero_at (suc n) zero = refl
zero_at (suc n) (suc signal) = zero_at n signal

pub none_met : (n : ℕ) (equations : List Equation) → equations ≡ [] → memories_in (replicate n (pos 0)) ≡ initial_in equations
none_met n equations is =
    let at : memories_in (replicate n (pos 0)) ≡ initial_in [] = λ j signal. zero_at n signal j in
    at ∙ ap initial_in (sym is)

-- one more equation, counted from the last one
pub one_met : (equations : List Equation) (done k : ℕ) (d : Equation) (values new : List ℤ) → done < length equations → k ≡ length equations - 1 - done
    → memories_in values ≡ initial_in (drop (length equations - done) equations)
    → ((signal : ℕ) → memories_in new signal ≡ initial_by signal (get_or equations k d).form (memories_in values signal))
    → memories_in new ≡ initial_in (drop (length equations - (done + 1)) equations)
one_met equations done k d values new below at before put =
    let equation = get_or equations k d in
    let here : length equations - (done + 1) ≡ k = omega (arith, at, below) in
    let behind : length equations - done ≡ suc k = omega (arith, at, below) in
    let within : k < length equations = omega (arith, at, below) in
    let told : memories_in values ≡ initial_in (drop (suc k) equations) = before ∙ ap (λ n. initial_in (drop n equations)) behind in
    let each : (signal : ℕ) → memories_in new signal ≡ initial_in (equation ∷ drop (suc k) equations) signal =
    λ signal. put signal ∙ ap (λ f. initial_by signal equation.form (f signal)) told in
    let all : memories_in new ≡ initial_in (equation ∷ drop (suc k) equations) = λ j signal. each signal j in
    all ∙ ap initial_in (sym (drop-cons equations k d within)) ∙ ap (λ n. initial_in (drop n equations)) (sym here)

-- what an equation defines has a place among the values
pub target_is_within : (signals n k : ℕ) (equations : List Equation) (d : Equation) → AllPass (λ (e : Equation). form_within signals e.form) equations
    → k < length equations → n ≡ signals → IsTrue (target_within n (target_of (get_or equations k d).form))
target_is_within signals n k equations d pass below same =
    let equation = get_or equations k d in
    let here : form_within signals equation.form ≡ true = pass k d below in
    subst (λ m. IsTrue (target_within m (target_of equation.form))) (sym same) ((and_parts (target_within signals (target_of equation.form)) (list_all (operand_within signals) (operands_of equation.form)) here).0)
