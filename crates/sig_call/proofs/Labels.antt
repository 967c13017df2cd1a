-- The numbers that labels write, and the clusters that pragmas give.
use Rattle.sig_call.proofs.Common.{◌≡◌, ◌+◌, ◌-◌, ◌*◌, ◌≤◌, ◌<◌, ℕ, zero, suc, List, [], ◌∷◌, fold, drop, map, length, get_or, arith, subst, sym, ap, ◌∙◌, refl, at_drop_more, AllByRecursion, Signal, Process, out-Process, RunOn, Placement, placement_of, model_of, pragmas_of_model, cluster_at, number_of, pragmas_are, IsLow}
use Rattle.sig_call.proofs.Lists.{all_mapped}

-- the number that digits write behind another
abbrev pub number_from : ℕ → List ℕ → ℕ
number_from n digits = fold (λ n digit. n * 10 + (digit - 48)) n digits

pub number_grows : (n : ℕ) (digits : List ℕ) → n ≤ number_from n digits
number_grows n [] = omega arith
number_grows n (d ∷ ds) = let h : n * 10 + (d - 48) ≤ number_from (n * 10 + (d - 48)) ds = number_grows (n * 10 + (d - 48)) ds in omega arith

-- no number on the way is above the whole
pub number_within : (n : ℕ) (label : List ℕ) (i : ℕ) (whole : ℕ) → i < length label → number_from n (drop i label) ≡ whole → n * 10 + (get_or label i 0 - 48) ≤ whole
number_within n label i whole h e =
    let step : number_from n (drop i label) ≡ number_from (n * 10 + (get_or label i 0 - 48)) (drop (i + 1) label) = at_drop_more (number_from n) label i 0 h in
    let grows : n * 10 + (get_or label i 0 - 48) ≤ number_from (n * 10 + (get_or label i 0 - 48)) (drop (i + 1) label) = number_grows (n * 10 + (get_or label i 0 - 48)) (drop (i + 1) label) in
    omega arith

-- the label of a process's pragma is low
pub low_at : (p : Process) (items : List RunOn) (i : ℕ) (x : RunOn) → AllByRecursion IsLow (pragmas_of_model (model_of p)) → items ≡ (out-Process p).run_on.items
    → i < length items → x ≡ get_or items i x → number_of x.label ≤ 63
low_at p items i x all same h e =
    all_mapped IsLow placement_of items i x (subst (λ (ps : List Placement). AllByRecursion IsLow ps) (pragmas_are p ∙ ap (map placement_of) (sym same)) all) h e

-- the cluster of the signal of a number
pub cluster_here : (signals : List Signal) (n : ℕ) (s : Signal) → n < length signals → s ≡ get_or signals n s → s.cluster ≡ cluster_at signals n
cluster_here [] n s h e = let m : n < 0 = h in absurd (omega arith)
cluster_here (x ∷ xs) zero s h e = ap (λ (y : Signal). y.cluster) e
cluster_here (x ∷ xs) (suc n) s h e = cluster_here xs n s (let m : suc n < suc (length xs) = h in omega arith) e

pub cluster_past : (signals : List Signal) (n : ℕ) → length signals ≤ n → 0 ≡ cluster_at signals n
cluster_past [] n h = refl
cluster_past (x ∷ xs) zero h = let m : suc (length xs) ≤ 0 = h in absurd (omega arith)
cluster_past (x ∷ xs) (suc n) h = cluster_past xs n (let m : suc (length xs) ≤ suc n = h in omega arith)
