-- The kind and the cluster of the signal of a number.
use Rattle.sig_flat.proofs.Common.{◌≡◌, ◌<◌, ◌≤◌, ℕ, zero, suc, List, [], ◌∷◌, length, get_or, refl, ap, arith, Integer, Signal, kind_at, cluster_at}

pub kind_here : (signals : List Signal) (n : ℕ) (s : Signal) → n < length signals → s ≡ get_or signals n s → s.kind ≡ kind_at signals n
kind_here [] n s h e = let m : n < 0 = h in absurd (omega arith)
kind_here (x ∷ xs) zero s h e = ap (λ (y : Signal). y.kind) e
kind_here (x ∷ xs) (suc n) s h e = kind_here xs n s (let m : suc n < suc (length xs) = h in omega arith) e

pub kind_past : (signals : List Signal) (n : ℕ) → length signals ≤ n → Integer ≡ kind_at signals n
kind_past [] n h = refl
kind_past (x ∷ xs) zero h = let m : suc (length xs) ≤ 0 = h in absurd (omega arith)
kind_past (x ∷ xs) (suc n) h = kind_past xs n (let m : suc (length xs) ≤ suc n = h in omega arith)

pub cluster_here : (signals : List Signal) (n : ℕ) (s : Signal) → n < length signals → s ≡ get_or signals n s → s.cluster ≡ cluster_at signals n
cluster_here [] n s h e = let m : n < 0 = h in absurd (omega arith)
cluster_here (x ∷ xs) zero s h e = ap (λ (y : Signal). y.cluster) e
cluster_here (x ∷ xs) (suc n) s h e = cluster_here xs n s (let m : suc n < suc (length xs) = h in omega arith) e

pub cluster_past : (signals : List Signal) (n : ℕ) → length signals ≤ n → 0 ≡ cluster_at signals n
cluster_past [] n h = refl
cluster_past (x ∷ xs) zero h = let m : suc (length xs) ≤ 0 = h in absurd (omega arith)
cluster_past (x ∷ xs) (suc n) h = cluster_past xs n (let m : suc (length xs) ≤ suc n = h in omega arith)
