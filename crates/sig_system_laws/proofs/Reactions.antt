-- Of two traces of an accepted program that take from the same flows, one begins the other.
use Rattle.sig_system_laws.proofs.Common.{◌≡◌, ◌++◌, ◌⊎◌, inl, inr, ℕ, ℤ, pos, false, List, [], ◌∷◌, length, get_or, drop, refl, ap, sym, subst, ◌∙◌, append_assoc, option_to_list, Instant, IsPrefixOf, NoneSilent, Trace, flow_of, flow_append, front_rest, is_silent, seen_at, IsKernelTrace, remembered, wide_reaction, within_bounds, IsValid, Kernel, IsAcceptedKernel, IsNext, TakesNext, one_at_most, TakesFrom}

-- the next value of each input, after those that were taken
abbrev pub next_of : (ℕ → List ℤ) → Trace → ℕ → ℤ
next_of flows past input = get_or (drop (length (flow_of input past)) (flows input)) 0 (pos 0)

next_value : (signal : ℕ) (flow : List ℤ) (past rest : Trace) (x : Instant) (v : ℤ) → option_to_list (seen_at x signal) ≡ v ∷ [] → IsPrefixOf (flow_of signal (past ++ x ∷ rest)) flow
    → v ≡ get_or (drop (length (flow_of signal past)) flow) 0 (pos 0)
next_value signal flow past rest x v is begins =
    let one : flow_of signal (x ∷ rest) ≡ v ∷ flow_of signal rest = ap (λ list. list ++ flow_of signal rest) is in
    let parts : flow_of signal (past ++ x ∷ rest) ≡ flow_of signal past ++ v ∷ flow_of signal rest = flow_append signal past (x ∷ rest) ∙ ap (λ list. flow_of signal past ++ list) one in
    let whole : flow ≡ flow_of signal past ++ v ∷ (flow_of signal rest ++ begins.0) =
    begins.1 ∙ ap (λ list. list ++ begins.0) parts ∙ append_assoc (flow_of signal past) (v ∷ flow_of signal rest) begins.0 in
    sym (ap (λ list. get_or list 0 (pos 0)) (front_rest flow (flow_of signal past) (v ∷ (flow_of signal rest ++ begins.0)) whole))

pub takes_next : (kernel : Kernel) (flows : ℕ → List ℤ) (past rest : Trace) (x : Instant) → TakesFrom kernel flows (past ++ x ∷ rest) → TakesNext kernel (next_of flows past) x
takes_next kernel flows past rest x from input v below is = next_value input (flows input) past rest x v (ap option_to_list is) (from input below)

pub speaks_at : (past rest : Trace) (x : Instant) → NoneSilent (past ++ x ∷ rest) → is_silent x ≡ false
speaks_at [] rest x all = all.0
speaks_at (y ∷ past) rest x all = speaks_at past rest x all.1

-- what a program did, by its kernel
pub record IsRun (kernel : Kernel) (trace : Trace) : Type 0 where
  pub is : IsKernelTrace kernel trace
  pub speaks : NoneSilent trace

-- an instant of 64 bits that follows
pub next_instant : (kernel : Kernel) (flows : ℕ → List ℤ) (past rest : Trace) (x : Instant) → IsRun kernel (past ++ x ∷ rest) → TakesFrom kernel flows (past ++ x ∷ rest)
    → IsNext kernel (remembered past) (next_of flows past) x
next_instant kernel flows past rest x run from = record {
  is = wide_reaction within_bounds kernel (remembered past) x (run.is past x rest refl);
  speaks = speaks_at past rest x run.speaks;
  takes = takes_next kernel flows past rest x from;
}

module _ (kernel : Kernel) (valid : IsValid kernel) (accepted : IsAcceptedKernel kernel) (flows : ℕ → List ℤ) where
  compare : (past s t : Trace) → IsRun kernel (past ++ s) → IsRun kernel (past ++ t) → TakesFrom kernel flows (past ++ s) → TakesFrom kernel flows (past ++ t) → IsPrefixOf s t ⊎ IsPrefixOf t s
  compare past [] t a b from from' = inl (t, refl)
  compare past (x ∷ s) [] a b from from' = inr (x ∷ s, refl)
  compare past (x ∷ s) (y ∷ t) a b from from' =
      let same : x ≡ y = one_at_most kernel valid accepted (remembered past) (next_of flows past) x y (next_instant kernel flows past s x a from) (next_instant kernel flows past t y b from') in
      let left : past ++ x ∷ s ≡ (past ++ x ∷ []) ++ s = sym (append_assoc past (x ∷ []) s) in
      let right : past ++ y ∷ t ≡ (past ++ x ∷ []) ++ t = ap (λ z. past ++ z ∷ t) (sym same) ∙ sym (append_assoc past (x ∷ []) t) in
      more same (compare (past ++ x ∷ []) s t (subst (IsRun kernel) left a) (subst (IsRun kernel) right b) (subst (TakesFrom kernel flows) left from) (subst (TakesFrom kernel flows) right from')) where
        more : x ≡ y → IsPrefixOf s t ⊎ IsPrefixOf t s → IsPrefixOf (x ∷ s) (y ∷ t) ⊎ IsPrefixOf (y ∷ t) (x ∷ s)
        more e (inl c) = inl (c.0, rw (← e) (ap (λ list. x ∷ list) c.1))
        more e (inr c) = inr (c.0, rw e (ap (λ list. y ∷ list) c.1))

  pub one_of_two : (s t : Trace) → IsRun kernel s → IsRun kernel t → TakesFrom kernel flows s → TakesFrom kernel flows t → IsPrefixOf s t ⊎ IsPrefixOf t s
  one_of_two s t a b from from' = compare [] s t a b from from'
