-- Equations read one instant at a time hold where they hold over a trace.
use Rattle.sig_tree.proofs.Common.{◌≡◌, ◌+◌, ◌++◌, ℕ, zero, suc, ℤ, List, [], ◌∷◌, length, None, Some, refl, sym, subst, arith, inl, inr, ◌⊎◌, AllByRecursion, AllZip, Instant, Trace, seen_at, FlatExpression, FlatEquation, Defines, Equal, Operand, Signal, IsOperand, HoldsAt, HoldThroughout, Steps, EquationSteps, BodySteps, Leads, HoldsBehind, zip_back, zip_left, zip_same}
use Rattle.sig_tree.proofs.OneMeaning.{OneValue}
use Rattle.sig_tree.proofs.StepLaws.{first_step, step_first, next_after, next_before}

-- lists whose elements are related one by one
pub zip_made : {A B : Type 0} (P : A → Type 0) (R : A → B → Type 0) → ((a : A) → P a → (b : B) × R a b) → (xs : List A) → AllByRecursion P xs → (ys : List B) × AllZip R xs ys
zip_made P R f [] h = ([], tt)
zip_made P R f (x ∷ xs) h =
    let r = f x h.0 in
    let rs = zip_made P R f xs h.1 in
    (r.0 ∷ rs.0, (r.1, rs.1))

pub zip_over : {A B : Type 0} (P : A → Type 0) (Q : B → Type 0) (R : A → B → Type 0) → ((a : A) (b : B) → R a b → P a → Q b) → (xs : List A) (ys : List B) → AllZip R xs ys → AllByRecursion P xs → AllByRecursion Q ys
zip_over P Q R f [] [] h all = tt
zip_over P Q R f [] (y ∷ ys) h all = absurd h
zip_over P Q R f (x ∷ xs) [] h all = absurd h
zip_over P Q R f (x ∷ xs) (y ∷ ys) h all = (f x y h.0 all.0, zip_over P Q R f xs ys h.1 all.1)

abbrev AbsentTo : Instant → FlatExpression → FlatExpression → Type 0
AbsentTo now e rest = Steps e now (Signal None) rest

abbrev PresentTo : Instant → FlatExpression → FlatExpression → Type 0
PresentTo now e rest = (v : ℤ) × Steps e now (Signal (Some v)) rest

abbrev AbsentAt : Trace → ℕ → FlatExpression → Type 0
AbsentAt t i e = IsOperand t e i (Signal None)

abbrev PresentAt : Trace → ℕ → FlatExpression → Type 0
PresentAt t i e = (v : ℤ) × IsOperand t e i (Signal (Some v))

pub hold_step : (t : Trace) (now : Instant) (q : FlatEquation) → HoldsAt (now ∷ t) zero q → (next : FlatEquation) × EquationSteps now q next
hold_step t now (Defines signal e prefix) a =
    let r = first_step t now e (Signal (seen_at now signal)) a in
    (Defines signal r.0 prefix, (r.0, r.1, refl))
hold_step t now (Equal es prefix) (inl a) =
    let r = zip_made (AbsentAt (now ∷ t) zero) (AbsentTo now) (λ e h. first_step t now e (Signal None) h) es a in
    (Equal r.0 prefix, (r.0, inl r.1, refl))
hold_step t now (Equal es prefix) (inr a) =
    let r = zip_made (PresentAt (now ∷ t) zero) (PresentTo now) (λ e h. let s = first_step t now e (Signal (Some h.0)) h.1 in (s.0, (h.0, s.1))) es a in
    (Equal r.0 prefix, (r.0, inr r.1, refl))

holds_each : (t : Trace) (now : Instant) (es rests : List FlatExpression) → AllZip (AbsentTo now) es rests ⊎ AllZip (PresentTo now) es rests
    → AllByRecursion (AbsentAt (now ∷ t) zero) es ⊎ AllByRecursion (PresentAt (now ∷ t) zero) es
holds_each t now es rests (inl h) = inl (zip_left (AbsentAt (now ∷ t) zero) (AbsentTo now) (λ e r s. step_first t now e (Signal None) r s) es rests h)
holds_each t now es rests (inr h) = inr (zip_left (PresentAt (now ∷ t) zero) (PresentTo now) (λ e r s. (s.0, step_first t now e (Signal (Some s.0)) r s.1)) es rests h)

pub step_hold : (t : Trace) (now : Instant) (q next : FlatEquation) → EquationSteps now q next → HoldsAt (now ∷ t) zero q
step_hold t now (Defines signal e prefix) next a = step_first t now e (Signal (seen_at now signal)) a.0 a.1
step_hold t now (Equal es prefix) next a = holds_each t now es a.0 a.1

-- an expression steps to another, whatever it is there
abbrev StepsTo : Instant → FlatExpression → FlatExpression → Type 0
StepsTo now e rest = (o : Operand) × Steps e now o rest

each_steps : (now : Instant) (es rests : List FlatExpression) → AllZip (AbsentTo now) es rests ⊎ AllZip (PresentTo now) es rests → AllZip (StepsTo now) es rests
each_steps now es rests (inl h) = zip_same (AbsentTo now) (StepsTo now) (λ e r s. (Signal None, s)) es rests h
each_steps now es rests (inr h) = zip_same (PresentTo now) (StepsTo now) (λ e r s. (Signal (Some s.0), s.1)) es rests h

each_after : OneValue → (t : Trace) (now : Instant) (es rests : List FlatExpression) → AllZip (StepsTo now) es rests → (i : ℕ)
    → AllByRecursion (AbsentAt (now ∷ t) (suc i)) es ⊎ AllByRecursion (PresentAt (now ∷ t) (suc i)) es
    → AllByRecursion (AbsentAt t i) rests ⊎ AllByRecursion (PresentAt t i) rests
each_after one t now es rests s i (inl h) =
    inl (zip_over (AbsentAt (now ∷ t) (suc i)) (AbsentAt t i) (StepsTo now) (λ e r u is. next_after one t now e u.0 r u.1 i (Signal None) is) es rests s h)
each_after one t now es rests s i (inr h) =
    inr (zip_over (PresentAt (now ∷ t) (suc i)) (PresentAt t i) (StepsTo now) (λ e r u is. (is.0, next_after one t now e u.0 r u.1 i (Signal (Some is.0)) is.1)) es rests s h)

each_before : OneValue → (t : Trace) (now : Instant) (es rests : List FlatExpression) → AllZip (StepsTo now) es rests → (i : ℕ)
    → AllByRecursion (AbsentAt t i) rests ⊎ AllByRecursion (PresentAt t i) rests
    → AllByRecursion (AbsentAt (now ∷ t) (suc i)) es ⊎ AllByRecursion (PresentAt (now ∷ t) (suc i)) es
each_before one t now es rests s i (inl h) =
    inl (zip_back (AbsentAt (now ∷ t) (suc i)) (AbsentAt t i) (StepsTo now) (λ e r u is. next_before one t now e u.0 r u.1 i (Signal None) is) es rests s h)
each_before one t now es rests s i (inr h) =
    inr (zip_back (PresentAt (now ∷ t) (suc i)) (PresentAt t i) (StepsTo now) (λ e r u is. (is.0, next_before one t now e u.0 r u.1 i (Signal (Some is.0)) is.1)) es rests s h)

pub hold_after : OneValue → (t : Trace) (now : Instant) (q next : FlatEquation) → EquationSteps now q next → (i : ℕ) → HoldsAt (now ∷ t) (suc i) q → HoldsAt t i next
hold_after one t now (Defines signal e prefix) next a i h =
    subst (HoldsAt t i) (sym a.2) (next_after one t now e (Signal (seen_at now signal)) a.0 a.1 i _ h)
hold_after one t now (Equal es prefix) next a i h =
    subst (HoldsAt t i) (sym a.2) (each_after one t now es a.0 (each_steps now es a.0 a.1) i h)

pub hold_before : OneValue → (t : Trace) (now : Instant) (q next : FlatEquation) → EquationSteps now q next → (i : ℕ) → HoldsAt t i next → HoldsAt (now ∷ t) (suc i) q
hold_before one t now (Defines signal e prefix) next a i h =
    next_before one t now e (Signal (seen_at now signal)) a.0 a.1 i _ (subst (HoldsAt t i) a.2 h)
hold_before one t now (Equal es prefix) next a i h =
    each_before one t now es a.0 (each_steps now es a.0 a.1) i (subst (HoldsAt t i) a.2 h)

pub through_first : (equations : List FlatEquation) (now : Instant) (t : Trace) → HoldThroughout equations (now ∷ t) → (nexts : List FlatEquation) × BodySteps now equations nexts
through_first equations now t h = zip_made (HoldsAt (now ∷ t) zero) (EquationSteps now) (hold_step t now) equations (h zero (omega arith))

pub through_rest : OneValue → (equations nexts : List FlatEquation) (now : Instant) (t : Trace) → BodySteps now equations nexts → HoldThroughout equations (now ∷ t) → HoldThroughout nexts t
through_rest one equations nexts now t s h i lt =
    zip_over (HoldsAt (now ∷ t) (suc i)) (HoldsAt t i) (EquationSteps now) (λ q n step. hold_after one t now q n step i) equations nexts s (h (suc i) (omega arith))

pub through_cons : OneValue → (equations nexts : List FlatEquation) (now : Instant) (t : Trace) → BodySteps now equations nexts → HoldThroughout nexts t → HoldThroughout equations (now ∷ t)
through_cons one equations nexts now t s h zero lt = zip_left (HoldsAt (now ∷ t) zero) (EquationSteps now) (λ q n step. step_hold t now q n step) equations nexts s
through_cons one equations nexts now t s h (suc i) lt =
    zip_back (HoldsAt (now ∷ t) (suc i)) (HoldsAt t i) (EquationSteps now) (λ q n step. hold_before one t now q n step i) equations nexts s (h i (omega arith))

pub leads_through : OneValue → (t : Trace) (equations nexts : List FlatEquation) → Leads equations t nexts → HoldThroughout equations t
leads_through one [] equations nexts h = λ i lt. absurd (omega arith)
leads_through one (now ∷ t) equations nexts h = through_cons one equations h.0 now t h.1 (leads_through one t h.0 nexts h.2)

pub through_leads : OneValue → (t : Trace) (equations : List FlatEquation) → HoldThroughout equations t → (nexts : List FlatEquation) × Leads equations t nexts
through_leads one [] equations h = (equations, refl)
through_leads one (now ∷ t) equations h =
    let first = through_first equations now t h in
    let rest = through_leads one t first.0 (through_rest one equations first.0 now t first.1 h) in
    (rest.0, (first.0, first.1, rest.1))

refl_zip : (R : FlatEquation → FlatEquation → Type 0) → ((q : FlatEquation) → R q q) → (qs : List FlatEquation) → AllZip R qs qs
refl_zip R f [] = tt
refl_zip R f (q ∷ qs) = (f q, refl_zip R f qs)

chain_zip : (R S T : FlatEquation → FlatEquation → Type 0) → ((a b c : FlatEquation) → R a b → S b c → T a c) → (xs ys zs : List FlatEquation) → AllZip R xs ys → AllZip S ys zs → AllZip T xs zs
chain_zip R S T f [] [] [] h g = tt
chain_zip R S T f [] [] (z ∷ zs) h g = absurd g
chain_zip R S T f [] (y ∷ ys) zs h g = absurd h
chain_zip R S T f (x ∷ xs) [] zs h g = absurd h
chain_zip R S T f (x ∷ xs) (y ∷ ys) [] h g = absurd g
chain_zip R S T f (x ∷ xs) (y ∷ ys) (z ∷ zs) h g = (f x y z h.0 g.0, chain_zip R S T f xs ys zs h.1 g.1)

none_before : (rest : Trace) (q : FlatEquation) → HoldsBehind [] rest q q
none_before rest q i =
    let e : 0 + i ≡ i = omega arith in
    ((λ h. subst (λ (k : ℕ). HoldsAt rest k q) e h), (λ h. subst (λ (k : ℕ). HoldsAt rest k q) (sym e) h))

one_more_before : OneValue → (now : Instant) (front rest : Trace) (q behind next : FlatEquation) → EquationSteps now q behind → HoldsBehind front rest behind next → HoldsBehind (now ∷ front) rest q next
one_more_before one now front rest q behind next step same i =
    let e : length (now ∷ front) + i ≡ suc (length front + i) = omega arith in (
      (λ h. (same i).0 (hold_after one (front ++ rest) now q behind step (length front + i) (subst (λ (k : ℕ). HoldsAt (now ∷ (front ++ rest)) k q) e h))),
      (λ h. subst (λ (k : ℕ). HoldsAt (now ∷ (front ++ rest)) k q) (sym e) (hold_before one (front ++ rest) now q behind step (length front + i) ((same i).1 h))),
    )

pub same_behind : OneValue → (front rest : Trace) (equations nexts : List FlatEquation) → Leads equations front nexts → AllZip (HoldsBehind front rest) equations nexts
same_behind one [] rest equations nexts h = subst (λ qs. AllZip (HoldsBehind [] rest) equations qs) (sym h) (refl_zip (HoldsBehind [] rest) (none_before rest) equations)
same_behind one (now ∷ front) rest equations nexts h =
    chain_zip (EquationSteps now) (HoldsBehind front rest) (HoldsBehind (now ∷ front) rest) (λ a b c. one_more_before one now front rest a b c)
    equations h.0 nexts h.1 (same_behind one front rest h.0 nexts h.2)

-- one more instant
pub leads_more : (front : Trace) (now : Instant) (equations behind nexts : List FlatEquation) → Leads equations front behind → BodySteps now behind nexts → Leads equations (front ++ now ∷ []) nexts
leads_more [] now equations behind nexts h s = (nexts, subst (λ qs. BodySteps now qs nexts) h s, refl)
leads_more (first ∷ front) now equations behind nexts h s = (h.0, h.1, leads_more front now h.0 behind nexts h.2 s)
