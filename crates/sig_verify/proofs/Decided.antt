-- Whether an operation is sound is decided: what is asked of all proposals depends on finitely many conditions.
use Rattle.sig_verify.proofs.Common.{◌≡◌, ℕ, ℤ, zero, suc, ◌+◌, ◌<◌, ◌≤◌, Bool, true, false, not, List, [], ◌∷◌, Option, None, Some, ◌⊎◌, inl, inr, refl, sym, ap, subst, ◌∙◌, arith, cases_lt, ◌↔◌, ◌&&◌, ◌||◌, Contains, if◌then◌else◌, slice_get, eq-eqb, eqb-true, Operand, Const, Sig, Guarded, Guards, IsSoundOperation, IsWrittenBefore, Reads, Writes, ImageOpKind, all_asked, target_of, is_target, value_at, Asks, Choice, Constant, Diagram, SigId, truth_of, and_from, and_parts, or_cases, or_left, or_right}
use Rattle.sig_file.specs.declared.images.ImageOpKind.TheVariants as does
use Rattle.sig_verify.proofs.Asks.{asked_all, asked_each}
use Rattle.sig_verify.proofs.Sound.{before_cases, before_now, no_target, target_writes, target_written}

abbrev pub Decides : Type 0 → Type 0
Decides A = A ⊎ (A → ⊥)

-- ---- functions of finitely many truths

-- the truths of the variables below a bound are the same
abbrev AgreeBelow : ℕ → List Bool → List Bool → Type 0
AgreeBelow k a b = (v : ℕ) → v < k → truth_of a v ≡ truth_of b v

-- the function asks only for variables below a bound
abbrev OnlyBelow : ℕ → (List Bool → Bool) → Type 0
OnlyBelow k f = (a b : List Bool) → AgreeBelow k a b → f a ≡ f b

only_more : (k m : ℕ) → k ≤ m → (f : List Bool → Bool) → OnlyBelow k f → OnlyBelow m f
only_more k m le f only a b same = only a b (λ v lt. same v (omega (arith, le, lt)))

only_two : (op : Bool → Bool → Bool) (k : ℕ) (f g : List Bool → Bool) → OnlyBelow k f → OnlyBelow k g → OnlyBelow k (λ ts. op (f ts) (g ts))
only_two op k f g of_f of_g a b same = ap (λ x. op x (g a)) (of_f a b same) ∙ ap (op (f b)) (of_g a b same)

cons_same : (x : Bool) (a b : List Bool) (k : ℕ) → AgreeBelow k a b → AgreeBelow (suc k) (x ∷ a) (x ∷ b)
cons_same x a b k same zero lt = refl
cons_same x a b k same (suc v) lt = same v (omega arith)

none_is_false : (k : ℕ) → AgreeBelow (suc k) [] (false ∷ [])
none_is_false k zero lt = refl
none_is_false k (suc v) lt = refl

-- whether such a function is true of all truths
pub decide : (k : ℕ) (f : List Bool → Bool) → OnlyBelow k f → ((ts : List Bool) → f ts ≡ true) ⊎ ((ts : List Bool) × (f ts ≡ false))
decide zero f only = by (f []) refl
  where
    by : (b : Bool) → f [] ≡ b → ((ts : List Bool) → f ts ≡ true) ⊎ ((ts : List Bool) × (f ts ≡ false))
    by true e = inl (λ ts. only ts [] (λ v lt. absurd (omega arith)) ∙ e)
    by false e = inr ([], e)
decide (suc k) f only = elim (decide k (λ ts. f (true ∷ ts)) (λ a b same. only (true ∷ a) (true ∷ b) (cons_same true a b k same))) [
  | inr (ts, e) ↦ inr (true ∷ ts, e)
  | inl high ↦ elim (decide k (λ ts. f (false ∷ ts)) (λ a b same. only (false ∷ a) (false ∷ b) (cons_same false a b k same))) [
    | inr (ts, e) ↦ inr (false ∷ ts, e)
    | inl low ↦ inl (all high low)
  ]
]
  where
    all : ((ts : List Bool) → f (true ∷ ts) ≡ true) → ((ts : List Bool) → f (false ∷ ts) ≡ true) → (ts : List Bool) → f ts ≡ true
    all high low [] = only [] (false ∷ []) (none_is_false k) ∙ low []
    all high low (true ∷ ts) = high ts
    all high low (false ∷ ts) = low ts

-- ---- diagrams

-- what a diagram tests is below this
abbrev bound : Diagram → ℕ
bound (Constant b) = 0
bound (Choice v low high) = suc v + bound low + bound high

chosen_same : (x y : Bool) (a b c d : Bool) → x ≡ y → a ≡ c → b ≡ d → (if x then a else b) ≡ (if y then c else d)
chosen_same x y a b c d e f g = λ j. if e j then f j else g j

value_only : (d : Diagram) → OnlyBelow (bound d) (value_at d)
unfolding value_at
value_only (Constant c) a b same = refl
value_only (Choice v low high) a b same =
    chosen_same (truth_of a v) (truth_of b v) _ _ _ _ (same v (omega arith)) (value_only high a b (λ u lt. same u (omega arith))) (value_only low a b (λ u lt. same u (omega arith)))

asked_only : (w : ℕ → List Bool → Bool) (k : ℕ) → ((v : ℕ) → OnlyBelow k (w v)) → (d : Diagram) → OnlyBelow (k + bound d) (all_asked w d)
unfolding all_asked
asked_only w k each (Constant c) a b same = refl
asked_only w k each (Choice v low high) a b same =
    ap (λ x. x && (if truth_of a v then all_asked w high a else all_asked w low a)) (each v a b (λ u lt. same u (omega arith)))
    ∙ ap (λ x. w v b && x) (chosen_same (truth_of a v) (truth_of b v) _ _ _ _ (same v (omega arith))
    (asked_only w k each high a b (λ u lt. same u (omega arith))) (asked_only w k each low a b (λ u lt. same u (omega arith))))

-- ---- where signals were written

abbrev bound_at : Option Guarded → ℕ
bound_at None = 0
bound_at (Some op) = bound op.guard

abbrev bounds : List Guarded → ℕ → ℕ
bounds ops zero = 0
bounds ops (suc n) = bounds ops n + bound_at (slice_get ops n)

abbrev writes_at : Option Guarded → List Bool → SigId → Bool
writes_at None ts x = false
writes_at (Some op) ts x = value_at op.guard ts && is_target (target_of op.kind) x.0

-- one of the first operations writes the signal
abbrev written : List Guarded → ℕ → SigId → List Bool → Bool
written ops zero x ts = false
written ops (suc n) x ts = written ops n x ts || writes_at (slice_get ops n) ts x

writes_only : (o : Option Guarded) (x : SigId) → OnlyBelow (bound_at o) (λ ts. writes_at o ts x)
writes_only None x a b same = refl
writes_only (Some op) x a b same = ap (λ v. v && is_target (target_of op.kind) x.0) (value_only op.guard a b same)

written_only : (ops : List Guarded) (n : ℕ) (x : SigId) → OnlyBelow (bounds ops n) (written ops n x)
written_only ops zero x a b same = refl
written_only ops (suc n) x a b same =
    only_two (λ p q. p || q) (bounds ops n + bound_at (slice_get ops n)) (written ops n x) (λ ts. writes_at (slice_get ops n) ts x)
    (only_more (bounds ops n) (bounds ops n + bound_at (slice_get ops n)) (omega arith) (written ops n x) (written_only ops n x))
    (only_more (bound_at (slice_get ops n)) (bounds ops n + bound_at (slice_get ops n)) (omega arith) (λ ts. writes_at (slice_get ops n) ts x) (writes_only (slice_get ops n) x))
    a b same

target_is : (kind : ImageOpKind) (x : SigId) → (is_target (target_of kind) x.0 ≡ true) ↔ Writes kind x
target_is kind x = (there (target_of kind) refl, back (target_of kind) refl)
  where
    there : (o : Option SigId) → target_of kind ≡ o → is_target (target_of kind) x.0 ≡ true → Writes kind x
    there None e h = let no : false ≡ true = ap (λ t. is_target t x.0) (sym e) ∙ h in absurd cc
    there (Some y) e h =
        let same : y.0 ≡ x.0 = eqb-true y.0 x.0 (ap (λ t. is_target t x.0) (sym e) ∙ h) in
        subst (Writes kind) (λ j. record { 0 = same j }) (target_writes kind y e)

    back : (o : Option SigId) → target_of kind ≡ o → Writes kind x → is_target (target_of kind) x.0 ≡ true
    back None e writes = absurd (no_target kind e x writes)
    back (Some y) e writes = ap (λ t. is_target t x.0) e ∙ eq-eqb y.0 x.0 (sym (ap (λ (z : SigId). z.0) (target_written kind y e x writes)))

module _ (ops : List Guarded) (x : SigId) (ts : List Bool) where
  at_last : (n : ℕ) (o : Option Guarded) → slice_get ops n ≡ o → writes_at o ts x ≡ true → IsWrittenBefore ops (n + 1) ts x
  at_last n None e h = absurd cc
  at_last n (Some op) e h =
      let parts = and_parts (value_at op.guard ts) (is_target (target_of op.kind) x.0) h in
      before_now ops n op e ts x parts.0 ((target_is op.kind x).0 parts.1)

  from_last : (n : ℕ) (o : Option Guarded) → slice_get ops n ≡ o → IsWrittenBefore ops (n + 1) ts x → IsWrittenBefore ops n ts x ⊎ (writes_at o ts x ≡ true)
  from_last n None e h = elim (cases_lt h.earlier n) [
    | inl lt ↦ inl (record { earlier = h.earlier; before = lt; op = h.op; is = h.is; holds = h.holds; writes = h.writes })
    | inr le ↦
        let below = h.before in
        let same : h.earlier ≡ n = omega (arith, below, le) in
        let no : None ≡ Some h.op = sym e ∙ subst (λ m. slice_get ops m ≡ Some h.op) same h.is in
        absurd cc
  ]
  from_last n (Some op) e h = elim (before_cases ops n op e ts x h) [
    | inl before ↦ inl before
    | inr (holds, writes) ↦ inr (and_from (value_at op.guard ts) (is_target (target_of op.kind) x.0) holds ((target_is op.kind x).1 writes))
  ]

  more : (n : ℕ) → IsWrittenBefore ops n ts x → IsWrittenBefore ops (n + 1) ts x
  more n h = let lt = h.before in record { earlier = h.earlier; before = omega (arith, lt); op = h.op; is = h.is; holds = h.holds; writes = h.writes }

  -- the function tells where the signal was written
  written_is : (n : ℕ) → (written ops n x ts ≡ true) ↔ IsWrittenBefore ops n ts x
  written_is zero = (λ h. absurd cc, λ h. let lt = h.before in absurd (omega (arith, lt)))
  written_is (suc n) =
      let next : n + 1 ≡ suc n = omega arith in (
        λ h. subst (λ m. IsWrittenBefore ops m ts x) next (elim (or_cases (written ops n x ts) (writes_at (slice_get ops n) ts x) h) [
          | inl before ↦ more n ((written_is n).0 before)
          | inr last ↦ at_last n (slice_get ops n) refl last
        ]),
        λ h. elim (from_last n (slice_get ops n) refl (subst (λ m. IsWrittenBefore ops m ts x) (sym next) h)) [
          | inl before ↦ or_left (written ops n x ts) (writes_at (slice_get ops n) ts x) ((written_is n).1 before)
          | inr last ↦ or_right (written ops n x ts) (writes_at (slice_get ops n) ts x) last
        ],
      )

-- ---- one operation

abbrev unless : Bool → Bool → Bool
unless a b = not a || b

unless_is : (a b : Bool) → unless a b ≡ true → a ≡ true → b ≡ true
unless_is true b h e = h
unless_is false b h e = absurd cc

unless_not : (a b : Bool) → unless a b ≡ false → (a ≡ true) × (b ≡ false)
unless_not true b h = (refl, h)
unless_not false b h = absurd cc

never : (a : Bool) → not a ≡ true → a ≡ true → ⊥
never true h e = absurd cc
never false h e = absurd cc

not_never : (a : Bool) → not a ≡ false → a ≡ true
not_never true h = refl
not_never false h = absurd cc

module _ (guards : Guards) (n : ℕ) (op : Guarded) where
  -- what it reads was written wherever its guard is true
  abbrev WasWritten : SigId → Type 0
  WasWritten x = (ts : List Bool) → value_at op.guard ts ≡ true → IsWrittenBefore guards.ops n ts x

  abbrev room : ℕ
  room = bounds guards.ops n + bound op.guard

  guard_only : OnlyBelow room (value_at op.guard)
  guard_only = only_more (bound op.guard) room (omega arith) (value_at op.guard) (value_only op.guard)

  signal_only : (x : SigId) → OnlyBelow room (written guards.ops n x)
  signal_only x = only_more (bounds guards.ops n) room (omega arith) (written guards.ops n x) (written_only guards.ops n x)

  was_written : (x : SigId) → Decides (WasWritten x)
  was_written x = elim (decide room (λ ts. unless (value_at op.guard ts) (written guards.ops n x ts)) (only_two unless room (value_at op.guard) (written guards.ops n x) guard_only (signal_only x))) [
    | inl all ↦ inl (λ ts holds. (written_is guards.ops x ts n).0 (unless_is (value_at op.guard ts) (written guards.ops n x ts) (all ts) holds))
    | inr (ts, e) ↦ inr (λ all.
        let found = unless_not (value_at op.guard ts) (written guards.ops n x ts) e in
        let no : true ≡ false = sym ((written_is guards.ops x ts n).1 (all ts found.0)) ∙ found.1 in
        absurd cc)
  ]

  contains_first : (o : Operand) (os : List Operand) → Contains (o ∷ os) o
  contains_first o os = (0, omega arith, refl)

  contains_later : (o p : Operand) (os : List Operand) → Contains os p → Contains (o ∷ os) p
  contains_later o p os (i, lt, e) = (suc i, omega (arith, lt), e)

  contains_cases : (o p : Operand) (os : List Operand) → Contains (o ∷ os) p → (o ≡ p) ⊎ Contains os p
  contains_cases o p os (zero, lt, e) = inl e
  contains_cases o p os (suc i, lt, e) = inr (i, omega (arith, lt), e)

  const_apart : (c : ℤ) (x : SigId) → Const c ≡ Sig x → ⊥
  const_apart c x e = absurd cc

  sig_same : (x y : SigId) → Sig x ≡ Sig y → x ≡ y
  sig_same x y e = cc

  operands_written : (os : List Operand) → Decides ((x : SigId) → Contains os (Sig x) → WasWritten x)
  operands_written [] = inl (λ x (i, lt, e). absurd (omega (arith, lt)))
  operands_written (Const c ∷ os) = elim (operands_written os) [
    | inl all ↦ inl (λ x has. elim (contains_cases (Const c) (Sig x) os has) [ inl e ↦ absurd (const_apart c x e) | inr later ↦ all x later ])
    | inr none ↦ inr (λ all. none (λ x has. all x (contains_later (Const c) (Sig x) os has)))
  ]
  operands_written (Sig y ∷ os) = elim (was_written y) [
    | inr not_y ↦ inr (λ all. not_y (all y (contains_first (Sig y) os)))
    | inl is_y ↦ elim (operands_written os) [
      | inl all ↦ inl (λ x has. elim (contains_cases (Sig y) (Sig x) os has) [ inl e ↦ subst WasWritten (sig_same y x e) is_y | inr later ↦ all x later ])
      | inr none ↦ inr (λ all. none (λ x has. all x (contains_later (Sig y) (Sig x) os has)))
    ]
  ]

  source_written : (x : SigId) → Decides ((y : SigId) → y ≡ x → WasWritten y)
  source_written x = elim (was_written x) [
    | inl is ↦ inl (λ y e. subst WasWritten (sym e) is)
    | inr fails ↦ inr (λ all. fails (all x refl))
  ]

  reads_of : (kind : ImageOpKind) → Decides ((x : SigId) → Reads kind x → WasWritten x)
  reads_of (does.Read x) = inl (λ y h. absurd h)
  reads_of (does.Fun y f operands) = operands_written operands
  reads_of (does.Copy y x) = source_written x
  reads_of (does.Const y value) = inl (λ x h. absurd h)
  reads_of (does.DelayRead y memory) = inl (λ x h. absurd h)
  reads_of (does.Store memory x) = source_written x

  -- what it writes was not written where its guard is true
  abbrev IsFresh : SigId → Type 0
  IsFresh x = (ts : List Bool) → value_at op.guard ts ≡ true → IsWrittenBefore guards.ops n ts x → ⊥

  is_fresh : (x : SigId) → Decides (IsFresh x)
  is_fresh x = elim (decide room (λ ts. not (value_at op.guard ts && written guards.ops n x ts))
      (only_two (λ a b. not (a && b)) room (value_at op.guard) (written guards.ops n x) guard_only (signal_only x))) [
        | inl all ↦ inl (λ ts holds before. never (value_at op.guard ts && written guards.ops n x ts) (all ts)
            (and_from (value_at op.guard ts) (written guards.ops n x ts) holds ((written_is guards.ops x ts n).1 before)))
        | inr (ts, e) ↦ inr (λ all.
            let parts = and_parts (value_at op.guard ts) (written guards.ops n x ts) (not_never (value_at op.guard ts && written guards.ops n x ts) e) in
            all ts parts.0 ((written_is guards.ops x ts n).0 parts.1))
      ]

  writes_of : (kind : ImageOpKind) (o : Option SigId) → target_of kind ≡ o → Decides ((x : SigId) → Writes kind x → IsFresh x)
  writes_of kind None e = inl (λ x writes. absurd (no_target kind e x writes))
  writes_of kind (Some y) e = elim (is_fresh y) [
    | inl fresh ↦ inl (λ x writes. subst IsFresh (sym (target_written kind y e x writes)) fresh)
    | inr stale ↦ inr (λ all. stale (all y (target_writes kind y e)))
  ]

  -- the conditions that the walk of its guard asks were written
  abbrev condition_written : Option SigId → List Bool → Bool
  condition_written None ts = true
  condition_written (Some x) ts = written guards.ops n x ts

  abbrev asked_at : ℕ → List Bool → Bool
  asked_at v ts = condition_written (slice_get guards.conditions v) ts

  condition_only : (o : Option SigId) → OnlyBelow (bounds guards.ops n) (condition_written o)
  condition_only None a b same = refl
  condition_only (Some x) a b same = written_only guards.ops n x a b same

  abbrev AsksWritten : Type 0
  AsksWritten = (ts : List Bool) (place : ℕ) (x : SigId) → Asks op.guard ts place → slice_get guards.conditions place ≡ Some x → IsWrittenBefore guards.ops n ts x

  asks_of : Decides AsksWritten
  asks_of = elim (decide room (all_asked asked_at op.guard) (asked_only asked_at (bounds guards.ops n) (λ v. condition_only (slice_get guards.conditions v)) op.guard)) [
    | inl all ↦ inl (λ ts place x asks e.
        (written_is guards.ops x ts n).0 (ap (λ o. condition_written o ts) (sym e) ∙ asked_each asked_at op.guard ts (all ts) place asks))
    | inr (ts, e) ↦ inr (λ each.
        let no : true ≡ false = sym (asked_all asked_at op.guard ts (λ v asks. by each ts v asks (slice_get guards.conditions v) refl)) ∙ e in
        absurd cc)
  ]
    where
      by : AsksWritten → (ts : List Bool) (v : ℕ) → Asks op.guard ts v → (o : Option SigId) → slice_get guards.conditions v ≡ o → condition_written (slice_get guards.conditions v) ts ≡ true
      by each ts v asks None e = ap (λ o. condition_written o ts) e
      by each ts v asks (Some x) e = ap (λ o. condition_written o ts) e ∙ (written_is guards.ops x ts n).1 (each ts v x asks e)

  -- whether the operation is sound
  pub sound_or_not : Decides (IsSoundOperation guards n op)
  sound_or_not = elim (reads_of op.kind) [
    | inr fails ↦ inr (λ sound. fails (λ x reads ts holds. sound.reads ts x holds reads))
    | inl reads ↦ elim (writes_of op.kind (target_of op.kind) refl) [
      | inr fails ↦ inr (λ sound. fails (λ x writes ts holds. sound.writes ts x holds writes))
      | inl writes ↦ elim asks_of [
        | inr fails ↦ inr (λ sound. fails sound.asks)
        | inl asks ↦ inl (record { reads = λ ts x holds rd. reads x rd ts holds; writes = λ ts x holds wr. writes x wr ts holds; asks = asks })
      ]
    ]
  ]
