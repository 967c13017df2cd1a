-- Instants that meet the equations of a flat equation's translation.
use Rattle.sig_flat.proofs.Common.{◌≡◌, ℕ, ℤ, Bool, true, false, List, [], ◌∷◌, None, Some, is_some, length, refl, sym, ap, subst, ◌∙◌, inl, inr, ◌⊎◌, AllByRecursion, AllZip, Kind, SigId, Signal as Declared, Span, Seen, Instant, seen_at, Sync, FlatExpression, Steps, IsWhole, Site, Made, with_equation, with_syncs, with_all_syncs, cluster_at, all_so}
use Rattle.sig_tree.specs.Operators.{Signal}
use Rattle.sig_flat.proofs.Agreement.{Agree}
use Rattle.sig_flat.proofs.Instants.{behind_made}
use Rattle.sig_flat.proofs.Kinded.{steps_same}
use Rattle.sig_flat.proofs.TranslationCases.{Met, equation_met, equation_meets, equation_behind}

abbrev pub site_of : ℕ → List ℕ → Made → Site
site_of left prefix made = record { cluster = cluster_at made.signals left; prefix = prefix }

abbrev pub shared : List ℕ → Site
shared prefix = record { cluster = 0; prefix = prefix }

-- clock equations: all of them are present, or none is
abbrev pub number_in : SigId × Span → ℕ
number_in p = let x : SigId = p.0 in x.0

abbrev pub ArePresent : Instant → Bool → List (SigId × Span) → Type 0
ArePresent now present signals = AllByRecursion (λ (p : SigId × Span). is_some (seen_at now (number_in p)) ≡ present) signals

syncs_met : (now : Instant) (first : SigId) (others : List (SigId × Span)) (made : Made) → Met now (with_syncs first others made) → Met now made × ArePresent now (is_some (seen_at now first.0)) others
syncs_met now first [] made h = (h, tt)
syncs_met now first (second ∷ others) made h =
    let r = syncs_met now second.0 others (with_equation made second.1 (Sync first second.0)) h in
    let q = equation_met now second.1 (Sync first second.0) made r.0 in (
      q.0,
      (
        sym q.1,
        all_so (λ (p : SigId × Span). is_some (seen_at now (number_in p)) ≡ is_some (seen_at now (number_in second)))
            (λ (p : SigId × Span). is_some (seen_at now (number_in p)) ≡ is_some (seen_at now first.0)) (λ p e. e ∙ sym q.1) others r.1,
      ),
    )

pub all_syncs_met : (now : Instant) (signals : List (SigId × Span)) (made : Made) → Met now (with_all_syncs signals made) → Met now made × (present : Bool) × ArePresent now present signals
all_syncs_met now [] made h = (h, true, tt)
all_syncs_met now (first ∷ others) made h = let r = syncs_met now first.0 others made h in (r.0, is_some (seen_at now (number_in first)), (refl, r.1))

syncs_meet : (now : Instant) (present : Bool) (first : SigId) (others : List (SigId × Span)) (made : Made) → Met now made → is_some (seen_at now first.0) ≡ present
    → ArePresent now present others → Met now (with_syncs first others made)
syncs_meet now present first [] made m e h = m
syncs_meet now present first (second ∷ others) made m e h =
    syncs_meet now present second.0 others (with_equation made second.1 (Sync first second.0)) (equation_meets now second.1 (Sync first second.0) made m (e ∙ sym h.0)) h.0 h.1

pub all_syncs_meet : (now : Instant) (present : Bool) (signals : List (SigId × Span)) (made : Made) → Met now made → ArePresent now present signals → Met now (with_all_syncs signals made)
all_syncs_meet now present [] made m h = m
all_syncs_meet now present (first ∷ others) made m h = syncs_meet now present first.0 others made m h.0 h.1

syncs_behind : (now : Instant) (first : SigId) (others : List (SigId × Span)) (made : Made) → with_syncs first others (behind_made now made) ≡ behind_made now (with_syncs first others made)
syncs_behind now first [] made = refl
syncs_behind now first (second ∷ others) made =
    ap (with_syncs second.0 others) (sym (equation_behind now second.1 (Sync first second.0) made)) ∙ syncs_behind now second.0 others (with_equation made second.1 (Sync first second.0))

pub all_syncs_behind : (now : Instant) (signals : List (SigId × Span)) (made : Made) → with_all_syncs signals (behind_made now made) ≡ behind_made now (with_all_syncs signals made)
all_syncs_behind now [] made = refl
all_syncs_behind now (first ∷ others) made = syncs_behind now first.0 others made

syncs_add_none : (first : SigId) (others : List (SigId × Span)) (made : Made) → (with_syncs first others made).signals ≡ made.signals
syncs_add_none first [] made = refl
syncs_add_none first (second ∷ others) made = syncs_add_none second.0 others (with_equation made second.1 (Sync first second.0))

pub all_syncs_add_none : (signals : List (SigId × Span)) (made : Made) → (with_all_syncs signals made).signals ≡ made.signals
all_syncs_add_none [] made = refl
all_syncs_add_none (first ∷ others) made = syncs_add_none first.0 others made

-- all expressions step where they are present, or all where they are absent
abbrev pub AreThere : Instant → Bool → List FlatExpression → List FlatExpression → Type 0
AreThere now present es rests = AllZip (λ (e rest : FlatExpression). (s : Seen) × (is_some s ≡ present) × Steps e now (Signal s) rest) es rests

none_of : (s : Seen) → is_some s ≡ false → s ≡ None
none_of None e = refl
none_of (Some v) e = absurd cc

some_of : (s : Seen) → is_some s ≡ true → (v : ℤ) × (s ≡ Some v)
some_of None e = absurd cc
some_of (Some v) e = (v, refl)

pub zip_through : (P : FlatExpression → Type 0) (R S : FlatExpression → FlatExpression → Type 0) → ((e rest : FlatExpression) → P e → R e rest → S e rest)
    → (es rests : List FlatExpression) → AllByRecursion P es → AllZip R es rests → AllZip S es rests
zip_through P R S f [] [] h a = tt
zip_through P R S f (e ∷ es) (r ∷ rests) h a = (f e r h.0 a.0, zip_through P R S f es rests h.1 a.1)
zip_through P R S f _ _ h a = absurd a

abbrev pub AreWhole : List Declared → List FlatExpression → Type 0
AreWhole signals es = AllByRecursion (λ e. (kind : Kind) × IsWhole signals e kind) es

abbrev pub Whole : List Declared → FlatExpression → Type 0
Whole signals e = (kind : Kind) × IsWhole signals e kind

pub there_from : (signals : List Declared) (now : Instant) (es rests : List FlatExpression) → AreWhole signals es
    → (AllZip (λ e rest. Steps e now (Signal None) rest) es rests ⊎ AllZip (λ e rest. (v : ℤ) × Steps e now (Signal (Some v)) rest) es rests)
    → (present : Bool) × AreThere now present es rests
there_from signals now es rests h (inl a) = (
  false,
  zip_through (Whole signals) (λ e rest. Steps e now (Signal None) rest)
      (λ e rest. (s : Seen) × (is_some s ≡ false) × Steps e now (Signal s) rest) (λ e rest w s. (None, refl, s)) es rests h a,
)
there_from signals now es rests h (inr a) = (
  true,
  zip_through (Whole signals) (λ e rest. (v : ℤ) × Steps e now (Signal (Some v)) rest)
      (λ e rest. (s : Seen) × (is_some s ≡ true) × Steps e now (Signal s) rest) (λ e rest w s. (Some s.0, refl, s.1)) es rests h a,
)

pub there_to : (signals : List Declared) (now : Instant) (present : Bool) (es rests : List FlatExpression) → AreWhole signals es → AreThere now present es rests
    → AllZip (λ e rest. Steps e now (Signal None) rest) es rests ⊎ AllZip (λ e rest. (v : ℤ) × Steps e now (Signal (Some v)) rest) es rests
there_to signals now false es rests h a = inl (zip_through (Whole signals) (λ e rest. (s : Seen) × (is_some s ≡ false) × Steps e now (Signal s) rest)
    (λ e rest. Steps e now (Signal None) rest) (λ e rest w s. subst (λ (q : Seen). Steps e now (Signal q) rest) (none_of s.0 s.1) s.2) es rests h a)
there_to signals now true es rests h a = inr (zip_through (Whole signals) (λ e rest. (s : Seen) × (is_some s ≡ true) × Steps e now (Signal s) rest)
    (λ e rest. (v : ℤ) × Steps e now (Signal (Some v)) rest)
    (λ e rest w s. let v = some_of s.0 s.1 in (v.0, subst (λ (q : Seen). Steps e now (Signal q) rest) v.1 s.2)) es rests h a)

pub there_at : (signals : List Declared) (now other : Instant) (present : Bool) (es rests : List FlatExpression) → AreWhole signals es → Agree (length signals) now other
    → AreThere now present es rests → AreThere other present es rests
there_at signals now other present es rests h agree a = zip_through (Whole signals) (λ e rest. (s : Seen) × (is_some s ≡ present) × Steps e now (Signal s) rest)
    (λ e rest. (s : Seen) × (is_some s ≡ present) × Steps e other (Signal s) rest)
    (λ e rest w s. (s.0, s.1, steps_same signals e w.1.made now other agree (Signal s.0) rest s.2)) es rests h a
