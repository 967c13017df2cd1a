-- Bodies are read, or refuse a token, by how many leaves are left.
use Rattle.sig_parse.proofs.Common.{◌≡◌, ◌++◌, ◌<◌, ◌≤◌, ◌⊎◌, ℕ, zero, suc, List, [], ◌∷◌, length, map, map-id, codes, arith, inl, inr, refl, sym, subst, Span, Equations, Together, Terminal, Leaf, mark, both_limits, Separated, Listed, IsBody, BeginsName, StartsWith, StopsBefore, ContinuesNothing, ContinuesBody, Nesting, State, Reads, Covers, IsLeaf, Shorter, TooDeep, Settles, Closes, InBody, InBodies, BeginsDefinition, cases_lt, dec_either}
use Rattle.sig_parse.specs.inner.Ahead.{StartsThen}
use Rattle.sig_parse.proofs.NextLeaf.{Taken, taken, missing, take, dec_name, dec_terminal, starts_or_not}
use Rattle.sig_parse.proofs.Verdicts.{Verdict, read, refused, behind, seen}
use Rattle.sig_parse.proofs.VerdictsOfLeaves.{expected}
use Rattle.sig_parse.proofs.VerdictsOfSides.{dec_starts, dec_starts_then, definition_verdict, clock_verdict}
use Rattle.sig_parse.proofs.CoveredParts.{covered, seen_as, no_more, stays, first_item, one_item_more, between_marks}
use Rattle.sig_parse.proofs.LiftedRefusals.{leaf_split}
use Rattle.sig_parse.proofs.Lists.{listed}
use Rattle.sig_parse.proofs.ClosedRows.{closes_next}
use Rattle.sig_parse.proofs.RefusedBodies.{list_bodies, from_list, Body_of}
use Rattle.sig_parse.proofs.RefusedChoice.{body_from_definition, body_from_clock_equation}
use Rattle.sig_parse.proofs.RefusedTogether.{LeadsBodies, bodies_begun, bodies_first, bodies_next, bodies_more, bodies_over, together_inside, together_deep}
use Rattle.sig_parse.proofs.SettledBodies.{body_defined, body_equated, body_together}

-- ---- what begins a definition

dec_mark : (text : List ℕ) (t : Terminal) → Dec (t ≡ mark text)
dec_mark text t = dec_terminal t (mark text)

starts_mark : (text : List ℕ) (leaves : List Leaf) → Dec (StartsWith (λ t. t ≡ mark text) leaves)
starts_mark text leaves = dec_starts (λ t. t ≡ mark text) (dec_mark text) leaves

dec_definition : (leaves : List Leaf) → Dec (BeginsDefinition leaves)
dec_definition leaves = dec_either (dec_starts_then BeginsName (StartsWith (λ t. t ≡ mark (codes ":="))) dec_name (starts_mark (codes ":=")) leaves)
    (dec_starts_then (λ t. t ≡ mark (codes "(")) (StartsThen BeginsName (λ rest. StartsWith (λ t. t ≡ mark (codes ",")) rest ⊎ StartsThen (λ t. t ≡ mark (codes ")")) (StartsWith (λ t. t ≡ mark (codes ":="))) rest)) (dec_mark (codes "("))
    (λ behind. dec_starts_then BeginsName (λ rest. StartsWith (λ t. t ≡ mark (codes ",")) rest ⊎ StartsThen (λ t. t ≡ mark (codes ")")) (StartsWith (λ t. t ≡ mark (codes ":="))) rest) dec_name
    (λ rest. dec_either (starts_mark (codes ",") rest) (dec_starts_then (λ t. t ≡ mark (codes ")")) (StartsWith (λ t. t ≡ mark (codes ":="))) (dec_mark (codes ")")) (starts_mark (codes ":=")) rest)) behind) leaves)

-- ---- what is read

abbrev pub BodyRead : ℕ → State → Equations → State → Type 0
BodyRead depth s body t = Covers (IsBody both_limits body depth) s t × Settles (InBody depth) ContinuesBody s.leaves t.leaves

abbrev pub BodyVerdict : ℕ → State → Type 0
BodyVerdict depth s = Verdict (BodyRead depth s) (InBody depth) ContinuesBody s.leaves

abbrev AllBodies : ℕ → Type 0
AllBodies n = (depth : ℕ) (s : State) → length s.leaves < n → BodyVerdict depth s

abbrev Itself : Equations → Equations
Itself body = body

-- ---- bodies up to "|)", where shorter leaves have a verdict

module _ (n : ℕ) (rec : AllBodies n) (depth : ℕ) (s : State) (within : length s.leaves < n) where
  abbrev BodiesVerdict : Type 0
  BodiesVerdict = Verdict (λ (bodies : List Equations) (t : State). Covers (Listed (Body_of depth both_limits) (mark (codes "|")) bodies) s t × Closes (InBodies depth) (mark (codes "|)")) s.leaves t.leaves) (InBodies depth) ContinuesNothing s.leaves

  abbrev SoFar : List Equations → State → Type 0
  SoFar bodies now = Covers (Separated (Body_of depth both_limits) (mark (codes "|")) (map Itself bodies)) s now × LeadsBodies depth s.leaves now.leaves

  module _ (open_here : StopsBefore (λ t. t ≡ mark (codes "|)")) s.leaves) where
    ended : (bodies : List Equations) (now : State) → SoFar bodies now → StopsBefore (λ t. t ≡ mark (codes "|")) now.leaves → BodiesVerdict
    ended bodies now c stops = read bodies now (
      seen_as (Listed (Body_of depth both_limits) (mark (codes "|")) bodies) (λ front is. listed (Body_of depth both_limits) (mark (codes "|")) bodies front is)
          (subst (λ (bs : List Equations). Covers (Separated (Body_of depth both_limits) (mark (codes "|")) bs) s now) (map-id bodies) c.0),
      bodies_over depth open_here c.1 stops,
    )

    loop : (m : ℕ) (bodies : List Equations) (now : State) → length now.leaves < m → length now.leaves ≤ length s.leaves → SoFar bodies now → BodiesVerdict
    loop zero bodies now less most c = absurd (omega (arith, less))
    loop (suc m) bodies now less most c = at (take (mark (codes "|")) now) (λ body u shorter more. loop m (bodies ++ body ∷ []) u (omega (arith, shorter, less)) (omega (arith, shorter, most)) more) where
      at : Taken (mark (codes "|")) now → ((body : Equations) (u : State) → length u.leaves < length now.leaves → SoFar (bodies ++ body ∷ []) u → BodiesVerdict) → BodiesVerdict
      at (missing stops) next = ended bodies now c stops
      at (taken place t q short) next = behind (rec depth t (omega (arith, short, most, within))) (λ cause after r. bodies_next depth place c.1 (covered q) open_here r) (λ body u r.
          next body u (omega (arith, short, no_more r.0)) (
            one_item_more Itself (Body_of depth both_limits) (mark (codes "|")) bodies (bodies ++ body ∷ []) body place refl c.0 (covered q) r.0,
            bodies_more depth place c.1 (covered q) body r.0 r.1,
          ))

  bodies_verdict : BodiesVerdict
  bodies_verdict = at (starts_or_not (λ t. t ≡ mark (codes "|)")) (dec_mark (codes "|)")) s.leaves) where
    at : StartsWith (λ t. t ≡ mark (codes "|)")) s.leaves ⊎ StopsBefore (λ t. t ≡ mark (codes "|)")) s.leaves → BodiesVerdict
    at (inl starts) = read [] s (stays (Listed (Body_of depth both_limits) (mark (codes "|")) []) s s refl refl, closes_next (InBodies depth) (mark (codes "|)")) starts)
    at (inr open_here) = behind (rec depth s within) (λ cause after r. bodies_first depth open_here r) (λ body t r.
        loop open_here (suc (length t.leaves)) (body ∷ []) t (omega arith) (no_more r.0) (
          first_item Itself (Body_of depth both_limits) (mark (codes "|")) (body ∷ []) body refl r.0,
          bodies_begun depth body r.0 r.1,
        ))

-- ---- a body

module _ (n : ℕ) (rec : AllBodies n) (depth : ℕ) (s : State) (within : length s.leaves < suc n) where
  together : (opened : Span) (t : State) → Reads (IsLeaf (mark (codes "(|")) opened) 0 s t → Shorter s t → depth < 64 → BodyVerdict depth s
  together opened t q short shallow =
      behind (bodies_verdict n rec (suc depth) t (omega (arith, short, within))) (λ cause after r. together_inside depth (suc depth) (shallow, refl) opened (covered q) r) (λ bodies u r.
      seen (expected (mark (codes "|)")) u) (λ cause after p. together_inside depth (suc depth) (shallow, refl) opened (covered q) (r.1 cause after p)) (λ closed. Together (list_bodies bodies)) (λ closed v p.
      let c = whole bodies opened closed q r.0 p.0 in
      (c, body_together depth (Together (list_bodies bodies)) starts c)))
    where
      starts : StartsWith (λ v. v ≡ mark (codes "(|")) s.leaves
      starts = subst (λ (ls : List Leaf). StartsWith (λ v. v ≡ mark (codes "(|")) ls) (sym (leaf_split q)) refl

      whole : (bodies : List Equations) (opened closed : Span) {t u v : State} → Reads (IsLeaf (mark (codes "(|")) opened) 0 s t → Covers (Listed (Body_of (suc depth) both_limits) (mark (codes "|")) bodies) t u
          → Reads (IsLeaf (mark (codes "|)")) closed) 0 u v → Covers (IsBody both_limits (Together (list_bodies bodies)) depth) s v
      whole bodies opened closed q r p = seen_as (IsBody both_limits (Together (list_bodies bodies)) depth) (λ front h. ((λ _. shallow), (h.0, h.1, h.2, h.3, from_list both_limits (suc depth) bodies h.2 h.4)))
          (between_marks (mark (codes "(|")) (mark (codes "|)")) (Listed (Body_of (suc depth) both_limits) (mark (codes "|")) bodies) opened closed (covered q) r (covered p))

  choice : StopsBefore (λ t. t ≡ mark (codes "(|")) s.leaves → Dec (BeginsDefinition s.leaves) → BodyVerdict depth s
  choice no_opening (yes begins) = seen (definition_verdict depth s) (λ cause after r. body_from_definition depth begins r) (λ body. body) (λ body t r. (r.0, body_defined depth body begins r.0 r.1))
  choice no_opening (no none) = seen (clock_verdict depth s) (λ cause after r. body_from_clock_equation depth none no_opening r) (λ body. body) (λ body t r. (r.0, body_equated depth body none no_opening r.0 r.1))

  body_by : Taken (mark (codes "(|")) s → (depth < 64) ⊎ (64 ≤ depth) → BodyVerdict depth s
  body_by (missing no_opening) shallow = choice no_opening (dec_definition s.leaves)
  body_by (taken opened t q short) (inl shallow) = together opened t q short shallow
  body_by (taken opened t q short) (inr deep) = refused TooDeep s.leaves (together_deep depth Nesting s (refl, deep)
      (subst (λ (ls : List Leaf). StartsWith (λ v. v ≡ mark (codes "(|")) ls) (sym (leaf_split q)) refl) (λ memory. cc))

all_bodies : (n : ℕ) → AllBodies n
all_bodies zero depth s within = absurd (omega (arith, within))
all_bodies (suc n) depth s within = body_by n (all_bodies n) depth s within (take (mark (codes "(|")) s) (cases_lt depth 64)

pub body_verdict : (depth : ℕ) (s : State) → BodyVerdict depth s
body_verdict depth s = all_bodies (suc (length s.leaves)) depth s (omega arith)
