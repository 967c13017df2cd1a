-- A run, instant by instant.
use Rattle.sig_exec.proofs.Common.{◌≡◌, ◌<◌, ◌+◌, ◌-◌, ◌++◌, inl, inr, ℕ, zero, suc, ℤ, List, [], ◌∷◌, length, refl, sym, ap, subst, ◌∙◌, arith, append_assoc, append-nil, length-append, flat_map, Instant, Trace, Joins, TookPrefix, TookPrefix-longer, TookPrefix-then, Guards, IsSoundImage, guards_of, ImageView, IsImage, EndsIn, HandlesAll, Runs, State, cleared, instant_lines, opening, ImageCause, Limit, ImageEnd, HandlesEach, TookRun, TookSome}
use Rattle.sig_exec.proofs.RunOfSoundImage.{IsFitting, runs_on}
use Rattle.sig_exec.proofs.Single.{one_run}

-- the text of instants
abbrev pub text_of : ImageView → Trace → List ℕ
text_of image committed = flat_map (instant_lines image) committed

text_joins : (image : ImageView) (one two : Trace) → text_of image (one ++ two) ≡ text_of image one ++ text_of image two
text_joins image [] two = refl
text_joins image (instant ∷ one) two =
    ap (λ (l : List ℕ). instant_lines image instant ++ l) (text_joins image one two) ∙ sym (append_assoc (instant_lines image instant) (text_of image one) (text_of image two))

-- what runs from a state depends only on what is left of it where an instant begins
runs_from : (guards : Guards) (left : ℕ) (s t : State) (committed : Trace) (cause : ImageCause) → cleared guards s ≡ cleared guards t → Runs guards left s committed cause → Runs guards left t committed cause
runs_from guards zero s t committed cause same runs = runs
runs_from guards (suc left) s t committed cause same (inl (none, ends)) = inl (none, subst (λ (u : State). EndsIn guards guards.ops u cause) same ends)
runs_from guards (suc left) s t committed cause same (inr (u, more, is, handles, runs)) = inr (u, more, is, subst (λ (x : State). HandlesAll guards guards.ops x u) same handles, runs)

-- A run of so many instants: they are committed, and a sink took their text. What runs on from the state to which they led makes
-- a run with them.
pub record HasRun (image : ImageView) (flows : List (List ℤ)) {S : Type 0} (took : S → List ℕ → S → Type 0) (before after : S) (instants : ℕ) (s : State) : Type 0 where
  pub committed : Trace
  pub count : length committed ≡ instants
  pub goes : (left : ℕ) (more : Trace) (cause : ImageCause) → Runs (guards_of image) left s more cause
      → Runs (guards_of image) (instants + left) (opening (guards_of image) flows) (committed ++ more) cause
  pub text : took before (text_of image committed) after

module _ (image : ImageView) (flows : List (List ℤ)) {S : Type 0} (took : S → List ℕ → S → Type 0) where
  abbrev guards : Guards
  guards = guards_of image

  pub run_begins : (out : S) → took out [] out → (s : State) → cleared guards s ≡ cleared guards (opening guards flows) → HasRun image flows took out out 0 s
  run_begins out nothing s same = record {
    committed = [];
    count = refl;
    goes = λ left more cause runs.
        let e : 0 + left ≡ left = omega arith in
        subst (λ (k : ℕ). Runs guards k (opening guards flows) more cause) (sym e) (runs_from guards left s (opening guards flows) more cause same runs);
    text = nothing;
  }

  module _ (out before : S) (done : ℕ) (s : State) (run : HasRun image flows took out before done s) where
    -- with one more instant
    goes_more : (t : State) → HandlesEach image (cleared guards s) t → (left : ℕ) (more : Trace) (cause : ImageCause) → Runs guards left t more cause
        → Runs guards (done + suc left) (opening guards flows) (run.committed ++ t.registers ∷ more) cause
    goes_more t handles left more cause runs = run.goes (suc left) (t.registers ∷ more) cause (inr (t, more, refl, handles, runs))

    text_more : (instant : Instant) → text_of image (run.committed ++ instant ∷ []) ≡ text_of image run.committed ++ instant_lines image instant
    text_more instant = text_joins image run.committed (instant ∷ []) ∙ ap (λ (l : List ℕ). text_of image run.committed ++ l) (append-nil (instant_lines image instant))

    pub run_more : Joins took → (after : S) (t : State) → HandlesEach image (cleared guards s) t → took before (instant_lines image t.registers) after → HasRun image flows took out after (done + 1) t
    run_more joins after t handles lines = record {
      committed = run.committed ++ t.registers ∷ [];
      count = let e = length-append run.committed (t.registers ∷ []) in let c = run.count in omega (arith, e, c);
      goes = λ left more cause runs.
          let e : done + suc left ≡ done + 1 + left = omega arith in
          subst (λ (l : Trace). Runs guards (done + 1 + left) (opening guards flows) l cause) (sym (append_assoc run.committed (t.registers ∷ []) more))
          (subst (λ (k : ℕ). Runs guards k (opening guards flows) (run.committed ++ t.registers ∷ more) cause) e (goes_more t handles left more cause runs));
      text = subst (λ (l : List ℕ). took out l after) (sym (text_more t.registers))
          (joins out before after (text_of image run.committed) (instant_lines image t.registers) run.text lines);
    }

    -- a run that an operation ends
    pub run_fails : (limit : ℕ) → done < limit → (cause : ImageCause) → EndsIn guards guards.ops (cleared guards s) cause → (end : ImageEnd) → end.instants ≡ done → end.cause ≡ cause
        → TookRun image flows limit took out before end
    run_fails limit below cause ends end instants why =
        let left = limit - (done + 1) in
        let e : done + suc left ≡ limit = omega (arith, below) in
        let runs : Runs guards (suc left) s [] end.cause = inl (refl, subst (λ (x : ImageCause). EndsIn guards guards.ops (cleared guards s) x) (sym why) ends) in
        let all = run.goes (suc left) [] end.cause runs in
        let whole : Runs guards limit (opening guards flows) run.committed end.cause =
        subst (λ (k : ℕ). Runs guards k (opening guards flows) run.committed end.cause) e (subst (λ (l : Trace). Runs guards (done + suc left) (opening guards flows) l end.cause) (append-nil run.committed) all) in
        (text_of image run.committed, record { committed = run.committed; runs = whole; instants = instants ∙ sym run.count; lines = refl }, run.text)

    -- a run up to the limit
    pub run_ends : (limit : ℕ) → done ≡ limit → (end : ImageEnd) → end.instants ≡ limit → end.cause ≡ Limit → TookRun image flows limit took out before end
    run_ends limit all end instants why =
        let e : done + 0 ≡ limit = omega (arith, all) in
        let runs = run.goes 0 [] end.cause (refl, why) in
        let whole : Runs guards limit (opening guards flows) run.committed end.cause =
        subst (λ (k : ℕ). Runs guards k (opening guards flows) run.committed end.cause) e (subst (λ (l : Trace). Runs guards (done + 0) (opening guards flows) l end.cause) (append-nil run.committed) runs) in
        (text_of image run.committed, record { committed = run.committed; runs = whole; instants = instants ∙ sym all ∙ sym run.count; lines = refl }, run.text)

    -- a run whose sink fails in the text of an instant
    pub run_stops : (right : IsImage image) (sound : IsSoundImage image) → Joins took → (after : S) (t : State) → HandlesEach image (cleared guards s) t → IsFitting image right sound t → (limit : ℕ) → done < limit
        → TookPrefix took before (instant_lines image t.registers) after → TookSome image flows limit took out after
    run_stops right sound joins after t handles fits limit below part text end whole =
        let left = limit - (done + 1) in
        let e : done + suc left ≡ limit = omega (arith, below) in
        let (more, cause, runs) = runs_on image right sound left t fits in
        let all : Runs guards limit (opening guards flows) (run.committed ++ t.registers ∷ more) cause =
        subst (λ (k : ℕ). Runs guards k (opening guards flows) (run.committed ++ t.registers ∷ more) cause) e (goes_more t handles left more cause runs) in
        let committed = run.committed ++ t.registers ∷ more in
        let last : ImageEnd = record { instants = length committed; cause = cause } in
        let same = (one_run image flows limit (text_of image committed) text last end (record { committed = committed; runs = all; instants = refl; lines = refl }) whole).0 in
        let parts : text_of image committed ≡ (text_of image run.committed ++ instant_lines image t.registers) ++ text_of image more =
        text_joins image run.committed (t.registers ∷ more) ∙ sym (append_assoc (text_of image run.committed) (instant_lines image t.registers) (text_of image more)) in
        subst (λ (l : List ℕ). TookPrefix took out l after) (sym parts ∙ same)
        (TookPrefix-longer took out after (text_of image run.committed ++ instant_lines image t.registers) (text_of image more)
        (TookPrefix-then took joins out before after (text_of image run.committed) (instant_lines image t.registers) run.text part))
