-- The flat body of a whole program, from its first process.
use Rattle.sig_call.proofs.Common.{◌≡◌, ◌≢◌, ◌++◌, ◌<◌, ◌≤◌, ℕ, List, [], ◌∷◌, Some, cond, true, length, get_or, refl, sym, ap, subst, ◌∙◌, arith, append-nil, bytes_eq-Decides, flat_map, bytes_eq, Equations, ProcessModel, Modelled, model_of, FlatBody, FlatEquation, name_of, inputs_of, outputs_of, all_processes, with_inner, those_inner, process_of, equations_of_model, Copy, Progress, Expands, Ended, IsFlatBody, first_copy, first_progress, copied_signals, Interface, interface_models, Made, Advances, NeedsMore, NeedsTooMany}
use Rattle.sig_call.proofs.ProgressSteps.{grows_along}

-- a process stands before those inside it
itself_first : (p : ProcessModel) (rest : List ProcessModel) → (later : List ProcessModel) × (with_inner p ++ rest ≡ p ∷ later)
itself_first (Modelled heading pragmas body locals inner) rest = (those_inner inner ++ rest, refl)

-- the first of all processes is the first of the program
first_is : (program : List ProcessModel) (i : Interface) (items : List Interface) → interface_models (i ∷ items) ≡ all_processes program
    → (ps : List ProcessModel) × (program ≡ model_of i.process.now ∷ ps)
first_is [] i items is = absurd cc
first_is (p ∷ ps) i items is =
    let here = itself_first p (flat_map with_inner ps) in
    let same : interface_models (i ∷ items) ≡ p ∷ here.0 = is ∙ here.1 in
    let head : model_of i.process.now ≡ p = cc in
    (ps, ap (λ q. q ∷ ps) (sym head))

pub head_is : (program : List ProcessModel) (items : List Interface) (first : Interface) → interface_models items ≡ all_processes program → 0 < length items → first ≡ get_or items 0 first
    → (ps : List ProcessModel) × (program ≡ model_of first.process.now ∷ ps)
head_is program [] first is some here = let no : 0 < 0 = some in absurd (omega arith)
head_is program (i ∷ items) first is some here =
    let found = first_is program i items is in
    (found.0, found.1 ∙ ap (λ (j : Interface). model_of j.process.now ∷ found.0) (sym here))

pub some_interface : (program : List ProcessModel) (items : List Interface) → interface_models items ≡ all_processes program → program ≢ [] → length items ≤ 0 → ⊥
some_interface [] items is some none = some refl
some_interface (p ∷ ps) [] is some none =
    let here = itself_first p (flat_map with_inner ps) in
    let same : [] ≡ p ∷ here.0 = is ∙ here.1 in
    absurd cc
some_interface (p ∷ ps) (i ∷ items) is some none = let no : length (i ∷ items) ≤ 0 = none in absurd (omega arith)

-- the first process is found by its name
pub first_found : (p : ProcessModel) (ps : List ProcessModel) → process_of (all_processes (p ∷ ps)) (name_of p).text ≡ Some p
first_found p ps =
    let here = itself_first p (flat_map with_inner ps) in
    let same : bytes_eq (name_of p).text (name_of p).text ≡ true = (bytes_eq-Decides (name_of p).text (name_of p).text).1 refl in
    ap (λ qs. process_of qs (name_of p).text) here.1 ∙ ap (λ b. cond b (Some p) (process_of here.0 (name_of p).text)) same

-- a first process that has too many signals
too_many : (p : ProcessModel) (ps : List ProcessModel) → (flat : FlatBody) × IsFlatBody (p ∷ ps) flat
    → ((after : Progress) (equations : List FlatEquation) → Expands (all_processes (p ∷ ps)) (first_copy p) (equations_of_model p) (first_progress p) after equations → 512 < length after.signals)
    → NeedsTooMany (p ∷ ps)
too_many p ps some more = record {
  some = some;
  each = λ flat is.
      let many : 512 < length is.0.signals = more is.0 is.1 is.2 in
      let same : length flat.signals ≡ length is.0.signals = ap (λ (f : FlatBody). length f.signals) is.3 in
      omega arith;
}

pub too_many_declared : (program : List ProcessModel) (p : ProcessModel) (ps : List ProcessModel) → (flat : FlatBody) × IsFlatBody program flat → program ≡ p ∷ ps → 512 < length (copied_signals [] 0 p) → NeedsTooMany program
too_many_declared program p ps some is more = subst (λ (qs : List ProcessModel). NeedsTooMany qs) (sym is) (too_many p ps (subst (λ (qs : List ProcessModel). (flat : FlatBody) × IsFlatBody qs flat) is some) (λ after equations e.
    let grows : length (copied_signals [] 0 p) ≤ length after.signals = grows_along e in
    omega (arith, more)))

pub too_many_inside : (program all : List ProcessModel) (p : ProcessModel) (ps : List ProcessModel) (copy : Copy) (equations : List Equations) (from : Progress) → (flat : FlatBody) × IsFlatBody program flat → program ≡ p ∷ ps → all ≡ all_processes program
    → copy ≡ first_copy p → equations ≡ equations_of_model p → from ≡ first_progress p → NeedsMore all copy equations from → NeedsTooMany program
too_many_inside program all p ps copy equations from some is all_is copy_is equations_is from_is more =
    subst (λ (qs : List ProcessModel). NeedsTooMany qs) (sym is) (too_many p ps (subst (λ (qs : List ProcessModel). (flat : FlatBody) × IsFlatBody qs flat) is some) (λ after flat e.
    more [] after flat
    (subst (λ es. Expands all copy es from after flat) (sym (append-nil equations))
    (subst (λ qs. Expands qs copy equations from after flat) (sym (all_is ∙ ap all_processes is))
    (subst (λ (c : Copy). Expands (all_processes (p ∷ ps)) c equations from after flat) (sym copy_is)
    (subst (λ es. Expands (all_processes (p ∷ ps)) (first_copy p) es from after flat) (sym equations_is)
    (subst (λ (q : Progress). Expands (all_processes (p ∷ ps)) (first_copy p) (equations_of_model p) q after flat) (sym from_is) e)))))))

-- what was made from the first process is the flat body
pub whole_body : (program all : List ProcessModel) (p : ProcessModel) (ps : List ProcessModel) (copy : Copy) (equations : List Equations) (old new : Made) (flat : FlatBody) (inputs outputs : ℕ) → program ≡ p ∷ ps → all ≡ all_processes program
    → copy ≡ first_copy p → equations ≡ equations_of_model p → old ≡ record { progress = first_progress p; equations = [] } → inputs ≡ length (inputs_of p) → outputs ≡ length (outputs_of p)
    → Advances all copy equations old new
    → flat ≡ record { signals = new.progress.signals; inputs = inputs; outputs = outputs; equations = new.equations } → IsFlatBody program flat
whole_body program all p ps copy equations old new flat inputs outputs is all_is copy_is equations_is old_is inputs_is outputs_is advances flat_is =
    let expansion : Expands all copy equations old.progress new.progress advances.flat =
    subst (λ es. Expands all copy es old.progress new.progress advances.flat) (append-nil equations)
    (subst (λ fs. Expands all copy (equations ++ []) old.progress new.progress fs) (append-nil advances.flat) (advances.leads.there [] new.progress [] Ended)) in
    let whole : Expands (all_processes (p ∷ ps)) (first_copy p) (equations_of_model p) (first_progress p) new.progress advances.flat =
    subst (λ (q : Progress). Expands (all_processes (p ∷ ps)) (first_copy p) (equations_of_model p) q new.progress advances.flat) (ap (λ (m : Made). m.progress) old_is)
    (subst (λ es. Expands (all_processes (p ∷ ps)) (first_copy p) es old.progress new.progress advances.flat) equations_is
    (subst (λ (c : Copy). Expands (all_processes (p ∷ ps)) c equations old.progress new.progress advances.flat) copy_is
    (subst (λ qs. Expands qs copy equations old.progress new.progress advances.flat) (all_is ∙ ap all_processes is) expansion))) in
    let made : new.equations ≡ advances.flat = advances.added ∙ ap (λ (m : Made). m.equations ++ advances.flat) old_is in
    let body : ℕ → ℕ → List FlatEquation → FlatBody = λ m n es. record { signals = new.progress.signals; inputs = m; outputs = n; equations = es } in
    subst (λ (qs : List ProcessModel). IsFlatBody qs flat) (sym is)
    (new.progress, advances.flat, whole, flat_is ∙ ap (λ m. body m outputs new.equations) inputs_is ∙ ap (λ n. body (length (inputs_of p)) n new.equations) outputs_is ∙ ap (λ es. body (length (inputs_of p)) (length (outputs_of p)) es) made)
