-- The flat body of a well-formed program is well made.
use Rattle.sig_call.proofs.Common.{◌≡◌, ◌≢◌, ◌+◌, ◌++◌, ◌<◌, ◌≤◌, ◌∙◌, ℕ, List, [], ◌∷◌, length, count_by, Some, refl, sym, ap, subst, arith, append-nil, length-append, length-map, AllByRecursion, Signal, ProcessModel, Modelled, FlatEquation, FlatBody, Declaration, name_of, params_of, inputs_of, outputs_of, locals_of, process_of, all_processes, equations_of_model, IsWellFormed, rules_on, IsFlatBody, Progress, copied_signals, first_copy, first_progress, signals_declared, IsBounded, IsTree, IsMadeEquation, IsWellMade, defines}
use Rattle.sig_call.proofs.Counts.{below}
use Rattle.sig_call.proofs.DefinitionCounts.{counted, lefts_for}
use Rattle.sig_call.proofs.Expandable.{expandable, none_parts}
use Rattle.sig_call.proofs.GoodCopies.{AreNumbered, AreValues, IsGoodCopy, copied_numbered, good_copy}
use Rattle.sig_call.proofs.ProgressSteps.{grows_along}
use Rattle.sig_call.proofs.LeftSides.{left_count}
use Rattle.sig_call.proofs.MadeBodies.{grown, made_along}
use Rattle.sig_call.proofs.ProcessRules.{AreObeying, lawful, obeying}
use Rattle.sig_call.proofs.Whole.{first_found}

-- the first process has no parameter
no_params : (params : List Declaration) → ((params ≢ []) → ⊥) → params ≡ []
no_params [] h = refl
no_params (p ∷ ps) h = absurd (h (λ e. absurd cc))

first_params : (p : ProcessModel) (ps : List ProcessModel) → IsWellFormed (p ∷ ps) → params_of p ≡ []
first_params (Modelled heading pragmas body locals inner) ps well =
    let p = Modelled heading pragmas body locals inner in
    let all = all_processes (p ∷ ps) in
    let rules = lawful all [] p (none_parts (rules_on all [] p) _ well).0 in
    no_params (params_of p) (λ some. rules.calls.0 (refl, some))

-- the copy of the first process, over signals that begin with its own
first_good : (p : ProcessModel) → params_of p ≡ [] → (final rest : List Signal) → final ≡ copied_signals [] 0 p ++ rest → IsGoodCopy final (first_copy p)
first_good p none final rest is =
    good_copy final 0 [] p (first_copy p) refl refl (subst (λ ds. AreValues ds []) (sym none) tt)
    (subst (λ l. AreNumbered l 0 (signals_declared p)) (sym is) (copied_numbered [] rest [] 0 p))

-- how often each signal is defined
record Counts (p : ProcessModel) (after : Progress) (equations : List FlatEquation) : Type 0 where
  inside : length (inputs_of p) + length (outputs_of p) ≤ length after.signals
  inputs : (n : ℕ) → n < length (inputs_of p) → count_by (defines n) equations ≡ 0
  others : (n : ℕ) → length (inputs_of p) ≤ n → n < length after.signals → count_by (defines n) equations ≡ 1

counts : (p : ProcessModel) (after : Progress) (equations : List FlatEquation) → length (first_progress p).signals ≤ length after.signals
    → ((n : ℕ) → count_by (defines n) equations + below (length (first_progress p).signals) n ≡ lefts_for (first_copy p) n (equations_of_model p) + below (length after.signals) n)
    → ((n : ℕ) → lefts_for (first_copy p) n (equations_of_model p) + below (0 + length (inputs_of p)) n ≡ below (0 + length (signals_declared p)) n) → Counts p after equations
counts p after equations grows whole own =
    let inputs = length (inputs_of p) in
    let long : length (first_progress p).signals ≡ length (signals_declared p) = length-map (signals_declared p) _ in
    let split : length (signals_declared p) ≡ inputs + (length (outputs_of p) + length (locals_of p)) =
    length-append (inputs_of p) (outputs_of p ++ locals_of p) ∙ ap (λ n. inputs + n) (length-append (outputs_of p) (locals_of p)) in
    record {
      inside = omega arith;
      inputs = λ n within. (let w = whole n in let o = own n in omega (arith, w, o));
      others = λ n past within. (let w = whole n in let o = own n in omega (arith, w, o));
    }

-- the parts of a flat body
made_of_parts : (p : ProcessModel) (after : Progress) (equations : List FlatEquation) (flat : FlatBody) → Counts p after equations → AllByRecursion (IsMadeEquation after.signals) equations
    → flat ≡ record { signals = after.signals; inputs = length (inputs_of p); outputs = length (outputs_of p); equations = equations } → IsWellMade flat
made_of_parts p after equations flat counted_all made is = subst IsWellMade (sym is) record {
  interface = counted_all.inside;
  equations = made;
  inputs = counted_all.inputs;
  others = counted_all.others;
}

pub well_made : (program : List ProcessModel) (flat : FlatBody) → IsTree program → IsBounded program → IsWellFormed program → IsFlatBody program flat → IsWellMade flat
well_made [] flat tree bounded well is = elim is [ ]
well_made (p ∷ ps) flat tree bounded well is =
    let all = all_processes (p ∷ ps) in
    let text = (name_of p).text in
    let found : process_of all text ≡ Some p = first_found p ps in
    let obeys : AreObeying all = obeying (p ∷ ps) tree bounded well in
    let own = obeys text p found in
    let sound = expandable (p ∷ ps) tree well in
    let after : Progress = is.0 in
    let more = grown is.2 in
    let names = first_good p (first_params p ps well) after.signals more.more more.is in
    made_of_parts p after is.1 flat
    (counts p after is.1 (grows_along is.2) (counted sound (λ t q here. (obeys t q here).once) (sound text p found).equations is.2) (left_count p (first_copy p) 0 [] own.once refl))
    (made_along obeys after.signals [] (sym (append-nil after.signals)) names own.inits own.equations is.2)
    is.3
