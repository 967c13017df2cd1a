-- The equations of an expansion, and flat bodies.
use Rattle.sig_call.proofs.Common.{◌≡◌, ◌+◌, ◌++◌, ◌∙◌, ℕ, suc, List, [], ◌∷◌, map, length, Some, refl, sym, ap, subst, inl, inr, arith, append_assoc, append-nil, cases_eq, AllByRecursion, flat_map, Signal, Name, Constant, Expression, Called, Equations, Defines as DefinesNames, ProcessModel, FlatEquation, Declaration, declarations, params_of, inputs_of, outputs_of, locals_of, process_of, names_of_expression, names_of_constant, signals_used, uses_of_right, NoneHolds, each, DiffersFrom, bad_calls_of, clash_of_arguments, clashes_of_call, clashes_of_constants, clashes_of_expression, clashes_of_results, Copy, Progress, Expands, Ended, Defined, Equated, Expanded, inputs_defined, outputs_defined, called_copy, copied_signals, copy_prefix, cluster_of_call, signals_declared, value_of, each_append, IsReady, IsSmall, IsMadeEquation, all_both}
use Rattle.sig_call.proofs.Expandable.{none_parts, unknown_at}
use Rattle.sig_call.proofs.GoodCopies.{AreNumbered, AreValues, IsGoodCopy, copied_numbered, good_copy}
use Rattle.sig_call.proofs.GoodExpressions.{IsKnown}
use Rattle.sig_call.proofs.MadeEquations.{AskedAll, constants_fit, defined_made, equated_made, inputs_made, outputs_made}
use Rattle.sig_call.proofs.ProcessRules.{AreObeying, EquationObeys, InitObeys, all_parts, names_known}
use Rattle.sig_call.proofs.Readiness.{call_numbers}

-- signals are added behind those that are there
pub record Grown (before after : List Signal) : Type 0 where
  pub more : List Signal
  pub is : after ≡ before ++ more

pub grown : {all : List ProcessModel} {copy : Copy} {equations : List Equations} {before after : Progress} {flat : List FlatEquation} → Expands all copy equations before after flat → Grown before.signals after.signals
grown {before = before} Ended = record { more = []; is = sym (append-nil before.signals) }
grown (Defined name e rest) = grown rest
grown (Equated operands rest) = grown rest
grown {copy = copy} {before = before} (Expanded names name constants arguments called found inside behind) =
    let first = grown inside in
    let second = grown behind in
    let new : List Signal = copied_signals (copy_prefix name (suc before.calls)) (cluster_of_call copy before.signals names) called in
    record {
      more = new ++ (first.more ++ second.more);
      is = second.is ∙ ap (λ l. l ++ second.more) first.is ∙ append_assoc (before.signals ++ new) first.more second.more ∙ append_assoc before.signals new (first.more ++ second.more);
    }

-- numbers in two lists
numbered_parts : (signals : List Signal) (base : ℕ) (xs ys : List Declaration) → AreNumbered signals base (xs ++ ys) → AreNumbered signals base xs × AreNumbered signals (base + length xs) ys
numbered_parts signals base [] ys h = (tt, subst (λ n. AreNumbered signals n ys) (let same : base ≡ base + 0 = omega arith in same) h)
numbered_parts signals base (x ∷ xs) ys h =
    let rest = numbered_parts signals (suc base) xs ys h.1 in
    let same : suc base + length xs ≡ base + suc (length xs) = omega arith in
    ((h.0, rest.0), subst (λ n. AreNumbered signals n ys) same rest.1)

-- what the rules say of a call
record CallObeys (declared : List Declaration) (names : List Name) (name : Name) (constants : List Constant) (arguments : List Expression) (called : ProcessModel) : Type 0 where
  many_constants : length constants ≡ length (params_of called)
  many_arguments : length arguments ≡ length (inputs_of called)
  many_names : length names ≡ length (outputs_of called)
  known : AllByRecursion (IsKnown declared) names
  results : NoneHolds (clashes_of_results declared names (outputs_of called))
  taken : NoneHolds (clash_of_arguments declared name arguments (inputs_of called) ∷ [])
  constant_kinds : NoneHolds (clashes_of_constants declared constants (params_of called))
  asked : AskedAll declared arguments

constants_many : (all : List ProcessModel) (names : List Name) (name : Name) (constants : List Constant) (arguments : List Expression) (called : ProcessModel) → IsReady all (DefinesNames names (Called name constants arguments))
    → NoneHolds (bad_calls_of all (DefinesNames names (Called name constants arguments))) → process_of all name.text ≡ Some called → length constants ≡ length (params_of called)
constants_many all [] name constants arguments called ready calls found = absurd ready
constants_many all (n ∷ ns) name constants arguments called ready calls found =
    let same : DiffersFrom (n ∷ ns) constants arguments (Some called) → ⊥ = subst (λ o. DiffersFrom (n ∷ ns) constants arguments o → ⊥) found calls.0 in
    elim (cases_eq (length constants) (length (params_of called))) [ inl e ↦ e | inr d ↦ absurd (same (inl d)) ]

small_arguments : (all : List ProcessModel) (names : List Name) (name : Name) (constants : List Constant) (arguments : List Expression) → IsReady all (DefinesNames names (Called name constants arguments)) → AllByRecursion IsSmall arguments
small_arguments all [] name constants arguments ready = absurd ready
small_arguments all (n ∷ ns) name constants arguments ready = ready.1

call_obeys : (all : List ProcessModel) (declared : List Declaration) (names : List Name) (name : Name) (constants : List Constant) (arguments : List Expression) (called : ProcessModel)
    → EquationObeys all declared (DefinesNames names (Called name constants arguments)) → process_of all name.text ≡ Some called → CallObeys declared names name constants arguments called
call_obeys all declared names name constants arguments called obeys found =
    let of = unknown_at all declared in
    let right = uses_of_right (Called name constants arguments) in
    let used = none_parts (each of (signals_used names)) (each of right) (subst NoneHolds (each_append of (signals_used names) right) obeys.known) in
    let inside = all_parts (IsKnown declared) (flat_map names_of_constant constants) (flat_map names_of_expression arguments)
    (names_known all declared (flat_map names_of_constant constants ++ flat_map names_of_expression arguments) used.1.1) in
    let kinds : NoneHolds (clashes_of_call declared names name constants arguments (Some called)) = subst (λ o. NoneHolds (clashes_of_call declared names name constants arguments o)) found obeys.kinds in
    let first = none_parts (clashes_of_results declared names (outputs_of called)) _ kinds in
    let second = none_parts (clashes_of_constants declared constants (params_of called)) (each (clashes_of_expression declared) arguments) first.1.1 in
    let numbers = call_numbers all names name constants arguments called obeys.ready found in
    record {
      many_constants = constants_many all names name constants arguments called obeys.ready obeys.calls found;
      many_arguments = numbers.inputs;
      many_names = numbers.outputs;
      known = names_known all declared names used.0;
      results = first.0;
      taken = (first.1.0, tt);
      constant_kinds = second.0;
      asked = record { known = inside.1; kinds = second.1; bare = obeys.bare; inits = obeys.inits; small = small_arguments all names name constants arguments obeys.ready; bounded = obeys.bounded.1 };
    }

-- the equations of a copy, over signals that begin with those that there are behind them
pub made_along : {all : List ProcessModel} {copy : Copy} {equations : List Equations} {before after : Progress} {flat : List FlatEquation} → AreObeying all → (final rest : List Signal) → final ≡ after.signals ++ rest
    → IsGoodCopy final copy → AllByRecursion (InitObeys (declarations copy.process)) (outputs_of copy.process ++ locals_of copy.process) → AllByRecursion (EquationObeys all (declarations copy.process)) equations
    → Expands all copy equations before after flat → AllByRecursion (IsMadeEquation final) flat
made_along obeys final rest is good_names inits asked Ended = tt
made_along {all = all} {copy = copy} obeys final rest is good_names inits asked (Defined name e behind) =
    let here = asked.0 in
    let declared = declarations copy.process in (
      defined_made final copy good_names inits name e record {
        known = here.known.0;
        free = here.given.0;
        right = record {
          known = names_known all declared (names_of_expression e) here.known.1;
          kinds = here.kinds.1;
          bare = here.bare.1;
          inits = here.inits;
          small = here.ready.1;
          bounded = here.bounded;
          taken = here.kinds.0;
        };
        signal = here.bare.0;
      },
      made_along obeys final rest is good_names inits asked.1 behind,
    )
made_along {all = all} {copy = copy} obeys final rest is good_names inits asked (Equated operands behind) =
    let here = asked.0 in
    let declared = declarations copy.process in (
      equated_made final copy good_names operands record {
        known = names_known all declared (flat_map names_of_expression operands) here.known;
        kinds = here.kinds;
        bare = here.bare;
        inits = here.inits;
        small = here.ready;
        bounded = here.bounded;
      },
      made_along obeys final rest is good_names inits asked.1 behind,
    )
made_along {all = all} {copy = copy} {before = before} {after = after} obeys final rest is good_names inits asked (Expanded {inside = i} {body = body} {flat = later} names name constants arguments called found inside behind) =
    let declared = declarations copy.process in
    let base = length before.signals in
    let call = call_obeys all declared names name constants arguments called asked.0 found in
    let new : List Signal = copied_signals (copy_prefix name (suc before.calls)) (cluster_of_call copy before.signals names) called in
    let first = grown inside in
    let second = grown behind in
    let inside_is : final ≡ i.signals ++ (second.more ++ rest) = is ∙ ap (λ l. l ++ rest) second.is ∙ append_assoc i.signals second.more rest in
    let new_is : final ≡ before.signals ++ (new ++ (first.more ++ (second.more ++ rest))) =
    inside_is ∙ ap (λ l. l ++ (second.more ++ rest)) first.is ∙ append_assoc (before.signals ++ new) first.more (second.more ++ rest) ∙ append_assoc before.signals new (first.more ++ (second.more ++ rest)) in
    let numbered : AreNumbered final base (signals_declared called) = subst (λ l. AreNumbered l base (signals_declared called)) (sym new_is)
    (copied_numbered before.signals (first.more ++ (second.more ++ rest)) (copy_prefix name (suc before.calls)) (cluster_of_call copy before.signals names) called) in
    let inputs = numbered_parts final base (inputs_of called) (outputs_of called ++ locals_of called) numbered in
    let outputs = numbered_parts final (base + length (inputs_of called)) (outputs_of called) (locals_of called) inputs.1 in
    let values : AreValues (params_of called) (map (value_of copy) constants) = constants_fit final copy good_names constants (params_of called) call.many_constants call.constant_kinds asked.0.bounded.0 in
    let inner = obeys name.text called found in
    let inner_names : IsGoodCopy final (called_copy copy before name constants called) = good_copy final base (map (value_of copy) constants) called (called_copy copy before name constants called) refl refl values numbered in
    all_both (IsMadeEquation final) (inputs_defined copy base arguments) (body ++ (outputs_defined copy names (base + length (inputs_of called)) ++ later))
    (inputs_made final copy good_names base arguments (inputs_of called) call.many_arguments call.asked call.taken.0 inputs.0)
    (all_both (IsMadeEquation final) body (outputs_defined copy names (base + length (inputs_of called)) ++ later)
    (made_along obeys final (second.more ++ rest) inside_is inner_names inner.inits inner.equations inside)
    (all_both (IsMadeEquation final) (outputs_defined copy names (base + length (inputs_of called))) later
    (outputs_made final copy good_names names (outputs_of called) (base + length (inputs_of called)) call.many_names call.known asked.0.given call.results outputs.0)
    (made_along obeys final rest is good_names inits asked.1 behind)))
