-- How equations lead from one progress to another.
use Rattle.sig_call.proofs.Common.{same_Some, ◌≡◌, ◌++◌, ◌+◌, ◌<◌, ◌≤◌, ℕ, List, [], ◌∷◌, Some, length, map, refl, sym, ap, subst, ◌∙◌, append_assoc, arith, append-nil, length-append, Name, Constant, Expression, Equations, Defines, Equal, Computed, Called, ProcessModel, FlatEquation, DefinesFlat, EqualFlat, inputs_of, process_of, equations_of_model, Copy, Progress, Expands, Ended, Defined, Equated, Expanded, called_copy, with_copy, copied_signals, copy_prefix, cluster_of_call, inputs_defined, outputs_defined, signal_of, flat_right, flat_of, Made, with_equations, with_progress, Leads, Advances, NeedsMore}

-- signals are never lost
pub grows_along : {all : List ProcessModel} {copy : Copy} {equations : List Equations} {before after : Progress} {flat : List FlatEquation}
    → Expands all copy equations before after flat → length before.signals ≤ length after.signals
grows_along {before = before} Ended = omega arith
grows_along (Defined name e rest) = grows_along rest
grows_along (Equated operands rest) = grows_along rest
grows_along {copy = copy} {before = before} {after = after} (Expanded {inside = i} names name constants arguments called is inside rest) =
    let first : length before.signals + length (copied_signals (copy_prefix name _) (cluster_of_call copy before.signals names) called) ≤ length i.signals =
    subst (λ n. n ≤ length i.signals) (length-append before.signals _) (grows_along inside) in
    let second : length i.signals ≤ length after.signals = grows_along rest in
    omega arith

-- no equation leads nowhere
ended_is : {all : List ProcessModel} {copy : Copy} {before after : Progress} {flat : List FlatEquation} → Expands all copy [] before after flat → after ≡ before
ended_is Ended = refl

-- where an equation behind others needs more, all of them do
pub needs_later : {all : List ProcessModel} {copy : Copy} {xs : List Equations} {a b : Progress} {f : List FlatEquation} (equation : Equations) (ys : List Equations)
    → Leads all copy xs a b f → NeedsMore all copy (equation ∷ []) b → NeedsMore all copy (xs ++ equation ∷ ys) a
needs_later {all} {copy} {xs} {a} {b} equation ys h needs = λ rest end whole e.
    let behind = h.back (equation ∷ (ys ++ rest)) end whole (subst (λ es. Expands all copy es a end whole) (append_assoc xs (equation ∷ ys) rest) e) in
    needs (ys ++ rest) end behind.0 behind.1

-- a definition by an expression
back_defined : {all : List ProcessModel} {copy : Copy} {name : Name} {e : Expression} {rest : List Equations} {before end : Progress} {whole : List FlatEquation}
    → Expands all copy (Defines (name ∷ []) (Computed e) ∷ rest) before end whole → (later : List FlatEquation) × Expands all copy rest before end later
back_defined (Defined {flat = flat} name e h) = (flat, h)

pub leads_defined : (all : List ProcessModel) (copy : Copy) (before : Progress) (name : Name) (e : Expression)
    → Leads all copy (Defines (name ∷ []) (Computed e) ∷ []) before before (DefinesFlat (signal_of copy name) (flat_right copy name e) copy.prefix ∷ [])
leads_defined all copy before name e = record {
  there = λ rest end later h. Defined name e h;
  back = λ rest end whole h. back_defined h;
}

-- a clock equation
back_equated : {all : List ProcessModel} {copy : Copy} {operands : List Expression} {rest : List Equations} {before end : Progress} {whole : List FlatEquation}
    → Expands all copy (Equal operands ∷ rest) before end whole → (later : List FlatEquation) × Expands all copy rest before end later
back_equated (Equated {flat = flat} operands h) = (flat, h)

pub leads_equated : (all : List ProcessModel) (copy : Copy) (before : Progress) (operands : List Expression)
    → Leads all copy (Equal operands ∷ []) before before (EqualFlat (map (flat_of copy) operands) copy.prefix ∷ [])
leads_equated all copy before operands = record {
  there = λ rest end later h. Equated operands h;
  back = λ rest end whole h. back_equated h;
}

-- equations that add no signal
pub advances_by : {all : List ProcessModel} {copy : Copy} {equations : List Equations} {old new : Made} (flat : List FlatEquation)
    → Leads all copy equations old.progress old.progress flat → new ≡ with_equations old flat → Advances all copy equations old new
advances_by {all} {copy} {equations} {old} {new} flat leads is = record {
  flat = flat;
  added = ap (λ (m : Made). m.equations) is;
  leads = subst (λ (p : Progress). Leads all copy equations old.progress p flat) (sym (ap (λ (m : Made). m.progress) is)) leads;
  grows = let same : length new.progress.signals ≡ length old.progress.signals = ap (λ (m : Made). length m.progress.signals) is in omega arith;
}

-- the two parts of an expansion that begins with a call
pub record CallParts (all : List ProcessModel) (copy : Copy) (rest : List Equations) (before end : Progress) (names : List Name) (name : Name) (constants : List Constant) (called : ProcessModel) : Type 0 where
  pub middle : Progress
  pub body : List FlatEquation
  pub later : List FlatEquation
  pub inside : Expands all (called_copy copy before name constants called) (equations_of_model called) (with_copy copy before names name called) middle body
  pub behind : Expands all copy rest middle end later

pub call_parts : {all : List ProcessModel} {copy : Copy} {rest : List Equations} {before end : Progress} {whole : List FlatEquation} {names : List Name} {name : Name} {constants : List Constant} {arguments : List Expression} (called : ProcessModel)
    → process_of all name.text ≡ Some called → Expands all copy (Defines names (Called name constants arguments) ∷ rest) before end whole
    → CallParts all copy rest before end names name constants called
call_parts {all = all} {copy = copy} {before = before} called found (Expanded {inside = i} {body = b} {flat = f} names name constants arguments other is inside rest) =
    let same : other ≡ called = same_Some _ _ (sym is ∙ found) in
    record {
      middle = i;
      body = b;
      later = f;
      inside = subst (λ q. Expands all (called_copy copy before name constants q) (equations_of_model q) (with_copy copy before names name q) i b) same inside;
      behind = rest;
    }

-- a definition by a call
pub leads_called : {all : List ProcessModel} {copy : Copy} {before middle : Progress} {names : List Name} {name : Name} {constants : List Constant} (arguments : List Expression) (called : ProcessModel) {body : List FlatEquation}
    → process_of all name.text ≡ Some called
    → Leads all (called_copy copy before name constants called) (equations_of_model called) (with_copy copy before names name called) middle body
    → Leads all copy (Defines names (Called name constants arguments) ∷ []) before middle
    (inputs_defined copy (length before.signals) arguments ++ (body ++ outputs_defined copy names (length before.signals + length (inputs_of called))))
leads_called {all} {copy} {before} {middle} {names} {name} {constants} arguments called {body} found inside =
    let inner = called_copy copy before name constants called in
    let from = with_copy copy before names name called in
    let inputs = inputs_defined copy (length before.signals) arguments in
    let outputs = outputs_defined copy names (length before.signals + length (inputs_of called)) in
    let whole : Expands all inner (equations_of_model called) from middle body =
    subst (λ es. Expands all inner es from middle body) (append-nil (equations_of_model called))
    (subst (λ fs. Expands all inner (equations_of_model called ++ []) from middle fs) (append-nil body) (inside.there [] middle [] Ended)) in
    record {
      there = λ rest end later h.
          let same : inputs ++ (body ++ (outputs ++ later)) ≡ (inputs ++ (body ++ outputs)) ++ later =
          ap (λ l. inputs ++ l) (sym (append_assoc body outputs later)) ∙ sym (append_assoc inputs (body ++ outputs) later) in
          subst (λ fs. Expands all copy (Defines names (Called name constants arguments) ∷ rest) before end fs) same
          (Expanded names name constants arguments called found whole h);
      back = λ rest end flat h.
          let parts = call_parts called found h in
          let end_is = inside.back [] parts.middle parts.body (subst (λ es. Expands all inner es from parts.middle parts.body) (sym (append-nil (equations_of_model called))) parts.inside) in
          (parts.later, subst (λ p. Expands all copy rest p end parts.later) (ended_is end_is.1) parts.behind);
    }

-- a call whose copy alone passes the limit
pub needs_entering : {all : List ProcessModel} {copy : Copy} {before : Progress} {names : List Name} {name : Name} {constants : List Constant} {arguments : List Expression} (called : ProcessModel)
    → process_of all name.text ≡ Some called → 512 < length (with_copy copy before names name called).signals
    → NeedsMore all copy (Defines names (Called name constants arguments) ∷ []) before
needs_entering {all} {copy} {before} {names} {name} called found more = λ rest end whole h.
    let parts = call_parts called found h in
    let first : length (with_copy copy before names name called).signals ≤ length parts.middle.signals = grows_along parts.inside in
    let second : length parts.middle.signals ≤ length end.signals = grows_along parts.behind in
    omega (arith, more)

-- a call of a process whose body passes it
pub needs_inside : {all : List ProcessModel} {copy inner : Copy} {before from : Progress} {names : List Name} {name : Name} {constants : List Constant} {arguments : List Expression} {body : List Equations} (called : ProcessModel)
    → process_of all name.text ≡ Some called → inner ≡ called_copy copy before name constants called → body ≡ equations_of_model called
    → from ≡ with_copy copy before names name called → NeedsMore all inner body from
    → NeedsMore all copy (Defines names (Called name constants arguments) ∷ []) before
needs_inside {all} {copy} {inner} {before} {from} {names} {name} {constants} {arguments} {body} called found inner_is body_is from_is more = λ rest end whole h.
    let parts = call_parts called found h in
    let expansion : Expands all inner (body ++ []) from parts.middle parts.body =
    subst (λ es. Expands all inner es from parts.middle parts.body) (sym (append-nil body))
    (subst (λ es. Expands all inner es from parts.middle parts.body) (sym body_is)
    (subst (λ (p : Progress). Expands all inner (equations_of_model called) p parts.middle parts.body) (sym from_is)
    (subst (λ (q : Copy). Expands all q (equations_of_model called) (with_copy copy before names name called) parts.middle parts.body) (sym inner_is) parts.inside))) in
    let first : 512 < length parts.middle.signals = more [] parts.middle parts.body expansion in
    let second : length parts.middle.signals ≤ length end.signals = grows_along parts.behind in
    omega arith

-- what a call makes, step by step
pub advances_called : {all : List ProcessModel} {copy inner : Copy} {old entered prepared behind new : Made} {names : List Name} {name : Name} {constants : List Constant} (arguments : List Expression) {body : List Equations} (called : ProcessModel) (first second : ℕ)
    → process_of all name.text ≡ Some called → inner ≡ called_copy copy old.progress name constants called → body ≡ equations_of_model called
    → first ≡ length old.progress.signals → second ≡ first + length (inputs_of called)
    → entered ≡ with_progress old (with_copy copy old.progress names name called)
    → prepared ≡ with_equations entered (inputs_defined copy first arguments)
    → Advances all inner body prepared behind
    → new ≡ with_equations behind (outputs_defined copy names second)
    → Advances all copy (Defines names (Called name constants arguments) ∷ []) old new
advances_called {all} {copy} {inner} {old} {entered} {prepared} {behind} {new} {names} {name} {constants} arguments {body} called first second found inner_is body_is first_is second_is entered_is prepared_is inside new_is =
    let from = with_copy copy old.progress names name called in
    let inputs = inputs_defined copy first arguments in
    let outputs = outputs_defined copy names second in
    let from_is : prepared.progress ≡ from = ap (λ (m : Made). m.progress) prepared_is ∙ ap (λ (m : Made). m.progress) entered_is in
    let leads : Leads all (called_copy copy old.progress name constants called) (equations_of_model called) from behind.progress inside.flat =
    subst (λ es. Leads all (called_copy copy old.progress name constants called) es from behind.progress inside.flat) body_is
    (subst (λ (p : Progress). Leads all (called_copy copy old.progress name constants called) body p behind.progress inside.flat) from_is
    (subst (λ (q : Copy). Leads all q body prepared.progress behind.progress inside.flat) inner_is inside.leads)) in
    let whole = leads_called arguments called found leads in
    let numbers : inputs_defined copy (length old.progress.signals) arguments ++ (inside.flat ++ outputs_defined copy names (length old.progress.signals + length (inputs_of called))) ≡ inputs ++ (inside.flat ++ outputs) =
    ap (λ n. inputs_defined copy n arguments ++ (inside.flat ++ outputs_defined copy names (n + length (inputs_of called)))) (sym first_is)
    ∙ ap (λ n. inputs ++ (inside.flat ++ outputs_defined copy names n)) (sym second_is) in
    let call = Defines names (Called name constants arguments) in
    let same : new.progress ≡ behind.progress = ap (λ (m : Made). m.progress) new_is in
    let before : prepared.equations ≡ old.equations ++ inputs = ap (λ (m : Made). m.equations) prepared_is ∙ ap (λ (m : Made). m.equations ++ inputs) entered_is in
    record {
      flat = inputs ++ (inside.flat ++ outputs);
      added = ap (λ (m : Made). m.equations) new_is ∙ ap (λ l. l ++ outputs) (inside.added ∙ ap (λ l. l ++ inside.flat) before)
          ∙ append_assoc (old.equations ++ inputs) inside.flat outputs ∙ append_assoc old.equations inputs (inside.flat ++ outputs);
      leads = subst (λ (p : Progress). Leads all copy (call ∷ []) old.progress p (inputs ++ (inside.flat ++ outputs))) (sym same)
          (subst (λ fs. Leads all copy (call ∷ []) old.progress behind.progress fs) numbers whole);
      grows = let copied : length from.signals ≡ length old.progress.signals + length (copied_signals (copy_prefix name _) (cluster_of_call copy old.progress.signals names) called) = length-append old.progress.signals _ in
          let later : length prepared.progress.signals ≤ length behind.progress.signals = inside.grows in
          let start : length prepared.progress.signals ≡ length from.signals = ap (λ (p : Progress). length p.signals) from_is in
          let end : length new.progress.signals ≡ length behind.progress.signals = ap (λ (p : Progress). length p.signals) same in
          omega arith;
    }
