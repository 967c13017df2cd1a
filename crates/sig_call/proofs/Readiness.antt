-- What holds of equations that can be expanded.
use Rattle.sig_call.proofs.Common.{◌≡◌, ◌++◌, ◌+◌, ◌<◌, ◌≤◌, ℕ, suc, List, [], ◌∷◌, None, Some, length, get_or, sym, ap, subst, ◌∙◌, arith, Option, Result, Err, length-append, length-map, Name, Constant, Expression, Equations, Defines, Computed, Called, ProcessModel, DefinesFlat, inputs_of, outputs_of, locals_of, process_of, Copy, Progress, signal_of, flat_right, with_copy, copied_signals, copy_prefix, cluster_of_call, signals_declared, Made, with_equations, Advances, IsRefused, IsRefusedBy, IsReady, Fits, CallAnswer, TooManySignals, OutOfMemory}
use Rattle.sig_call.proofs.ProgressSteps.{leads_defined, advances_by}

-- a definition by an expression
pub advances_defined : (all : List ProcessModel) (copy : Copy) (old new : Made) (equation : Equations) (names : List Name) (e : Expression) (name : Name)
    → equation ≡ Defines names (Computed e) → IsReady all equation → name ≡ get_or names 0 name
    → new ≡ with_equations old (DefinesFlat (signal_of copy name) (flat_right copy name e) copy.prefix ∷ []) → Advances all copy (equation ∷ []) old new
advances_defined all copy old new equation [] e name is ready first made = let no : IsReady all (Defines [] (Computed e)) = subst (IsReady all) is ready in elim no [ ]
advances_defined all copy old new equation (n ∷ names) e name is ready first made =
    let only : IsReady all (Defines (n ∷ names) (Computed e)) = subst (IsReady all) is ready in
    let same : equation ≡ Defines (name ∷ []) (Computed e) = is ∙ ap (λ (ns : List Name). Defines (n ∷ ns) (Computed e)) only.0 ∙ ap (λ (m : Name). Defines (m ∷ []) (Computed e)) (sym first) in
    subst (λ (q : Equations). Advances all copy (q ∷ []) old new) (sym same)
    (advances_by (DefinesFlat (signal_of copy name) (flat_right copy name e) copy.prefix ∷ []) (leads_defined all copy old.progress name e) made)

-- the numbers of arguments and of left sides of a call
pub record Numbers (names : List Name) (arguments : List Expression) (called : ProcessModel) : Type 0 where
  pub inputs : length arguments ≡ length (inputs_of called)
  pub outputs : length names ≡ length (outputs_of called)

fits_numbers : (names : List Name) (arguments : List Expression) (found : Option ProcessModel) (called : ProcessModel) → Fits names arguments found → found ≡ Some called → Numbers names arguments called
fits_numbers names arguments None called fits is = absurd cc
fits_numbers names arguments (Some other) called fits is =
    let same : other ≡ called = cc in
    subst (λ (p : ProcessModel). Numbers names arguments p) same (record { inputs = fits.0; outputs = fits.1 })

pub call_numbers : (all : List ProcessModel) (names : List Name) (name : Name) (constants : List Constant) (arguments : List Expression) (called : ProcessModel)
    → IsReady all (Defines names (Called name constants arguments)) → process_of all name.text ≡ Some called → Numbers names arguments called
call_numbers all [] name constants arguments called ready found = elim ready [ ]
call_numbers all (n ∷ names) name constants arguments called ready found = fits_numbers (n ∷ names) arguments (process_of all name.text) called ready.0 found

-- the signals of a copy
pub copied_length : (prefix : List ℕ) (cluster : ℕ) (p : ProcessModel) → length (copied_signals prefix cluster p) ≡ length (inputs_of p) + (length (outputs_of p) + length (locals_of p))
copied_length prefix cluster p = length-map (signals_declared p) _ ∙ length-append (inputs_of p) (outputs_of p ++ locals_of p) ∙ ap (λ n. length (inputs_of p) + n) (length-append (outputs_of p) (locals_of p))

-- what there is room for once the copy of a call was made
pub call_room : (all : List ProcessModel) (copy : Copy) (before : Progress) (names : List Name) (name : Name) (constants : List Constant) (arguments : List Expression) (called : ProcessModel)
    → IsReady all (Defines names (Called name constants arguments)) → process_of all name.text ≡ Some called → length (with_copy copy before names name called).signals ≤ 512
    → length before.signals + (length arguments + length names) ≤ 512
call_room all copy before names name constants arguments called ready found few =
    let numbers = call_numbers all names name constants arguments called ready found in
    let inputs : length arguments ≡ length (inputs_of called) = numbers.inputs in
    let outputs : length names ≡ length (outputs_of called) = numbers.outputs in
    let whole : length (with_copy copy before names name called).signals ≡ length before.signals + (length (inputs_of called) + (length (outputs_of called) + length (locals_of called))) =
    length-append before.signals _ ∙ ap (λ n. length before.signals + n) (copied_length (copy_prefix name (suc before.calls)) (cluster_of_call copy before.signals names) called) in
    omega arith

refused_as : {C D : Type 0} (e : CallAnswer) → IsRefusedBy e C → (C → D) → IsRefusedBy e D
refused_as (TooManySignals limit) h f = (h.0, f h.1)
refused_as OutOfMemory h f = tt

-- a refusal that is passed on
pub refused_by : {A C D : Type 0} (r : Result A CallAnswer) (y e : CallAnswer) → r ≡ Err y → y ≡ e → IsRefusedBy e C → (C → D) → IsRefused r D
refused_by {A} {C} {D} r y e is same h f = subst (λ (s : Result A CallAnswer). IsRefused s D) (sym (is ∙ ap (λ (z : CallAnswer). Err z) same)) (refused_as e h f)

pub some_names : (all : List ProcessModel) (names : List Name) (name : Name) (constants : List Constant) (arguments : List Expression) → IsReady all (Defines names (Called name constants arguments)) → 1 ≤ length names
some_names all [] name constants arguments ready = elim ready [ ]
some_names all (n ∷ names) name constants arguments ready = omega arith

-- the copy of a call adds a signal
pub call_adds : (all : List ProcessModel) (copy : Copy) (before : Progress) (names : List Name) (name : Name) (constants : List Constant) (arguments : List Expression) (called : ProcessModel)
    → IsReady all (Defines names (Called name constants arguments)) → process_of all name.text ≡ Some called
    → length before.signals < length (with_copy copy before names name called).signals
call_adds all copy before names name constants arguments called ready found =
    let outputs : length names ≡ length (outputs_of called) = (call_numbers all names name constants arguments called ready found).outputs in
    let some : 1 ≤ length names = some_names all names name constants arguments ready in
    let whole : length (with_copy copy before names name called).signals ≡ length before.signals + (length (inputs_of called) + (length (outputs_of called) + length (locals_of called))) =
    length-append before.signals _ ∙ ap (λ n. length before.signals + n) (copied_length (copy_prefix name (suc before.calls)) (cluster_of_call copy before.signals names) called) in
    omega arith
