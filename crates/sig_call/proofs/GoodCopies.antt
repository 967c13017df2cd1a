-- What the names of a copy are bound to, by their declarations.
use Rattle.sig_call.proofs.Common.{◌≡◌, ◌++◌, ℕ, suc, ℤ, Bool, true, false, cond, List, [], ◌∷◌, map, find, length, Option, None, Some, option_map, refl, sym, ap, subst, AllByRecursion, bytes_eq, Kind, Signal, Bounded, IsValue, ProcessModel, Role, Parameter, Input, Output, Local, Declaration, declarations, declaration_of, params_of, inputs_of, outputs_of, locals_of, heading_of_model, locals_of_model, kind_of_parameter, Binding as BoundTo, BoundSignal, BoundConstant, Copy, binding_of, bound_constants, bound_from, copied_signals, signals_declared, binding_found, bindings_of, kind_numbered, all_both, all_so}
use Rattle.sig_call.proofs.ProcessRules.{roles}

-- a name is bound to a signal of its kind, or, a parameter, to a value of its kind
abbrev pub Suits : List Signal → Option Declaration → Option BoundTo → Type 0
Suits signals None bound = Unit {0}
Suits signals (Some d) None = ⊥
Suits signals (Some d) (Some (BoundSignal number)) = (kind_of_parameter d ≡ None) × (kind_numbered signals number ≡ Some d.kind)
Suits signals (Some d) (Some (BoundConstant value kind)) = (kind_of_parameter d ≡ Some d.kind) × (kind ≡ d.kind) × IsValue Bounded kind value

pub record IsGoodCopy (signals : List Signal) (copy : Copy) : Type 0 where
  pub names : (text : List ℕ) → Suits signals (declaration_of (declarations copy.process) text) (binding_of copy text)

-- whether a role is that of a parameter
abbrev kind_by : Role → Kind → Option Kind
kind_by role kind = elim role as (λ _. Option Kind) [ Parameter ↦ Some kind | Input ↦ None | Output ↦ None | Local ↦ None ]

abbrev IsOwn : Declaration → Type 0
IsOwn d = kind_of_parameter d ≡ None

parameter_kind_is : (d : Declaration) → d.role ≡ Parameter → kind_of_parameter d ≡ Some d.kind
parameter_kind_is d is = ap (λ role. kind_by role d.kind) is

signals_own : (p : ProcessModel) → AllByRecursion IsOwn (signals_declared p)
signals_own p =
    all_both IsOwn (inputs_of p) (outputs_of p ++ locals_of p)
    (all_so (λ d. d.role ≡ Input) IsOwn (λ d is. ap (λ role. kind_by role d.kind) is) (inputs_of p) (roles Input (heading_of_model p).inputs))
    (all_both IsOwn (outputs_of p) (locals_of p)
    (all_so (λ d. d.role ≡ Output) IsOwn (λ d is. ap (λ role. kind_by role d.kind) is) (outputs_of p) (roles Output (heading_of_model p).outputs))
    (all_so (λ d. d.role ≡ Local) IsOwn (λ d is. ap (λ role. kind_by role d.kind) is) (locals_of p) (roles Local (locals_of_model p))))

-- constants for parameters, each a value of its kind
abbrev pub AreValues : List Declaration → List ℤ → Type 0
AreValues [] [] = Unit {0}
AreValues (p ∷ ps) (c ∷ cs) = IsValue Bounded p.kind c × AreValues ps cs
AreValues _ _ = ⊥

-- signals of the kinds of declarations, from a number on
abbrev pub AreNumbered : List Signal → ℕ → List Declaration → Type 0
AreNumbered signals base [] = Unit {0}
AreNumbered signals base (d ∷ ds) = (kind_numbered signals base ≡ Some d.kind) × AreNumbered signals (suc base) ds

suits_step : (signals : List Signal) (b : Bool) (d : Declaration) (x : List ℕ × BoundTo) (later : Option Declaration) (found : Option (List ℕ × BoundTo))
    → Suits signals (Some d) (Some x.1) → Suits signals later (option_map (λ y. y.1) found)
    → Suits signals (cond b (Some d) later) (option_map (λ y. y.1) (cond b (Some x) found))
suits_step signals true d x later found here rest = here
suits_step signals false d x later found here rest = rest

suits_signals : (signals : List Signal) (base : ℕ) (ds : List Declaration) (t : List ℕ) → AllByRecursion IsOwn ds → AreNumbered signals base ds → Suits signals (declaration_of ds t) (binding_found (bound_from base ds) t)
suits_signals signals base [] t own numbered = tt
suits_signals signals base (d ∷ ds) t own numbered =
    suits_step signals (bytes_eq d.name.text t) d (d.name.text, BoundSignal base) (declaration_of ds t) (find (λ b. bytes_eq b.0 t) (bound_from (suc base) ds))
    (own.0, numbered.0) (suits_signals signals (suc base) ds t own.1 numbered.1)

suits_params : (signals : List Signal) (params : List Declaration) (constants : List ℤ) (ds : List Declaration) (bs : List (List ℕ × BoundTo)) (t : List ℕ)
    → AllByRecursion (λ d. d.role ≡ Parameter) params → AreValues params constants → Suits signals (declaration_of ds t) (binding_found bs t)
    → Suits signals (declaration_of (params ++ ds) t) (binding_found (bound_constants params constants ++ bs) t)
suits_params signals [] [] ds bs t role values rest = rest
suits_params signals (p ∷ ps) (c ∷ cs) ds bs t role values rest =
    suits_step signals (bytes_eq p.name.text t) p (p.name.text, BoundConstant c p.kind) (declaration_of (ps ++ ds) t) (find (λ b. bytes_eq b.0 t) (bound_constants ps cs ++ bs))
    (parameter_kind_is p role.0, refl, values.0) (suits_params signals ps cs ds bs t role.1 values.1 rest)
suits_params signals _ _ ds bs t role values rest = absurd values

-- a copy whose signals stand where they are numbered
pub good_copy : (signals : List Signal) (base : ℕ) (constants : List ℤ) (p : ProcessModel) (copy : Copy) → copy.process ≡ p → copy.bindings ≡ bindings_of base constants p
    → AreValues (params_of p) constants → AreNumbered signals base (signals_declared p) → IsGoodCopy signals copy
good_copy signals base constants p copy process bound values numbered = record {
  names = λ text.
      subst (λ q. Suits signals (declaration_of (declarations q) text) (binding_of copy text)) (sym process)
      (subst (λ bs. Suits signals (declaration_of (declarations p) text) (binding_found bs text)) (sym bound)
      (suits_params signals (params_of p) constants (signals_declared p) (bound_from base (signals_declared p)) text (roles Parameter (heading_of_model p).params) values
      (suits_signals signals base (signals_declared p) text (signals_own p) numbered)));
}

-- signals that stand behind others
numbered_behind : (s : Signal) (signals : List Signal) (base : ℕ) (ds : List Declaration) → AreNumbered signals base ds → AreNumbered (s ∷ signals) (suc base) ds
numbered_behind s signals base [] h = tt
numbered_behind s signals base (d ∷ ds) h = (h.0, numbered_behind s signals (suc base) ds h.1)

numbered_from_first : (of : Declaration → Signal) → ((d : Declaration) → (of d).kind ≡ d.kind) → (ds : List Declaration) (rest : List Signal) → AreNumbered (map of ds ++ rest) 0 ds
numbered_from_first of same [] rest = tt
numbered_from_first of same (d ∷ ds) rest = (ap Some (same d), numbered_behind (of d) (map of ds ++ rest) 0 ds (numbered_from_first of same ds rest))

numbered_past : (front : List Signal) (signals : List Signal) (ds : List Declaration) → AreNumbered signals 0 ds → AreNumbered (front ++ signals) (length front) ds
numbered_past [] signals ds h = h
numbered_past (s ∷ front) signals ds h = numbered_behind s (front ++ signals) (length front) ds (numbered_past front signals ds h)

pub copied_numbered : (front rest : List Signal) (prefix : List ℕ) (cluster : ℕ) (p : ProcessModel) → AreNumbered (front ++ (copied_signals prefix cluster p ++ rest)) (length front) (signals_declared p)
copied_numbered front rest prefix cluster p =
    numbered_past front (copied_signals prefix cluster p ++ rest) (signals_declared p) (numbered_from_first _ (λ d. refl) (signals_declared p) rest)
