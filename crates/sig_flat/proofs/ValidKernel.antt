-- The kernel of a well-made flat body is valid.
use Rattle.sig_flat.proofs.Common.{◌≡◌, ◌^◌, ◌<◌, ◌≤◌, List, [], ◌∷◌, length, map, take, bytes_eq, refl, sym, ap, subst, arith, AllByRecursion, AllPass, IsDistinct, list_all, AllPass-from_list_all, SIGNALS, Signal, IsMadeEquation, IsWellMade, FlatEquation, Defines, Equal, FlatBody, IsValid, form_within, Equation, Made, with_flat_equations, made_of, kernel_of}
use Rattle.sig_flat.proofs.DefinedOnce.{defines_each}
use Rattle.sig_flat.proofs.KindsOfEquations.{forms_fit}
use Rattle.sig_flat.proofs.NamedSignals.{within}
use Rattle.sig_flat.proofs.Parts.{parts, same_inputs}
use Rattle.sig_flat.proofs.SignalOperands.{speak}
use Rattle.sig_flat.proofs.WellMadeNames.{equations_below, equations_speak, none_without}

-- without signals a flat body has clock equations of no operands alone, and its kernel no equations
nothing_made : (qs : List FlatEquation) (made : Made) → AllByRecursion (IsMadeEquation []) qs → with_flat_equations qs made ≡ made
nothing_made [] made are = refl
nothing_made (Defines left e prefix ∷ qs) made are = absurd (none_without e are.0.3.made are.0.3.signal)
nothing_made (Equal [] prefix ∷ qs) made are = nothing_made qs made are.1
nothing_made (Equal (e ∷ es) prefix ∷ qs) made are = absurd (none_without e are.0.0.1.made are.0.0.1.signal)

-- each equation names signals that are there
all_within : (signals : List Signal) (flat : FlatBody) → flat.signals ≡ signals → AllByRecursion (IsMadeEquation signals) flat.equations
    → AllPass (λ (q : Equation). form_within (length (kernel_of flat).signals) q.form) (kernel_of flat).equations
all_within [] flat is are =
    let start : Made = record { signals = flat.signals; equations = [] } in
    let same : (made_of flat).equations ≡ [] = ap (λ (m : Made). m.equations) (nothing_made flat.equations start are) in
    AllPass-from_list_all (λ (q : Equation). form_within (length (kernel_of flat).signals) q.form) (made_of flat).equations
    (ap (list_all (λ (q : Equation). form_within (length (kernel_of flat).signals) q.form)) same)
all_within (s ∷ signals) flat is are =
    let size : length flat.signals ≡ length (s ∷ signals) = ap length is in
    within flat (record {
      some = omega (arith, size);
      equations = equations_below flat.signals flat.equations (subst (λ those. AllByRecursion (IsMadeEquation those) flat.equations) (sym is) are);
    })

pub valid : (flat : FlatBody) → IsWellMade flat → IsDistinct bytes_eq (map (λ input. input.name) (take flat.inputs flat.signals))
    → length (kernel_of flat).signals ≤ SIGNALS → length (kernel_of flat).equations < 2 ^ 32 → IsValid (kernel_of flat)
valid flat made names few short =
    let interface = made.interface in
    record {
      parts = parts flat made.interface few short;
      names = subst (λ those. IsDistinct bytes_eq (map (λ input. input.name) those)) (sym (same_inputs flat (omega (arith, interface)))) names;
      equations = record {
        within = all_within flat.signals flat refl made.equations;
        fit = forms_fit flat made.equations;
        speak = speak flat (equations_speak flat.signals flat.equations made.equations);
      };
      defined = defines_each flat made;
    }
