-- Processes and bodies of the code, as the definitions see them.
use mathlib.Core.Former.{Count}
use denote.Hole.Carrier.{out}
use Rattle.sig_scope.proofs.Common.{◌≡◌, ◌++◌, ◌∷◌, [], List, refl, ap, sym, ◌∙◌, map, Vec, Global, append_assoc, flat_map, Process, Process', Row_of-Process, end_of-Process, more_of-Process, items-the_row-Process, items_shown-the_row-Process-0, out-Process, Body, All, All', Row_of-Body, end_of-Body, more_of-Body, items-the_row-Body, items_hidden-the_row-Body-0, declared_of, placement_of, equations_of, bodies_of, model_of, models_of, ProcessModel, Parameter, Input, Output, Local, declared_as, params_of, inputs_of, outputs_of, locals_of, name_of, pragmas_of_model, equations_of_model, with_inner, those_inner, equations_in, equations_inside}

row_models : (n : _) (row : Row_of-Process n) → those_inner (models_of row) ≡ flat_map with_inner (map model_of (items-the_row-Process n row))
row_models n end_of-Process = refl
row_models n (more_of-Process process rest) = ap (λ ps. with_inner (model_of process) ++ ps) (row_models _ rest)

pub with_inner_is : (p : Process) → with_inner (model_of p) ≡ model_of p ∷ flat_map with_inner (map model_of (out-Process p).inner.items)
unfolding out-Process out
with_inner_is (Process' name params inputs outputs run_on body locals shape inner) =
    ap (λ ps. model_of (Process' name params inputs outputs run_on body locals shape inner) ∷ ps)
    (row_models _ inner ∙ ap (λ ps. flat_map with_inner (map model_of ps)) (sym (items_shown-the_row-Process-0 shape inner)))

pub params_are : (p : Process) → params_of (model_of p) ≡ declared_as Parameter (map declared_of (out-Process p).params.items)
unfolding out-Process out
params_are (Process' name params inputs outputs run_on body locals shape inner) = refl

pub inputs_are : (p : Process) → inputs_of (model_of p) ≡ declared_as Input (map declared_of (out-Process p).inputs.items)
unfolding out-Process out
inputs_are (Process' name params inputs outputs run_on body locals shape inner) = refl

pub outputs_are : (p : Process) → outputs_of (model_of p) ≡ declared_as Output (map declared_of (out-Process p).outputs.items)
unfolding out-Process out
outputs_are (Process' name params inputs outputs run_on body locals shape inner) = refl

pub locals_are : (p : Process) → locals_of (model_of p) ≡ declared_as Local (map declared_of (out-Process p).locals.items)
unfolding out-Process out
locals_are (Process' name params inputs outputs run_on body locals shape inner) = refl

pub name_is : (p : Process) → name_of (model_of p) ≡ (out-Process p).name
unfolding out-Process out
name_is (Process' name params inputs outputs run_on body locals shape inner) = refl

pub pragmas_are : (p : Process) → pragmas_of_model (model_of p) ≡ map placement_of (out-Process p).run_on.items
unfolding out-Process out
pragmas_are (Process' name params inputs outputs run_on body locals shape inner) = refl

pub body_is : (p : Process) → equations_of_model (model_of p) ≡ equations_in (equations_of (out-Process p).body)
unfolding out-Process out
body_is (Process' name params inputs outputs run_on body locals shape inner) = refl

row_bodies : (n : _) (row : Row_of-Body n) → equations_inside (bodies_of row) ≡ flat_map equations_in (map equations_of (items-the_row-Body n row))
row_bodies n end_of-Body = refl
row_bodies n (more_of-Body body rest) = ap (λ es. equations_in (equations_of body) ++ es) (row_bodies _ rest)

abbrev row_in : Body → (n : Count) × Row_of-Body n
row_in (All' _ row) = (_, row)
row_in _ = (_, end_of-Body)

pub together_is : (bodies : Vec Body Global) → equations_in (equations_of (All bodies)) ≡ flat_map equations_in (map equations_of bodies.items)
together_is bodies = row_bodies (row_in (All bodies)).0 (row_in (All bodies)).1 ∙ ap (λ bs. flat_map equations_in (map equations_of bs)) (items_hidden-the_row-Body-0 bodies)

-- a process and those inside it, added to others
pub add_is : (p : Process) (before now pushed : List ProcessModel) (inner : List Process) → inner ≡ (out-Process p).inner.items → pushed ≡ before ++ model_of p ∷ []
    → now ≡ pushed ++ flat_map with_inner (map model_of inner) → now ≡ before ++ with_inner (model_of p)
add_is p before now pushed inner i e h =
    h ∙ ap (λ l. pushed ++ flat_map with_inner (map model_of l)) i ∙ ap (λ l. l ++ flat_map with_inner (map model_of (out-Process p).inner.items)) e
    ∙ append_assoc before (model_of p ∷ []) (flat_map with_inner (map model_of (out-Process p).inner.items)) ∙ ap (λ l. before ++ l) (sym (with_inner_is p))
