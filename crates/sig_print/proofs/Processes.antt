-- Processes of the code, as the definitions see them.
use Rattle.sig_print.proofs.Common.{◌≡◌, ◌++◌, List, [], ◌∷◌, refl, ap, sym, ◌∙◌, map, codes, length, false, ◌==◌, flat_map, Spaced, Word, Process, Process', Row_of-Process, end_of-Process, more_of-Process, items-the_row-Process, items_shown-the_row-Process-0, out-Process, Group, RunOn, declared_of, placement_of, equations_of, heading_of, model_of, models_of, ProcessModel, Modelled, heading_in, heading_words, groups_words, params_words, pragma_words, pragmas_words, body_words, local_words, where_words, process_words, processes_words, mark, reserved, on_new_line}
use denote.Hole.Carrier.{out}

pub heading_is : (p : Process) → heading_in (model_of p) ≡ heading_of (out-Process p).name (out-Process p).params.items (out-Process p).inputs.items (out-Process p).outputs.items
unfolding out-Process out
heading_is (Process' name params inputs outputs run_on body locals shape inner) = refl

row_words : (n : _) (row : Row_of-Process n) → processes_words (models_of row) ≡ flat_map process_words (map model_of (items-the_row-Process n row))
row_words n end_of-Process = refl
row_words n (more_of-Process process rest) = ap (λ ws. process_words (model_of process) ++ ws) (row_words _ rest)

pub process_is : (p : Process) → process_words (model_of p)
    ≡ heading_words (heading_in (model_of p)) ++ (pragmas_words (map placement_of (out-Process p).run_on.items) ++ (body_words (equations_of (out-Process p).body)
    ++ (where_words (map declared_of (out-Process p).locals.items) (flat_map process_words (map model_of (out-Process p).inner.items)) ++ mark (codes ";") ∷ [])))
unfolding out-Process out
process_is (Process' name params inputs outputs run_on body locals shape inner) =
    ap (λ ws. heading_words (heading_of name params.items inputs.items outputs.items) ++ (pragmas_words (map placement_of run_on.items) ++ (body_words (equations_of body)
    ++ (where_words (map declared_of locals.items) ws ++ mark (codes ";") ∷ []))))
    (row_words _ inner ∙ ap (λ ps. flat_map process_words (map model_of ps)) (sym (items_shown-the_row-Process-0 shape inner)))

pub params_is : (all : List Group) → false ≡ (length all == 0)
    → params_words (map declared_of all) ≡ mark (codes "{") ∷ (groups_words (map declared_of all) ++ mark (codes "}") ∷ [])
params_is [] some = cc
params_is (g ∷ gs) some = refl

pub pragmas_is : (all : List RunOn) → false ≡ (length all == 0)
    → pragmas_words (map placement_of all) ≡ on_new_line Word (codes "pragmas")
    ∷ (flat_map pragma_words (map placement_of all) ++ reserved (codes "end") ∷ reserved (codes "pragmas") ∷ [])
pragmas_is [] some = cc
pragmas_is (p ∷ ps) some = refl

abbrev pub shown_where : List Group → List Spaced → List Spaced
shown_where groups inner = on_new_line Word (codes "where") ∷ (local_words (map declared_of groups) ++ (inner ++ reserved (codes "end") ∷ []))

where_of_word : (groups : List Group) (s : Spaced) (words : List Spaced) → where_words (map declared_of groups) (s ∷ words) ≡ shown_where groups (s ∷ words)
where_of_word [] s words = refl
where_of_word (g ∷ gs) s words = refl

where_of_model : (groups : List Group) (m : ProcessModel) (words : List Spaced) → where_words (map declared_of groups) (process_words m ++ words) ≡ shown_where groups (process_words m ++ words)
where_of_model groups (Modelled heading pragmas body locals inner) words = where_of_word groups _ _

pub where_of_group : (groups : List Group) (words : List Spaced) → false ≡ (length groups == 0) → where_words (map declared_of groups) words ≡ shown_where groups words
where_of_group [] words some = cc
where_of_group (g ∷ gs) words some = refl

pub where_of_inner : (groups : List Group) (inner : List Process) → false ≡ (length inner == 0)
    → where_words (map declared_of groups) (flat_map process_words (map model_of inner)) ≡ shown_where groups (flat_map process_words (map model_of inner))
where_of_inner groups [] some = cc
where_of_inner groups (p ∷ ps) some = where_of_model groups (model_of p) (flat_map process_words (map model_of ps))
