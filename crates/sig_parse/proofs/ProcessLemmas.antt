-- Processes from their parts.
use mathlib.Core.Former.{Count}
use denote.Hole.Carrier.{roll}
use Rattle.sig_parse.proofs.Common.{◌≡◌, ◌++◌, ℕ, List, [], ◌∷◌, codes, map, refl, sym, ap, ◌∙◌, subst, inl, inr, append_assoc, Vec, Global, append-nil, map-append, Span, Name, Group, RunOn, Body, Process', Row_of-Process, end_of-Process, more_of-Process, items-the_row-Process, items_hidden-the_row-Process-0, roll-Process, Declared, Placement, Equations, Heading, ProcessModel, declared_of, placement_of, equations_of, heading_of, model_of, models_of, no_model, Leaf, leaf, name_leaf, word, mark, both_limits, IsBody, IsLocalGroup, IsWhere, IsProcess, IsModel, AreLocals, AreParams, IsInterface, ArePragmas, IsTitle, IsInnerProcess, AreDeclared, AreBehindWhere, State, Covers, IsLeaf}
use Rattle.sig_tree.specs.declared.process.Process.{Process}
use Rattle.sig_parse.proofs.CoveredParts.{Both, and_then, seen_as}

-- declarations, whose first is a group or a process
pub group_first : (depth : ℕ) (models : List ProcessModel) (g : Declared) (groups : List Declared) (front back : List Leaf)
    → IsLocalGroup g front → AreDeclared depth models groups back → AreDeclared depth models (g ∷ groups) (front ++ back)
group_first depth [] g groups front back is h = (front, back, refl, is, h)
group_first depth (m ∷ ms) g groups front back is (before, after, first, middle, last, eg, el, each, inner, rest) = (
  g ∷ before,
  after,
  front ++ first,
  middle,
  last,
  ap (λ gs. g ∷ gs) eg,
  ap (λ ls. front ++ ls) el ∙ sym (append_assoc front first (middle ++ last)),
  (front, first, refl, is, each),
  inner,
  rest,
)

pub process_first : (depth : ℕ) (m : ProcessModel) (models : List ProcessModel) (groups : List Declared) (front back : List Leaf)
    → IsInnerProcess depth m front → AreDeclared depth models groups back → AreDeclared depth (m ∷ models) groups (front ++ back)
process_first depth m models groups front back is h = ([], groups, [], front, back, refl, refl, refl, is, h)

-- What was read are the first declarations, whatever comes behind.
pub record Begun (depth : ℕ) (models : List ProcessModel) (groups : List Declared) (before after : State) : Type 0 where
  pub front : List Leaf
  pub split : before.leaves ≡ front ++ after.leaves
  pub begin : (ms : List ProcessModel) (gs : List Declared) (back : List Leaf) → AreDeclared depth ms gs back → AreDeclared depth (models ++ ms) (groups ++ gs) (front ++ back)

pub nothing_declared : (depth : ℕ) (s : State) → Begun depth [] [] s s
nothing_declared depth s = record { front = []; split = refl; begin = λ ms gs back h. h }

pub ended : (depth : ℕ) (models : List ProcessModel) (groups : List Declared) {s t : State} → Begun depth models groups s t → Covers (AreDeclared depth models groups) s t
ended depth models groups b = record {
  front = b.front;
  split = b.split;
  is = subst (λ (ms : List ProcessModel). AreDeclared depth ms groups b.front) (append-nil models)
      (subst (λ (gs : List Declared). AreDeclared depth (models ++ []) gs b.front) (append-nil groups)
      (subst (λ (ls : List Leaf). AreDeclared depth (models ++ []) (groups ++ []) ls) (append-nil b.front) (b.begin [] [] [] refl)));
}

pub group_more : (depth : ℕ) (models : List ProcessModel) (groups : List Declared) (g : Declared) {s t u : State}
    → Begun depth models groups s t → Covers (IsLocalGroup g) t u → Begun depth models (groups ++ g ∷ []) s u
group_more depth models groups g {s} {t} {u} b r = record {
  front = b.front ++ r.front;
  split = b.split ∙ ap (λ ls. b.front ++ ls) r.split ∙ sym (append_assoc b.front r.front u.leaves);
  begin = λ ms gs back h.
      subst (λ (all : List Declared). AreDeclared depth (models ++ ms) all ((b.front ++ r.front) ++ back)) (sym (append_assoc groups (g ∷ []) gs))
      (subst (λ (ls : List Leaf). AreDeclared depth (models ++ ms) (groups ++ g ∷ gs) ls) (sym (append_assoc b.front r.front back))
      (b.begin ms (g ∷ gs) (r.front ++ back) (group_first depth ms g gs r.front back r.is h)));
}

pub process_more : (depth : ℕ) (models : List ProcessModel) (groups : List Declared) (m : ProcessModel) {s t u : State}
    → Begun depth models groups s t → Covers (IsInnerProcess depth m) t u → Begun depth (models ++ m ∷ []) groups s u
process_more depth models groups m {s} {t} {u} b r = record {
  front = b.front ++ r.front;
  split = b.split ∙ ap (λ ls. b.front ++ ls) r.split ∙ sym (append_assoc b.front r.front u.leaves);
  begin = λ ms gs back h.
      subst (λ (all : List ProcessModel). AreDeclared depth all (groups ++ gs) ((b.front ++ r.front) ++ back)) (sym (append_assoc models (m ∷ []) ms))
      (subst (λ (ls : List Leaf). AreDeclared depth (models ++ m ∷ ms) (groups ++ gs) ls) (sym (append_assoc b.front r.front back))
      (b.begin (m ∷ ms) gs (r.front ++ back) (process_first depth m ms gs r.front back r.is h)));
}

pub one_group_more : (depth : ℕ) (models : List ProcessModel) (old new : List Group) (g : Group) {s t u : State} → new ≡ old ++ g ∷ []
    → Begun depth models (map declared_of old) s t → Covers (IsLocalGroup (declared_of g)) t u → Begun depth models (map declared_of new) s u
one_group_more depth models old new g {s} {t} {u} e b r =
    subst (λ (gs : List Declared). Begun depth models gs s u) (sym (ap (map declared_of) e ∙ map-append declared_of old (g ∷ [])))
    (group_more depth models (map declared_of old) (declared_of g) b r)

pub one_process_more : (depth : ℕ) (groups : List Declared) (old new : List Process) (p : Process) {s t u : State} → new ≡ old ++ p ∷ []
    → Begun depth (map model_of old) groups s t → Covers (IsInnerProcess depth (model_of p)) t u → Begun depth (map model_of new) groups s u
one_process_more depth groups old new p {s} {t} {u} e b r =
    subst (λ (ms : List ProcessModel). Begun depth ms groups s u) (sym (ap (map model_of) e ∙ map-append model_of old (p ∷ [])))
    (process_more depth (map model_of old) groups (model_of p) b r)

-- the processes of a vector as those of a tree
locals_row : (n : _) (row : Row_of-Process n) (depth : ℕ) (groups : List Declared) (leaves : List Leaf)
    → AreDeclared depth (map model_of (items-the_row-Process n row)) groups leaves → AreLocals both_limits (models_of row) depth groups leaves
locals_row n end_of-Process depth groups leaves h = h
locals_row n (more_of-Process process rest) depth groups leaves (before, after, first, middle, last, eg, el, each, inner, more) =
    (before, after, first, middle, last, eg, el, each, inner, locals_row _ rest depth after last more)

no_models : (n : _) (row : Row_of-Process n) → map model_of (items-the_row-Process n row) ≡ [] → models_of row ≡ no_model
no_models n end_of-Process e = refl
no_models n (more_of-Process process rest) e = cc

pub where_row : (n : _) (row : Row_of-Process n) (depth : ℕ) (groups : List Declared) (leaves : List Leaf)
    → AreBehindWhere depth (map model_of (items-the_row-Process n row)) groups leaves
    → IsWhere groups (models_of row) (AreLocals both_limits (models_of row) depth groups) leaves
where_row n row depth groups leaves h =
    elim h [
      | inl none ↦ inl (none.0, no_models n row none.1, none.2)
      | inr b ↦ inr (b.0, b.1, b.2, b.3, locals_row n row depth groups b.2 b.4)
    ]

-- a process from its parts
abbrev pub Parts : ℕ → Name → (params inputs outputs : List Declared) → List Placement → Equations → List Declared → List ProcessModel → Span → List Leaf → Type 0
Parts depth name params inputs outputs pragmas body locals inner closed leaves =
    Both (IsTitle name) (Both (AreParams params) (Both (IsInterface inputs outputs) (Both (ArePragmas pragmas)
    (Both (IsBody both_limits body depth) (Both (AreBehindWhere depth inner locals) (IsLeaf (mark (codes ";")) closed)))))) leaves

pub in_parts : (depth : ℕ) (name : Name) (params inputs outputs : List Declared) (pragmas : List Placement) (body : Equations) (locals : List Declared) (inner : List ProcessModel) (closed : Span)
    {a b c d e f g h : State}
    → Covers (IsTitle name) a b → Covers (AreParams params) b c → Covers (IsInterface inputs outputs) c d → Covers (ArePragmas pragmas) d e
    → Covers (IsBody both_limits body depth) e f → Covers (AreBehindWhere depth inner locals) f g → Covers (IsLeaf (mark (codes ";")) closed) g h
    → Covers (Parts depth name params inputs outputs pragmas body locals inner closed) a h
in_parts depth name params inputs outputs pragmas body locals inner closed t p i r b w e =
    and_then t (and_then p (and_then i (and_then r (and_then b (and_then w e)))))

pub from_parts : (depth : ℕ) (heading : Heading) (pragmas : List Placement) (body : Equations) (locals : List Declared) (n : _) (row : Row_of-Process n) (closed : Span) (leaves : List Leaf)
    → Parts depth heading.name heading.params heading.inputs heading.outputs pragmas body locals (map model_of (items-the_row-Process n row)) closed leaves
    → IsProcess both_limits depth heading pragmas body (IsWhere locals (models_of row) (AreLocals both_limits (models_of row) depth locals)) leaves
from_parts depth heading pragmas body locals n row closed leaves (titled, l1, e1, title, (params, l2, e2, hp, (interface, l3, e3, hi, (placed, l4, e4, hr, (equations, l5, e5, hb, (wheres, l6, e6, hw, last)))))) = (
  title.0,
  title.1,
  closed,
  params,
  interface,
  placed,
  equations,
  wheres,
  e1 ∙ ap (λ ls. ls ++ l1) title.2 ∙ ap (λ ls. leaf (word (codes "process")) title.0 ∷ name_leaf heading.name ∷ leaf (mark (codes "=")) title.1 ∷ ls)
      (e2 ∙ ap (λ ls. params ++ ls) (e3 ∙ ap (λ ls. interface ++ ls) (e4 ∙ ap (λ ls. placed ++ ls) (e5 ∙ ap (λ ls. equations ++ ls) (e6 ∙ ap (λ ls. wheres ++ ls) last))))),
  hp,
  hi,
  hr,
  hb,
  where_row n row depth locals wheres hw,
)

abbrev row_in : Process → (n : Count) × Row_of-Process n
row_in (Process' name params inputs outputs run_on body locals _ inner) = (_, inner)

pub whole : (depth : ℕ) (name : Name) (params inputs outputs : Vec Group Global) (run_on : Vec RunOn Global) (body : Body) (locals : Vec Group Global) (inner : Vec Process Global) (closed : Span) {s t : State}
    → Covers (Parts depth name (map declared_of params.items) (map declared_of inputs.items) (map declared_of outputs.items) (map placement_of run_on.items) (equations_of body) (map declared_of locals.items) (map model_of inner.items) closed) s t
    → Covers (IsModel both_limits (model_of (roll-Process (record { name = name; params = params; inputs = inputs; outputs = outputs; run_on = run_on; body = body; locals = locals; inner = inner }))) depth) s t
unfolding roll-Process roll
whole depth name params inputs outputs run_on body locals inner closed r =
    let p : Process = roll-Process (record { name = name; params = params; inputs = inputs; outputs = outputs; run_on = run_on; body = body; locals = locals; inner = inner }) in
    seen_as (IsModel both_limits (model_of p) depth)
    (λ front h. from_parts depth (heading_of name params.items inputs.items outputs.items) (map placement_of run_on.items) (equations_of body) (map declared_of locals.items) (row_in p).0 (row_in p).1 closed front
    (subst (λ (ps : List Process). Parts depth name (map declared_of params.items) (map declared_of inputs.items) (map declared_of outputs.items) (map placement_of run_on.items) (equations_of body) (map declared_of locals.items) (map model_of ps) closed front)
    (sym (items_hidden-the_row-Process-0 inner)) h)) r

pub modelled : (depth : ℕ) (p q : Process) {s t : State} → q ≡ p → Covers (IsModel both_limits (model_of p) depth) s t → Covers (IsModel both_limits (model_of q) depth) s t
modelled depth p q {s} {t} same c = subst (λ (r : Process). Covers (IsModel both_limits (model_of r) depth) s t) (sym same) c

pub nothing_begun : (depth : ℕ) (processes : List Process) (groups : List Group) (s : State) → processes ≡ [] → groups ≡ [] → Begun depth (map model_of processes) (map declared_of groups) s s
nothing_begun depth processes groups s e f =
    subst (λ (ps : List Process). Begun depth (map model_of ps) (map declared_of groups) s s) (sym e)
    (subst (λ (gs : List Group). Begun depth [] (map declared_of gs) s s) (sym f) (nothing_declared depth s))
