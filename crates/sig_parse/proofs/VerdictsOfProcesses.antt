-- Processes and programs are read, or refuse a token, by how many leaves are left.
use Rattle.sig_parse.proofs.Common.{◌≡◌, ◌++◌, ◌<◌, ◌≤◌, ◌⊎◌, ℕ, zero, suc, List, [], ◌∷◌, length, codes, arith, inl, inr, refl, sym, ap, ◌∙◌, subst, append-nil, Span, Name, Declared, Placement, Equations, ProcessModel, Modelled, Leaf, leaf, name_leaf, word, mark, both_limits, Each, AreParams, IsInterface, IsWhere, IsModel, AreLocals, HasTree, StartsWith, StopsBefore, BeginsProcess, ContinuesNothing, ContinuesOptional, Parameters, Inputs, Signals, IsTitle, IsInnerProcess, AreDeclared, AreBehindWhere, State, Reads, Covers, Shorter, TooDeep, Settles, Closes, InParams, InInterface, InTitle, InDeclared, InWhere, InProcess, InProgram, IsAnything, cases_lt}
use Rattle.sig_parse.proofs.NextLeaf.{Taken, taken, missing, take, dec_terminal, starts_or_not}
use Rattle.sig_parse.proofs.Verdicts.{Verdict, read, refused, behind, seen}
use Rattle.sig_parse.proofs.VerdictsOfLeaves.{expected, expected_name}
use Rattle.sig_parse.proofs.VerdictsOfDeclarations.{groups_verdict, local_group_verdict, pragmas_verdict}
use Rattle.sig_parse.proofs.VerdictsOfBodies.{body_verdict}
use Rattle.sig_parse.proofs.CoveredParts.{covered, and_then, seen_as, no_more, between_marks}
use Rattle.sig_parse.proofs.Joins.{nothing, no_longer}
use Rattle.sig_parse.proofs.Lists.{each_more}
use Rattle.sig_parse.proofs.EnclosedParts.{title}
use Rattle.sig_parse.proofs.GroupLemmas.{params_between, interface}
use Rattle.sig_parse.proofs.ClosedRows.{closes_next}
use Rattle.sig_parse.proofs.PassedLanguages.{leads_refuses, leads_on, leads_nowhere}
use Rattle.sig_parse.proofs.ProcessLemmas.{Begun, nothing_declared, ended, group_more, process_more, Parts, in_parts}
use Rattle.sig_parse.proofs.RefusedHeadings.{params_missing, params_inside, params_settled, interface_open, interface_asked, interface_inputs, interface_outputs, title_begun, title_name, title_equals}
use Rattle.sig_parse.proofs.RefusedProcesses.{chained, chained_locals, LeadsDeclared, declared_group, group_declared, process_declared, where_missing, where_inside, where_settled}
use Rattle.sig_parse.proofs.RefusedModels.{process_title, process_params, process_interface, process_pragmas, process_body, process_where, process_end, declared_too_deep, inner_refused}
use Rattle.sig_parse.proofs.RefusedPrograms.{LeadsProgram, program_first, program_begun, program_next, program_more}

-- ---- headings

abbrev TitleRead : State → Name → State → Type 0
TitleRead s n t = Reads (IsTitle n) 0 s t × Shorter s t

title_verdict : (s : State) → Verdict (TitleRead s) InTitle ContinuesNothing s.leaves
title_verdict s = behind (expected (word (codes "process")) s) (λ cause after r. title_begun r) (λ begun t q.
    behind (expected_name t) (λ cause after r. title_name begun (covered q.0) r) (λ n u r.
    seen (expected (mark (codes "=")) u) (λ cause after p. title_equals begun n (covered q.0) (covered r.0) p) (λ equals. n) (λ equals v p. (title n begun equals q.0 r.0 p.0, omega (arith, q.1, r.1, p.1)))))

abbrev ParamsRead : State → List Declared → State → Type 0
ParamsRead s params t = Reads (AreParams params) 0 s t × Settles InParams (ContinuesOptional (mark (codes "{"))) s.leaves t.leaves

params_verdict : (s : State) → Verdict (ParamsRead s) InParams (ContinuesOptional (mark (codes "{"))) s.leaves
params_verdict s = at (take (mark (codes "{")) s) where
  at : Taken (mark (codes "{")) s → Verdict (ParamsRead s) InParams (ContinuesOptional (mark (codes "{"))) s.leaves
  at (missing stops) = read [] s (nothing (AreParams []) s s refl (inl (refl, refl)), params_missing stops)
  at (taken opened t q short) = behind (groups_verdict Parameters (mark (codes "}")) (inl refl) t) (λ cause after r. params_inside opened (covered q) r) (λ params u r.
      seen (expected (mark (codes "}")) u) (λ cause after p. params_inside opened (covered q) (r.1 cause after p)) (λ closed. params) (λ closed v p. (
        params_between params opened closed q r.0 p.0,
        params_settled opened params closed (covered q) (covered r.0) (covered p.0),
      )))

abbrev InterfaceRead : State → List Declared × List Declared → State → Type 0
InterfaceRead s sides t = Reads (IsInterface sides.0 sides.1) 0 s t

interface_verdict : (s : State) → Verdict (InterfaceRead s) InInterface ContinuesNothing s.leaves
interface_verdict s = behind (expected (mark (codes "(")) s) (λ cause after r. interface_open r) (λ opened t q.
    behind (expected (mark (codes "?")) t) (λ cause after r. interface_asked opened (covered q.0) r) (λ asked u r.
    behind (groups_verdict Inputs (mark (codes "!")) (inr (inl refl)) u) (λ cause after x. interface_inputs opened (covered q.0) asked (covered r.0) x) (λ inputs v x.
    behind (expected (mark (codes "!")) v) (λ cause after y. interface_inputs opened (covered q.0) asked (covered r.0) (x.1 cause after y)) (λ answered w y.
    behind (groups_verdict Signals (mark (codes ")")) (inr (inr refl)) w) (λ cause after z. interface_outputs opened (covered q.0) asked (covered r.0) inputs answered (covered x.0) (covered y.0) z) (λ outputs a z.
    seen (expected (mark (codes ")")) a) (λ cause after o. interface_outputs opened (covered q.0) asked (covered r.0) inputs answered (covered x.0) (covered y.0) (z.1 cause after o)) (λ closed. (inputs, outputs)) (λ closed b o.
    interface inputs outputs opened asked answered closed q.0 r.0 x.0 y.0 z.0 o.0))))))

-- ---- processes

abbrev pub ProcessRead : ℕ → State → ProcessModel → State → Type 0
ProcessRead depth s model t = Covers (IsModel both_limits model depth) s t × Shorter s t

abbrev pub ProcessVerdict : ℕ → State → Type 0
ProcessVerdict depth s = Verdict (ProcessRead depth s) (InProcess depth) ContinuesNothing s.leaves

abbrev AllProcesses : ℕ → Type 0
AllProcesses n = (depth : ℕ) (s : State) → length s.leaves < n → ProcessVerdict depth s

-- what is declared behind `where`, where shorter leaves have a verdict
module _ (n : ℕ) (rec : AllProcesses n) (depth : ℕ) where
  abbrev Declarations : Type 0
  Declarations = List ProcessModel × List Declared

  abbrev EntriesVerdict : State → Type 0
  EntriesVerdict s = Verdict (λ (declared : Declarations) (t : State). Covers (AreDeclared depth declared.0 declared.1) s t × Closes (InDeclared depth) (word (codes "end")) s.leaves t.leaves) (InDeclared depth) ContinuesNothing s.leaves

  module _ (s : State) (within : length s.leaves < n) where
    abbrev Next : State → Type 0
    Next now = (models : List ProcessModel) (groups : List Declared) (u : State) → length u.leaves < length now.leaves → Begun depth models groups s u → LeadsDeclared depth s.leaves u.leaves → EntriesVerdict s

    module _ (models : List ProcessModel) (groups : List Declared) (now : State) (most : length now.leaves ≤ length s.leaves) (b : Begun depth models groups s now) (l : LeadsDeclared depth s.leaves now.leaves) where
      inner : StartsWith BeginsProcess now.leaves → Next now → (depth < 64) ⊎ (64 ≤ depth) → EntriesVerdict s
      inner next_is next (inr deep) = refused TooDeep now.leaves (leads_refuses l (declared_too_deep depth deep now.leaves next_is))
      inner next_is next (inl shallow) = behind (rec (suc depth) now (omega (arith, most, within))) (λ cause after r. leads_refuses l (inner_refused depth (suc depth) (shallow, refl) next_is r)) (λ model u r.
          let inside : Covers (IsInnerProcess depth model) now u = record { front = r.0.front; split = r.0.split; is = ((λ _. shallow), r.0.is) } in
          next (models ++ model ∷ []) groups u r.1 (process_more depth models groups model b inside) (leads_on l (process_declared depth model next_is inside)))

      group : StopsBefore (λ t. t ≡ word (codes "end")) now.leaves → StopsBefore BeginsProcess now.leaves → Next now → EntriesVerdict s
      group no_end no_process next = behind (local_group_verdict now) (λ cause after r. leads_refuses l (declared_group depth no_end no_process r)) (λ g u r.
          next models (groups ++ g ∷ []) u r.1 (group_more depth models groups g b (covered r.0)) (leads_on l (group_declared depth g no_end no_process (covered r.0))))

      entry : StopsBefore (λ t. t ≡ word (codes "end")) now.leaves → StartsWith BeginsProcess now.leaves ⊎ StopsBefore BeginsProcess now.leaves → Next now → EntriesVerdict s
      entry no_end (inl next_is) next = inner next_is next (cases_lt depth 64)
      entry no_end (inr no_process) next = group no_end no_process next

    entries_loop : (m : ℕ) (models : List ProcessModel) (groups : List Declared) (now : State) → length now.leaves < m → length now.leaves ≤ length s.leaves → Begun depth models groups s now → LeadsDeclared depth s.leaves now.leaves → EntriesVerdict s
    entries_loop zero models groups now less most b l = absurd (omega (arith, less))
    entries_loop (suc m) models groups now less most b l = at (starts_or_not (λ t. t ≡ word (codes "end")) (λ t. dec_terminal t (word (codes "end"))) now.leaves)
        (λ ms gs u shorter begun leads. entries_loop m ms gs u (omega (arith, shorter, less)) (omega (arith, shorter, most)) begun leads) where
          at : StartsWith (λ t. t ≡ word (codes "end")) now.leaves ⊎ StopsBefore (λ t. t ≡ word (codes "end")) now.leaves → Next now → EntriesVerdict s
          at (inl starts) next = read (models, groups) now (ended depth models groups b, λ cause stopped r. leads_refuses l (closes_next (InDeclared depth) (word (codes "end")) starts cause stopped r))
          at (inr no_end) next = entry models groups now most b l no_end (starts_or_not BeginsProcess (λ t. dec_terminal t (word (codes "process"))) now.leaves) next

    entries_verdict : EntriesVerdict s
    entries_verdict = entries_loop (suc (length s.leaves)) [] [] s (omega arith) (omega arith) (nothing_declared depth s) (leads_nowhere (InDeclared depth) ContinuesNothing s.leaves)

  abbrev WhereVerdict : State → Type 0
  WhereVerdict s = Verdict (λ (declared : Declarations) (t : State). Covers (AreBehindWhere depth declared.0 declared.1) s t × Settles (InWhere depth) (ContinuesOptional (word (codes "where"))) s.leaves t.leaves) (InWhere depth) (ContinuesOptional (word (codes "where"))) s.leaves

  where_verdict : (s : State) → length s.leaves < n → WhereVerdict s
  where_verdict s within = at (take (word (codes "where")) s) where
    at : Taken (word (codes "where")) s → WhereVerdict s
    at (missing stops) = read ([], []) s (record { front = []; split = refl; is = inl (refl, refl, refl) }, where_missing depth stops)
    at (taken opened t q short) = behind (entries_verdict t (omega (arith, short, within))) (λ cause after r. where_inside depth opened (covered q) r) (λ declared u r.
        seen (expected (word (codes "end")) u) (λ cause after p. where_inside depth opened (covered q) (r.1 cause after p)) (λ closed. declared) (λ closed v p. (
          seen_as (AreBehindWhere depth declared.0 declared.1) (λ front is. inr is) (between_marks (word (codes "where")) (word (codes "end")) (AreDeclared depth declared.0 declared.1) opened closed (covered q) r.0 (covered p.0)),
          where_settled depth opened declared.0 declared.1 closed (covered q) r.0 (covered p.0),
        )))

-- a process from its parts
as_where : (depth : ℕ) (models : List ProcessModel) (groups : List Declared) (leaves : List Leaf) → AreBehindWhere depth models groups leaves → IsWhere groups (chained models) (AreLocals both_limits (chained models) depth groups) leaves
as_where depth models groups leaves (inl (no_groups, no_models, none)) = inl (no_groups, ap chained no_models, none)
as_where depth models groups leaves (inr (opened, closed, inside, e, are)) = inr (opened, closed, inside, e, chained_locals depth models groups inside are)

as_model : (depth : ℕ) (n : Name) (params inputs outputs : List Declared) (pragmas : List Placement) (body : Equations) (groups : List Declared) (models : List ProcessModel) (closed : Span) (leaves : List Leaf)
    → Parts depth n params inputs outputs pragmas body groups models closed leaves
    → IsModel both_limits (Modelled (record { name = n; params = params; inputs = inputs; outputs = outputs }) pragmas body groups (chained models)) depth leaves
as_model depth n params inputs outputs pragmas body groups models closed leaves (titled, l1, e1, is_title, (given, l2, e2, hp, (told, l3, e3, hi, (placed, l4, e4, hr, (equations, l5, e5, hb, (wheres, l6, e6, hw, last)))))) = (
  is_title.0,
  is_title.1,
  closed,
  given,
  told,
  placed,
  equations,
  wheres,
  e1 ∙ ap (λ ls. ls ++ l1) is_title.2 ∙ ap (λ ls. leaf (word (codes "process")) is_title.0 ∷ name_leaf n ∷ leaf (mark (codes "=")) is_title.1 ∷ ls)
      (e2 ∙ ap (λ ls. given ++ ls) (e3 ∙ ap (λ ls. told ++ ls) (e4 ∙ ap (λ ls. placed ++ ls) (e5 ∙ ap (λ ls. equations ++ ls) (e6 ∙ ap (λ ls. wheres ++ ls) last))))),
  hp,
  hi,
  hr,
  hb,
  as_where depth models groups wheres hw,
)

process_by : (n : ℕ) → AllProcesses n → (depth : ℕ) (s : State) → length s.leaves < suc n → ProcessVerdict depth s
process_by n rec depth s within =
    behind (title_verdict s) (λ cause after r. process_title depth r) (λ name t a.
    behind (params_verdict t) (λ cause after r. process_params depth name (covered a.0) r) (λ params u b.
    behind (interface_verdict u) (λ cause after r. process_interface depth name (covered a.0) params (covered b.0) b.1 r) (λ sides v c.
    behind (pragmas_verdict v) (λ cause after r. process_pragmas depth name (covered a.0) params (covered b.0) b.1 sides.0 sides.1 (covered c) r) (λ pragmas w d.
    behind (body_verdict depth w) (λ cause after r. process_body depth name (covered a.0) params (covered b.0) b.1 sides.0 sides.1 (covered c) pragmas (covered d.0) d.1 r) (λ body x e.
    behind (where_verdict n rec depth x (omega (arith, within, a.1, no_longer b.0, no_longer c, no_longer d.0, no_more e.0)))
    (λ cause after r. process_where depth name (covered a.0) params (covered b.0) b.1 sides.0 sides.1 (covered c) pragmas (covered d.0) d.1 body e.0 e.1 r) (λ declared y f.
    seen (expected (mark (codes ";")) y)
    (λ cause after r. process_end depth name (covered a.0) params (covered b.0) b.1 sides.0 sides.1 (covered c) pragmas (covered d.0) d.1 body e.0 e.1 declared.0 declared.1 f.0 f.1 r)
    (λ closed. Modelled (record { name = name; params = params; inputs = sides.0; outputs = sides.1 }) pragmas body declared.1 (chained declared.0)) (λ closed z g. (
      seen_as (IsModel both_limits (Modelled (record { name = name; params = params; inputs = sides.0; outputs = sides.1 }) pragmas body declared.1 (chained declared.0)) depth)
          (λ front h. as_model depth name params sides.0 sides.1 pragmas body declared.1 declared.0 closed front h)
          (in_parts depth name params sides.0 sides.1 pragmas body declared.1 declared.0 closed (covered a.0) (covered b.0) (covered c) (covered d.0) e.0 f.0 (covered g.0)),
      omega (arith, a.1, no_longer b.0, no_longer c, no_longer d.0, no_more e.0, no_more f.0, g.1),
    ))))))))

all_processes : (n : ℕ) → AllProcesses n
all_processes zero depth s within = absurd (omega (arith, within))
all_processes (suc n) depth s within = process_by n (all_processes n) depth s within

process_verdict : (depth : ℕ) (s : State) → ProcessVerdict depth s
process_verdict depth s = all_processes (suc (length s.leaves)) depth s (omega arith)

-- ---- programs

abbrev ModelOf : ProcessModel → List Leaf → Type 0
ModelOf model leaves = IsModel both_limits model 0 leaves

abbrev pub ProgramVerdict : State → Type 0
ProgramVerdict s = Verdict (λ (processes : List ProcessModel) (t : State). HasTree s.leaves processes) InProgram IsAnything s.leaves

module _ (s : State) where
  one_model_more : (models : List ProcessModel) (model : ProcessModel) {t u : State} → Covers (Each ModelOf models) s t → Covers (ModelOf model) t u → Covers (Each ModelOf (models ++ model ∷ [])) s u
  one_model_more models model r q = seen_as (Each ModelOf (models ++ model ∷ []))
      (λ front h. subst (λ (ls : List Leaf). Each ModelOf (models ++ model ∷ []) ls) (sym h.2) (each_more ModelOf models model h.0 h.1 h.3 h.4)) (and_then r q)

  some_model : (models : List ProcessModel) (model : ProcessModel) → models ++ model ∷ [] ≡ [] → ⊥
  some_model [] model e = cc
  some_model (first ∷ models) model e = cc

  abbrev NextModel : State → Type 0
  NextModel now = (models : List ProcessModel) (model : ProcessModel) (u : State) → length u.leaves < length now.leaves → Covers (Each ModelOf (models ++ model ∷ [])) s u → LeadsProgram s.leaves u.leaves → ProgramVerdict s

  program_loop : (m : ℕ) (models : List ProcessModel) (model : ProcessModel) (now : State) → length now.leaves < m → Covers (Each ModelOf (models ++ model ∷ [])) s now → LeadsProgram s.leaves now.leaves → ProgramVerdict s
  program_loop zero models model now less c l = absurd (omega (arith, less))
  program_loop (suc m) models model now less c l = at now.leaves refl (λ ms next u shorter more leads. program_loop m ms next u (omega (arith, shorter, less)) more leads) where
    further : (now.leaves ≡ [] → ⊥) → NextModel now → ProgramVerdict s
    further some next = behind (process_verdict 0 now) (λ cause after r. program_next l some r) (λ other u r.
        next (models ++ model ∷ []) other u r.1 (one_model_more (models ++ model ∷ []) other c r.0) (program_more other l some r.0))

    at : (leaves : List Leaf) → now.leaves ≡ leaves → NextModel now → ProgramVerdict s
    at [] e next = read (models ++ model ∷ []) now (
      some_model models model,
      subst (λ (ls : List Leaf). Each ModelOf (models ++ model ∷ []) ls) (sym (c.split ∙ ap (λ ls. c.front ++ ls) e ∙ append-nil c.front)) c.is,
    )
    at (l ∷ leaves) e next = further (λ none. let both : l ∷ leaves ≡ [] = sym e ∙ none in cc) next

  first_model : (model : ProcessModel) {t : State} → Covers (ModelOf model) s t → Covers (Each ModelOf ([] ++ model ∷ [])) s t
  first_model model r = seen_as (Each ModelOf (model ∷ [])) (λ front is. (front, [], sym (append-nil front), is, refl)) r

  pub program_verdict : ProgramVerdict s
  program_verdict = behind (process_verdict 0 s) (λ cause after r. program_first r) (λ model t r. program_loop (suc (length t.leaves)) [] model t (omega arith) (first_model model r.0) (program_begun model r.0))
