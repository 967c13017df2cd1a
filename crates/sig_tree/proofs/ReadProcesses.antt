-- One reading of processes and programs.
use Rattle.sig_tree.proofs.Common.{◌≡◌, ℕ, suc, ◌++◌, List, [], ◌∷◌, true, false, refl, sym, ap, ◌∙◌, subst, codes, None, inl, inr, append_assoc, append_cancel_left, Span, Integer, Boolean, Event, Not, Neg, When as UnaryWhen, Clock, Declared, Heading, ProcessModel, Modelled, ProcessModels, no_model, more_models, Terminal, Leaf, leaf, word, mark, number, name_leaf, default_level, Limits, Each, IsBody, AreParams, IsInterface, ArePragmas, IsLocalGroup, IsWhere, IsModel, AreLocals, IsProgram, BeginsBody, BeginsGroup, BeginsProcess, StopsBefore, OneReading, ContinuesNothing, ContinuesOptional, ContinuesEach, ContinuesBody, ContinuesLocals, ContinuesProgram}
use Rattle.sig_tree.proofs.ListsThatStop.{stops_smaller}
use Rattle.sig_tree.proofs.Operators.{different, infix_of, no_infix}
use Rattle.sig_tree.proofs.FirstLeaves.{local_group_begins, body_begins, model_begins}
use Rattle.sig_tree.proofs.CombinedReadings.{OneAt, cons_same, append_to, starts_stops, starts_apart, part_at, each_once}
use Rattle.sig_tree.proofs.ReadEquations.{mark_apart, stops_nothing, name_same}
use Rattle.sig_tree.proofs.ReadBodies.{body_once}
use Rattle.sig_tree.proofs.ReadDeclarations.{once_larger, params_once, interface_once, pragmas_once, local_group_once}

word_no_body : (text : List ℕ) → infix_of (word text) ≡ None → (word text ≡ word (codes "init") → ⊥) → ContinuesBody (word text) → ⊥
word_no_body text none apart (inl e) = cc
word_no_body text none apart (inr (inl (inl e))) = cc
word_no_body text none apart (inr (inl (inr e))) = cc
word_no_body text none apart (inr (inr (inl is))) = no_infix (word text) none default_level is
word_no_body text none apart (inr (inr (inr (low, inl e)))) = cc
word_no_body text none apart (inr (inr (inr (low, inr e)))) = apart e

where_no_body : ContinuesBody (word (codes "where")) → ⊥
where_no_body continues = word_no_body (codes "where") refl (different (word (codes "where")) (word (codes "init")) refl refl) continues

semicolon_no_body : ContinuesBody (mark (codes ";")) → ⊥
semicolon_no_body (inl e) = different (mark (codes ";")) (mark (codes "^=")) refl refl e
semicolon_no_body (inr (inl (inl e))) = different (mark (codes ";")) (mark (codes "(")) refl refl e
semicolon_no_body (inr (inl (inr e))) = different (mark (codes ";")) (mark (codes "{")) refl refl e
semicolon_no_body (inr (inr continues)) = mark_apart (codes ";") refl default_level continues

pragmas_no_body : (t : Terminal) → BeginsBody t → ContinuesOptional (word (codes "pragmas")) t → ⊥
pragmas_no_body t (inl e) same = let both : mark (codes "(|") ≡ word (codes "pragmas") = sym e ∙ same in cc
pragmas_no_body t (inr (inl (inl (Not, e, tight)))) same = different (word (codes "not")) (word (codes "pragmas")) refl refl (sym e ∙ same)
pragmas_no_body t (inr (inl (inl (Neg, e, tight)))) same = let both : mark (codes "-") ≡ word (codes "pragmas") = sym e ∙ same in cc
pragmas_no_body t (inr (inl (inl (UnaryWhen, e, tight)))) same = different (word (codes "when")) (word (codes "pragmas")) refl refl (sym e ∙ same)
pragmas_no_body t (inr (inl (inl (Clock, e, tight)))) same = let both : mark (codes "^") ≡ word (codes "pragmas") = sym e ∙ same in cc
pragmas_no_body t (inr (inl (inr e))) same = let both : mark (codes "(") ≡ word (codes "pragmas") = sym e ∙ same in cc
pragmas_no_body t (inr (inr (inl (v, e)))) same = let both : number v ≡ word (codes "pragmas") = sym e ∙ same in cc
pragmas_no_body t (inr (inr (inr (inl (true, e))))) same = different (word (codes "true")) (word (codes "pragmas")) refl refl (sym e ∙ same)
pragmas_no_body t (inr (inr (inr (inl (false, e))))) same = different (word (codes "false")) (word (codes "pragmas")) refl refl (sym e ∙ same)
pragmas_no_body t (inr (inr (inr (inr (text, e))))) same = let both : Rattle.sig_tree.specs.Terminals.name text ≡ word (codes "pragmas") = sym e ∙ same in cc

-- { group ";" }
group_no_process : (t : Terminal) → BeginsProcess t → ContinuesEach BeginsGroup ContinuesNothing t → ⊥
group_no_process t e (inl (Integer, f)) = different (word (codes "process")) (word (codes "integer")) refl refl (sym e ∙ f)
group_no_process t e (inl (Boolean, f)) = different (word (codes "process")) (word (codes "boolean")) refl refl (sym e ∙ f)
group_no_process t e (inl (Event, f)) = different (word (codes "process")) (word (codes "event")) refl refl (sym e ∙ f)
group_no_process t e (inr none) = none

local_groups_once : OneReading (Each IsLocalGroup) (ContinuesEach BeginsGroup ContinuesNothing)
local_groups_once = each_once IsLocalGroup ContinuesNothing local_group_once BeginsGroup local_group_begins (λ t begins none. none)

groups_locals : (t : Terminal) → ContinuesEach BeginsGroup ContinuesNothing t → ContinuesLocals t
groups_locals t (inl begins) = inl begins
groups_locals t (inr none) = absurd none

groups_stop : (back : List Leaf) → StopsBefore ContinuesLocals back → StopsBefore (ContinuesEach BeginsGroup ContinuesNothing) back
groups_stop back stops = stops_smaller ContinuesLocals (ContinuesEach BeginsGroup ContinuesNothing) groups_locals back stops

end_no_local : ContinuesLocals (word (codes "end")) → ⊥
end_no_local (inl (Integer, f)) = different (word (codes "end")) (word (codes "integer")) refl refl f
end_no_local (inl (Boolean, f)) = different (word (codes "end")) (word (codes "boolean")) refl refl f
end_no_local (inl (Event, f)) = different (word (codes "end")) (word (codes "event")) refl refl f
end_no_local (inr e) = different (word (codes "end")) (word (codes "process")) refl refl e

-- the leaves of a process, with what stands behind it
process_leaves : (a b c d w back : List Leaf) (ended : Leaf) → (a ++ (b ++ (c ++ (d ++ (w ++ ended ∷ []))))) ++ back ≡ a ++ (b ++ (c ++ (d ++ (w ++ ended ∷ back))))
process_leaves a b c d w back ended = simp append_assoc

heading_same : (x y : Heading) → x.name ≡ y.name → x.params ≡ y.params → x.inputs ≡ y.inputs → x.outputs ≡ y.outputs → x ≡ y
heading_same x y a b c d = λ i. record { name = a i; params = b i; inputs = c i; outputs = d i }

module _ (limits : Limits) where
  -- one reading, of what is declared after `where` with these inner processes
  abbrev LocalsAt : ProcessModels → ℕ → Type 0
  LocalsAt inner depth = (groups : List Declared) (other_inner : ProcessModels) (other_groups : List Declared) (front other_front back other_back : List Leaf)
      → front ++ back ≡ other_front ++ other_back
      → AreLocals limits inner depth groups front → AreLocals limits other_inner depth other_groups other_front
      → StopsBefore ContinuesLocals back → StopsBefore ContinuesLocals other_back
      → (groups ≡ other_groups) × (inner ≡ other_inner) × (front ≡ other_front)

  -- groups alone, and groups before a process
  groups_or_process : (model : ProcessModel) (depth : ℕ) (groups others : List Declared) (front before middle back other_back : List Leaf) → front ++ back ≡ before ++ (middle ++ other_back)
      → Each IsLocalGroup groups front → Each IsLocalGroup others before → IsModel limits model depth middle → StopsBefore ContinuesLocals back → ⊥
  groups_or_process model depth groups others front before middle back other_back e are other_are is stops =
      let part = part_at (Each IsLocalGroup) (ContinuesEach BeginsGroup ContinuesNothing) groups (local_groups_once groups) others front before back (middle ++ other_back) e are other_are
      (groups_stop back stops) (starts_apart BeginsProcess (ContinuesEach BeginsGroup ContinuesNothing) middle other_back group_no_process (model_begins limits model depth middle is)) in
      starts_stops BeginsProcess ContinuesLocals middle other_back (λ t begins. inr begins) (model_begins limits model depth middle is) (subst (λ (l : List Leaf). StopsBefore ContinuesLocals l) part.2 stops)

  -- [ "where" locals "end" ]
  where_at : (locals : List Declared) (inner : ProcessModels) (depth : ℕ) → LocalsAt inner depth → (other_locals : List Declared) (other_inner : ProcessModels) (front other_front back other_back : List Leaf)
      → front ++ back ≡ other_front ++ other_back
      → IsWhere locals inner (AreLocals limits inner depth locals) front → IsWhere other_locals other_inner (AreLocals limits other_inner depth other_locals) other_front
      → StopsBefore (ContinuesOptional (word (codes "where"))) back → StopsBefore (ContinuesOptional (word (codes "where"))) other_back
      → (locals ≡ other_locals) × (inner ≡ other_inner) × (front ≡ other_front)
  where_at locals inner depth once other_locals other_inner front other_front back other_back e (inl (f, g, h)) (inl (other_f, other_g, other_h)) stops other_stops =
      (f ∙ sym other_f, g ∙ sym other_g, h ∙ sym other_h)
  where_at locals inner depth once other_locals other_inner front other_front back other_back e (inl (f, g, h)) (inr (opened, ended, inside, k, are)) stops other_stops =
      absurd ((subst (λ (l : List Leaf). StopsBefore (ContinuesOptional (word (codes "where"))) l) (ap (λ l. l ++ back) (sym h) ∙ e ∙ ap (λ l. l ++ other_back) k) stops) refl)
  where_at locals inner depth once other_locals other_inner front other_front back other_back e (inr (opened, ended, inside, k, are)) (inl (f, g, h)) stops other_stops =
      absurd ((subst (λ (l : List Leaf). StopsBefore (ContinuesOptional (word (codes "where"))) l) (ap (λ l. l ++ other_back) (sym h) ∙ sym e ∙ ap (λ l. l ++ back) k) other_stops) refl)
  where_at locals inner depth once other_locals other_inner front other_front back other_back e (inr (opened, ended, inside, k, are)) (inr (other_opened, other_ended, other_inside, m, other_are)) stops other_stops =
      let start = leaf (word (codes "where")) opened in
      let other_start = leaf (word (codes "where")) other_opened in
      let end = leaf (word (codes "end")) ended in
      let other_end = leaf (word (codes "end")) other_ended in
      let begin : start ∷ (inside ++ (end ∷ back)) ≡ other_start ∷ (other_inside ++ (other_end ∷ other_back)) =
      sym (append_to front (start ∷ inside) (end ∷ []) back k) ∙ e ∙ append_to other_front (other_start ∷ other_inside) (other_end ∷ []) other_back m in
      let heads = cons_same _ _ _ _ begin in
      let part = once locals other_inner other_locals inside other_inside (end ∷ back) (other_end ∷ other_back) heads.1 are other_are end_no_local end_no_local in
      let rest : end ∷ back ≡ other_end ∷ other_back = behind inside other_inside (end ∷ back) (other_end ∷ other_back) heads.1 part.2 in
      let next = cons_same _ _ _ _ rest in
      let whole : front ≡ other_front = cc (k, m, heads.0, part.2, next.0) in
      (part.0, part.1, whole)
    where
      behind : (front other_front back other_back : List Leaf) → front ++ back ≡ other_front ++ other_back → front ≡ other_front → back ≡ other_back
      behind front other_front back other_back e f = append_cancel_left other_front back other_back (ap (λ l. l ++ back) (sym f) ∙ e)

  where_stops : (locals : List Declared) (inner : ProcessModels) (AreEntries : List Leaf → Type 0) (front back : List Leaf) (at : Span) → IsWhere locals inner AreEntries front → StopsBefore ContinuesBody (front ++ leaf (mark (codes ";")) at ∷ back)
  where_stops locals inner AreEntries front back at (inl (f, g, h)) = subst (λ (l : List Leaf). StopsBefore ContinuesBody (l ++ leaf (mark (codes ";")) at ∷ back)) (sym h) semicolon_no_body
  where_stops locals inner AreEntries front back at (inr (opened, ended, inside, k, are)) = subst (λ (l : List Leaf). StopsBefore ContinuesBody (l ++ leaf (mark (codes ";")) at ∷ back)) (sym k) where_no_body

  interface_stops : (inputs outputs : List Declared) (front back : List Leaf) → IsInterface inputs outputs front → StopsBefore (ContinuesOptional (mark (codes "{"))) (front ++ back)
  interface_stops inputs outputs front back (opened, ended, inside, k, are) =
      subst (λ (l : List Leaf). StopsBefore (ContinuesOptional (mark (codes "{"))) (l ++ back)) (sym k) (different (mark (codes "(")) (mark (codes "{")) refl refl)

  mutual
    pub model_at : (x : ProcessModel) (depth : ℕ) → OneAt (λ m leaves. IsModel limits m depth leaves) ContinuesNothing x
    model_at (Modelled heading pragmas body locals inner) depth (Modelled other_heading other_pragmas other_body other_locals other_inner) front other_front back other_back e
        (begun, equals, ended, a, b, c, d, w, f, are_params, is_interface, are_pragmas, is_body, is_where)
        (other_begun, other_equals, other_ended, other_a, other_b, other_c, other_d, other_w, g, other_params, other_interface, other_are_pragmas, other_is_body, other_where) stops other_stops =
        let start = leaf (word (codes "process")) begun in
        let other_start = leaf (word (codes "process")) other_begun in
        let sign = leaf (mark (codes "=")) equals in
        let other_sign = leaf (mark (codes "=")) other_equals in
        let last = leaf (mark (codes ";")) ended in
        let other_last = leaf (mark (codes ";")) other_ended in
        let begin : start ∷ name_leaf heading.name ∷ sign ∷ (a ++ (b ++ (c ++ (d ++ (w ++ last ∷ back)))))
        ≡ other_start ∷ name_leaf other_heading.name ∷ other_sign ∷ (other_a ++ (other_b ++ (other_c ++ (other_d ++ (other_w ++ other_last ∷ other_back))))) =
        sym (ap (λ l. l ++ back) f ∙ ap (λ l. start ∷ name_leaf heading.name ∷ sign ∷ l) (process_leaves a b c d w back last)) ∙ e
        ∙ ap (λ l. l ++ other_back) g ∙ ap (λ l. other_start ∷ name_leaf other_heading.name ∷ other_sign ∷ l) (process_leaves other_a other_b other_c other_d other_w other_back other_last) in
        let first = cons_same _ _ _ _ begin in
        let second = cons_same _ _ _ _ first.1 in
        let third = cons_same _ _ _ _ second.1 in
        let params = part_at AreParams (ContinuesOptional (mark (codes "{"))) heading.params (params_once heading.params) other_heading.params a other_a
        (b ++ (c ++ (d ++ (w ++ last ∷ back)))) (other_b ++ (other_c ++ (other_d ++ (other_w ++ other_last ∷ other_back)))) third.1 are_params other_params
        (interface_stops heading.inputs heading.outputs b _ is_interface) (interface_stops other_heading.inputs other_heading.outputs other_b _ other_interface) in
        let faces = part_at (λ (sides : List Declared × List Declared) leaves. IsInterface sides.0 sides.1 leaves) ContinuesNothing (heading.inputs, heading.outputs) (interface_once (heading.inputs, heading.outputs))
        (other_heading.inputs, other_heading.outputs) b other_b (c ++ (d ++ (w ++ last ∷ back))) (other_c ++ (other_d ++ (other_w ++ other_last ∷ other_back))) params.2 is_interface other_interface
        (stops_nothing _) (stops_nothing _) in
        let placed = part_at ArePragmas (ContinuesOptional (word (codes "pragmas"))) pragmas (pragmas_once pragmas) other_pragmas c other_c (d ++ (w ++ last ∷ back)) (other_d ++ (other_w ++ other_last ∷ other_back)) faces.2
        are_pragmas other_are_pragmas
        (starts_apart BeginsBody (ContinuesOptional (word (codes "pragmas"))) d _ pragmas_no_body (body_begins limits body depth d is_body))
        (starts_apart BeginsBody (ContinuesOptional (word (codes "pragmas"))) other_d _ pragmas_no_body (body_begins limits other_body depth other_d other_is_body)) in
        let said = part_at (λ e leaves. IsBody limits e depth leaves) ContinuesBody body (body_once limits depth body) other_body d other_d (w ++ last ∷ back) (other_w ++ other_last ∷ other_back) placed.2 is_body other_is_body
        (where_stops locals inner _ w back ended is_where) (where_stops other_locals other_inner _ other_w other_back other_ended other_where) in
        let declared = where_at locals inner depth (locals_at inner depth) other_locals other_inner w other_w (last ∷ back) (other_last ∷ other_back) said.2 is_where other_where (λ e. cc) (λ e. cc) in
        let rest : last ∷ back ≡ other_last ∷ other_back = append_cancel_left other_w (last ∷ back) (other_last ∷ other_back) (ap (λ l. l ++ last ∷ back) (sym declared.2) ∙ said.2) in
        let final = cons_same _ _ _ _ rest in
        let headings : heading ≡ other_heading = heading_same heading other_heading (name_same heading.name other_heading.name second.0) params.0 (ap (λ s. s.0) faces.0) (ap (λ s. s.1) faces.0) in
        let trees : Modelled heading pragmas body locals inner ≡ Modelled other_heading other_pragmas other_body other_locals other_inner = cc (headings, placed.0, said.0, declared.0, declared.1) in
        let whole : front ≡ other_front = cc (f, g, first.0, second.0, third.0, params.1, faces.1, placed.1, said.1, declared.2, final.0) in
        (trees, whole)

    pub locals_at : (inner : ProcessModels) (depth : ℕ) → LocalsAt inner depth
    locals_at no_model depth groups no_model others front other_front back other_back e are other_are stops other_stops =
        let same = local_groups_once groups others front other_front back other_back e are other_are (groups_stop back stops) (groups_stop other_back other_stops) in
        (same.0, refl, same.1)
    locals_at no_model depth groups (more_models model rest) others front other_front back other_back e are (before, after, first, middle, last, f, g, each, (may, is), others_are) stops other_stops =
        absurd (groups_or_process model (suc depth) groups before front first middle back (last ++ other_back)
        (e ∙ append_to other_front first (middle ++ last) other_back g ∙ ap (λ l. first ++ l) (append_assoc middle last other_back)) are each is stops)
    locals_at (more_models model rest) depth groups no_model others front other_front back other_back e (before, after, first, middle, last, f, g, each, (may, is), others_are) are stops other_stops =
        absurd (groups_or_process model (suc depth) others before other_front first middle other_back (last ++ back)
        (sym e ∙ append_to front first (middle ++ last) back g ∙ ap (λ l. first ++ l) (append_assoc middle last back)) are each is other_stops)
    locals_at (more_models model rest) depth groups (more_models other_model other_rest) others front other_front back other_back e
        (before, after, first, middle, last, f, g, each, (may, is), are) (other_before, other_after, other_first, other_middle, other_last, other_f, other_g, other_each, (other_may, other_is), other_are) stops other_stops =
        let begin : first ++ (middle ++ (last ++ back)) ≡ other_first ++ (other_middle ++ (other_last ++ other_back)) =
        sym (append_to front first (middle ++ last) back g ∙ ap (λ l. first ++ l) (append_assoc middle last back)) ∙ e
        ∙ append_to other_front other_first (other_middle ++ other_last) other_back other_g ∙ ap (λ l. other_first ++ l) (append_assoc other_middle other_last other_back) in
        let starts = model_begins limits model (suc depth) middle is in
        let other_starts = model_begins limits other_model (suc depth) other_middle other_is in
        let groups_part = part_at (Each IsLocalGroup) (ContinuesEach BeginsGroup ContinuesNothing) before (local_groups_once before) other_before first other_first (middle ++ (last ++ back)) (other_middle ++ (other_last ++ other_back)) begin each other_each
        (starts_apart BeginsProcess (ContinuesEach BeginsGroup ContinuesNothing) middle (last ++ back) group_no_process starts)
        (starts_apart BeginsProcess (ContinuesEach BeginsGroup ContinuesNothing) other_middle (other_last ++ other_back) group_no_process other_starts) in
        let model_part = part_at (λ m leaves. IsModel limits m (suc depth) leaves) ContinuesNothing model (model_at model (suc depth)) other_model middle other_middle (last ++ back) (other_last ++ other_back) groups_part.2 is other_is (stops_nothing _) (stops_nothing _) in
        let rest_part = locals_at rest depth after other_rest other_after last other_last back other_back model_part.2 are other_are stops other_stops in
        let all_groups : groups ≡ others = cc (f, other_f, groups_part.0, rest_part.0) in
        let models : more_models model rest ≡ more_models other_model other_rest = cc (model_part.0, rest_part.1) in
        let whole : front ≡ other_front = cc (g, other_g, groups_part.1, model_part.1, rest_part.2) in
        (all_groups, models, whole)

  pub model_once : (depth : ℕ) → OneReading (λ m leaves. IsModel limits m depth leaves) ContinuesNothing
  model_once depth x = model_at x depth

  -- process { process }
  pub program_once : OneReading (IsProgram limits) ContinuesProgram
  program_once x y front other_front back other_back e (some, each) (other_some, other_each) stops other_stops =
      once_larger (Each (λ m leaves. IsModel limits m 0 leaves)) (ContinuesEach BeginsProcess ContinuesNothing) ContinuesProgram within
      (each_once (λ m leaves. IsModel limits m 0 leaves) ContinuesNothing (model_once 0) BeginsProcess (λ m leaves is. model_begins limits m 0 leaves is) (λ t begins none. none))
      x y front other_front back other_back e each other_each stops other_stops
    where
      within : (t : Terminal) → ContinuesEach BeginsProcess ContinuesNothing t → ContinuesProgram t
      within t (inl begins) = begins
      within t (inr none) = absurd none

  -- leaves have at most one tree
  pub tree_once : (leaves : List Leaf) (x y : List ProcessModel) → IsProgram limits x leaves → IsProgram limits y leaves → x ≡ y
  tree_once leaves x y is other_is = (program_once x y leaves leaves [] [] refl is other_is tt tt).0
