-- What is refused of processes, from their parts.
use Rattle.sig_parse.proofs.Common.{◌≡◌, ◌++◌, ◌⊎◌, ◌<◌, ℕ, suc, List, [], ◌∷◌, true, false, codes, None, inl, inr, refl, sym, ap, ◌∙◌, subst, append_assoc, Span, Integer, Boolean, Event, Not, Neg, When as UnaryWhen, Clock, Declared, ProcessModel, ProcessModels, no_model, more_models, Terminal, Leaf, leaf, number, word, mark, default_level, Limits, both_limits, no_limits, MayStandInside, IsLocalGroup, IsModel, AreLocals, StartsWith, BeginsBody, BeginsGroup, BeginsProcess, StopsBefore, OneReading, ContinuesNothing, ContinuesOptional, ContinuesBody, ContinuesLocals, no_place, different, infix_of, no_infix, model_unlimited, model_within, local_group_begins, model_begins, cons_same, append_to, mark_apart, stops_nothing, name_same, local_group_once, model_once, locals_at, IsTitle, IsInnerProcess, AreDeclared, State, Covers, IsLeaf, Cause, Refuses, Settles, InAny, UpTo, InLocalGroup, InProcess, IsDeclared, InDeclared, InWhere, starts_front}
use Rattle.sig_parse.proofs.PartRefusals.{SameFirst}
use Rattle.sig_parse.proofs.PassedLanguages.{Leads, Then, leads_refuses, settles_on, refuses_where, leads_where, apart_nothing, then_first, leads_alone, settled_once, Leaf_of, leads_leaf, starts_or_stops, starts_same}
use Rattle.sig_parse.proofs.RefusedDeclarations.{Always}
use Rattle.sig_parse.proofs.Enclosures.{both_begin, up_to_once, up_to_covered, optional_refused, optional_settled, optional_missing, leaf_next}

-- what does not continue a body
word_no_body : (text : List ℕ) → infix_of (word text) ≡ None → (word text ≡ word (codes "init") → ⊥) → ContinuesBody (word text) → ⊥
word_no_body text none apart (inl e) = cc
word_no_body text none apart (inr (inl (inl e))) = cc
word_no_body text none apart (inr (inl (inr e))) = cc
word_no_body text none apart (inr (inr (inl is))) = no_infix (word text) none default_level is
word_no_body text none apart (inr (inr (inr (low, inl e)))) = cc
word_no_body text none apart (inr (inr (inr (low, inr e)))) = apart e

pub where_no_body : ContinuesBody (word (codes "where")) → ⊥
where_no_body continues = word_no_body (codes "where") refl (different (word (codes "where")) (word (codes "init")) refl refl) continues

pub semicolon_no_body : ContinuesBody (mark (codes ";")) → ⊥
semicolon_no_body (inl e) = different (mark (codes ";")) (mark (codes "^=")) refl refl e
semicolon_no_body (inr (inl (inl e))) = different (mark (codes ";")) (mark (codes "(")) refl refl e
semicolon_no_body (inr (inl (inr e))) = different (mark (codes ";")) (mark (codes "{")) refl refl e
semicolon_no_body (inr (inr continues)) = mark_apart (codes ";") refl default_level continues

pub pragmas_no_body : (t : Terminal) → BeginsBody t → ContinuesOptional (word (codes "pragmas")) t → ⊥
pragmas_no_body t (inl e) same = let both : mark (codes "(|") ≡ word (codes "pragmas") = sym e ∙ same in cc
pragmas_no_body t (inr (inl (inl (Not, e, tight)))) same = different (word (codes "not")) (word (codes "pragmas")) refl refl (sym e ∙ same)
pragmas_no_body t (inr (inl (inl (Neg, e, tight)))) same = let both : mark (codes "-") ≡ word (codes "pragmas") = sym e ∙ same in cc
pragmas_no_body t (inr (inl (inl (UnaryWhen, e, tight)))) same = different (word (codes "when")) (word (codes "pragmas")) refl refl (sym e ∙ same)
pragmas_no_body t (inr (inl (inl (Clock, e, tight)))) same = let both : mark (codes "^") ≡ word (codes "pragmas") = sym e ∙ same in cc
pragmas_no_body t (inr (inl (inr e))) same = let both : mark (codes "(") ≡ word (codes "pragmas") = sym e ∙ same in cc
pragmas_no_body t (inr (inr (inl (v, e)))) same = let both : number v ≡ word (codes "pragmas") = sym e ∙ same in cc
pragmas_no_body t (inr (inr (inr (inl (true, e))))) same = different (word (codes "true")) (word (codes "pragmas")) refl refl (sym e ∙ same)
pragmas_no_body t (inr (inr (inr (inl (false, e))))) same = different (word (codes "false")) (word (codes "pragmas")) refl refl (sym e ∙ same)
pragmas_no_body t (inr (inr (inr (inr (text, e))))) same = let both : Rattle.sig_tree.specs.Terminals.name text ≡ word (codes "pragmas") = sym e ∙ same in cc

end_no_local : ContinuesLocals (word (codes "end")) → ⊥
end_no_local (inl (Integer, f)) = different (word (codes "end")) (word (codes "integer")) refl refl f
end_no_local (inl (Boolean, f)) = different (word (codes "end")) (word (codes "boolean")) refl refl f
end_no_local (inl (Event, f)) = different (word (codes "end")) (word (codes "event")) refl refl f
end_no_local (inr e) = different (word (codes "end")) (word (codes "process")) refl refl e

group_no_process : (t : Terminal) → BeginsProcess t → BeginsGroup t → ⊥
group_no_process t e (Integer, f) = different (word (codes "process")) (word (codes "integer")) refl refl (sym e ∙ f)
group_no_process t e (Boolean, f) = different (word (codes "process")) (word (codes "boolean")) refl refl (sym e ∙ f)
group_no_process t e (Event, f) = different (word (codes "process")) (word (codes "event")) refl refl (sym e ∙ f)

end_no_process : (t : Terminal) → BeginsProcess t → t ≡ word (codes "end") → ⊥
end_no_process t e f = different (word (codes "process")) (word (codes "end")) refl refl (sym e ∙ f)

-- `process` NAME `=`
pub title_once : OneReading IsTitle ContinuesNothing
title_once x y front other_front back other_back e (begun, equals, f) (other_begun, other_equals, g) stops other_stops =
    let first = cons_same _ _ _ _ (ap (λ ls. ls ++ back) (sym f) ∙ e ∙ ap (λ ls. ls ++ other_back) g) in
    let second = cons_same _ _ _ _ first.1 in
    let third = cons_same _ _ _ _ second.1 in
    let whole : front ≡ other_front = cc (f, g, first.0, second.0, third.0) in
    (name_same x y second.0, whole)

-- within limits
pub locals_within : (limits : Limits) (inner : ProcessModels) (depth : ℕ) (groups : List Declared) (leaves : List Leaf) → AreLocals both_limits inner depth groups leaves → AreLocals limits inner depth groups leaves
locals_within limits no_model depth groups leaves are = are
locals_within limits (more_models model rest) depth groups leaves (before, after, front, middle, back, f, g, each, (may, is), are) =
    (before, after, front, middle, back, f, g, each, ((λ kept. may refl), model_within limits model (suc depth) middle is), locals_within limits rest depth after back are)

pub locals_unlimited : (limits : Limits) (inner : ProcessModels) (depth : ℕ) (groups : List Declared) (leaves : List Leaf) → AreLocals limits inner depth groups leaves → AreLocals no_limits inner depth groups leaves
locals_unlimited limits no_model depth groups leaves are = are
locals_unlimited limits (more_models model rest) depth groups leaves (before, after, front, middle, back, f, g, each, (may, is), are) =
    (before, after, front, middle, back, f, g, each, ((λ kept. cc), model_unlimited limits model (suc depth) (suc depth) middle is), locals_unlimited limits rest depth after back are)

-- the inner processes as those of a tree
abbrev pub chained : List ProcessModel → ProcessModels
chained [] = no_model
chained (model ∷ models) = more_models model (chained models)

pub chained_locals : (depth : ℕ) (models : List ProcessModel) (groups : List Declared) (leaves : List Leaf) → AreDeclared depth models groups leaves → AreLocals both_limits (chained models) depth groups leaves
chained_locals depth [] groups leaves are = are
chained_locals depth (model ∷ models) groups leaves (before, after, front, middle, back, f, g, each, inner, are) =
    (before, after, front, middle, back, f, g, each, inner, chained_locals depth models after back are)

module _ (depth : ℕ) where
  -- what is declared up to `end`
  abbrev Declares_to : Limits → List Declared × ProcessModels → List Leaf → Type 0
  Declares_to limits declared leaves = UpTo (word (codes "end")) (IsDeclared depth limits) declared leaves

  declared_once : OneReading (IsDeclared depth no_limits) ContinuesLocals
  declared_once x y front other_front back other_back e are other_are stops other_stops =
      let same = locals_at no_limits x.1 depth x.0 y.1 y.0 front other_front back other_back e are other_are stops other_stops in
      ((λ i. (same.0 i, same.1 i)), same.2)

  ended_once : OneReading (Declares_to no_limits) ContinuesNothing
  ended_once = up_to_once (IsDeclared depth no_limits) (word (codes "end")) ContinuesLocals declared_once end_no_local

  -- a group, and what is declared behind it
  add_group : (limits : Limits) (g : Declared) (groups : List Declared) (inner : ProcessModels) (front back : List Leaf) → IsLocalGroup g front → AreLocals limits inner depth groups back → AreLocals limits inner depth (g ∷ groups) (front ++ back)
  add_group limits g groups no_model front back is are = (front, back, refl, is, are)
  add_group limits g groups (more_models model rest) front back is (before, after, first, middle, last, e, f, each, one, are) =
      (g ∷ before, after, front ++ first, middle, last, ap (λ gs. g ∷ gs) e, ap (λ ls. front ++ ls) f ∙ sym (append_assoc front first (middle ++ last)), (front, first, refl, is, each), one, are)

  abbrev GroupFirst : Limits → List Leaf → Type 0
  GroupFirst limits leaves = Then (Always IsLocalGroup) (InDeclared depth) limits leaves

  group_to : (limits : Limits) (leaves : List Leaf) → GroupFirst limits leaves → InDeclared depth limits leaves
  group_to limits leaves (g, front, back, e, is, ((groups, inner), (ended, inside, f, are))) =
      ((g ∷ groups, inner), (ended, front ++ inside, e ∙ ap (λ ls. front ++ ls) f ∙ sym (append_assoc front inside (leaf (word (codes "end")) ended ∷ [])), add_group limits g groups inner front inside is are))

  group_from : (here : List Leaf) → StopsBefore (λ t. t ≡ word (codes "end")) here → StopsBefore BeginsProcess here → (limits : Limits) (whole back : List Leaf) → InDeclared depth limits whole → SameFirst here (whole ++ back) → GroupFirst limits whole
  group_from here no_end no_process limits whole back (([], no_model), (ended, inside, e, none)) same =
      absurd (starts_or_stops (λ t. t ≡ word (codes "end")) here (leaf (word (codes "end")) ended ∷ back) (subst (λ (ls : List Leaf). SameFirst here (ls ++ back)) (e ∙ ap (λ ls. ls ++ leaf (word (codes "end")) ended ∷ []) none) same) no_end refl)
  group_from here no_end no_process limits whole back ((g ∷ gs, no_model), (ended, inside, e, (front, rest, f, is, are))) same =
      (g, front, rest ++ leaf (word (codes "end")) ended ∷ [], e ∙ append_to inside front rest (leaf (word (codes "end")) ended ∷ []) f, is, ((gs, no_model), (ended, rest, refl, are)))
  group_from here no_end no_process limits whole back ((groups, more_models model others), (ended, inside, e, ([], after, front, middle, last, f, g, none, (may, is), are))) same =
      absurd (starts_or_stops BeginsProcess here (whole ++ back) same no_process (starts_front BeginsProcess (whole ++ back) middle (last ++ (leaf (word (codes "end")) ended ∷ back))
      (append_to whole inside (leaf (word (codes "end")) ended ∷ []) back e ∙ ap (λ ls. ls ++ leaf (word (codes "end")) ended ∷ back) (g ∙ ap (λ ls. ls ++ (middle ++ last)) none) ∙ append_assoc middle last (leaf (word (codes "end")) ended ∷ back))
      (model_begins limits model (suc depth) middle is)))
  group_from here no_end no_process limits whole back ((groups, more_models model others), (ended, inside, e, (b ∷ bs, after, front, middle, last, f, g, (first, rest, h, is_group, each), one, are))) same = (
    b,
    first,
    (rest ++ (middle ++ last)) ++ leaf (word (codes "end")) ended ∷ [],
    e ∙ append_to inside first (rest ++ (middle ++ last)) (leaf (word (codes "end")) ended ∷ []) (g ∙ ap (λ ls. ls ++ (middle ++ last)) h ∙ append_assoc first rest (middle ++ last)),
    is_group,
    ((bs ++ after, more_models model others), (ended, rest ++ (middle ++ last), refl, (bs, after, rest, middle, last, refl, refl, each, one, are))),
  )

  pub declared_group : {cause : Cause} {here after : List Leaf} → StopsBefore (λ t. t ≡ word (codes "end")) here → StopsBefore BeginsProcess here → Refuses InLocalGroup ContinuesNothing cause here after
      → Refuses (InDeclared depth) ContinuesNothing cause here after
  declared_group {here = here} no_end no_process r = refuses_where GroupFirst (InDeclared depth) ContinuesNothing ContinuesNothing group_to (λ back stops. stops) here (λ limits whole back is stops same. group_from here no_end no_process limits whole back is same)
      (then_first (Always IsLocalGroup) ContinuesNothing (InDeclared depth) ContinuesNothing (apart_nothing (InDeclared depth) ContinuesNothing) (leaf (word (codes "end")) no_place ∷ []) (λ limits. (([], no_model), (no_place, [], refl, refl))) r)

  abbrev pub LeadsDeclared : (before after : List Leaf) → Type 0
  LeadsDeclared before after = Leads (InDeclared depth) ContinuesNothing (InDeclared depth) ContinuesNothing before after

  pub group_declared : (g : Declared) {s t : State} → StopsBefore (λ t. t ≡ word (codes "end")) s.leaves → StopsBefore BeginsProcess s.leaves → Covers (IsLocalGroup g) s t → LeadsDeclared s.leaves t.leaves
  group_declared g {s} {t} no_end no_process c = leads_where GroupFirst (InDeclared depth) ContinuesNothing ContinuesNothing group_to (λ back stops. stops) s.leaves (λ limits whole back is stops same. group_from s.leaves no_end no_process limits whole back is same)
      (leads_alone (Always IsLocalGroup) (InDeclared depth) ContinuesNothing local_group_once (λ limits x leaves is. is) (λ limits x leaves is. is) g c)

  -- a process, and what is declared behind it
  abbrev Inner : Limits → ProcessModel → List Leaf → Type 0
  Inner limits model leaves = MayStandInside limits depth × IsModel limits model (suc depth) leaves

  abbrev ProcessFirst : Limits → List Leaf → Type 0
  ProcessFirst limits leaves = Then Inner (InDeclared depth) limits leaves

  process_to : (limits : Limits) (leaves : List Leaf) → ProcessFirst limits leaves → InDeclared depth limits leaves
  process_to limits leaves (model, front, back, e, is, ((groups, inner), (ended, inside, f, are))) = (
    (groups, more_models model inner),
    (ended, front ++ inside, e ∙ ap (λ ls. front ++ ls) f ∙ sym (append_assoc front inside (leaf (word (codes "end")) ended ∷ [])), ([], groups, [], front, inside, refl, refl, refl, is, are)),
  )

  pub process_from : (here : List Leaf) → StartsWith BeginsProcess here → (limits : Limits) (whole back : List Leaf) → InDeclared depth limits whole → SameFirst here (whole ++ back) → ProcessFirst limits whole
  process_from here next limits whole back (([], no_model), (ended, inside, e, none)) same =
      absurd (both_begin BeginsProcess (λ t. t ≡ word (codes "end")) end_no_process (leaf (word (codes "end")) ended ∷ back)
      (starts_same BeginsProcess here (leaf (word (codes "end")) ended ∷ back) (subst (λ (ls : List Leaf). SameFirst here (ls ++ back)) (e ∙ ap (λ ls. ls ++ leaf (word (codes "end")) ended ∷ []) none) same) next) refl)
  process_from here next limits whole back ((g ∷ gs, no_model), (ended, inside, e, (front, rest, f, is, are))) same =
      absurd (both_begin BeginsProcess BeginsGroup group_no_process (whole ++ back) (starts_same BeginsProcess here (whole ++ back) same next)
      (starts_front BeginsGroup (whole ++ back) front (rest ++ (leaf (word (codes "end")) ended ∷ back)) (append_to whole inside (leaf (word (codes "end")) ended ∷ []) back e ∙ append_to inside front rest (leaf (word (codes "end")) ended ∷ back) f) (local_group_begins g front is)))
  process_from here next limits whole back ((groups, more_models model others), (ended, inside, e, ([], after, front, middle, last, f, g, none, one, are))) same = (
    model,
    middle,
    last ++ leaf (word (codes "end")) ended ∷ [],
    e ∙ ap (λ ls. ls ++ leaf (word (codes "end")) ended ∷ []) (g ∙ ap (λ ls. ls ++ (middle ++ last)) none) ∙ append_assoc middle last (leaf (word (codes "end")) ended ∷ []),
    one,
    ((after, others), (ended, last, refl, are)),
  )
  process_from here next limits whole back ((groups, more_models model others), (ended, inside, e, (b ∷ bs, after, front, middle, last, f, g, (first, rest, h, is_group, each), one, are))) same =
      absurd (both_begin BeginsProcess BeginsGroup group_no_process (whole ++ back) (starts_same BeginsProcess here (whole ++ back) same next)
      (starts_front BeginsGroup (whole ++ back) first ((rest ++ (middle ++ last)) ++ (leaf (word (codes "end")) ended ∷ back))
      (append_to whole inside (leaf (word (codes "end")) ended ∷ []) back e ∙ append_to inside first (rest ++ (middle ++ last)) (leaf (word (codes "end")) ended ∷ back) (g ∙ ap (λ ls. ls ++ (middle ++ last)) h ∙ append_assoc first rest (middle ++ last)))
      (local_group_begins b first is_group)))

  pub declared_process : depth < 64 → {cause : Cause} {here after : List Leaf} → StartsWith BeginsProcess here → Refuses (InProcess (suc depth)) ContinuesNothing cause here after → Refuses (InDeclared depth) ContinuesNothing cause here after
  declared_process shallow {here = here} next r = refuses_where ProcessFirst (InDeclared depth) ContinuesNothing ContinuesNothing process_to (λ back stops. stops) here (λ limits whole back is stops same. process_from here next limits whole back is same)
      (then_first Inner ContinuesNothing (InDeclared depth) ContinuesNothing (apart_nothing (InDeclared depth) ContinuesNothing) (leaf (word (codes "end")) no_place ∷ []) (λ limits. (([], no_model), (no_place, [], refl, refl)))
      (refuses_where (InProcess (suc depth)) (InAny Inner) ContinuesNothing ContinuesNothing (λ limits leaves is. (is.0, ((λ kept. shallow), is.1))) (λ back stops. stops) here (λ limits whole back is stops same. (is.0, is.1.1)) r))

  pub process_declared : (model : ProcessModel) {s t : State} → StartsWith BeginsProcess s.leaves → Covers (IsInnerProcess depth model) s t → LeadsDeclared s.leaves t.leaves
  process_declared model {s} {t} next c = leads_where ProcessFirst (InDeclared depth) ContinuesNothing ContinuesNothing process_to (λ back stops. stops) s.leaves (λ limits whole back is stops same. process_from s.leaves next limits whole back is same)
      (leads_alone Inner (InDeclared depth) ContinuesNothing inner_once (λ limits x leaves is. ((λ kept. is.0 refl), model_within limits x (suc depth) leaves is.1)) (λ limits x leaves is. ((λ kept. cc), model_unlimited limits x (suc depth) (suc depth) leaves is.1)) model c)
    where
      inner_once : OneReading (Inner no_limits) ContinuesNothing
      inner_once x y front other_front back other_back e is other_is stops other_stops = model_once no_limits (suc depth) x y front other_front back other_back e is.1 other_is.1 stops other_stops

  -- "where" locals "end"
  abbrev Behind : Limits → List Leaf → Type 0
  Behind limits leaves = Then (Leaf_of (word (codes "where"))) (InDeclared depth) limits leaves

  where_to : (limits : Limits) (leaves : List Leaf) → Behind limits leaves → InWhere depth limits leaves
  where_to limits leaves (opened, front, back, e, f, (declared, (ended, inside, g, are))) = (declared, inr (opened, ended, inside, e ∙ ap (λ ls. ls ++ back) f ∙ ap (λ ls. leaf (word (codes "where")) opened ∷ ls) g, are))

  where_from : (limits : Limits) (leaves : List Leaf) → InWhere depth limits leaves → (leaves ≡ []) ⊎ Behind limits leaves
  where_from limits leaves (declared, inl (none, no_inner, e)) = inl e
  where_from limits leaves (declared, inr (opened, ended, inside, e, are)) =
      inr (opened, leaf (word (codes "where")) opened ∷ [], inside ++ leaf (word (codes "end")) ended ∷ [], e, refl, (declared, (ended, inside, refl, are)))

  where_starts : (limits : Limits) (leaves : List Leaf) → Behind limits leaves → StartsWith (λ t. t ≡ word (codes "where")) leaves
  where_starts limits leaves (opened, front, back, e, f, rest) = subst (λ (ls : List Leaf). StartsWith (λ t. t ≡ word (codes "where")) ls) (sym (e ∙ ap (λ ls. ls ++ back) f)) refl

  pub where_missing : {here : List Leaf} → StopsBefore (λ t. t ≡ word (codes "where")) here → Settles (InWhere depth) (ContinuesOptional (word (codes "where"))) here here
  where_missing stopped = optional_missing (InWhere depth) Behind (word (codes "where")) where_to where_from where_starts stopped

  pub where_inside : (opened : Span) {cause : Cause} {s t : State} {after : List Leaf} → Covers (IsLeaf (word (codes "where")) opened) s t → Refuses (InDeclared depth) ContinuesNothing cause t.leaves after
      → Refuses (InWhere depth) (ContinuesOptional (word (codes "where"))) cause s.leaves after
  where_inside opened c r = optional_refused (InWhere depth) Behind (word (codes "where")) where_to where_from where_starts (leaf_next (word (codes "where")) opened c)
      (leads_refuses (leads_leaf (word (codes "where")) (InDeclared depth) ContinuesNothing opened c) r)

  declared_free : (limits : Limits) (declared : List Declared × ProcessModels) (leaves : List Leaf) → Declares_to limits declared leaves → Declares_to no_limits declared leaves
  declared_free limits declared leaves (ended, inside, e, are) = (ended, inside, e, locals_unlimited limits declared.1 depth declared.0 inside are)

  declared_covers : (models : List ProcessModel) (groups : List Declared) {s t : State} → Covers (AreDeclared depth models groups) s t → Covers (IsDeclared depth both_limits (groups, chained models)) s t
  declared_covers models groups c = record { front = c.front; split = c.split; is = chained_locals depth models groups c.front c.is }

  pub where_settled : (opened : Span) (models : List ProcessModel) (groups : List Declared) (ended : Span) {s t u v : State} → Covers (IsLeaf (word (codes "where")) opened) s t → Covers (AreDeclared depth models groups) t u
      → Covers (IsLeaf (word (codes "end")) ended) u v → Settles (InWhere depth) (ContinuesOptional (word (codes "where"))) s.leaves v.leaves
  where_settled opened models groups ended {v = v} c d k = optional_settled (InWhere depth) Behind (word (codes "where")) where_to where_from where_starts (leaf_next (word (codes "where")) opened c)
      (settles_on (leads_leaf (word (codes "where")) (InDeclared depth) ContinuesNothing opened c)
      (settled_once Declares_to ContinuesNothing ended_once declared_free (groups, chained models)
      (up_to_covered (IsDeclared depth both_limits) (word (codes "end")) (groups, chained models) ended (declared_covers models groups d) k) (stops_nothing v.leaves)))
